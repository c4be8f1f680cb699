use Rattle.std.proofs.Common.{◌≡◌, arith, drop, length}
use Rattle.std.proofs.lemmas.List.{length-append, length-drop, length-take}
use Rattle.obs_engine.proofs.Pieces.{front_takes, low_front}
use Rattle.obs_engine.proofs.input.take_piece.Goals as goal

pub returns : goal.returns
returns g c =
    let most = c.args.most in
    let piece = c.args.piece.now in
    let into = c.take.new.into in
    let room = c.requires.room in
    let size : length into ≡ most = omega (arith, c.take.auto.into, length-take most piece, room) in
    let done = c.take.ensures in
    record {
      size = omega (arith, length-append into (drop most piece), length-drop most piece, size, room);
      bound = low_front c.take.result (length into) most size done.bound;
      bytes = front_takes (g.S.Source.left c.args.input.now) (g.S.Source.left c.take.new.self) c.take.result into (drop most piece) done.bound done.bytes;
      cause = done.cause;
      quiet = done.quiet;
      steady = done.steady;
      succeeds = done.succeeds;
    }
