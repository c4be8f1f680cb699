use Rattle.std.proofs.Common.{arith, ◌∙◌}
use Rattle.std.proofs.lemmas.Result.{IfErr-at_err}
use Rattle.obs_io.proofs.Pieces.{front_ends, front_grows, front_long}
use Rattle.obs_io.proofs.whole.read_all.Goals as goal

pub loop-bytes-preserved : goal.loop-bytes-preserved
loop-bytes-preserved g c =
    let inv = c.loop-bytes.invariant in
    let e = c.in_ok-count.ensures in
    record {
      room = inv.room;
      within = omega (arith, e.grows, e.bound, c.len-in-loop-bytes.ensures, c.loop-bytes-test.true, c.len.ensures);
      front = front_grows (g.F.Files.content c.args.files.now c.args.word) (g.F.Files.content c.loop-bytes.files c.args.word) c.loop-bytes.bytes c.add_piece.new.bytes c.in_ok-count.count (inv.same c.args.word) inv.front e.adds;
      same = λ w. e.same w ∙ inv.same w;
      quiet = e.quiet (λ failed. IfErr-at_err (λ _. ⊥) failed tt) ∙ inv.quiet;
      others = λ w other. e.others w other ∙ inv.others w other;
      steady = λ w steady. e.steady w (inv.steady w steady);
    }

pub returns-then-count-eq0-clause-whole : goal.returns-then-count-eq0-clause-whole
returns-then-count-eq0-clause-whole g c =
    let inv = c.loop-bytes.invariant in
    front_ends (g.F.Files.content c.args.files.now c.args.word) (g.F.Files.content c.loop-bytes.files c.args.word) c.loop-bytes.bytes c.add_piece.new.bytes c.in_ok-count.count c.args.limit
    (inv.same c.args.word) inv.front c.in_ok-count.ensures.adds c.if-count-eq0.true (omega (arith, c.loop-bytes-test.true, c.len.ensures))

pub returns-clause-whole : goal.returns-clause-whole
returns-clause-whole g c =
    front_long (g.F.Files.content c.args.files.now c.args.word) c.loop-bytes.bytes c.args.limit
    c.loop-bytes.invariant.front (omega (arith, c.loop-bytes-test.false, c.len.ensures))
