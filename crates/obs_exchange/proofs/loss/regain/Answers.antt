use Rattle.std.proofs.Common.{◌<◌, ℕ, not, ◌&&◌, List, length, refl, ap, ◌∙◌, arith}
use Rattle.std.specs.Prelude.{slice_index_or}
use Rattle.std.proofs.lemmas.List.{take_all}
use Rattle.std.proofs.lemmas.List.Elements.{All-get_or}
use Rattle.obs_meter.specs.Lost.{is_listed, losing}
use Rattle.obs_exchange.proofs.Losing.{AreRegained-more, AreRegained-none}
use Rattle.obs_exchange.proofs.loss.regain.Goals as goal

pub loop-m-init : goal.loop-m-init
loop-m-init c = AreRegained-none c.args.ms.now.touches c.args.list.now c.args.left.now c.requires.count

pub set-requires : goal.set-requires
set-requires c =
    let l = All-get_or (λ m. m < length c.args.ms.now.touches) c.args.list.now c.loop-m.m-index 0 c.loop-m-test.true c.requires.low in
    let same = c.loop-m.invariant.same in
    record { item = omega (arith, l, same) }

pub loop-m-preserved : goal.loop-m-preserved
loop-m-preserved c =
    AreRegained-more c.args.ms.now.touches c.args.list.now c.args.left.now c.loop-m.left c.set.new.self c.loop-m.m-index (slice_index_or c.args.list.now c.loop-m.m-index 0) c.kind.result
    c.loop-m.invariant c.loop-m-test.true refl c.kind.ensures.kind c.set.ensures.set

pub returns : goal.returns
returns c =
    let f = c.loop-m-test.false in
    record {
      left = λ lost e. c.loop-m.invariant.left lost e
          ∙ ap (λ (list : List ℕ). record c.args.left.now { touches = losing (λ m. lost m && not (is_listed list m)) c.args.ms.now.touches }) (take_all c.loop-m.m-index c.args.list.now f);
    }
