use Rattle.std.proofs.Common.{◌≡◌, ◌<◌, ℕ, List, None, cond, length, refl, ap, ◌∙◌, arith}
use Rattle.std.specs.Prelude.{slice_index_or}
use Rattle.std.proofs.lemmas.List.{take_all}
use Rattle.std.proofs.lemmas.List.Elements.{All-get_or}
use Rattle.obs_meter.specs.Lost.{is_listed, losing}
use Rattle.obs_assign.specs.inner.Assignment.{branch_at}
use Rattle.obs_exchange.proofs.Losing.{AreLost-more, AreLost-none, AreLost-same}
use Rattle.obs_exchange.proofs.loss.lose.Goals as goal

pub loop-m-init : goal.loop-m-init
loop-m-init c = AreLost-none c.args.g.now c.args.list.now c.args.left.now c.args.a.now c.requires.stands c.requires.thawed c.length.ensures.whole

pub lose_one-requires-clause-low : goal.lose_one-requires-clause-low
lose_one-requires-clause-low c =
    let l = All-get_or (λ m. m < length c.args.left.now.touches) c.args.list.now c.loop-m.m-index 0 c.loop-m-test.true c.requires.low in
    let same : length c.loop-m.left.touches ≡ length c.args.left.now.touches = AreLost-same c.args.g.now c.args.list.now c.args.left.now c.args.a.now c.loop-m.left c.loop-m.a c.loop-m.m-index c.loop-m.invariant in
    omega (arith, l, same)

pub loop-m-preserved : goal.loop-m-preserved
loop-m-preserved c =
    let e = c.lose_one.ensures in
    let l = All-get_or (λ m. m < length c.args.left.now.touches) c.args.list.now c.loop-m.m-index 0 c.loop-m-test.true c.requires.low in
    let same : length c.loop-m.left.touches ≡ length c.args.left.now.touches = AreLost-same c.args.g.now c.args.list.now c.args.left.now c.args.a.now c.loop-m.left c.loop-m.a c.loop-m.m-index c.loop-m.invariant in
    AreLost-more c.args.g.now c.args.list.now c.args.left.now c.args.a.now c.loop-m.left c.lose_one.new.left c.loop-m.a c.lose_one.new.a c.loop-m.m-index (slice_index_or c.args.list.now c.loop-m.m-index 0)
    c.loop-m.invariant c.loop-m-test.true refl (omega (arith, l, same)) e.left e.slots e.stands e.thawed e.turns e.whole e.same_room

pub returns-clause-left : goal.returns-clause-left
returns-clause-left c =
    c.loop-m.invariant.left ∙ ap (λ (list : List ℕ). record c.args.left.now { touches = losing (is_listed list) c.args.left.now.touches }) (take_all c.loop-m.m-index c.args.list.now c.loop-m-test.false)

pub returns-clause-slots : goal.returns-clause-slots
returns-clause-slots c = λ m.
    c.loop-m.invariant.slots m ∙ ap (λ (list : List ℕ). cond (is_listed list m) None (branch_at c.args.a.now m)) (take_all c.loop-m.m-index c.args.list.now c.loop-m-test.false)
