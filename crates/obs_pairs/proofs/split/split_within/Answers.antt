use Rattle.std.proofs.Common.{ℕ, cond, get_or, refl, sym, ap, ◌∙◌, subst}
use Rattle.obs_pairs.proofs.Moving.{MaySearch-same}
use Rattle.obs_pairs.proofs.Splitting.{Between-orders, IsReachedBetween, Settled-split}
use Rattle.obs_pairs.proofs.split.split_within.Goals as goal

pub keep_first-requires : goal.keep_first-requires
keep_first-requires g c = let b = c.requires.settled in record { waiting = b.flags ∙ sym b.places; places = c.reach_in_order.ensures.reached.meters ∙ sym b.places }

pub reach_in_order-requires-2 : goal.reach_in_order-requires-2
reach_in_order-requires-2 g c =
    let e = c.reach_in_order.ensures in
    record {
      may = MaySearch-same c.args.over.now.graph.now c.args.over.now.meters.now.touches c.args.a.now c.args.a.now c.args.exchange.now c.reach_in_order.new.exchange refl e.same_sizes c.requires.may;
      order = e.order.count;
      places = e.reached.meters;
    }

pub settle_same-requires : goal.settle_same-requires
settle_same-requires g c =
    let b = c.requires.settled in
    let places = c.keep_first.auto.list ∙ b.places in
    record { waiting = b.flags ∙ sym places; places = c.reach_in_order-2.ensures.reached.meters ∙ sym places }

pub returns-clause-settled : goal.returns-clause-settled
returns-clause-settled g c =
    let graph = c.args.over.now.graph.now in
    let touches = c.args.over.now.meters.now.touches in
    let a = c.args.a.now in
    let may = c.requires.may in
    let b = c.requires.settled in
    let one = c.reach_in_order in
    let two = c.reach_in_order-2 in
    let firsts = one.new.places in
    let lasts = two.new.places in
    Settled-split graph touches a may.branches may.longest c.args.waiting.now c.settle_same.new.waiting c.args.list.now c.keep_first.new.list lasts b c.keep_first.auto.list
    (λ k t. subst (λ (x : ℕ). IsReachedBetween graph touches a k x (get_or lasts k 0))
    (sym (c.keep_first.ensures.list k ∙ ap (λ y. cond y (get_or firsts k 0) (get_or c.args.list.now k 0)) t))
    (Between-orders graph touches a may.branches may.longest one.new.order two.new.order firsts lasts one.ensures.order two.ensures.order one.ensures.reached two.ensures.reached k (b.opened k t)))
    (λ k f. c.keep_first.ensures.list k ∙ ap (λ y. cond y (get_or firsts k 0) (get_or c.args.list.now k 0)) f)
    c.settle_same.auto.waiting c.settle_same.ensures.waiting
