use Rattle.std.proofs.Common.{◌≡◌, ◌<◌, ◌^◌, ◌++◌, ℕ, List, length, drop, sym, ap, ◌∙◌, subst, arith}
use Rattle.std.specs.Prelude.{take}
use Rattle.obs_graph.proofs.Stored.{written_back}
use Rattle.obs_meter.specs.Held.{Meters}
use Rattle.obs_meter.specs.inner.Sizes.{HasRoomFor}
use Rattle.obs_pairs.specs.inner.PairWork.{PairWork}
use Rattle.obs_pairs.specs.Partners.{classes_of}
use Rattle.obs_pairs.proofs.Settling.{first_of_classes}
use Rattle.obs_pairs.proofs.work.find_classes.Goals as goal

pub mark_shared-requires-clause-first : goal.mark_shared-requires-clause-first
mark_shared-requires-clause-first g c =
    let touches = c.args.ms.now.touches in
    let list = take c.count-count.result c.deref.result.now in
    let v = c.work.inside.list in
    let new = c.list_classes.new.list in
    let back : take v.len (new ++ drop (length new) v.items) ≡ new = written_back v.len new v.items (c.list_classes.auto.list ∙ ap length c.deref_mut-2.ensures.value) v.ok.0 in
    let is : list ≡ classes_of c.args.g.now.vertices c.args.g.now.ends touches =
    ap (λ (k : ℕ). take k c.deref.result.now) c.count-count.ensures.count ∙ (ap (λ (xs : List ℕ). take (length touches) xs) (c.deref.ensures.value ∙ back) ∙ c.list_classes.ensures.classes) in
    first_of_classes c.args.g.now.vertices c.args.g.now.ends touches c.vertices-count.ensures.branches list is

pub returns-clause-longest : goal.returns-clause-longest
returns-clause-longest g c = c.list_classes.ensures.moved.may.search.longest

pub returns-clause-same_room : goal.returns-clause-same_room
returns-clause-same_room g c = c.list_classes.ensures.moved.same_room

pub returns-clause-same_sizes : goal.returns-clause-same_sizes
returns-clause-same_sizes g c = c.list_classes.ensures.moved.same_sizes ∙ ap (λ (w : PairWork). w.sizes) c.work.view_is

pub returns-clause-classes : goal.returns-clause-classes
returns-clause-classes g c =
    let touches = c.args.ms.now.touches in
    let v = c.work.inside.list in
    let new = c.list_classes.new.list in
    let back : take v.len (new ++ drop (length new) v.items) ≡ new = written_back v.len new v.items (c.list_classes.auto.list ∙ ap length c.deref_mut-2.ensures.value) v.ok.0 in
    ap (λ (k : ℕ). take k (take v.len (new ++ drop (length new) v.items))) c.count-count.ensures.count ∙ (ap (λ (xs : List ℕ). take (length touches) xs) back ∙ c.list_classes.ensures.classes)

pub list_classes-requires-clause-may : goal.list_classes-requires-clause-may
list_classes-requires-clause-may g c =
    let room : HasRoomFor c.work.inside.room.exchange.sizes c.args.g.now c.args.ms.now.touches = subst (λ (w : PairWork). HasRoomFor w.sizes c.args.g.now c.args.ms.now.touches) (sym c.work.view_is) c.requires.room in
    let most = room.meters in
    let places = c.work.invariant.reach in
    record {
      search = record {
        branches = c.vertices-count.ensures.branches;
        in_range = c.requires.in_range;
        few = subst (λ (n : ℕ). n < 2 ^ 32) c.count-count.ensures.count c.count-count.type_inv;
        longest = c.requires.longest;
        room = room;
      };
      left = ap (λ (m : Meters). m.touches) c.refill.ensures.whole ∙ c.touches.ensures.touches;
      reach = omega (arith, most, places);
    }
