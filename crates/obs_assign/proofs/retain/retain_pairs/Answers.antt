use Rattle.std.proofs.Common.{◌≡◌, ◌<◌, ◌++◌, ℕ, None, Some, List, get_or, length, take, drop, sym, ◌∙◌, subst, arith}
use Rattle.std.specs.Prelude.{All}
use Rattle.std.proofs.lemmas.List.{length-take-le, take_all, take-append-le}
use Rattle.obs_assign.proofs.Slotted.{slot_low}
use Rattle.obs_assign.proofs.Retained.{IsRetained, IsRetained-made, low_positions, ups_low}
use Rattle.obs_assign.proofs.retain.retain_pairs.Goals as goal
use Rattle.obs_assign.specs.inner.Kept.{SlotsApart}
use Rattle.obs_assign.proofs.retain.retain_pairs.Goals.{After-count, After-choose}
use Rattle.obs_matroid.specs.inner.Slots.{pairs_of}
use Rattle.obs_assign.specs.inner.Still.{AreRetained}

-- the slots of the meters
low : (c : After-count) → (m e : ℕ) → get_or (take c.count.result c.args.slots.now) m None ≡ Some e → e < length c.args.g.now.ends
low c = subst (λ (n : ℕ). (m e : ℕ) → get_or (take n c.args.slots.now) m None ≡ Some e → e < length c.args.g.now.ends) (sym c.count.ensures.count) c.requires.low

apart : (c : After-count) → SlotsApart (take c.count.result c.args.slots.now)
apart c = subst (λ (n : ℕ). SlotsApart (take n c.args.slots.now)) (sym c.count.ensures.count) c.requires.apart

pub search_along-requires-clause-positions : goal.search_along-requires-clause-positions
search_along-requires-clause-positions c =
    subst (λ (s : List ℕ). All (λ p. p < length c.args.g.now.ends) s) (sym c.list_pairs-count.ensures.list)
    (low_positions c.args.g.now.ends c.args.ms.now.touches (take c.count.result c.args.slots.now) c.keep_touched.new.slots c.keep_touched.ensures.slots (low (goal.at.search_along-requires-clause-positions c).After-count))

pub choose-requires-clause-low : goal.choose-requires-clause-low
choose-requires-clause-low c = λ e m h. slot_low c.keep_touched.new.slots m e ((c.list_pairs-count.ensures.inverse m e).1 h)

pub choose-requires-clause-ups : goal.choose-requires-clause-ups
choose-requires-clause-ups c = λ v x h.
    let l = ups_low c.args.g.now.vertices c.args.g.now.ends (take c.list_pairs-count.result c.list_pairs-count.new.list) c.ups.result.now c.search_along.new.search c.vertices.result c.vertices.ensures.value c.ups.ensures.ups c.search_along.ensures.rooted v x h in
    omega arith

-- what the slots are that were chosen
made : (c : After-choose) → SlotsApart (take c.count.result c.args.slots.now) → IsRetained c.args.g.now.vertices c.args.g.now.ends c.args.ms.now.touches (take c.count.result c.args.slots.now) c.choose.new.slots c.search_along.new.search
made c apart =
    let g = c.args.g.now in
    IsRetained-made g.vertices g.ends c.args.ms.now.touches (take c.count.result c.args.slots.now) c.keep_touched.new.slots c.choose.new.slots c.ups.result.now c.search_along.new.search c.vertices.result
    c.vertices.ensures.value (take c.list_pairs-count.result c.list_pairs-count.new.list) c.vertices.ensures.branches c.keep_touched.ensures.slots apart c.list_pairs-count.ensures.list
    c.ups.ensures.ups c.search_along.ensures.rooted c.choose.ensures.chosen

-- they are the first of the slots as they are handed back
cut_back : (c : After-choose) → take (length c.args.ms.now.touches) (c.choose.new.slots ++ drop c.count.result c.args.slots.now) ≡ c.choose.new.slots
cut_back c =
    let n = length c.args.ms.now.touches in
    let first = length-take-le c.count.result c.args.slots.now (omega (arith, c.count.ensures.count, c.requires.meters)) in
    let len : length c.choose.new.slots ≡ n = omega (arith, first, c.count.ensures.count, c.choose.auto.slots, c.keep_touched.auto.slots) in
    take-append-le n c.choose.new.slots (drop c.count.result c.args.slots.now) (omega (arith, len)) ∙ take_all n c.choose.new.slots (omega (arith, len))

pub hold_pairs-requires-clause-forest : goal.hold_pairs-requires-clause-forest
hold_pairs-requires-clause-forest c =
    (made (goal.at.hold_pairs-requires-clause-forest c).After-choose (apart (goal.at.hold_pairs-requires-clause-forest c).After-count)).forest

pub hold_pairs-requires-clause-rooted : goal.hold_pairs-requires-clause-rooted
hold_pairs-requires-clause-rooted c =
    (made (goal.at.hold_pairs-requires-clause-rooted c).After-choose (apart (goal.at.hold_pairs-requires-clause-rooted c).After-count)).rooted

pub returns-clause-retained : goal.returns-clause-retained
returns-clause-retained c =
    let a = (goal.at.returns-clause-retained c).After-choose in
    rw (cut_back a) (subst (λ (n : ℕ). AreRetained c.args.g.now.ends c.args.ms.now.touches (pairs_of (take n c.args.slots.now)) (pairs_of c.choose.new.slots)) c.count.ensures.count
    (made a (apart (goal.at.returns-clause-retained c).After-count)).retained)

pub returns-clause-is_forest : goal.returns-clause-is_forest
returns-clause-is_forest c =
    let a = (goal.at.returns-clause-is_forest c).After-choose in
    rw (cut_back a) (made a (apart (goal.at.returns-clause-is_forest c).After-count)).forest

pub returns-clause-count : goal.returns-clause-count
returns-clause-count c = rw (cut_back (goal.at.returns-clause-count c).After-choose) c.hold_pairs.ensures.count

pub returns-clause-inverse : goal.returns-clause-inverse
returns-clause-inverse c = rw (cut_back (goal.at.returns-clause-inverse c).After-choose) c.hold_pairs.ensures.inverse

pub returns-clause-listed : goal.returns-clause-listed
returns-clause-listed c = rw (cut_back (goal.at.returns-clause-listed c).After-choose) c.hold_pairs.ensures.listed

pub returns-clause-forest : goal.returns-clause-forest
returns-clause-forest c = rw (cut_back (goal.at.returns-clause-forest c).After-choose) c.hold_pairs.ensures.forest

pub keep_touched-requires-clause-low : goal.keep_touched-requires-clause-low
keep_touched-requires-clause-low c = low (goal.at.keep_touched-requires-clause-low c).After-count

pub choose-requires-clause-inverse : goal.choose-requires-clause-inverse
choose-requires-clause-inverse c = c.list_pairs-count.ensures.inverse

pub hold_pairs-requires-clause-found : goal.hold_pairs-requires-clause-found
hold_pairs-requires-clause-found c = c.search_along.ensures.room ∙ c.requires.room

pub returns-clause-room : goal.returns-clause-room
returns-clause-room c = c.hold_pairs.ensures.found ∙ c.search_along.ensures.room
