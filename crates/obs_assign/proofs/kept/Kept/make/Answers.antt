use Rattle.std.proofs.Common.{None, length, ap, arith}
use Rattle.obs_forest.specs.Forest.{Forest}
use Rattle.obs_forest.proofs.Lent.{filled_back}
use Rattle.obs_assign.proofs.Storing.{IsKept-none}
use Rattle.obs_assign.proofs.kept.Kept.make.Goals as goal

pub invariant_of-result : goal.invariant_of-result
invariant_of-result c =
    let slots = c.in_ok-slots.slots in
    let owners = c.in_ok-owners.owners in
    let list = c.in_ok-list.list in
    let forest = c.in_ok-forest.forest in
    let none = c.in_ok-forest.ensures.empty in
    let fits = c.ranges.most_meters.fits in
    let most_b = ap (λ (f : Forest). f.most_branches) none in
    IsKept-none slots.items forest (length owners.items) _ list.items (ap (λ (f : Forest). f.held) none)
    (omega (arith, most_b, c.in_ok-owners.ensures.len, owners.ok.0))
    (omega (arith, fits, c.in_ok-slots.ensures.len, slots.ok.0))
    (filled_back None owners.len c.empty.new.slots owners.items c.empty.ensures.empty c.deref_mut.ensures.value owners.ok.0)
    (omega (arith, c.in_ok-slots.ensures.len, slots.ok.0, c.in_ok-list.ensures.len, list.ok.0))
