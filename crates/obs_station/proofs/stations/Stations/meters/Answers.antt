use Rattle.std.proofs.Common.{◌≡◌, ℕ, ◌<◌, ◌≤◌, List, length, take, ap, ◌∙◌, subst, arith}
use Rattle.std.specs.Prelude.{All}
use Rattle.std.proofs.lemmas.List.{length-take-le}
use Rattle.obs_switch.specs.Groups.{items_with}
use Rattle.obs_station.specs.inner.Held.{Stations}
use Rattle.obs_station.proofs.Summed.{items-few, items-low}
use Rattle.obs_station.proofs.stations.Stations.meters.Goals as goal
use Rattle.obs_station.proofs.stations.Stations.meters.Goals.{After-group_of}

-- the keys that are looked at
keys_are : (c : After-group_of) → take c.self.inside.meters c.deref.result.now ≡ c.args.self.now.keys
keys_are c = ap (take c.self.inside.meters) c.deref.ensures.value ∙ ap (λ (s : Stations). s.keys) c.self.view_is

pub returns-clause-low : goal.returns-clause-low
returns-clause-low c =
    let keys = take c.self.inside.meters c.deref.result.now in
    rw (c.group_of.ensures.members) (subst (λ (ks : List ℕ). All (λ m. m < length ks) (items_with keys c.args.c)) (keys_are c) (items-low keys c.args.c))

pub returns-clause-few : goal.returns-clause-few
returns-clause-few c =
    let keys = take c.self.inside.meters c.deref.result.now in
    rw (c.group_of.ensures.members) (subst (λ (ks : List ℕ). length (items_with keys c.args.c) ≤ length ks) (keys_are c) (items-few keys c.args.c))

pub returns-clause-small : goal.returns-clause-small
returns-clause-small c =
    let keys = take c.self.inside.meters c.deref.result.now in
    let all = ap (λ (xs : List ℕ). length xs) c.deref.ensures.value in
    let least = length-take-le c.self.inside.meters c.deref.result.now (omega (arith, all, c.self.invariant.fits)) in
    rw (c.group_of.ensures.members) (omega (arith, items-few keys c.args.c, least, all, c.self.invariant.small))
