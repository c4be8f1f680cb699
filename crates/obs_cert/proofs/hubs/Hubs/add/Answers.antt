use Rattle.std.proofs.Common.{◌<◌, ℕ, List, [], ◌∷◌, length, take, subst, inl, inr, arith}
use Rattle.std.proofs.lemmas.List.{take_more_set}
use Rattle.obs_matroid.specs.Lists.{In}
use Rattle.obs_matroid.proofs.Lists.{In-append_cases}
use Rattle.obs_cert.specs.inner.Hubs.{Hubs}
use Rattle.obs_cert.proofs.hubs.Hubs.add.Goals as goal

pub returns-then-self-len-clause-added : goal.returns-then-self-len-clause-added
returns-then-self-len-clause-added c = λ u i.
    let list = c.self.inside.list.items in
    let count = c.self.inside.count in
    let low : count < length list = omega arith in
    elim (In-append_cases u (take count list) (c.args.v ∷ []) (subst (λ (xs : List ℕ). In u xs) (take_more_set list count c.args.v low) i)) [
      | inl old ↦ inl (subst (λ (h : Hubs). In u h.list) c.self.view_is old)
      | inr new ↦ elim new [ inl e ↦ inr e | inr none ↦ absurd none ]
    ]
