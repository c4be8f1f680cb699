-- Statuses that are done where each entry of a list passes a test.
use Rattle.std.proofs.Common.{◌≡◌, ◌↔◌, ◌∙◌, inl, inr, Bool, true, false, List, [], ◌∷◌, refl, ap}
use Rattle.std.specs.Prelude.{if◌then◌else◌}
use Rattle.std.specs.List.{list_all}
use Rattle.std.proofs.lemmas.Bool.{and_from, and_parts}
use Rattle.obs_matroid.specs.Lists.{In}
use Rattle.obs_files.specs.declared.status.Status.{Status}
use Rattle.obs_files.specs.declared.status.Status.TheVariants.{Done, Short}
use Rattle.obs_engine.proofs.Replied.{IsVerdict}

-- a test that all items pass
pub all-in : {X : Type 0} (p : X → Bool) (xs : List X) → list_all p xs ≡ true → (x : X) → In x xs → p x ≡ true
all-in p [] h x i = absurd i
all-in p (y ∷ ys) h x (inl e) = ap p e ∙ (and_parts (p y) (list_all p ys) h).0
all-in p (y ∷ ys) h x (inr i) = all-in p ys (and_parts (p y) (list_all p ys) h).1 x i

pub in-all : {X : Type 0} (p : X → Bool) (xs : List X) → ((x : X) → In x xs → p x ≡ true) → list_all p xs ≡ true
in-all p [] h = refl
in-all p (y ∷ ys) h = and_from (p y) (list_all p ys) (h y (inl refl)) (in-all p ys (λ x i. h x (inr i)))

-- a status that is done where a test is met and another status is
pub done_both : (b : Bool) (s : Status) → (if b then s else Short) ≡ Done → (b ≡ true) × (s ≡ Done)
done_both true s e = (refl, e)
done_both false s e = absurd cc

pub both_done : (b : Bool) (s : Status) → b ≡ true → s ≡ Done → (if b then s else Short) ≡ Done
both_done b s e d = rw e d

-- a verdict that is short exactly where it isn't done
pub short_where : {P : Type 0} (s : Status) → IsVerdict s → (s ≡ Done) ↔ P → (s ≡ Short) ↔ (P → ⊥)
short_where s (inl d) both = ((λ e p. absurd (cc (d, e))), (λ none. absurd (none (both.0 d))))
short_where s (inr n) both = ((λ e p. let d = both.1 p in absurd (cc (d, n))), (λ none. n))
