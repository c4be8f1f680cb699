-- The branches that are present in a list by positions.
use Rattle.std.proofs.Common.{◌≡◌, ℕ, zero, suc, ◌<◌, ◌≤◌, Option, Some, None, IfSome, ⊎_elim, List, [], ◌∷◌, length, get_or, refl, sym, ap, ◌∙◌, subst, arith}
use Rattle.std.specs.List.{Contains}
use Rattle.std.proofs.lemmas.Bool.{cases_lt}
use Rattle.std.proofs.lemmas.List.{get_or_past}
use Rattle.std.proofs.lemmas.Option.{IfSome_then}
use Rattle.std.specs.Prelude.{IsSome, slice_index_or}
use Rattle.obs_graph.specs.declared.Ends.{Ends}
use Rattle.obs_graph.specs.Positions.{AreBranches, present}
use Rattle.obs_graph.specs.inner.Search.{IsPart, AreBelow}
use Rattle.obs_graph.proofs.Chains.{Contains-here, Contains-there, Contains-cases}

pub some_one : (d e : Ends) → Some d ≡ Some e → d ≡ e
some_one d e is = cc

pub none_some : (e : Ends) → None ≡ Some e → ⊥
none_some e is = cc

-- what is at a position is present, and what is present is at one
pub contains_present : (hs : List (Option Ends)) (p : ℕ) (e : Ends) → get_or hs p None ≡ Some e → Contains (present hs) e
contains_present [] p e is = absurd cc
contains_present (None ∷ hs) zero e is = absurd cc
contains_present (Some d ∷ hs) zero e is = subst (λ t. Contains (d ∷ present hs) t) (some_one d e is) (Contains-here d (present hs))
contains_present (None ∷ hs) (suc p) e is = contains_present hs p e is
contains_present (Some d ∷ hs) (suc p) e is = Contains-there d e (present hs) (contains_present hs p e is)

pub present_contains : (hs : List (Option Ends)) (e : Ends) → Contains (present hs) e → (p : ℕ) × (get_or hs p None ≡ Some e)
present_contains [] e (k, l, h) = absurd (omega arith)
present_contains (None ∷ hs) e has = let r = present_contains hs e has in (suc r.0, r.1)
present_contains (Some d ∷ hs) e has =
    ⊎_elim
    (λ (same : d ≡ e). (0, ap Some same))
    (λ there. let r = present_contains hs e there in (suc r.0, r.1))
    (Contains-cases d e (present hs) has)

-- what is at a position is within the list
pub some_is_in : (bs : List (Option Ends)) (p : ℕ) (e : Ends) → get_or bs p None ≡ Some e → p < length bs
some_is_in bs p e is =
    ⊎_elim
    (λ (l : p < length bs). l)
    (λ (past : length bs ≤ p). absurd (none_some e (sym (get_or_past bs p None past) ∙ is)))
    (cases_lt p (length bs))

-- a present branch is within the list
pub present_low : (bs : List (Option Ends)) (p : ℕ) → IsSome (slice_index_or bs p None) → p < length bs
present_low bs p some = by_option (get_or bs p None) refl some
  where
    by_option : (o : Option Ends) → get_or bs p None ≡ o → IsSome o → p < length bs
    by_option None is some = absurd cc
    by_option (Some e) is some = some_is_in bs p e is

-- the ends of a branch of a graph
pub branch_at : (n : ℕ) (bs : List (Option Ends)) (i : ℕ) (e : Ends) → AreBranches n bs → i < length bs → get_or bs i None ≡ Some e → (e.a < n) × (e.b < n) × (e.a ≡ e.b → ⊥)
branch_at n bs i e all l is = subst (λ o. IfSome o (λ e. (e.a < n) × (e.b < n) × (e.a ≡ e.b → ⊥))) is (all i None l)

-- the branches of fewer vertices
pub AreBranches-more : (n m : ℕ) (bs : List (Option Ends)) → n ≤ m → AreBranches n bs → AreBranches m bs
AreBranches-more n m bs low all k d l = IfSome_then (get_or bs k d) (all k d l) (λ e b. (omega (arith, b.0), omega (arith, b.1), b.2))

pub AreBelow-part : (n : ℕ) (hs bs : List (Option Ends)) → IsPart hs bs → AreBranches n bs → AreBelow n hs
AreBelow-part n hs bs part branches p e is =
    let there = part p e is in
    let b = branch_at n bs p e branches (some_is_in bs p e there) there in
    (b.0, b.1)
