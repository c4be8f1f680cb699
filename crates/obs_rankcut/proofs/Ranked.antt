-- The rank of marked branches is that of the list of their positions.
use Rattle.std.proofs.Common.{◌≡◌, ℕ, zero, suc, Bool, true, Option, Some, None, List, [], ◌∷◌, get_or, ◌⊎◌, inl, inr, ap, arith}
use Rattle.std.specs.List.{Contains, cons_option}
use Rattle.std.proofs.lemmas.Bool.{cases_Bool}
use Rattle.obs_graph.specs.declared.Ends.{Ends}
use Rattle.obs_graph.specs.Joined.{rank}
use Rattle.obs_graph.specs.Positions.{ends_of}
use Rattle.obs_graph.specs.inner.Positions.{marked_ends}
use Rattle.obs_graph.proofs.AtPositions.{contains-ends_of, ends_of-contains, contains_cons}
use Rattle.obs_graph.proofs.Chains.{Contains-here, Contains-cases}
use Rattle.obs_graph.proofs.Forests.{rank-among}
use Rattle.obs_matroid.proofs.Contained.{Contains-from_In, In-from_Contains}
use Rattle.obs_meter.specs.Spanned.{rank_at}
use Rattle.obs_rankcut.specs.inner.Flags.{marked}
use Rattle.obs_rankcut.specs.inner.Marks.{MarksJust}

pub cons_here : (o : Option Ends) (es : List Ends) (e : Ends) → o ≡ Some e → Contains (cons_option o es) e
cons_here None es e is = absurd (cc is)
cons_here (Some d) es e is = let same : e ≡ d = cc is in rw same (Contains-here d es)

pub cons_cases : (o : Option Ends) (es : List Ends) (e : Ends) → Contains (cons_option o es) e → (o ≡ Some e) ⊎ Contains es e
cons_cases None es e h = inr h
cons_cases (Some d) es e h = elim (Contains-cases d e es h) [ inl y ↦ inl (ap Some y) | inr k ↦ inr k ]

-- the ends of a marked branch are among the marked ends
marked-contains : (ends : List (Option Ends)) (flags : List Bool) (p : ℕ) (e : Ends) → marked flags p ≡ true → get_or ends p None ≡ Some e → Contains (marked_ends ends flags) e
marked-contains [] flags p e t is = absurd (cc is)
marked-contains (o ∷ ends) [] p e t is = absurd (cc t)
marked-contains (o ∷ ends) (b ∷ flags) zero e t is = rw t (cons_here o (marked_ends ends flags) e is)
marked-contains (o ∷ ends) (b ∷ flags) (suc p) e t is =
    let rest = marked-contains ends flags p e t is in
    elim (cases_Bool b) [ inl y ↦ rw y (contains_cons o (marked_ends ends flags) e rest) | inr n ↦ rw n rest ]

-- and each of these is at a marked position
contains-marked : (ends : List (Option Ends)) (flags : List Bool) (e : Ends) → Contains (marked_ends ends flags) e → (p : ℕ) × (marked flags p ≡ true) × (get_or ends p None ≡ Some e)
contains-marked [] flags e (k, l, h) = absurd (omega arith)
contains-marked (o ∷ ends) [] e (k, l, h) = absurd (omega arith)
contains-marked (o ∷ ends) (b ∷ flags) e has =
    elim (cases_Bool b) [
      | inl y ↦ elim (cons_cases o (marked_ends ends flags) e (rw y at has)) [
        | inl is ↦ (0, y, is)
        | inr k ↦ let r = contains-marked ends flags e k in (suc r.0, r.1, r.2)
      ]
      | inr n ↦ let r = contains-marked ends flags e (rw n at has) in (suc r.0, r.1, r.2)
    ]

pub rank_of_marked : (n : ℕ) (ends : List (Option Ends)) (flags : List Bool) (L : List ℕ) → MarksJust L flags → rank n (marked_ends ends flags) ≡ rank_at n ends L
rank_of_marked n ends flags L just =
    let up = rank-among n (marked_ends ends flags) (ends_of ends L) (λ e h.
    let r = contains-marked ends flags e h in
    contains-ends_of ends L r.0 e (Contains-from_In r.0 L ((just r.0).0 r.1)) r.2) in
    let down = rank-among n (ends_of ends L) (marked_ends ends flags) (λ e h.
    let r = ends_of-contains ends L e h in
    marked-contains ends flags r.0 e ((just r.0).1 (In-from_Contains r.0 L r.1)) r.2) in
    omega (arith, up, down)
