-- What follows from an answer that adds a row or refuses it.
use Rattle.std.proofs.Common.{ℕ, ◌≡◌, ◌∙◌, ◌==◌, ◌&&◌, ◌<◌, ◌≤◌, inl, inr, refl, sym, subst, arith, Bool, true, false, is_some, List, [], ◌∷◌, ◌++◌, length, Option, None, Some, Result, Ok, Err, OnOk, OnErr}
use Rattle.std.specs.Prelude.{IfErr, IfSome, if◌then◌else◌}
use Rattle.std.specs.Str.{bytes_eq}
use Rattle.std.proofs.lemmas.List.{length-map}
use Rattle.std.proofs.lemmas.Bool.{cases_Bool, eq-eqb, ne_eqb, true≢false}
use Rattle.obs_case.specs.declared.table.AddFault.{AddFault}
use Rattle.obs_case.specs.declared.table.AddFault.TheVariants.{NameTwice, UnknownNode, UnknownPlace, TooMany, NoMemory}
use Rattle.obs_case.specs.declared.rows.Branch.{Branch}
use Rattle.obs_case.specs.declared.rows.Kind.{Kind}
use Rattle.obs_case.specs.declared.rows.Kind.TheVariants.{Flow, Injection, Zero, Angle}
use Rattle.obs_case.specs.declared.rows.Node.{Node}
use Rattle.obs_case.specs.inner.Adds.{Refuses, first_fault, name_fault, place_fault}
use Rattle.obs_case.specs.Tables.{Tables, has_name, place_names, place_of, places}
use Rattle.obs_case.proofs.NameLemmas.{place-absent, place-there}

-- a table that isn't full takes a row of a new name that has no other fault
pub no_fault : (most : ℕ) (names : List (List ℕ)) (name : List ℕ) (other : Option AddFault) → first_fault (name_fault most names name) other ≡ None → (length names ≡ most → ⊥) × (has_name names name ≡ false) × (other ≡ None)
no_fault most names name other h =
    let free = by (length names == most) (has_name names name) other h in
    (λ full. true≢false (sym (eq-eqb (length names) most full) ∙ free.0), free.1, free.2)
  where
    by : (full there : Bool) (other : Option AddFault) → first_fault (if full then Some TooMany else (if there then Some NameTwice else None)) other ≡ None → (full ≡ false) × (there ≡ false) × (other ≡ None)
    by true there other h = cc
    by false true other h = cc
    by false false other h = (refl, refl, h)

-- what holds of the rows before, and of the rows with one more where it has no fault, holds of the rows after
pub either : {R : Type 0} (P : List R → Type 0) (rows after : List R) (row : R) (result : Result ℕ AddFault) (fault : Option AddFault) → P rows → (fault ≡ None → P (rows ++ row ∷ [])) → OnOk result (fault ≡ None) → OnOk result (after ≡ rows ++ row ∷ []) → OnErr result (after ≡ rows) → P after
either P rows after row (Ok at) fault h more free added same = subst P (sym added) (more free)
either P rows after row (Err e) fault h more free added same = subst P (sym same) h

-- no other fault is told than that of the name or the other one
module _ (most : ℕ) (names : List (List ℕ)) (name : List ℕ) (other : Option AddFault) (result : Result ℕ AddFault) where
  pub never_node : IfErr result (Refuses (first_fault (name_fault most names name) other)) → (other ≡ Some UnknownNode → ⊥) → result ≡ Err UnknownNode → ⊥
  never_node told never h = by (length names == most) (has_name names name) (subst (λ x. IfErr x (Refuses (first_fault (name_fault most names name) other))) h told)
    where
      by : (full there : Bool) → first_fault (if full then Some TooMany else (if there then Some NameTwice else None)) other ≡ Some UnknownNode → ⊥
      by true there h = cc
      by false true h = cc
      by false false h = never h

  pub never_place : IfErr result (Refuses (first_fault (name_fault most names name) other)) → (other ≡ Some UnknownPlace → ⊥) → result ≡ Err UnknownPlace → ⊥
  never_place told never h = by (length names == most) (has_name names name) (subst (λ x. IfErr x (Refuses (first_fault (name_fault most names name) other))) h told)
    where
      by : (full there : Bool) → first_fault (if full then Some TooMany else (if there then Some NameTwice else None)) other ≡ Some UnknownPlace → ⊥
      by true there h = cc
      by false true h = cc
      by false false h = never h

-- a name stands before the end exactly where a row has it
pub there_by : (names : List (List ℕ)) (name : List ℕ) (at : ℕ) → at ≡ place_of names name → at < length names → has_name names name ≡ true
there_by names name at is low =
    elim (cases_Bool (has_name names name)) [ inl e ↦ e | inr e ↦ absurd (omega (arith, is, low, place-absent (bytes_eq name) names e)) ]

pub absent_by : (names : List (List ℕ)) (name : List ℕ) (at : ℕ) → at ≡ place_of names name → length names ≤ at → has_name names name ≡ false
absent_by names name at is high =
    elim (cases_Bool (has_name names name)) [ inl e ↦ absurd (omega (arith, is, high, place-there (bytes_eq name) names e)) | inr e ↦ e ]

-- the fault of a row of a table that isn't full
pub told_twice : (most : ℕ) (names : List (List ℕ)) (name : List ℕ) (other : Option AddFault) → (length names ≡ most → ⊥) → has_name names name ≡ true → first_fault (name_fault most names name) other ≡ Some NameTwice
told_twice most names name other room there = rw (ne_eqb (length names) most room, there) refl

pub told_other : (most : ℕ) (names : List (List ℕ)) (name : List ℕ) (other : Option AddFault) → (length names ≡ most → ⊥) → has_name names name ≡ false → first_fault (name_fault most names name) other ≡ other
told_other most names name other room new = rw (ne_eqb (length names) most room, new) refl

pub told_full : (most : ℕ) (names : List (List ℕ)) (name : List ℕ) (other : Option AddFault) → length names ≡ most → first_fault (name_fault most names name) other ≡ Some TooMany
told_full most names name other full = rw (eq-eqb (length names) most full) refl

pub told_some : (fault : Option AddFault) (other : Option AddFault) → fault ≡ other → IfSome other (λ e. fault ≡ Some e)
told_some fault None same = tt
told_some fault (Some e) same = same

pub told_none : (fault : Option AddFault) (other : Option AddFault) → is_some other ≡ false → IfSome other (λ e. fault ≡ Some e)
told_none fault None h = tt
told_none fault (Some e) h = cc

-- the fault of two ends, by where they stand
pub both_known : (names : List (List ℕ)) (from to : List ℕ) (a b : ℕ) → a ≡ place_of names from → b ≡ place_of names to → a < length names → b < length names → (if has_name names from && has_name names to then None else Some UnknownNode) ≡ None
both_known names from to a b is_from is_to low_from low_to = rw (there_by names from a is_from low_from, there_by names to b is_to low_to) refl

pub one_unknown : (names : List (List ℕ)) (from to : List ℕ) (a : ℕ) → a ≡ place_of names from → length names ≤ a → (if has_name names from && has_name names to then None else Some UnknownNode) ≡ Some UnknownNode
one_unknown names from to a is high = rw (absent_by names from a is high) refl

pub other_unknown : (names : List (List ℕ)) (from to : List ℕ) (b : ℕ) → b ≡ place_of names to → length names ≤ b → (if has_name names from && has_name names to then None else Some UnknownNode) ≡ Some UnknownNode
other_unknown names from to b is high = rw (absent_by names to b is high) (by (has_name names from))
  where
    by : (known : Bool) → (if known && false then None else Some UnknownNode) ≡ Some UnknownNode
    by true = refl
    by false = refl

-- where there is no fault the ends are nodes
pub ends_within : (names : List (List ℕ)) (from to : List ℕ) → (if has_name names from && has_name names to then None else Some UnknownNode) ≡ None → (place_of names from < length names) × (place_of names to < length names)
ends_within names from to h =
    let both = by (has_name names from) (has_name names to) h in
    (place-there (bytes_eq from) names both.0, place-there (bytes_eq to) names both.1)
  where
    by : (one other : Bool) → (if one && other then None else Some UnknownNode) ≡ None → (one ≡ true) × (other ≡ true)
    by true true h = (refl, refl)
    by true false h = cc
    by false other h = cc

-- and the place is one
pub place_low : (t : Tables) (kind : Kind) (at : List ℕ) → place_fault t kind at ≡ None → place_of (place_names t kind) at < places t kind
place_low t kind at h = omega (arith, place-there (bytes_eq at) (place_names t kind) (by (has_name (place_names t kind) at) h), as_many t kind)
  where
    by : (known : Bool) → (if known then None else Some UnknownPlace) ≡ None → known ≡ true
    by true h = refl
    by false h = cc

    as_many : (t : Tables) (kind : Kind) → length (place_names t kind) ≡ places t kind
    as_many t Flow = length-map t.branches (λ (r : Branch). r.name)
    as_many t Injection = length-map t.nodes (λ (r : Node). r.name)
    as_many t Zero = length-map t.nodes (λ (r : Node). r.name)
    as_many t Angle = length-map t.nodes (λ (r : Node). r.name)

-- the faults of ends and of places are their own
pub never_place_of_ends : (known : Bool) (fault : Option AddFault) → fault ≡ (if known then None else Some UnknownNode) → fault ≡ Some UnknownPlace → ⊥
never_place_of_ends true fault is told = cc
never_place_of_ends false fault is told = cc

pub never_node_of_place : (known : Bool) (fault : Option AddFault) → fault ≡ (if known then None else Some UnknownPlace) → fault ≡ Some UnknownNode → ⊥
never_node_of_place true fault is told = cc
never_node_of_place false fault is told = cc

-- what refuses a row is told
pub refuses_own : (fault : Option AddFault) (e : AddFault) → fault ≡ Some e → Refuses fault e
refuses_own fault NameTwice told = told
refuses_own fault UnknownNode told = told
refuses_own fault UnknownPlace told = told
refuses_own fault TooMany told = told
refuses_own fault NoMemory told = tt
