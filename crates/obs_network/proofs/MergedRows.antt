-- What an edit does to live branches by position: a switch that is closed renames them, and a branch put in service is one more.
use Rattle.std.proofs.Common.{◌⊎◌, inl, inr, ◌≡◌, ℕ, zero, suc, ◌<◌, Bool, true, false, not, eqb, Option, Some, None, List, [], ◌∷◌, length, map, get_or, refl, sym, ap, ◌∙◌, arith}
use Rattle.std.specs.Prelude.{All}
use Rattle.std.specs.List.{cons_option}
use Rattle.std.proofs.lemmas.Bool.{cases_Bool, cases_eq, and_from, and_parts, cond-true, cond-false, eq-eqb, ne_eqb}
use Rattle.std.proofs.lemmas.List.Elements.{All-cons, All-head, All-nil, All-tail}
use Rattle.obs_graph.specs.declared.Ends.{Ends}
use Rattle.obs_graph.specs.inner.Joined.{InRange, renamed_one}
use Rattle.obs_graph.specs.Positions.{AreBranches, present}
use Rattle.obs_graph.proofs.Present.{none_some}
use Rattle.obs_case.specs.declared.rows.Branch.{Branch}
use Rattle.obs_case.specs.Flags.{changed_at}
use Rattle.obs_network.specs.Live.{is_live_branch, live_ends}
use Rattle.obs_network.proofs.MergedComponents.{AreRenamedOrMerged, IsOneMore}
use Rattle.obs_network.proofs.OfCase.{IsBranch}
use Rattle.obs_network.proofs.RenamedEnds.{ends_of_row, live_is}

-- the present ones of some branches are in range
pub InRange-present : (n : ℕ) (branches : List (Option Ends)) → AreBranches n branches → InRange n (present branches)
InRange-present n [] all = All-nil (λ e. (e.a < n) × (e.b < n))
InRange-present n (o ∷ os) all = one o (All-head (IsBranch n) o os all) (InRange-present n os (All-tail (IsBranch n) o os all))
  where
    one : (o : Option Ends) → IsBranch n o → InRange n (present os) → InRange n (cons_option o (present os))
    one None b rest = rest
    one (Some e) b rest = All-cons (λ (x : Ends). (x.a < n) × (x.b < n)) e (present os) (b.0, b.1) rest

-- a row whose ends lie on two buses and that is in service is live
live_at : (buses : List ℕ) (row : Branch) → row.inservice ≡ true → (get_or buses row.from 0 ≡ get_or buses row.to 0 → ⊥) → live_ends buses row ≡ Some (ends_of_row buses row)
live_at buses row on ne =
    let apart : not (eqb (get_or buses row.from 0) (get_or buses row.to 0)) ≡ true = ap not (ne_eqb (get_or buses row.from 0) (get_or buses row.to 0) ne) in
    cond-true (is_live_branch buses row) (Some (ends_of_row buses row)) None (and_from row.inservice (not (eqb (get_or buses row.from 0) (get_or buses row.to 0))) on apart)

-- and only such a row
live_parts : (buses : List ℕ) (row : Branch) (x : Ends) → live_ends buses row ≡ Some x → (row.inservice ≡ true) × (get_or buses row.from 0 ≡ get_or buses row.to 0 → ⊥)
live_parts buses row x is =
    elim (cases_Bool (is_live_branch buses row)) [
      | inl e ↦
          let p = and_parts row.inservice (not (eqb (get_or buses row.from 0) (get_or buses row.to 0))) e in
          (p.0, λ same. clash (eqb (get_or buses row.from 0) (get_or buses row.to 0)) (eq-eqb (get_or buses row.from 0) (get_or buses row.to 0) same) p.1)
      | inr e ↦ absurd (none_some x (sym (cond-false (is_live_branch buses row) (Some (ends_of_row buses row)) None e) ∙ is))
    ]
  where
    clash : (b : Bool) → b ≡ true → not b ≡ true → ⊥
    clash true e f = cc f
    clash false e f = cc e

-- the buses of each row's nodes go by new names
abbrev pub Follows : List ℕ → List ℕ → (ℕ → ℕ) → Branch → Type 0
Follows old new h row = (get_or new row.from 0 ≡ h (get_or old row.from 0)) × (get_or new row.to 0 ≡ h (get_or old row.to 0))

module _ (old new : List ℕ) (h : ℕ → ℕ) where
  two : (row : Branch) → Follows old new h row → ends_of_row new row ≡ renamed_one h (ends_of_row old row)
  two row f =
      let of : ℕ → ℕ → Ends = λ a b. record { a = a; b = b } in
      ap (λ a. of a (get_or new row.to 0)) f.0 ∙ ap (λ b. of (h (get_or old row.from 0)) b) f.1

  row_there : (row : Branch) (x : Ends) → Follows old new h row → live_ends old row ≡ Some x → (h x.a ≡ h x.b) ⊎ (live_ends new row ≡ Some (renamed_one h x))
  row_there row x f is =
      let own = live_is old row x is in
      let parts = live_parts old row x is in
      elim (cases_eq (get_or new row.from 0) (get_or new row.to 0)) [
        | inl same ↦ inl (ap (λ (y : Ends). h y.a) (sym own) ∙ sym f.0 ∙ same ∙ f.1 ∙ ap (λ (y : Ends). h y.b) own)
        | inr ne ↦ inr (live_at new row parts.0 ne ∙ ap Some (two row f ∙ ap (renamed_one h) own))
      ]

  row_from : (row : Branch) (y : Ends) → Follows old new h row → live_ends new row ≡ Some y → (x : Ends) × (live_ends old row ≡ Some x) × (y ≡ renamed_one h x)
  row_from row y f is =
      let parts = live_parts new row y is in (
        ends_of_row old row,
        live_at old row parts.0 (λ same. parts.1 (f.0 ∙ ap h same ∙ sym f.1)),
        sym (live_is new row y is) ∙ two row f,
      )

  there_at : (rows : List Branch) → All (Follows old new h) rows → (k : ℕ) (x : Ends) → get_or (map (live_ends old) rows) k None ≡ Some x
      → (h x.a ≡ h x.b) ⊎ (get_or (map (live_ends new) rows) k None ≡ Some (renamed_one h x))
  there_at [] all k x is = absurd (none_some x is)
  there_at (row ∷ rows) all zero x is = row_there row x (All-head (Follows old new h) row rows all) is
  there_at (row ∷ rows) all (suc k) x is = there_at rows (All-tail (Follows old new h) row rows all) k x is

  from_at : (rows : List Branch) → All (Follows old new h) rows → (k : ℕ) (y : Ends) → get_or (map (live_ends new) rows) k None ≡ Some y
      → (x : Ends) × (get_or (map (live_ends old) rows) k None ≡ Some x) × (y ≡ renamed_one h x)
  from_at [] all k y is = absurd (none_some y is)
  from_at (row ∷ rows) all zero y is = row_from row y (All-head (Follows old new h) row rows all) is
  from_at (row ∷ rows) all (suc k) y is = from_at rows (All-tail (Follows old new h) row rows all) k y is

  -- the same rows over buses of new names
  pub rows_followed : (rows : List Branch) → All (Follows old new h) rows → AreRenamedOrMerged (map (live_ends old) rows) (map (live_ends new) rows) h
  rows_followed rows all = record { there = there_at rows all; from = from_at rows all }

-- the buses of the nodes of the row at a place
abbrev pub row_ends : List ℕ → List Branch → ℕ → Ends
row_ends buses rows at = record {
  a = get_or buses (get_or (map (λ (row : Branch). row.from) rows) at 0) 0;
  b = get_or buses (get_or (map (λ (row : Branch). row.to) rows) at 0) 0;
}

abbrev pub with_service : Bool → ℕ → List Branch → List Branch
with_service inservice at rows = changed_at (λ (row : Branch). record row { inservice = inservice }) at rows

-- a row put in service is one more, beside those with it out of service
pub one_more_row : (buses : List ℕ) (rows : List Branch) (at : ℕ) → at < length rows
    → IsOneMore (map (live_ends buses) (with_service false at rows)) (map (live_ends buses) (with_service true at rows)) (row_ends buses rows at)
unfolding changed_at
one_more_row buses [] at l = absurd (omega arith)
one_more_row buses (row ∷ rows) zero l =
    let put : Branch = record row { inservice = true } in
    record {
      at = 0;
      out = refl;
      come = elim (cases_eq (get_or buses row.from 0) (get_or buses row.to 0)) [ inl same ↦ inl same | inr ne ↦ inr (live_at buses put refl ne) ];
      own = λ x is. sym (live_is buses put x is);
      others = λ k ne. elsewhere k ne;
    }
  where
    elsewhere : (k : ℕ) → (k ≡ 0 → ⊥) → get_or (map (live_ends buses) (record row { inservice = true } ∷ rows)) k None ≡ get_or (map (live_ends buses) (record row { inservice = false } ∷ rows)) k None
    elsewhere zero ne = absurd (ne refl)
    elsewhere (suc k) ne = refl
one_more_row buses (row ∷ rows) (suc at) l =
    let rest = one_more_row buses rows at (omega (arith, l)) in
    record {
      at = suc rest.at;
      out = rest.out;
      come = rest.come;
      own = rest.own;
      others = λ k ne. behind (live_ends buses row) (map (live_ends buses) (with_service false at rows)) (map (live_ends buses) (with_service true at rows)) rest.at rest.others k ne;
    }
  where
    behind : (o : Option Ends) (xs ys : List (Option Ends)) (i : ℕ) → ((k : ℕ) → (k ≡ i → ⊥) → get_or ys k None ≡ get_or xs k None)
        → (k : ℕ) → (k ≡ suc i → ⊥) → get_or (o ∷ ys) k None ≡ get_or (o ∷ xs) k None
    behind o xs ys i others zero ne = refl
    behind o xs ys i others (suc k) ne = others k (λ same. ne (ap suc same))
