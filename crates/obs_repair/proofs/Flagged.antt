-- A flag that is set to what it is changes nothing, and any other does.
use Rattle.std.proofs.Common.{◌≡◌, ◌≢◌, ℕ, zero, suc, ◌+◌, ◌<◌, Bool, true, false, List, [], ◌∷◌, length, get_or, refl, sym, ap, ◌∙◌, arith, subst}
use Rattle.std.specs.Prelude.{MatchBool, if◌then◌else◌}
use Rattle.std.specs.List.{list_any}
use Rattle.std.proofs.lemmas.Bool.{false≢true, true≢false}
use Rattle.obs_case.specs.declared.rows.Branch.{Branch}
use Rattle.obs_case.specs.declared.rows.Meter.{Meter}
use Rattle.obs_case.specs.declared.rows.Switch.{Switch}
use Rattle.obs_case.specs.Flags.{changed_at, with_branch_inservice, with_closed, with_meter_inservice}
use Rattle.obs_case.specs.Tables.{IsValid, Tables}
use Rattle.obs_case.proofs.ValidLemmas.{valid-with_branch_inservice, valid-with_closed, valid-with_meter_inservice}
use Rattle.obs_network.specs.Angles.{has_angle}
use Rattle.obs_network.specs.Network.{Rows, case_meters, rows_of}
use Rattle.obs_network.specs.inner.Network.{case_position_count}
use Rattle.obs_network.proofs.Edited.{flags-with_meter}
use Rattle.obs_network.proofs.OfCase.{length-case_meters}
use Rattle.obs_network.proofs.OfLaws.{rows-with_branch, rows-with_closed, rows-with_meter}
use Rattle.obs_repair.specs.declared.edit.Edit.{Edit}
use Rattle.obs_repair.specs.declared.edit.Edit.TheVariants as edit
use Rattle.obs_repair.specs.Edits.{edited}
use mathlib.Core.Bool.{beq}

-- whether two flags are the same
same_flag : (a c : Bool) → MatchBool (beq a c) (c ≡ a) (c ≢ a)
same_flag true true = refl
same_flag true false = λ e. false≢true e
same_flag false true = λ e. true≢false e
same_flag false false = refl

on_match : {P Q R S : Type 0} (b : Bool) → (P → R) → (Q → S) → MatchBool b P Q → MatchBool b R S
on_match true f g x = f x
on_match false f g x = g x

module _ {R : Type 0} (change : R → R) where
  -- a row that doesn't change leaves the list as it is
  changed_same : (rows : List R) (at : ℕ) (d : R) → at < length rows → change (get_or rows at d) ≡ get_or rows at d → changed_at change at rows ≡ rows
  unfolding changed_at
  changed_same [] at d low same = absurd (omega (arith, low))
  changed_same (row ∷ rows) zero d low same = ap (λ x. x ∷ rows) same
  changed_same (row ∷ rows) (suc at) d low same = ap (λ xs. row ∷ xs) (changed_same rows at d (omega (arith, low)) same)

  changed_row : (rows : List R) (at : ℕ) (d : R) → at < length rows → get_or (changed_at change at rows) at d ≡ change (get_or rows at d)
  unfolding changed_at
  changed_row [] at d low = absurd (omega (arith, low))
  changed_row (row ∷ rows) zero d low = refl
  changed_row (row ∷ rows) (suc at) d low = changed_row rows at d (omega (arith, low))

pub set_switch : (t : Tables) (at : ℕ) (closed : Bool) (row : Switch) → at < length t.switches
    → MatchBool (beq (get_or t.switches at row).closed closed) (with_closed t at closed ≡ t) (with_closed t at closed ≢ t)
set_switch t at closed row low =
    let change : Switch → Switch = λ r. record r { closed = closed } in
    let was = get_or t.switches at row in
    on_match (beq was.closed closed)
    (λ s. ap (λ (rows : List Switch). record t { switches = rows }) (changed_same change t.switches at row low (ap (λ (b : Bool). record was { closed = b }) s)))
    (λ n e. n (sym (ap (λ (r : Switch). r.closed) (changed_row change t.switches at row low)) ∙ ap (λ (x : Tables). (get_or x.switches at row).closed) e))
    (same_flag was.closed closed)

pub set_branch : (t : Tables) (at : ℕ) (inservice : Bool) (row : Branch) → at < length t.branches
    → MatchBool (beq (get_or t.branches at row).inservice inservice) (with_branch_inservice t at inservice ≡ t) (with_branch_inservice t at inservice ≢ t)
set_branch t at inservice row low =
    let change : Branch → Branch = λ r. record r { inservice = inservice } in
    let was = get_or t.branches at row in
    on_match (beq was.inservice inservice)
    (λ s. ap (λ (rows : List Branch). record t { branches = rows }) (changed_same change t.branches at row low (ap (λ (b : Bool). record was { inservice = b }) s)))
    (λ n e. n (sym (ap (λ (r : Branch). r.inservice) (changed_row change t.branches at row low)) ∙ ap (λ (x : Tables). (get_or x.branches at row).inservice) e))
    (same_flag was.inservice inservice)

pub set_meter : (t : Tables) (at : ℕ) (inservice : Bool) (row : Meter) → at < length t.meters
    → MatchBool (beq (get_or t.meters at row).inservice inservice) (with_meter_inservice t at inservice ≡ t) (with_meter_inservice t at inservice ≢ t)
set_meter t at inservice row low =
    let change : Meter → Meter = λ r. record r { inservice = inservice } in
    let was = get_or t.meters at row in
    on_match (beq was.inservice inservice)
    (λ s. ap (λ (rows : List Meter). record t { meters = rows }) (changed_same change t.meters at row low (ap (λ (b : Bool). record was { inservice = b }) s)))
    (λ n e. n (sym (ap (λ (r : Meter). r.inservice) (changed_row change t.meters at row low)) ∙ ap (λ (x : Tables). (get_or x.meters at row).inservice) e))
    (same_flag was.inservice inservice)

-- an edit keeps the numbers of rows
pub rows-edited : (t : Tables) (e : Edit) → rows_of (edited t e) ≡ rows_of t
rows-edited t (edit.Switch at closed) = rows-with_closed t at closed
rows-edited t (edit.Branch at inservice) = rows-with_branch t at inservice
rows-edited t (edit.Meter at inservice) = rows-with_meter t at inservice

pub same_candidates : (t : Tables) (e : Edit) → (edited t e).candidates ≡ t.candidates
same_candidates t (edit.Switch at closed) = refl
same_candidates t (edit.Branch at inservice) = refl
same_candidates t (edit.Meter at inservice) = refl

-- and no item becomes an angle item
pub same_angles : (t : Tables) (e : Edit) → has_angle (edited t e) ≡ has_angle t
same_angles t (edit.Switch at closed) = refl
same_angles t (edit.Branch at inservice) = refl
same_angles t (edit.Meter at inservice) = ap (list_any (λ (b : Bool). b)) (flags-with_meter t at inservice)

-- so the positions stay as many
positions_of : Rows → Bool → ℕ
positions_of r some = r.branches + (if some then r.meters + r.candidates else 0)

pub positions-edited : (t : Tables) (e : Edit) → case_position_count (edited t e) ≡ case_position_count t
unfolding positions_of
positions-edited t e = ap (λ r. positions_of r (has_angle (edited t e))) (rows-edited t e) ∙ ap (positions_of (rows_of t)) (same_angles t e)

-- nor does the number of meters change
pub meters-edited : (t : Tables) (e : Edit) → length (case_meters (edited t e)) ≡ length (case_meters t)
meters-edited t e = length-case_meters (edited t e) ∙ (ap (λ (r : Rows). r.meters) (rows-edited t e) ∙ sym (length-case_meters t))

-- a case stays valid over an edit
pub valid_edited : (t : Tables) (e : Edit) → IsValid t → IsValid (edited t e)
valid_edited t (edit.Switch at closed) v = valid-with_closed t v at closed
valid_edited t (edit.Branch at inservice) v = valid-with_branch_inservice t v at inservice
valid_edited t (edit.Meter at inservice) v = valid-with_meter_inservice t v at inservice

pub valid_now : (t before : Tables) (e : Edit) → t ≡ edited before e → IsValid before → IsValid t
valid_now t before e same v = subst (λ (x : Tables). IsValid x) (sym same) (valid_edited before e v)
