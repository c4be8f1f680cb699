-- The row that a line means is there.
use Rattle.std.proofs.Common.{inl, inr, [], ◌≡◌, ℕ, ◌<◌, Bool, true, false, Option, Some, None, List, length, refl, sym, ap, ◌∙◌, subst, arith}
use Rattle.std.specs.Prelude.{◌&&◌, Result, Ok, Err, if◌then◌else◌, not}
use Rattle.std.specs.Str.{bytes_eq}
use Rattle.std.proofs.lemmas.Bool.{cases_Bool}
use Rattle.std.proofs.lemmas.List.{length-map}
use Rattle.std.proofs.lemmas.List.Quantifiers.{position-Some}
use Rattle.obs_case.specs.declared.rows.Branch.{Branch}
use Rattle.obs_case.specs.declared.rows.Meter.{Meter}
use Rattle.obs_case.specs.declared.rows.Switch.{Switch}
use Rattle.obs_case.specs.Tables.{Tables, branch_names, meter_names, position_of, switch_names}
use Rattle.obs_script.specs.declared.command.Ask.{Ask}
use Rattle.obs_script.specs.declared.fault.LineFault.{LineFault}
use Rattle.obs_script.specs.Commands.{Said, asks, closes, command_of, loses, opens, regains, restores, trips}
use Rattle.obs_repair.specs.declared.edit.Edit.{Edit}
use Rattle.obs_repair.specs.declared.edit.Edit.TheVariants as edit
use Rattle.obs_repair.specs.declared.edit.Meant.{Meant}
use Rattle.obs_repair.specs.declared.edit.Meant.TheVariants.{Edits, Asks}
use Rattle.obs_repair.specs.declared.edit.Refusal.{Refusal}
use Rattle.obs_repair.specs.declared.edit.Refusal.TheVariants.{NoCandidates, UnknownBranch, UnknownMeter, UnknownSwitch}
use Rattle.obs_repair.specs.inner.Edits.{HasRow}
use Rattle.obs_repair.specs.Lines.{edit_at, is_place, meaning_of, meant_by, meant_of, refusal_of}

abbrev same_meaning : Result Meant Refusal → Result Meant Refusal → Type 0
same_meaning x y = x ≡ y

-- the row that a line means is there
module _ (t : Tables) (offered : Bool) where
  row_at : (names : List (List ℕ)) (name : List ℕ) (n : ℕ) (edit : ℕ → Edit) (unknown : Refusal) (e : Edit) → length names ≡ n → ((at : ℕ) → at < n → HasRow t (edit at))
      → (found : Option ℕ) → position_of names name ≡ found → edit_at found edit unknown ≡ Ok (Edits e) → HasRow t e
  row_at names name n edit unknown e count there None is h = cc
  row_at names name n edit unknown e count there (Some at) is h =
      let low = (position-Some (bytes_eq name) names at [] is).0 in
      subst (λ (x : Edit). HasRow t x) (meant_edit (edit at) e h) (there at (omega (arith, low, count)))
    where
      meant_edit : (x y : Edit) → same_meaning (Ok (Edits x)) (Ok (Edits y)) → x ≡ y
      meant_edit x y same = cc

  no_edit : (place : Bool) (ask : Ask) (e : Edit) → (if place && not offered then Err NoCandidates else Ok (Asks ask)) ≡ Ok (Edits e) → ⊥
  no_edit place ask e h = elim (cases_Bool (place && not offered)) [
    | inl y ↦ refused (sym (ap (λ (b : Bool). if b then Err NoCandidates else Ok (Asks ask)) y) ∙ h)
    | inr y ↦ asked (sym (ap (λ (b : Bool). if b then Err NoCandidates else Ok (Asks ask)) y) ∙ h)
  ]
    where
      refused : same_meaning (Err NoCandidates) (Ok (Edits e)) → ⊥
      refused s = cc

      asked : same_meaning (Ok (Asks ask)) (Ok (Edits e)) → ⊥
      asked s = cc

  row-said : (said : Said) (e : Edit) → meaning_of t offered said ≡ Ok (Edits e) → HasRow t e
  row-said (opens name) e h = row_at (switch_names t) name (length t.switches) (λ at. edit.Switch at false) UnknownSwitch e (length-map t.switches (λ (r : Switch). r.name)) (λ at l. l) (position_of (switch_names t) name) refl h
  row-said (closes name) e h = row_at (switch_names t) name (length t.switches) (λ at. edit.Switch at true) UnknownSwitch e (length-map t.switches (λ (r : Switch). r.name)) (λ at l. l) (position_of (switch_names t) name) refl h
  row-said (trips name) e h = row_at (branch_names t) name (length t.branches) (λ at. edit.Branch at false) UnknownBranch e (length-map t.branches (λ (r : Branch). r.name)) (λ at l. l) (position_of (branch_names t) name) refl h
  row-said (restores name) e h = row_at (branch_names t) name (length t.branches) (λ at. edit.Branch at true) UnknownBranch e (length-map t.branches (λ (r : Branch). r.name)) (λ at l. l) (position_of (branch_names t) name) refl h
  row-said (loses name) e h = row_at (meter_names t) name (length t.meters) (λ at. edit.Meter at false) UnknownMeter e (length-map t.meters (λ (r : Meter). r.name)) (λ at l. l) (position_of (meter_names t) name) refl h
  row-said (regains name) e h = row_at (meter_names t) name (length t.meters) (λ at. edit.Meter at true) UnknownMeter e (length-map t.meters (λ (r : Meter). r.name)) (λ at l. l) (position_of (meter_names t) name) refl h
  row-said (asks ask) e h = absurd (no_edit (is_place ask) ask e h)

  row-by : (said : Result Said LineFault) (e : Edit) → meant_by t offered said ≡ Ok (Edits e) → HasRow t e
  row-by (Err fault) e h = absurd (refused (refusal_of fault) h)
    where
      refused : (why : Refusal) → same_meaning (Err why) (Ok (Edits e)) → ⊥
      refused why s = cc
  row-by (Ok said) e h = row-said said e h

  pub row-meant : (line : List ℕ) (e : Edit) → meant_of t offered line ≡ Ok (Edits e) → HasRow t e
  row-meant line e h = row-by (command_of line) e h
