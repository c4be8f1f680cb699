-- A row that is taken out of service and put back.
use Rattle.std.proofs.Common.{inl, inr, ◌⊎◌, ◌≡◌, ℕ, zero, suc, ◌<◌, true, false, Option, None, List, [], ◌∷◌, length, map, get_or, refl, sym, ap, ◌∙◌, arith}
use Rattle.std.specs.Prelude.{is_some}
use Rattle.std.specs.List.{range_with_len}
use Rattle.std.proofs.lemmas.Bool.{true≢false}
use Rattle.std.proofs.lemmas.List.{get_or_append_left}
use Rattle.obs_graph.specs.declared.Ends.{Ends}
use Rattle.obs_case.specs.declared.rows.Branch.{Branch}
use Rattle.obs_case.specs.Flags.{changed_at, with_branch_inservice}
use Rattle.obs_case.specs.Tables.{Tables}
use Rattle.obs_matroid.specs.Lists.{In}
use Rattle.obs_matroid.proofs.Lists.{In-filter_from}
use Rattle.obs_matroid.proofs.Ranges.{below_from}
use Rattle.obs_network.specs.Components.{if_energised}
use Rattle.obs_network.specs.Live.{live_ends}
use Rattle.obs_network.specs.Network.{case_angles, case_branches, case_components, case_energised, case_live, case_rows}
use Rattle.obs_network.specs.Switched.{case_buses}
use Rattle.obs_network.proofs.Edited.{branch_is}
use Rattle.obs_network.proofs.MergedRows.{with_service}
use Rattle.obs_network.proofs.OfCase.{length-case_rows}
use Rattle.obs_network.specs.Parted.{outage_case}
use Rattle.obs_outage.specs.Outages.{is_outage_row, outage_rows}

twice : (rows : List Branch) (at : ℕ) → with_service true at (with_service false at rows) ≡ with_service true at rows
unfolding changed_at
twice [] at = refl
twice (row ∷ rows) zero = refl
twice (row ∷ rows) (suc at) = ap (λ l. row ∷ l) (twice rows at)

pub put_back : (t : Tables) (e : ℕ) → with_branch_inservice (outage_case t e) e true ≡ with_branch_inservice t e true
put_back t e = ap (λ (rows : List Branch). record t { branches = rows }) (twice t.branches e)

-- an outage case is the case itself, or the case with the row put back is
pub out_or_back : (t : Tables) (e : ℕ) → (outage_case t e ≡ t) ⊎ (with_branch_inservice (outage_case t e) e true ≡ t)
out_or_back t e = elim (branch_is t e) [ inl is ↦ inl (sym is) | inr is ↦ inr (put_back t e ∙ sym is) ]

-- a row out of service isn't live, and so not present
not_live : (buses : List ℕ) (rows : List Branch) (at : ℕ) → get_or (map (live_ends buses) (with_service false at rows)) at None ≡ None
unfolding changed_at
not_live buses [] at = refl
not_live buses (row ∷ rows) zero = refl
not_live buses (row ∷ rows) (suc at) = not_live buses rows at

pub at_map : {X : Type 0} (f : X → X) (d : X) → f d ≡ d → (xs : List X) (k : ℕ) → get_or (map f xs) k d ≡ f (get_or xs k d)
at_map f d same [] k = sym same
at_map f d same (x ∷ xs) zero = refl
at_map f d same (x ∷ xs) (suc k) = at_map f d same xs k

pub row_gone : (t : Tables) (e : ℕ) → get_or (case_rows (outage_case t e)) e None ≡ None
unfolding case_rows case_live
row_gone t e =
    let out = outage_case t e in
    let f = if_energised (case_components out) (case_energised out) in
    at_map f None refl (case_live out) e ∙ ap f (not_live (case_buses t) t.branches e)

pub row_here : (t : Tables) (e : ℕ) → e < length t.branches → get_or (case_branches t) e None ≡ get_or (case_rows t) e None
unfolding case_branches
row_here t e l = get_or_append_left (case_rows t) (case_angles t) None e (omega (arith, l, length-case_rows t))

-- a row of the list is one of the table, and present
pub row_low : (t : Tables) (e : ℕ) → In e (outage_rows t) → e < length t.branches
unfolding outage_rows
row_low t e i = below_from (length t.branches) e (In-filter_from (is_outage_row t) e (range_with_len 0 (length t.branches)) i).0

pub row_present : (t : Tables) (e : ℕ) → In e (outage_rows t) → is_some (get_or (case_branches t) e None) ≡ true
unfolding outage_rows
row_present t e i = (In-filter_from (is_outage_row t) e (range_with_len 0 (length t.branches)) i).1

-- so it was in service, and is again when it is put back
pub restored : (t : Tables) (e : ℕ) → In e (outage_rows t) → with_branch_inservice (outage_case t e) e true ≡ t
restored t e i =
    elim (out_or_back t e) [
      | inl out ↦
          let gone : get_or (case_branches t) e None ≡ None = row_here t e (row_low t e i) ∙ ap (λ (x : Tables). get_or (case_rows x) e None) (sym out) ∙ row_gone t e in
          absurd (true≢false (sym (row_present t e i) ∙ ap (λ (o : Option Ends). is_some o) gone))
      | inr back ↦ back
    ]
