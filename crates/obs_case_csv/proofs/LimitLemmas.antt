-- The limit of rows stays as tables are read.
use Rattle.std.proofs.Common.{ℕ, ◌≡◌, ◌∙◌, refl, subst, List, Option, Some, None, Result, Ok, Err}
use Rattle.obs_case.specs.Tables.{Tables, no_rows_within}
use Rattle.obs_case_csv.specs.declared.faults.Table.{Table}
use Rattle.obs_case_csv.specs.declared.faults.Table.TheVariants.{Nodes, Switches, Branches, Meters, Candidates}
use Rattle.obs_case_csv.specs.declared.faults.TableFault.{TableFault}
use Rattle.obs_case_csv.specs.Read.{fault_in, rows_in, tables_after, tables_or, tables_within, then_read, then_read_given}
use Rattle.obs_case_csv.proofs.ReadLemmas.{rows_in-most}

-- tables that were read have this limit
abbrev pub HasLimit : ℕ → Result Tables TableFault → Type 0
HasLimit most (Ok t) = t.most ≡ most
HasLimit most (Err fault) = Unit {0}

module _ (most : ℕ) where
  pub then_read-limit : (table : Table) (bytes : List ℕ) (r : Result Tables TableFault) → HasLimit most r → HasLimit most (then_read table bytes r)
  then_read-limit table bytes (Ok t) h =
      elim (fault_in table t bytes) as (λ o. HasLimit most (tables_or o (rows_in table t bytes))) [
        | None ↦ rows_in-most table t bytes ∙ h
        | Some fault ↦ tt
      ]
  then_read-limit table bytes (Err fault) h = tt

  then_given-limit : (bytes : Option (List ℕ)) (r : Result Tables TableFault) → HasLimit most r → HasLimit most (then_read_given Candidates bytes r)
  then_given-limit None r h = h
  then_given-limit (Some bytes) r h = then_read-limit Candidates bytes r h

  pub tables_within-limit : (nodes switches branches meters : List ℕ) (candidates : Option (List ℕ)) (t : Tables) → tables_within most nodes switches branches meters candidates ≡ Ok t → t.most ≡ most
  tables_within-limit nodes switches branches meters candidates t e =
      let one = then_read Nodes nodes (Ok (no_rows_within most)) in
      let two = then_read Switches switches one in
      let three = then_read Branches branches two in
      let four = then_read Meters meters three in
      subst (HasLimit most) e
      (then_given-limit candidates four
      (then_read-limit Meters meters three (then_read-limit Branches branches two (then_read-limit Switches switches one (then_read-limit Nodes nodes (Ok (no_rows_within most)) refl)))))

pub tables_after-limit : (meters : List ℕ) (candidates : Option (List ℕ)) (t u : Tables) → tables_after meters candidates t ≡ Ok u → u.most ≡ t.most
tables_after-limit meters candidates t u e =
    subst (HasLimit t.most) e (then_given-limit t.most candidates (then_read Meters meters (Ok t)) (then_read-limit t.most Meters meters (Ok t) refl))
