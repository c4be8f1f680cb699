-- The tables that follow a file: what is read from them, and what they are.
use Rattle.std.proofs.Common.{◌≡◌, ℕ, List, [], Option, Some, None, Result, Ok, Err, refl, sym, ap, ◌∙◌, subst}
use Rattle.obs_case.specs.Tables.{IsValid, Tables}
use Rattle.obs_case_csv.specs.declared.faults.Table.{Table}
use Rattle.obs_case_csv.specs.declared.faults.Table.TheVariants.{Meters, Candidates}
use Rattle.obs_case_csv.specs.declared.faults.TableFault.{TableFault}
use Rattle.obs_case_csv.specs.inner.OneTable.{HasCandidates, IsTableOf}
use Rattle.obs_case_csv.specs.Read.{fault_in, rows_in, tables_after, tables_or, then_read, then_read_given}
use Rattle.obs_case_csv.specs.Rows.{names_in}
use Rattle.obs_case_csv.proofs.TableLemmas.{TableIsRead-holds}

fine : (fault : Option TableFault) (rows u : Tables) → tables_or fault rows ≡ Ok u → (fault ≡ None) × (u ≡ rows)
fine None rows u is = (refl, (let same : Ok rows ≡ Ok u = is in let e : rows ≡ u = cc in sym e))
fine (Some fault) rows u is = cc

-- a table that valid tables have no rows of
module _ (table : Table) (bytes : List ℕ) (t u : Tables) (valid : IsValid t) (empty : names_in table t ≡ []) where
  table_is : then_read table bytes (Ok t) ≡ Ok u → IsTableOf table bytes t u
  table_is is =
      let f = fine (fault_in table t bytes) (rows_in table t bytes) u is in
      subst (IsTableOf table bytes t) (sym f.1) ((TableIsRead-holds table t bytes valid empty).0 f.0)

  table_read : IsTableOf table bytes t u → then_read table bytes (Ok t) ≡ Ok u
  table_read is =
      let r = (TableIsRead-holds table t bytes valid empty).1 u is in
      ap (λ f. tables_or f (rows_in table t bytes)) r.0 ∙ ap (λ v. Ok v) r.1

-- no candidates came with the meters
still_none : (bytes : List ℕ) (t u : Tables) → IsTableOf Meters bytes t u → names_in Candidates t ≡ [] → names_in Candidates u ≡ []
still_none bytes t u is none = ap (names_in Candidates) is.rows.0 ∙ none

module _ (meters : List ℕ) (file tables : Tables) (valid : IsValid file) (no_meters : names_in Meters file ≡ []) (no_candidates : names_in Candidates file ≡ []) where
  given_is : (candidates : Option (List ℕ)) (u : Tables) → IsTableOf Meters meters file u → then_read_given Candidates candidates (Ok u) ≡ Ok tables → HasCandidates candidates u tables
  given_is None u is e = (let same : Ok u ≡ Ok tables = e in let r : u ≡ tables = cc in sym r)
  given_is (Some bytes) u is e = table_is Candidates bytes u tables is.valid (still_none meters file u is no_candidates) e

  none_given : (candidates : Option (List ℕ)) (fault : TableFault) → then_read_given Candidates candidates (Err fault) ≡ Ok tables → ⊥
  none_given None fault e = cc
  none_given (Some bytes) fault e = cc

  pub tables_are : (candidates : Option (List ℕ)) (r : Result Tables TableFault) → then_read Meters meters (Ok file) ≡ r → then_read_given Candidates candidates r ≡ Ok tables
      → (metered : Tables) × IsTableOf Meters meters file metered × HasCandidates candidates metered tables
  tables_are candidates (Ok u) read e = let is = table_is Meters meters file u valid no_meters read in (u, is, given_is candidates u is e)
  tables_are candidates (Err fault) read e = absurd (none_given candidates fault e)

  given_read : (candidates : Option (List ℕ)) (u : Tables) → IsTableOf Meters meters file u → HasCandidates candidates u tables → then_read_given Candidates candidates (Ok u) ≡ Ok tables
  given_read None u is has = ap (λ t. Ok t) (sym has)
  given_read (Some bytes) u is has = table_read Candidates bytes u tables is.valid (still_none meters file u is no_candidates) has

  pub tables_read : (candidates : Option (List ℕ)) (u : Tables) → IsTableOf Meters meters file u → HasCandidates candidates u tables → tables_after meters candidates file ≡ Ok tables
  tables_read candidates u is has = ap (then_read_given Candidates candidates) (table_read Meters meters file u valid no_meters is) ∙ given_read candidates u is has

pub given_valid : (candidates : Option (List ℕ)) (before tables : Tables) → IsValid before → HasCandidates candidates before tables → IsValid tables
given_valid None before tables valid has = subst IsValid (sym has) valid
given_valid (Some bytes) before tables valid has = has.valid

-- what is read exactly where it is so ends with a fault exactly where nothing is so
pub fault_where_none : {E : Type 0} (r : Result Tables E) (Is : Tables → Type 0) → ((tables : Tables) → (r ≡ Ok tables → Is tables) × (Is tables → r ≡ Ok tables))
    → ((fault : E) → r ≡ Err fault → (tables : Tables) → ¬ Is tables) × (((tables : Tables) → ¬ Is tables) → (fault : E) × (r ≡ Err fault))
fault_where_none (Ok t) Is law = (λ fault is tables has. cc, λ none. absurd (none t ((law t).0 refl)))
fault_where_none (Err fault) Is law = (λ other is tables has. (let read = (law tables).1 has in cc), λ none. (fault, refl))
