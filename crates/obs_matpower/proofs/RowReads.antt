-- What rows that are read are.
use Rattle.std.proofs.Common.{◌≡◌, ℕ, ◌+◌, ◌<◌, Bool, false, ◌&&◌, leb, List, [], ◌∷◌, ◌++◌, length, Option, Some, None, Result, Ok, Err, refl, sym, ap, ◌∙◌, subst, inl, inr, arith}
use Rattle.std.proofs.lemmas.Bool.{and_parts, cases_Bool, leb-false}
use Rattle.std.proofs.lemmas.List.{map-append}
use Rattle.obs_case.specs.declared.rows.Branch.{Branch}
use Rattle.obs_bus_branch.specs.Buses.{branch_name, has_bus}
use Rattle.obs_bus_branch.specs.inner.Buses.{AreNamed}
use Rattle.obs_bus_branch.specs.Rows.{at_end, on_ok, read_rows}
use Rattle.obs_bus_branch.proofs.NumberLemmas.{AreBuses-push, AreNamed-push}
use Rattle.obs_bus_branch.proofs.RowsRead.{ReadSoFar}
use Rattle.obs_matpower.specs.declared.fault.MatFault.{MatFault}
use Rattle.obs_matpower.specs.declared.stop.Stop.{Stop}
use Rattle.obs_matpower.specs.declared.stop.Stop.TheVariants.{Fault, NoMemory}
use Rattle.obs_matpower.specs.declared.fields.BusType.{BusType}
use Rattle.obs_matpower.specs.inner.Case.{IsBranchRow, IsBusRow}
use Rattle.obs_matpower.specs.Fields.{is_short, is_source, number_in, status_in, type_in}
use Rattle.obs_matpower.specs.Read.{BusRow, branch_between, branch_of, bus_of, buses_of, read_branch, read_bus}
use Rattle.obs_matpower.specs.inner.Reading.{Answers, AreBuses, read_text}
use Rattle.obs_matpower.specs.inner.Rows.{rows_of}
use Rattle.obs_matpower.proofs.NumberLemmas.{number_in-lt}

-- ---- bus rows

-- a bus that is read is that of its row, and a new one for which there is room
pub record BusRead (most : ℕ) (earlier : List BusRow) (row : List ℕ) (bus : BusRow) : Type 0 where
  pub few : length earlier < most
  pub is_row : IsBusRow row bus
  pub fresh : has_bus (buses_of earlier) bus.number ≡ false

bus_of-is : (most : ℕ) (earlier : List BusRow) (at : ℕ) (row : List ℕ) (number : Option ℕ) (kind : Option BusType) (bus : BusRow) → length earlier < most → is_short 2 row ≡ false
    → number_in 1 row ≡ number → type_in 2 row ≡ kind → bus_of earlier at number kind ≡ Ok bus → BusRead most earlier row bus
bus_of-is most earlier at row None kind bus few long n k is = cc
bus_of-is most earlier at row (Some number) None bus few long n k is = cc
bus_of-is most earlier at row (Some number) (Some kind) bus few long n k is =
    elim (cases_Bool (has_bus (buses_of earlier) number)) [
      | inl there ↦ (let t = rw there at is in cc)
      | inr fresh ↦
          let ok = rw fresh at is in
          let made : BusRow = record { number = number; kind = kind } in
          let same : made ≡ bus = cc in
          subst (BusRead most earlier row) same (record { few = few; is_row = record { long = long; number = n; kind = k }; fresh = fresh })
    ]

pub read_bus-is : (most : ℕ) (earlier : List BusRow) (at : ℕ) (row : List ℕ) (bus : BusRow) → read_bus most earlier at row ≡ Ok bus → BusRead most earlier row bus
read_bus-is most earlier at row bus is =
    elim (cases_Bool (leb most (length earlier))) [
      | inl full ↦ (let t = rw full at is in cc)
      | inr room ↦
          let open_row = rw room at is in
          elim (cases_Bool (is_short 2 row)) [
            | inl short ↦ (let t = rw short at open_row in cc)
            | inr long ↦ bus_of-is most earlier at row (number_in 1 row) (type_in 2 row) bus (leb-false most (length earlier) room) long refl refl (rw long at open_row)
          ]
    ]

pub buses-push : (earlier : List BusRow) (bus : BusRow) → buses_of (earlier ++ bus ∷ []) ≡ buses_of earlier ++ record { number = bus.number; source = is_source bus.kind } ∷ []
buses-push earlier bus = map-append (λ (r : BusRow). record { number = r.number; source = is_source r.kind }) earlier (bus ∷ [])

pub read_bus-good : (most : ℕ) (earlier : List BusRow) (at : ℕ) (row : List ℕ) → AreBuses (buses_of earlier) → (bus : BusRow) → read_bus most earlier at row ≡ Ok bus → AreBuses (buses_of (earlier ++ bus ∷ []))
read_bus-good most earlier at row are bus is =
    let b = read_bus-is most earlier at row bus is in
    subst AreBuses (sym (buses-push earlier bus))
    (AreBuses-push (buses_of earlier) (record { number = bus.number; source = is_source bus.kind }) are (number_in-lt 1 row bus.number b.is_row.number) b.fresh)

-- ---- branch rows

-- a branch that is read is that of its row
branch_of-row : (buses : List BusRow) (k at : ℕ) (row : List ℕ) (from to : Option ℕ) (status : Option Bool) (branch : Branch) → is_short 11 row ≡ false
    → number_in 1 row ≡ from → number_in 2 row ≡ to → status_in 11 row ≡ status → branch_of buses k at from to status ≡ Ok branch → IsBranchRow buses k row branch
branch_of-row buses k at row None to status branch long f t s is = cc
branch_of-row buses k at row (Some from) None status branch long f t s is = cc
branch_of-row buses k at row (Some from) (Some to) None branch long f t s is =
    elim (cases_Bool (has_bus (buses_of buses) from && has_bus (buses_of buses) to)) [
      | inl both ↦ (let u = rw both at is in cc)
      | inr none ↦ (let u = rw none at is in cc)
    ]
branch_of-row buses k at row (Some from) (Some to) (Some status) branch long f t s is =
    elim (cases_Bool (has_bus (buses_of buses) from && has_bus (buses_of buses) to)) [
      | inl both ↦
          let parts = and_parts (has_bus (buses_of buses) from) (has_bus (buses_of buses) to) both in
          let made = branch_between buses k from to status in
          let ok = rw both at is in
          let same : made ≡ branch = cc in
          subst (IsBranchRow buses k row) same
          (record {
            long = long;
            name = refl;
            from = record { number = from; named = f; there = parts.0; place = refl };
            to = record { number = to; named = t; there = parts.1; place = refl };
            status = status;
            stated = s;
            inservice = refl;
          })
      | inr none ↦ (let u = rw none at is in cc)
    ]

-- what a branch that is read is, and how many stand before it
pub read_branch-row : (most : ℕ) (buses : List BusRow) (earlier : List Branch) (at : ℕ) (row : List ℕ) (branch : Branch) → read_branch most buses earlier at row ≡ Ok branch → IsBranchRow buses (length earlier + 1) row branch × (length earlier < most)
read_branch-row most buses earlier at row branch is =
    elim (cases_Bool (leb most (length earlier))) [
      | inl full ↦ (let t = rw full at is in cc)
      | inr room ↦
          let open_row = rw room at is in
          elim (cases_Bool (is_short 11 row)) [
            | inl short ↦ (let t = rw short at open_row in cc)
            | inr long ↦ (
              branch_of-row buses (length earlier + 1) at row (number_in 1 row) (number_in 2 row) (status_in 11 row) branch long refl refl refl (rw long at open_row),
              leb-false most (length earlier) room,
            )
          ]
    ]

pub read_branch-good : (most : ℕ) (buses : List BusRow) (earlier : List Branch) (at : ℕ) (row : List ℕ) → AreNamed 1 earlier → (branch : Branch) → read_branch most buses earlier at row ≡ Ok branch → AreNamed 1 (earlier ++ branch ∷ [])
read_branch-good most buses earlier at row named branch is =
    AreNamed-push 1 earlier branch named ((read_branch-row most buses earlier at row branch is).0.name ∙ ap branch_name (omega arith))

-- ---- how the reading of a text ends, of which the rows so far are held

module _ {R S : Type 0} (read : List R → ℕ → List ℕ → Result R MatFault) (held : List R → S) (Good : List R → Type 0) (ended : Bool) (line : ℕ) (text : List ℕ) (end : Option MatFault) (state : S) (left : List (ℕ × List ℕ))
    (so_far : ReadSoFar read held Good (rows_of ended line text) state left) where
  -- it stops where the row that comes next does
  pub stops_here : (at : ℕ) (row : List ℕ) (rest : List (ℕ × List ℕ)) → left ≡ (at, row) ∷ rest → (one : R → S) (after : S) (stop : Stop) → Answers (read so_far.0 at row) one after (Err stop) → Answers (read_text read ended line text end) held after (Err stop)
  stops_here at row rest is one after NoMemory why = tt
  stops_here at row rest is one after (Fault fault) why =
      ap (λ r. on_ok r (at_end end)) (so_far.1.stated ∙ ap (read_rows read so_far.0) is ∙ ap (λ x. on_ok x (λ r. read_rows read (so_far.0 ++ r ∷ []) rest)) why)

  -- and where no row is left the end of the text decides
  pub all_read : left ≡ [] → read_text read ended line text end ≡ at_end end so_far.0
  all_read none = ap (λ r. on_ok r (at_end end)) (so_far.1.stated ∙ ap (read_rows read so_far.0) none)
