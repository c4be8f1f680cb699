-- What lines that are read are.
use Rattle.std.proofs.Common.{◌≡◌, ℕ, ◌+◌, ◌<◌, Bool, true, false, cond, leb, ◌&&◌, List, [], ◌∷◌, ◌++◌, length, Option, Some, None, Result, Ok, Err, refl, ap, ◌∙◌, subst, inl, inr, arith}
use Rattle.std.proofs.lemmas.Bool.{and_parts, cases_Bool, leb-false}
use Rattle.obs_text.specs.Lines.{lines_of}
use Rattle.obs_case.specs.Tables.{Tables}
use Rattle.obs_case.specs.declared.rows.Branch.{Branch}
use Rattle.obs_bus_branch.specs.Buses.{Bus, branch_name, has_bus, place_of_bus}
use Rattle.obs_bus_branch.specs.inner.Buses.{AreNamed}
use Rattle.obs_bus_branch.specs.Rows.{on_ok, read_rows}
use Rattle.obs_bus_branch.proofs.NumberLemmas.{AreBuses-push, AreNamed-push}
use Rattle.obs_bus_branch.proofs.RowsRead.{ReadSoFar}
use Rattle.obs_ieee_cdf.specs.declared.fault.CdfFault.{CdfFault}
use Rattle.obs_ieee_cdf.specs.declared.stop.Stop.{Stop}
use Rattle.obs_ieee_cdf.specs.declared.stop.Stop.TheVariants.{Fault, NoMemory}
use Rattle.obs_ieee_cdf.specs.inner.Case.{IsBranchLine, IsBusLine}
use Rattle.obs_ieee_cdf.specs.Fields.{bus_field, is_blank_line, number_of, source_of, tap_field, type_field, z_field}
use Rattle.obs_ieee_cdf.specs.inner.Reading.{Answers, AreBuses}
use Rattle.obs_ieee_cdf.specs.Rows.{branch_of, bus_of, numbered, read_branch, read_bus}
use Rattle.obs_ieee_cdf.proofs.NumberLemmas.{number_of-lt}

-- the lines that are left begin with one that is passed over, or with a row
pub numbered_next : (at : ℕ) (left line rest : List ℕ) → lines_of left ≡ line ∷ lines_of rest → (blank : Bool) → is_blank_line line ≡ blank
    → numbered at (lines_of left) ≡ cond blank (numbered (at + 1) (lines_of rest)) ((at, line) ∷ numbered (at + 1) (lines_of rest))
numbered_next at left line rest is blank passed =
    ap (numbered at) is ∙ ap (λ b. cond b (numbered (at + 1) (lines_of rest)) ((at, line) ∷ numbered (at + 1) (lines_of rest))) passed

-- a bus that is read is that of its line, and a new one
pub read_bus-line : (most : ℕ) (earlier : List Bus) (at : ℕ) (line : List ℕ) (bus : Bus) → read_bus most earlier at line ≡ Ok bus → IsBusLine line bus × (has_bus earlier bus.number ≡ false) × (length earlier < most)
read_bus-line most earlier at line bus is =
    elim (cases_Bool (leb most (length earlier))) [
      | inl full ↦ (let t = rw full at is in cc)
      | inr room ↦
          let own = by (number_of (bus_field line)) (source_of (type_field line)) refl refl (rw room at is) in
          (own.0, own.1, leb-false most (length earlier) room)
    ]
  where
    by : (number : Option ℕ) (kind : Option Bool) → number_of (bus_field line) ≡ number → source_of (type_field line) ≡ kind → bus_of earlier at number kind ≡ Ok bus → IsBusLine line bus × (has_bus earlier bus.number ≡ false)
    by None kind n k h = cc
    by (Some number) None n k h = cc
    by (Some number) (Some source) n k h =
        elim (cases_Bool (has_bus earlier number)) [
          | inl there ↦ (let t = rw there at h in cc)
          | inr fresh ↦
              let ok = rw fresh at h in
              let row : Bus = record { number = number; source = source } in
              let same : row ≡ bus = cc in
              subst (λ (b : Bus). IsBusLine line b × (has_bus earlier b.number ≡ false)) same (record { number = n; source = k }, fresh)
        ]

pub read_bus-good : (most : ℕ) (earlier : List Bus) (at : ℕ) (line : List ℕ) → AreBuses earlier → (bus : Bus) → read_bus most earlier at line ≡ Ok bus → AreBuses (earlier ++ bus ∷ [])
read_bus-good most earlier at line are bus is =
    let new = read_bus-line most earlier at line bus is in
    AreBuses-push earlier bus are (number_of-lt (bus_field line) bus.number new.0.number) new.1

-- a branch that is read is that of its line
branch_of-line : (buses : List Bus) (k at : ℕ) (line : List ℕ) (tap z : Option ℕ) (branch : Branch) → number_of (tap_field line) ≡ tap → number_of (z_field line) ≡ z → branch_of buses k at tap z ≡ Ok branch → IsBranchLine buses k line branch
branch_of-line buses k at line None z branch from to is = cc
branch_of-line buses k at line (Some tap) None branch from to is = cc
branch_of-line buses k at line (Some tap) (Some z) branch from to is =
    elim (cases_Bool (has_bus buses tap && has_bus buses z)) [
      | inl both ↦
          let parts = and_parts (has_bus buses tap) (has_bus buses z) both in
          let row : Branch = record { name = branch_name k; from = place_of_bus buses tap; to = place_of_bus buses z; inservice = true } in
          let ok = rw both at is in
          let same : branch ≡ row = cc in
          record {
            name = ap (λ (b : Branch). b.name) same;
            from = record { number = tap; named = from; there = parts.0; place = ap (λ (b : Branch). b.from) same };
            to = record { number = z; named = to; there = parts.1; place = ap (λ (b : Branch). b.to) same };
            inservice = ap (λ (b : Branch). b.inservice) same;
          }
      | inr none ↦ (let t = rw none at is in cc)
    ]

-- what a branch that is read is, and how many stand before it
pub read_branch-line : (most : ℕ) (buses : List Bus) (earlier : List Branch) (at : ℕ) (line : List ℕ) (branch : Branch) → read_branch most buses earlier at line ≡ Ok branch → IsBranchLine buses (length earlier + 1) line branch × (length earlier < most)
read_branch-line most buses earlier at line branch is =
    elim (cases_Bool (leb most (length earlier))) [
      | inl full ↦ (let t = rw full at is in cc)
      | inr room ↦ (branch_of-line buses (length earlier + 1) at line (number_of (tap_field line)) (number_of (z_field line)) branch refl refl (rw room at is), leb-false most (length earlier) room)
    ]

pub read_branch-good : (most : ℕ) (buses : List Bus) (earlier : List Branch) (at : ℕ) (line : List ℕ) → AreNamed 1 earlier → (branch : Branch) → read_branch most buses earlier at line ≡ Ok branch → AreNamed 1 (earlier ++ branch ∷ [])
read_branch-good most buses earlier at line named branch is =
    AreNamed-push 1 earlier branch named ((read_branch-line most buses earlier at line branch is).0.name ∙ ap branch_name (omega arith))

-- how a reading ends of which the rows so far are held
module _ {R : Type 0} (read : List R → ℕ → List ℕ → Result R CdfFault) (held : List R → Tables) (Good : List R → Type 0) (all : List (ℕ × List ℕ)) (state : Tables) (left : List (ℕ × List ℕ)) (so_far : ReadSoFar read held Good all state left) where
  -- it stops where the row that comes next does
  pub stops_here : (at : ℕ) (row : List ℕ) (rest : List (ℕ × List ℕ)) → left ≡ (at, row) ∷ rest → (one : R → Tables) (after : Tables) (stop : Stop) → Answers (read so_far.0 at row) one after (Err stop) → Answers (read_rows read [] all) held after (Err stop)
  stops_here at row rest is one after NoMemory why = tt
  stops_here at row rest is one after (Fault fault) why =
      so_far.1.stated ∙ ap (read_rows read so_far.0) is ∙ ap (λ x. on_ok x (λ r. read_rows read (so_far.0 ++ r ∷ []) rest)) why

  -- and it is done where no row is left
  pub all_read : left ≡ [] → Answers (read_rows read [] all) held state (Ok tt)
  all_read none = (so_far.0, so_far.1.stated ∙ ap (read_rows read so_far.0) none, so_far.1.is_held)
