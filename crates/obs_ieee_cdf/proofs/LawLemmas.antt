-- What is read from lines, and what lines are.
use Rattle.std.proofs.Common.{◌≡◌, ℕ, ◌+◌, ◌<◌, ◌≤◌, true, false, eqb, List, [], ◌∷◌, length, map, Option, Some, None, Result, Ok, Err, refl, sym, ap, ◌∙◌, subst, length-append, arith}
use Rattle.std.proofs.lemmas.Bool.{lt-leb}
use Rattle.std.specs.List.{IsDistinct}
use Rattle.obs_text.specs.Lines.{ended_lines}
use Rattle.obs_case.specs.Tables.{Tables}
use Rattle.obs_case.specs.declared.rows.Branch.{Branch}
use Rattle.obs_bus_branch.specs.Buses.{Bus, branch_name, has_bus, place_of_bus, tables_of_rows}
use Rattle.obs_bus_branch.specs.Rows.{at_end, on_ok, read_rows}
use Rattle.obs_bus_branch.proofs.NumberLemmas.{fresh_number, same_branch}
use Rattle.obs_bus_branch.proofs.RowsRead.{are-read_rows, read_rows-are, read_rows-few, same_length}
use Rattle.obs_ieee_cdf.specs.declared.fault.CdfFault.{CdfFault}
use Rattle.obs_ieee_cdf.specs.inner.Case.{AreBranchLines, IsBranchLine, IsBusLine, IsFile}
use Rattle.obs_ieee_cdf.specs.inner.IsFault.{AreAllBuses}
use Rattle.obs_ieee_cdf.specs.inner.Laws.{FileIsRead}
use Rattle.obs_ieee_cdf.specs.Rows.{branch_rows, bus_rows, cdf_within, read_branch, read_bus}
use Rattle.obs_ieee_cdf.specs.Sections.{end_fault}
use Rattle.obs_ieee_cdf.proofs.FileLemmas.{read_rows-buses}
use Rattle.obs_ieee_cdf.proofs.ReadLemmas.{read_branch-line, read_bus-line}

-- ---- bus lines

read-bus_line : (most : ℕ) (earlier : List Bus) (at : ℕ) (line : List ℕ) (bus : Bus) → length earlier < most → IsBusLine line bus → has_bus earlier bus.number ≡ false → read_bus most earlier at line ≡ Ok bus
read-bus_line most earlier at line bus few is fresh = rw (lt-leb most (length earlier) few, is.number, is.source, fresh) refl

-- no more buses are read than a table may have
pub few_buses : (most : ℕ) (lines : List (ℕ × List ℕ)) (buses : List Bus) → read_rows (read_bus most) [] lines ≡ Ok buses → length buses ≤ most
few_buses most lines buses is = read_rows-few (read_bus most) most (λ earlier at line bus e. (read_bus-line most earlier at line bus e).2) lines buses is

-- bus lines that are read are buses, and bus lines that are buses are read
pub buses_are : (most : ℕ) (lines : List (ℕ × List ℕ)) (buses : List Bus) → read_rows (read_bus most) [] lines ≡ Ok buses → AreAllBuses most lines buses
buses_are most lines buses is =
    let are = read_rows-are (read_bus most) (λ k. IsBusLine) (λ earlier at line bus e. (read_bus-line most earlier at line bus e).0) lines buses is in
    record {
      are = are;
      few = omega (arith, few_buses most lines buses is, same_length (λ k. IsBusLine) 1 lines buses are);
      different = (read_rows-buses most lines buses is).different;
    }

pub buses_read : (most : ℕ) (lines : List (ℕ × List ℕ)) (buses : List Bus) → AreAllBuses most lines buses → read_rows (read_bus most) [] lines ≡ Ok buses
buses_read most lines buses all =
    let few = all.few in
    let long = same_length (λ k. IsBusLine) 1 lines buses all.are in
    are-read_rows (read_bus most) (λ k. IsBusLine) buses
    (λ earlier at line bus later is here. read-bus_line most earlier at line bus (omega (arith, few, long, ap length is, length-append earlier (bus ∷ later))) here
    (fresh_number (λ (b : Bus). b.number) earlier bus later (subst (λ bs. IsDistinct eqb (map (λ (b : Bus). b.number) bs)) is all.different)))
    lines all.are

-- ---- branch lines

read_branch-is_line : (most : ℕ) (buses : List Bus) (earlier : List Branch) (at : ℕ) (line : List ℕ) (branch : Branch) → length earlier < most → IsBranchLine buses (length earlier + 1) line branch → read_branch most buses earlier at line ≡ Ok branch
read_branch-is_line most buses earlier at line branch few is =
    rw (lt-leb most (length earlier) few, is.from.named, is.to.named, is.from.there, is.to.there)
    (ap (λ b. Ok b) (same_branch branch (branch_name (length earlier + 1)) (place_of_bus buses is.from.number) (place_of_bus buses is.to.number) true is.name is.from.place is.to.place is.inservice))

-- no more branches are read than a table may have
pub few_branches : (most : ℕ) (buses : List Bus) (lines : List (ℕ × List ℕ)) (branches : List Branch) → read_rows (read_branch most buses) [] lines ≡ Ok branches → length branches ≤ most
few_branches most buses lines branches is = read_rows-few (read_branch most buses) most (λ earlier at line branch e. (read_branch-line most buses earlier at line branch e).1) lines branches is

-- branch lines that are read are branches, and branch lines that are branches are read
pub branches_are : (most : ℕ) (buses : List Bus) (lines : List (ℕ × List ℕ)) (branches : List Branch) → read_rows (read_branch most buses) [] lines ≡ Ok branches → AreBranchLines buses lines branches × (length lines ≤ most)
branches_are most buses lines branches is =
    let are = read_rows-are (read_branch most buses) (IsBranchLine buses) (λ earlier at line branch e. (read_branch-line most buses earlier at line branch e).0) lines branches is in
    (are, omega (arith, few_branches most buses lines branches is, same_length (IsBranchLine buses) 1 lines branches are))

pub branches_read : (most : ℕ) (buses : List Bus) (lines : List (ℕ × List ℕ)) (branches : List Branch) → AreBranchLines buses lines branches → length lines ≤ most → read_rows (read_branch most buses) [] lines ≡ Ok branches
branches_read most buses lines branches are few =
    let long = same_length (IsBranchLine buses) 1 lines branches are in
    are-read_rows (read_branch most buses) (IsBranchLine buses) branches
    (λ earlier at line branch later is here. read_branch-is_line most buses earlier at line branch (omega (arith, few, long, ap length is, length-append earlier (branch ∷ later))) here)
    lines are

-- ---- files and cases

end_reached : (fault : Option CdfFault) (rows tables : Tables) → at_end fault rows ≡ Ok tables → (fault ≡ None) × (tables ≡ rows)
end_reached None rows tables is = (refl, (let same : Ok rows ≡ Ok tables = is in let e : rows ≡ tables = cc in sym e))
end_reached (Some fault) rows tables is = cc

module _ (most : ℕ) (bytes : List ℕ) (tables : Tables) where
  of_branches : (buses : List Bus) (r : Result (List Branch) CdfFault) → read_rows (read_bus most) [] (bus_rows (ended_lines bytes)) ≡ Ok buses → read_rows (read_branch most buses) [] (branch_rows (ended_lines bytes)) ≡ r →
      on_ok r (λ branches. at_end (end_fault (ended_lines bytes)) (tables_of_rows most buses branches)) ≡ Ok tables → IsFile most bytes tables
  of_branches buses (Err fault) buses_e branches_e is = cc
  of_branches buses (Ok branches) buses_e branches_e is =
      let all = buses_are most (bus_rows (ended_lines bytes)) buses buses_e in
      let part = branches_are most buses (branch_rows (ended_lines bytes)) branches branches_e in
      let reached = end_reached (end_fault (ended_lines bytes)) (tables_of_rows most buses branches) tables is in (
        buses,
        branches,
        record {
          whole = reached.0;
          bus_lines = all.are;
          few_buses = all.few;
          different = all.different;
          branch_lines = part.0;
          few = part.1;
        },
        reached.1,
      )

  of_buses : (r : Result (List Bus) CdfFault) → read_rows (read_bus most) [] (bus_rows (ended_lines bytes)) ≡ r →
      on_ok r (λ buses. on_ok (read_rows (read_branch most buses) [] (branch_rows (ended_lines bytes))) (λ branches. at_end (end_fault (ended_lines bytes)) (tables_of_rows most buses branches))) ≡ Ok tables → IsFile most bytes tables
  of_buses (Err fault) buses_e is = cc
  of_buses (Ok buses) buses_e is = of_branches buses (read_rows (read_branch most buses) [] (branch_rows (ended_lines bytes))) buses_e refl is

  pub file_is : cdf_within most bytes ≡ Ok tables → IsFile most bytes tables
  file_is is = of_buses (read_rows (read_bus most) [] (bus_rows (ended_lines bytes))) refl is

  pub file_read : IsFile most bytes tables → cdf_within most bytes ≡ Ok tables
  file_read (buses, branches, are, is) =
      ap (λ r. on_ok r (λ bs. on_ok (read_rows (read_branch most bs) [] (branch_rows (ended_lines bytes))) (λ rows. at_end (end_fault (ended_lines bytes)) (tables_of_rows most bs rows))))
      (buses_read most (bus_rows (ended_lines bytes)) buses (record { are = are.bus_lines; few = are.few_buses; different = are.different }))
      ∙ ap (λ r. on_ok r (λ rows. at_end (end_fault (ended_lines bytes)) (tables_of_rows most buses rows)))
      (branches_read most buses (branch_rows (ended_lines bytes)) branches are.branch_lines are.few)
      ∙ ap (λ fault. at_end fault (tables_of_rows most buses branches)) are.whole ∙ ap (λ t. Ok t) (sym is)

pub FileIsRead-holds : FileIsRead
FileIsRead-holds most bytes tables = (file_is most bytes tables, file_read most bytes tables)
