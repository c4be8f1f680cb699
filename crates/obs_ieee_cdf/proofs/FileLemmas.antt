-- Reading a whole file.
use Rattle.std.proofs.Common.{◌≡◌, ℕ, ◌+◌, ◌-◌, ◌*◌, ◌≤◌, Bool, true, false, cond, List, [], length, map, take, drop, Option, Some, None, Result, Ok, Err, refl, sym, ap, ◌∙◌, subst, length-append, arith}
use Rattle.std.proofs.lemmas.List.{take-append-drop}
use Rattle.std.proofs.lemmas.List.Folds.{concat-append}
use Rattle.std.specs.List.{after_first, before_first, concat, list_any, position_or_len}
use Rattle.obs_text.specs.Lines.{content, ended_lines, lines_of}
use Rattle.obs_case.specs.Tables.{Tables}
use Rattle.obs_bus_branch.specs.Buses.{Bus, tables_of_rows}
use Rattle.obs_bus_branch.specs.Rows.{at_end, on_ok, read_rows}
use Rattle.obs_bus_branch.proofs.NumberLemmas.{AreBuses-none}
use Rattle.obs_bus_branch.proofs.RowsRead.{read_rows-good}
use Rattle.obs_ieee_cdf.specs.declared.fault.CdfFault.{CdfFault}
use Rattle.obs_ieee_cdf.specs.declared.stop.Stop.{Stop}
use Rattle.obs_ieee_cdf.specs.declared.stop.Stop.TheVariants.{Fault, NoMemory}
use Rattle.obs_ieee_cdf.specs.inner.Reading.{Answers, AreBuses}
use Rattle.obs_ieee_cdf.specs.Rows.{branch_rows, bus_rows, cdf_within, numbered, read_branch, read_bus}
use Rattle.obs_text.specs.Limits.{most_file_bytes}
use Rattle.obs_text.proofs.LineLaws.{joined, length-ended_lines}
use Rattle.obs_ieee_cdf.specs.Sections.{after_branch_heading, after_bus_heading, after_buses, branch_lines, branches_from, bus_lines, buses_from, end_fault, is_branch_heading, is_bus_heading, is_end}
use Rattle.obs_ieee_cdf.proofs.EndedLemmas.{ended_lines-drop, ended_lines-take}
use Rattle.obs_ieee_cdf.proofs.ReadLemmas.{read_bus-good}
use Rattle.obs_ieee_cdf.proofs.SectionLemmas.{AreSections}

-- lines that are the lines of what they are joined
abbrev AreLines : List (List ℕ) → Type 0
AreLines lines = ended_lines (concat lines) ≡ lines

lines-all : (bytes : List ℕ) → AreLines (ended_lines bytes)
lines-all bytes = ap ended_lines (joined bytes)

lines-drop : (n : ℕ) (lines : List (List ℕ)) → AreLines lines → AreLines (drop n lines)
lines-drop n lines are = subst (λ ls. ended_lines (concat (drop n ls)) ≡ drop n ls) are (ended_lines-drop n (concat lines))

lines-take : (n : ℕ) (lines : List (List ℕ)) → AreLines lines → AreLines (take n lines)
lines-take n lines are = subst (λ ls. ended_lines (concat (take n ls)) ≡ take n ls) are (ended_lines-take n (concat lines))

lines-after : (p : List ℕ → Bool) (lines : List (List ℕ)) → AreLines lines → AreLines (after_first p lines)
lines-after p lines are = lines-drop (position_or_len p lines + 1) lines are

lines-before : (p : List ℕ → Bool) (lines : List (List ℕ)) → AreLines lines → AreLines (before_first p lines)
lines-before p lines are = lines-take (position_or_len p lines) lines are

-- the lines of the parts that are bus lines and branch lines are those lines
pub bus_lines-are : (bytes : List ℕ) → lines_of (concat (bus_lines (ended_lines bytes))) ≡ map content (bus_lines (ended_lines bytes))
bus_lines-are bytes =
    let file = ended_lines bytes in
    ap (map content) (lines-before is_end (after_bus_heading file) (lines-after is_bus_heading file (lines-all bytes)))

pub branch_lines-are : (bytes : List ℕ) → lines_of (concat (branch_lines (ended_lines bytes))) ≡ map content (branch_lines (ended_lines bytes))
branch_lines-are bytes =
    let file = ended_lines bytes in
    ap (map content) (lines-before is_end (after_branch_heading file)
    (lines-after is_branch_heading (after_buses file) (lines-after is_end (after_bus_heading file) (lines-after is_bus_heading file (lines-all bytes)))))

-- parts are no longer than the whole
parts-take : (n : ℕ) (lines : List (List ℕ)) → length (concat (take n lines)) ≤ length (concat lines)
parts-take n lines =
    omega (arith, ap length (ap concat (sym (take-append-drop n lines)) ∙ concat-append (take n lines) (drop n lines)), length-append (concat (take n lines)) (concat (drop n lines)))

parts-drop : (n : ℕ) (lines : List (List ℕ)) → length (concat (drop n lines)) ≤ length (concat lines)
parts-drop n lines =
    omega (arith, ap length (ap concat (sym (take-append-drop n lines)) ∙ concat-append (take n lines) (drop n lines)), length-append (concat (take n lines)) (concat (drop n lines)))

number-le : (there : Bool) (a b n : ℕ) → a ≤ n → cond there (a - b + 1) 0 ≤ n + 1
number-le true a b n few = omega arith
number-le false a b n few = omega arith

pub bus_room : (bytes : List ℕ) → length bytes ≤ most_file_bytes → buses_from (ended_lines bytes) + length (concat (bus_lines (ended_lines bytes))) ≤ 2 * most_file_bytes + 1
bus_room bytes few =
    let file = ended_lines bytes in
    omega (
      arith,
      number-le (list_any is_bus_heading file) (length file) (length (after_bus_heading file)) (length bytes) (length-ended_lines bytes),
      parts-take (position_or_len is_end (after_bus_heading file)) (after_bus_heading file),
      parts-drop (position_or_len is_bus_heading file + 1) file,
      ap length (joined bytes),
    )

pub branch_room : (bytes : List ℕ) → length bytes ≤ most_file_bytes → branches_from (ended_lines bytes) + length (concat (branch_lines (ended_lines bytes))) ≤ 2 * most_file_bytes + 1
branch_room bytes few =
    let file = ended_lines bytes in
    omega (
      arith,
      number-le (list_any is_branch_heading (after_buses file)) (length file) (length (after_branch_heading file)) (length bytes) (length-ended_lines bytes),
      parts-take (position_or_len is_end (after_branch_heading file)) (after_branch_heading file),
      parts-drop (position_or_len is_branch_heading (after_buses file) + 1) (after_buses file),
      parts-drop (position_or_len is_end (after_bus_heading file) + 1) (after_bus_heading file),
      parts-drop (position_or_len is_bus_heading file + 1) file,
      ap length (joined bytes),
    )

-- buses that are read are buses
pub read_rows-buses : (most : ℕ) (lines : List (ℕ × List ℕ)) (buses : List Bus) → read_rows (read_bus most) [] lines ≡ Ok buses → AreBuses buses
read_rows-buses most lines buses is = read_rows-good (read_bus most) AreBuses (read_bus-good most) [] lines buses AreBuses-none is

-- what the parts of the work answer is what the whole answers
module _ (most : ℕ) (bytes bus_part branch_part : List ℕ) (bus_number branch_number : ℕ) (fault : Option CdfFault) (are : AreSections (ended_lines bytes) bus_part bus_number branch_part branch_number fault) where
  abbrev after_buses_read : List Bus → Result Tables CdfFault
  after_buses_read buses =
      on_ok (read_rows (read_branch most buses) [] (branch_rows (ended_lines bytes))) (λ branches. at_end (end_fault (ended_lines bytes)) (tables_of_rows most buses branches))

  bus_rows-are : numbered bus_number (lines_of bus_part) ≡ bus_rows (ended_lines bytes)
  bus_rows-are =
      ap (λ n. numbered n (lines_of bus_part)) are.buses_from ∙ ap (λ part. numbered (buses_from (ended_lines bytes)) (lines_of part)) are.buses
      ∙ ap (numbered (buses_from (ended_lines bytes))) (bus_lines-are bytes)

  branch_rows-are : numbered branch_number (lines_of branch_part) ≡ branch_rows (ended_lines bytes)
  branch_rows-are =
      ap (λ n. numbered n (lines_of branch_part)) are.branches_from ∙ ap (λ part. numbered (branches_from (ended_lines bytes)) (lines_of part)) are.branches
      ∙ ap (numbered (branches_from (ended_lines bytes))) (branch_lines-are bytes)

  pub stop_in_buses : (after last : Tables) (stop : Stop) → Answers (read_rows (read_bus most) [] (numbered bus_number (lines_of bus_part))) (λ buses. tables_of_rows most buses []) after (Err stop) →
      Answers (cdf_within most bytes) (λ tables. tables) last (Err stop)
  stop_in_buses after last NoMemory why = tt
  stop_in_buses after last (Fault f) why = ap (λ r. on_ok r after_buses_read) (sym (ap (read_rows (read_bus most) []) bus_rows-are) ∙ why)

  module _ (middle : Tables) (read : Answers (read_rows (read_bus most) [] (numbered bus_number (lines_of bus_part))) (λ buses. tables_of_rows most buses []) middle (Ok tt)) where
    pub buses_read : AreBuses read.0
    buses_read = read_rows-buses most (numbered bus_number (lines_of bus_part)) read.0 read.1

    buses_are : cdf_within most bytes ≡ after_buses_read read.0
    buses_are = ap (λ r. on_ok r after_buses_read) (sym (ap (read_rows (read_bus most) []) bus_rows-are) ∙ read.1)

    pub stop_in_branches : (after last : Tables) (stop : Stop) → Answers (read_rows (read_branch most read.0) [] (numbered branch_number (lines_of branch_part))) (tables_of_rows most read.0) after (Err stop) →
        Answers (cdf_within most bytes) (λ tables. tables) last (Err stop)
    stop_in_branches after last NoMemory why = tt
    stop_in_branches after last (Fault f) why =
        buses_are ∙ ap (λ r. on_ok r (λ branches. at_end (end_fault (ended_lines bytes)) (tables_of_rows most read.0 branches))) (sym (ap (read_rows (read_branch most read.0) []) branch_rows-are) ∙ why)

    module _ (after : Tables) (rows : Answers (read_rows (read_branch most read.0) [] (numbered branch_number (lines_of branch_part))) (tables_of_rows most read.0) after (Ok tt)) where
      rows_are : cdf_within most bytes ≡ at_end fault after
      rows_are =
          buses_are ∙ ap (λ r. on_ok r (λ branches. at_end (end_fault (ended_lines bytes)) (tables_of_rows most read.0 branches))) (sym (ap (read_rows (read_branch most read.0) []) branch_rows-are) ∙ rows.1)
          ∙ ap (λ f. at_end f (tables_of_rows most read.0 rows.0)) (sym are.end) ∙ ap (at_end fault) (sym rows.2)

      pub stop_at_end : (f : CdfFault) → fault ≡ Some f → cdf_within most bytes ≡ Err f
      stop_at_end f is = rows_are ∙ ap (λ o. at_end o after) is

      pub file_read : fault ≡ None → Answers (cdf_within most bytes) (λ tables. tables) after (Ok tt)
      file_read is = (after, rows_are ∙ ap (λ o. at_end o after) is, refl)
