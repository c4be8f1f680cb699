-- The parts of a file, by the lines that were found.
use Rattle.std.proofs.Common.{◌≡◌, ℕ, suc, ◌+◌, ◌≤◌, Bool, true, false, ◌||◌, List, [], ◌∷◌, length, take, drop, Option, Some, None, refl, sym, ap, ◌∙◌, subst, inl, inr, arith}
use Rattle.std.proofs.Common.{take_all}
use Rattle.std.proofs.Math.Numerals.{one-add}
use Rattle.std.proofs.lemmas.Bool.{cases_Bool}
use Rattle.std.proofs.lemmas.List.{drop_all}
use Rattle.std.specs.List.{after_first, before_first, concat, list_any, position_or_len}
use Rattle.obs_text.specs.Lines.{ended_lines}
use Rattle.obs_bus_branch.specs.inner.Search.{IsFirstLine}
use Rattle.obs_ieee_cdf.specs.declared.fault.CdfFault.{CdfFault}
use Rattle.obs_ieee_cdf.specs.declared.fault.CdfFault.TheVariants.{NoBusSection, BusSectionOpen, NoBranchSection, BranchSectionOpen}
use Rattle.obs_text.specs.Limits.{most_file_bytes}
use Rattle.obs_text.proofs.LineLaws.{length-ended_lines}
use Rattle.obs_ieee_cdf.specs.Sections.{after_branch_heading, after_bus_heading, after_buses, branch_lines, branches_from, bus_lines, buses_from, end_fault, is_branch_heading, is_bus_heading, is_end}
use Rattle.obs_ieee_cdf.proofs.EndedLemmas.{ended_lines-drop}

-- what `sections` gives
pub record AreSections (file : List (List ℕ)) (bus_part : List ℕ) (bus_number : ℕ) (branch_part : List ℕ) (branch_number : ℕ) (fault : Option CdfFault) : Type 0 where
  pub buses : bus_part ≡ concat (bus_lines file)
  pub buses_from : bus_number ≡ buses_from file
  pub branches : branch_part ≡ concat (branch_lines file)
  pub branches_from : branch_number ≡ branches_from file
  pub end : fault ≡ end_fault file

module _ (p : List ℕ → Bool) where
  -- where no line passes, all stand before and none after
  none_at : (xs : List (List ℕ)) → list_any p xs ≡ false → position_or_len p xs ≡ length xs
  none_at [] none = refl
  none_at (x ∷ xs) none =
      elim (cases_Bool (p x)) [
        | inl e ↦ absurd (let e' : (p x || list_any p xs) ≡ false = none in let t : (true || list_any p xs) ≡ false = rw e at e' in cc)
        | inr e ↦
            let others : list_any p xs ≡ false = (let e' : (p x || list_any p xs) ≡ false = none in rw e at e') in
            rw e (one-add _ ∙ ap suc (none_at xs others))
      ]

  before_none : (xs : List (List ℕ)) → list_any p xs ≡ false → before_first p xs ≡ xs
  before_none xs none = ap (λ n. take n xs) (none_at xs none) ∙ take_all (length xs) xs (omega arith)

  after_none : (xs : List (List ℕ)) → list_any p xs ≡ false → after_first p xs ≡ []
  after_none xs none = ap (λ n. drop (n + 1) xs) (none_at xs none) ∙ drop_all (length xs + 1) xs (omega arith)

  -- the lines after the one that was found
  lines_after : (bytes front rest : List ℕ) (at : ℕ) → IsFirstLine p bytes front rest at → ended_lines rest ≡ after_first p (ended_lines bytes)
  lines_after bytes front rest at found = ap ended_lines found.after ∙ ended_lines-drop (position_or_len p (ended_lines bytes) + 1) bytes

-- without a heading there are no branches
no_branches : (file : List (List ℕ)) → list_any is_branch_heading (after_buses file) ≡ false → concat (branch_lines file) ≡ []
no_branches file none = ap (λ r. concat (before_first is_end r)) (after_none is_branch_heading (after_buses file) none)

no_branches_from : (file : List (List ℕ)) → list_any is_branch_heading (after_buses file) ≡ false → branches_from file ≡ 0
no_branches_from file none = rw none refl

-- after a bus section that isn't ended stands nothing
open_buses : (file : List (List ℕ)) → list_any is_end (after_bus_heading file) ≡ false → list_any is_branch_heading (after_buses file) ≡ false
open_buses file none = ap (list_any is_branch_heading) (after_none is_end (after_bus_heading file) none)

-- without a heading there are no buses
no_buses : (file : List (List ℕ)) → list_any is_bus_heading file ≡ false → list_any is_end (after_bus_heading file) ≡ false
no_buses file none = ap (list_any is_end) (after_none is_bus_heading file none)

pub no_bus_section : (file : List (List ℕ)) → list_any is_bus_heading file ≡ false → AreSections file [] 0 [] 0 (Some NoBusSection)
no_bus_section file none =
    let empty = open_buses file (no_buses file none) in
    record {
      buses = sym (ap (λ r. concat (before_first is_end r)) (after_none is_bus_heading file none));
      buses_from = rw none refl;
      branches = sym (no_branches file empty);
      branches_from = sym (no_branches_from file empty);
      end = rw none refl;
    }

module _ (file : List (List ℕ)) (some : list_any is_bus_heading file ≡ true) (n : ℕ) (at : n + length (after_bus_heading file) ≡ length file) where
  from_heading : n + 1 ≡ buses_from file
  from_heading = rw some (omega (arith, at))

  pub bus_section_open : list_any is_end (after_bus_heading file) ≡ false → AreSections file (concat (after_bus_heading file)) (n + 1) [] 0 (Some BusSectionOpen)
  bus_section_open none = record {
    buses = ap concat (sym (before_none is_end (after_bus_heading file) none));
    buses_from = from_heading;
    branches = sym (no_branches file (open_buses file none));
    branches_from = sym (no_branches_from file (open_buses file none));
    end = rw (some, none) refl;
  }

  module _ (ended : list_any is_end (after_bus_heading file) ≡ true) (m : ℕ) (ends_at : m + length (after_buses file) ≡ length (after_bus_heading file)) where
    pub no_branch_section : list_any is_branch_heading (after_buses file) ≡ false → AreSections file (concat (bus_lines file)) (n + 1) [] 0 (Some NoBranchSection)
    no_branch_section none = record {
      buses = refl;
      buses_from = from_heading;
      branches = sym (no_branches file none);
      branches_from = sym (no_branches_from file none);
      end = rw (some, ended, none) refl;
    }

    module _ (more : list_any is_branch_heading (after_buses file) ≡ true) (k : ℕ) (more_at : k + length (after_branch_heading file) ≡ length (after_buses file)) where
      from_second : n + 1 + m + k ≡ branches_from file
      from_second = rw more (omega (arith, at, ends_at, more_at))

      pub branch_section_open : list_any is_end (after_branch_heading file) ≡ false → AreSections file (concat (bus_lines file)) (n + 1) (concat (after_branch_heading file)) (n + 1 + m + k) (Some BranchSectionOpen)
      branch_section_open none = record {
        buses = refl;
        buses_from = from_heading;
        branches = ap concat (sym (before_none is_end (after_branch_heading file) none));
        branches_from = from_second;
        end = rw (some, ended, more, none) refl;
      }

      pub all_sections : list_any is_end (after_branch_heading file) ≡ true → AreSections file (concat (bus_lines file)) (n + 1) (concat (branch_lines file)) (n + 1 + m + k) None
      all_sections all = record {
        buses = refl;
        buses_from = from_heading;
        branches = refl;
        branches_from = from_second;
        end = rw (some, ended, more, all) refl;
      }

-- the same, by what was found one after the other
module _ (bytes front rest : List ℕ) (n : ℕ) (heading : IsFirstLine is_bus_heading bytes front rest n) where
  after_heading : ended_lines rest ≡ after_bus_heading (ended_lines bytes)
  after_heading = lines_after is_bus_heading bytes front rest n heading

  pub bus_section_open_at : list_any is_end (ended_lines rest) ≡ false → AreSections (ended_lines bytes) rest (n + 1) [] 0 (Some BusSectionOpen)
  bus_section_open_at none =
      subst (λ part. AreSections (ended_lines bytes) part (n + 1) [] 0 (Some BusSectionOpen)) (sym heading.after)
      (bus_section_open (ended_lines bytes) heading.some n heading.number (sym (ap (list_any is_end) after_heading) ∙ none))

  module _ (buses others : List ℕ) (m : ℕ) (ends : IsFirstLine is_end rest buses others m) where
    after_end : ended_lines others ≡ after_buses (ended_lines bytes)
    after_end = lines_after is_end rest buses others m ends ∙ ap (after_first is_end) after_heading

    ended : list_any is_end (after_bus_heading (ended_lines bytes)) ≡ true
    ended = sym (ap (list_any is_end) after_heading) ∙ ends.some

    ends_at : m + length (after_buses (ended_lines bytes)) ≡ length (after_bus_heading (ended_lines bytes))
    ends_at = subst (λ lines. m + length (after_first is_end lines) ≡ length lines) after_heading ends.number

    buses_are : buses ≡ concat (bus_lines (ended_lines bytes))
    buses_are = ends.before ∙ ap (λ lines. concat (before_first is_end lines)) after_heading

    pub no_branch_section_at : list_any is_branch_heading (ended_lines others) ≡ false → AreSections (ended_lines bytes) buses (n + 1) [] 0 (Some NoBranchSection)
    no_branch_section_at none =
        subst (λ part. AreSections (ended_lines bytes) part (n + 1) [] 0 (Some NoBranchSection)) (sym buses_are)
        (no_branch_section (ended_lines bytes) heading.some n heading.number ended m ends_at (sym (ap (list_any is_branch_heading) after_end) ∙ none))

    module _ (passed last : List ℕ) (k : ℕ) (second : IsFirstLine is_branch_heading others passed last k) where
      after_second : ended_lines last ≡ after_branch_heading (ended_lines bytes)
      after_second = lines_after is_branch_heading others passed last k second ∙ ap (after_first is_branch_heading) after_end

      more : list_any is_branch_heading (after_buses (ended_lines bytes)) ≡ true
      more = sym (ap (list_any is_branch_heading) after_end) ∙ second.some

      more_at : k + length (after_branch_heading (ended_lines bytes)) ≡ length (after_buses (ended_lines bytes))
      more_at = subst (λ lines. k + length (after_first is_branch_heading lines) ≡ length lines) after_end second.number

      pub room_at : length bytes ≤ most_file_bytes → n + 1 + m + k ≤ most_file_bytes + 1
      room_at few = omega (arith, heading.number, ends_at, more_at, length-ended_lines bytes)

      pub branch_section_open_at : list_any is_end (ended_lines last) ≡ false → AreSections (ended_lines bytes) buses (n + 1) last (n + 1 + m + k) (Some BranchSectionOpen)
      branch_section_open_at none =
          let branches_are : last ≡ concat (after_branch_heading (ended_lines bytes)) = second.after ∙ ap (λ lines. concat (after_first is_branch_heading lines)) after_end in
          subst (λ part. AreSections (ended_lines bytes) part (n + 1) last (n + 1 + m + k) (Some BranchSectionOpen)) (sym buses_are)
          (subst (λ part. AreSections (ended_lines bytes) (concat (bus_lines (ended_lines bytes))) (n + 1) part (n + 1 + m + k) (Some BranchSectionOpen)) (sym branches_are)
          (branch_section_open (ended_lines bytes) heading.some n heading.number ended m ends_at more k more_at (sym (ap (list_any is_end) after_second) ∙ none)))

      pub all_sections_at : (branches unread : List ℕ) (j : ℕ) → IsFirstLine is_end last branches unread j → AreSections (ended_lines bytes) buses (n + 1) branches (n + 1 + m + k) None
      all_sections_at branches unread j all =
          let branches_are : branches ≡ concat (branch_lines (ended_lines bytes)) = all.before ∙ ap (λ lines. concat (before_first is_end lines)) after_second in
          subst (λ part. AreSections (ended_lines bytes) part (n + 1) branches (n + 1 + m + k) None) (sym buses_are)
          (subst (λ part. AreSections (ended_lines bytes) (concat (bus_lines (ended_lines bytes))) (n + 1) part (n + 1 + m + k) None) (sym branches_are)
          (all_sections (ended_lines bytes) heading.some n heading.number ended m ends_at more k more_at (sym (ap (list_any is_end) after_second) ∙ all.some)))
