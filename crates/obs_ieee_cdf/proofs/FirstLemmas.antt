-- The first fault of a file.
use Rattle.std.proofs.Common.{◌≡◌, ℕ, ◌+◌, ◌<◌, ◌≤◌, ◌⊎◌, Bool, true, false, not, cond, leb, List, [], length, Option, Some, None, Result, Ok, Err, refl, sym, ap, ◌∙◌, subst, inl, inr, arith}
use Rattle.std.proofs.lemmas.Bool.{cases_Bool, leb-false, leb-true, le-leb, lt-leb}
use Rattle.std.specs.List.{list_any}
use Rattle.obs_text.specs.Lines.{ended_lines}
use Rattle.obs_case.specs.Tables.{Tables}
use Rattle.obs_case.specs.declared.rows.Branch.{Branch}
use Rattle.obs_bus_branch.specs.Buses.{Bus, has_bus, tables_of_rows}
use Rattle.obs_bus_branch.specs.Rows.{at_end, on_ok, read_rows}
use Rattle.obs_bus_branch.proofs.RowsRead.{Met, ends, first_met, has_fault, row_met, same_length, stops}
use Rattle.obs_ieee_cdf.specs.declared.fault.CdfFault.{CdfFault}
use Rattle.obs_ieee_cdf.specs.declared.fault.CdfFault.TheVariants.{NoBusSection, BusSectionOpen, NoBranchSection, BranchSectionOpen, BadBusNumber, BadType, BusTwice, UnknownBus, TooMany}
use Rattle.obs_ieee_cdf.specs.inner.Case.{AreBranchLines, IsBranchLine}
use Rattle.obs_ieee_cdf.specs.Fields.{bus_field, number_of, source_of, tap_field, type_field, z_field}
use Rattle.obs_ieee_cdf.specs.inner.IsFault.{AreAllBuses, BranchLineHas, BusLineHas, HasBranchFault, HasSectionFault, IsFault, IsNotAfter, SectionHas}
use Rattle.obs_ieee_cdf.specs.inner.Laws.{FirstFaultOfFile}
use Rattle.obs_ieee_cdf.specs.Rows.{branch_of, branch_rows, bus_of, bus_rows, cdf_within, read_branch, read_bus}
use Rattle.obs_ieee_cdf.specs.Sections.{after_branch_heading, after_bus_heading, after_buses, end_fault, is_branch_heading, is_bus_heading, is_end}
use Rattle.obs_ieee_cdf.proofs.LawLemmas.{branches_are, branches_read, buses_are, buses_read, few_branches, few_buses}

-- ---- bus lines

module _ (most : ℕ) (earlier : List Bus) (at : ℕ) (line : List ℕ) where
  bus_has : (fault : CdfFault) → length earlier ≤ most → read_bus most earlier at line ≡ Err fault → BusLineHas most earlier at line fault
  bus_has fault few is =
      elim (cases_Bool (leb most (length earlier))) [
        | inl full ↦ (
            let t = rw full at is in
            let same : TooMany at ≡ fault = cc in
            subst (BusLineHas most earlier at line) same (refl, omega (arith, few, leb-true most (length earlier) full)))
        | inr room ↦
            by (number_of (bus_field line)) (source_of (type_field line)) refl refl (leb-false most (length earlier) room) (rw room at is)
      ]
    where
      by : (number : Option ℕ) (kind : Option Bool) → number_of (bus_field line) ≡ number → source_of (type_field line) ≡ kind → length earlier < most
          → bus_of earlier at number kind ≡ Err fault → BusLineHas most earlier at line fault
      by None kind n k room h = (let same : BadBusNumber at ≡ fault = cc in subst (BusLineHas most earlier at line) same (refl, room, n))
      by (Some number) None n k room h = (let same : BadType at ≡ fault = cc in subst (BusLineHas most earlier at line) same (refl, room, k))
      by (Some number) (Some source) n k room h =
          elim (cases_Bool (has_bus earlier number)) [
            | inl there ↦ (
                let t = rw there at h in
                let same : BusTwice at ≡ fault = cc in
                subst (BusLineHas most earlier at line) same (refl, room, number, n, there))
            | inr fresh ↦ (let t = rw fresh at h in cc)
          ]

  -- what a line says that isn't one too many
  bus_with_room : length earlier < most → read_bus most earlier at line ≡ bus_of earlier at (number_of (bus_field line)) (source_of (type_field line))
  bus_with_room room = rw (lt-leb most (length earlier) room) refl

  bus_met : (other : CdfFault) → BusLineHas most earlier at line other → Met IsNotAfter (read_bus most earlier at line) other
  bus_met NoBusSection has = absurd has
  bus_met BusSectionOpen has = absurd has
  bus_met NoBranchSection has = absurd has
  bus_met BranchSectionOpen has = absurd has
  bus_met (BadBusNumber n) has = (
    BadBusNumber at,
    bus_with_room has.1 ∙ ap (λ number. bus_of earlier at number (source_of (type_field line))) has.2,
    record { same_line = sym has.0; not_higher = omega arith },
  )
  bus_met (BadType n) has = by (number_of (bus_field line)) refl
    where
      by : (number : Option ℕ) → number_of (bus_field line) ≡ number → Met IsNotAfter (read_bus most earlier at line) (BadType n)
      by None e = (
        BadBusNumber at,
        bus_with_room has.1 ∙ ap (λ number. bus_of earlier at number (source_of (type_field line))) e,
        record { same_line = sym has.0; not_higher = omega arith },
      )
      by (Some number) e = (
        BadType at,
        bus_with_room has.1 ∙ ap (λ x. bus_of earlier at x (source_of (type_field line))) e ∙ ap (λ kind. bus_of earlier at (Some number) kind) has.2,
        record { same_line = sym has.0; not_higher = omega arith },
      )
  bus_met (BusTwice n) has = by (source_of (type_field line)) refl
    where
      by : (kind : Option Bool) → source_of (type_field line) ≡ kind → Met IsNotAfter (read_bus most earlier at line) (BusTwice n)
      by None e = (
        BadType at,
        bus_with_room has.1 ∙ ap (λ x. bus_of earlier at x (source_of (type_field line))) has.3 ∙ ap (λ kind. bus_of earlier at (Some has.2) kind) e,
        record { same_line = sym has.0; not_higher = omega arith },
      )
      by (Some source) e = (
        BusTwice at,
        bus_with_room has.1 ∙ ap (λ x. bus_of earlier at x (source_of (type_field line))) has.3 ∙ ap (λ kind. bus_of earlier at (Some has.2) kind) e
            ∙ ap (λ b. cond b (Err (BusTwice at)) (Ok (record { number = has.2; source = source }))) has.4,
        record { same_line = sym has.0; not_higher = omega arith },
      )
  bus_met (UnknownBus n) has = absurd has
  bus_met (TooMany n) has =
      (TooMany at, rw (le-leb most (length earlier) (omega (arith, has.1))) refl, record { same_line = sym has.0; not_higher = omega arith })

-- ---- branch lines

module _ (most : ℕ) (buses : List Bus) (earlier : List Branch) (at : ℕ) (line : List ℕ) where
  branch_has : (fault : CdfFault) → length earlier ≤ most → read_branch most buses earlier at line ≡ Err fault → BranchLineHas most buses earlier at line fault
  branch_has fault few is =
      elim (cases_Bool (leb most (length earlier))) [
        | inl full ↦ (
            let t = rw full at is in
            let same : TooMany at ≡ fault = cc in
            subst (BranchLineHas most buses earlier at line) same (refl, omega (arith, few, leb-true most (length earlier) full)))
        | inr room ↦
            by (number_of (tap_field line)) (number_of (z_field line)) refl refl (leb-false most (length earlier) room) (rw room at is)
      ]
    where
      by : (tap z : Option ℕ) → number_of (tap_field line) ≡ tap → number_of (z_field line) ≡ z → length earlier < most
          → branch_of buses (length earlier + 1) at tap z ≡ Err fault → BranchLineHas most buses earlier at line fault
      by None z from to room h = (let same : BadBusNumber at ≡ fault = cc in subst (BranchLineHas most buses earlier at line) same (refl, room, inl from))
      by (Some tap) None from to room h = (let same : BadBusNumber at ≡ fault = cc in subst (BranchLineHas most buses earlier at line) same (refl, room, inr to))
      by (Some tap) (Some z) from to room h =
          elim (cases_Bool (has_bus buses tap)) [
            | inr absent ↦ (
                let t = rw absent at h in
                let same : UnknownBus at ≡ fault = cc in
                subst (BranchLineHas most buses earlier at line) same (refl, room, tap, inl from, absent))
            | inl there ↦
                elim (cases_Bool (has_bus buses z)) [
                  | inr absent ↦ (
                      let t = rw (there, absent) at h in
                      let same : UnknownBus at ≡ fault = cc in
                      subst (BranchLineHas most buses earlier at line) same (refl, room, z, inr to, absent))
                  | inl both ↦ (let t = rw (there, both) at h in cc)
                ]
          ]

  -- what a line says that isn't one too many
  with_room : length earlier < most → (tap z : Option ℕ) → number_of (tap_field line) ≡ tap → number_of (z_field line) ≡ z → read_branch most buses earlier at line ≡ branch_of buses (length earlier + 1) at tap z
  with_room room tap z from to = rw (lt-leb most (length earlier) room, from, to) refl

  bad_number : (n : ℕ) → n ≡ at → length earlier < most → (number_of (tap_field line) ≡ None) ⊎ (number_of (z_field line) ≡ None) → read_branch most buses earlier at line ≡ Err (BadBusNumber at)
  bad_number n is room none = by (number_of (tap_field line)) (number_of (z_field line)) refl refl none
    where
      by : (tap z : Option ℕ) → number_of (tap_field line) ≡ tap → number_of (z_field line) ≡ z → (tap ≡ None) ⊎ (z ≡ None) → read_branch most buses earlier at line ≡ Err (BadBusNumber at)
      by None z from to which = with_room room None z from to
      by (Some tap) None from to which = with_room room (Some tap) None from to
      by (Some tap) (Some z) from to which = elim which [ inl e ↦ cc | inr e ↦ cc ]

  unknown_bus : (n number : ℕ) → n ≡ at → length earlier < most → (number_of (tap_field line) ≡ Some number) ⊎ (number_of (z_field line) ≡ Some number) → has_bus buses number ≡ false
      → Met IsNotAfter (read_branch most buses earlier at line) (UnknownBus n)
  unknown_bus n number is room which absent = by (number_of (tap_field line)) (number_of (z_field line)) refl refl which
    where
      by : (tap z : Option ℕ) → number_of (tap_field line) ≡ tap → number_of (z_field line) ≡ z → (tap ≡ Some number) ⊎ (z ≡ Some number) → Met IsNotAfter (read_branch most buses earlier at line) (UnknownBus n)
      by None z from to w = (BadBusNumber at, with_room room None z from to, record { same_line = sym is; not_higher = omega arith })
      by (Some tap) None from to w = (BadBusNumber at, with_room room (Some tap) None from to, record { same_line = sym is; not_higher = omega arith })
      by (Some tap) (Some z) from to w = (
        UnknownBus at,
        with_room room (Some tap) (Some z) from to ∙ refused tap z w,
        record { same_line = sym is; not_higher = omega arith },
      )
        where
          refused : (t u : ℕ) → (Some t ≡ Some number) ⊎ (Some u ≡ Some number) → branch_of buses (length earlier + 1) at (Some t) (Some u) ≡ Err (UnknownBus at)
          refused t u (inl e) = (let same : t ≡ number = cc in rw (same, absent) refl)
          refused t u (inr e) =
              let same : u ≡ number = cc in
              elim (cases_Bool (has_bus buses t)) [
                | inl there ↦ rw (same, there, absent) refl
                | inr no_bus ↦ rw no_bus refl
              ]

  branch_met : (other : CdfFault) → BranchLineHas most buses earlier at line other → Met IsNotAfter (read_branch most buses earlier at line) other
  branch_met NoBusSection has = absurd has
  branch_met BusSectionOpen has = absurd has
  branch_met NoBranchSection has = absurd has
  branch_met BranchSectionOpen has = absurd has
  branch_met (BadBusNumber n) has = (BadBusNumber at, bad_number n has.0 has.1 has.2, record { same_line = sym has.0; not_higher = omega arith })
  branch_met (BadType n) has = absurd has
  branch_met (BusTwice n) has = absurd has
  branch_met (UnknownBus n) has = unknown_bus n has.2 has.0 has.1 has.3 has.4
  branch_met (TooMany n) has =
      (TooMany at, rw (le-leb most (length earlier) (omega (arith, has.1))) refl, record { same_line = sym has.0; not_higher = omega arith })

few_before : (most : ℕ) (buses : List Bus) (earlier : List Branch) (at : ℕ) (line : List ℕ) (fault : CdfFault) → BranchLineHas most buses earlier at line fault → length earlier ≤ most
few_before most buses earlier at line NoBusSection has = absurd has
few_before most buses earlier at line BusSectionOpen has = absurd has
few_before most buses earlier at line NoBranchSection has = absurd has
few_before most buses earlier at line BranchSectionOpen has = absurd has
few_before most buses earlier at line (BadBusNumber n) has = omega (arith, has.1)
few_before most buses earlier at line (BadType n) has = absurd has
few_before most buses earlier at line (BusTwice n) has = absurd has
few_before most buses earlier at line (UnknownBus n) has = omega (arith, has.1)
few_before most buses earlier at line (TooMany n) has = omega (arith, has.1)

-- ---- sections

sections_have : (file : List (List ℕ)) (fault : CdfFault) → end_fault file ≡ Some fault → SectionHas file fault
sections_have file fault is =
    by (list_any is_bus_heading file) (list_any is_end (after_bus_heading file)) (list_any is_branch_heading (after_buses file)) (list_any is_end (after_branch_heading file))
    refl refl refl refl is
  where
    by : (a b c d : Bool) → list_any is_bus_heading file ≡ a → list_any is_end (after_bus_heading file) ≡ b → list_any is_branch_heading (after_buses file) ≡ c → list_any is_end (after_branch_heading file) ≡ d
        → cond (not a) (Some NoBusSection) (cond (not b) (Some BusSectionOpen) (cond (not c) (Some NoBranchSection) (cond (not d) (Some BranchSectionOpen) None))) ≡ Some fault → SectionHas file fault
    by false b c d ea eb ec ed h = (let same : NoBusSection ≡ fault = cc in subst (SectionHas file) same ea)
    by true false c d ea eb ec ed h = (let same : BusSectionOpen ≡ fault = cc in subst (SectionHas file) same (ea, eb))
    by true true false d ea eb ec ed h = (let same : NoBranchSection ≡ fault = cc in subst (SectionHas file) same (ea, eb, ec))
    by true true true false ea eb ec ed h = (let same : BranchSectionOpen ≡ fault = cc in subst (SectionHas file) same (ea, eb, ec, ed))
    by true true true true ea eb ec ed h = cc

sections_met : (file : List (List ℕ)) (fault : CdfFault) → SectionHas file fault → end_fault file ≡ Some fault
sections_met file NoBusSection has = rw has refl
sections_met file BusSectionOpen has = rw (has.0, has.1) refl
sections_met file NoBranchSection has = rw (has.0, has.1, has.2) refl
sections_met file BranchSectionOpen has = rw (has.0, has.1, has.2, has.3) refl
sections_met file (BadBusNumber n) has = absurd has
sections_met file (BadType n) has = absurd has
sections_met file (BusTwice n) has = absurd has
sections_met file (UnknownBus n) has = absurd has
sections_met file (TooMany n) has = absurd has

-- ---- files

module _ (most : ℕ) (bytes : List ℕ) where
  -- what comes after the buses, and after the branches
  abbrev after_all : List Bus → List Branch → Result Tables CdfFault
  after_all buses branches = at_end (end_fault (ended_lines bytes)) (tables_of_rows most buses branches)

  abbrev after_bus_rows : List Bus → Result Tables CdfFault
  after_bus_rows buses = on_ok (read_rows (read_branch most buses) [] (branch_rows (ended_lines bytes))) (after_all buses)

  -- each fault of the file is met, or one that isn't after it
  met_after : (buses : List Bus) (other : CdfFault) → HasBranchFault most buses (branch_rows (ended_lines bytes)) other ⊎ HasSectionFault most buses (ended_lines bytes) other → Met IsNotAfter (after_bus_rows buses) other
  met_after buses other (inl has) =
      let few = few_before most buses has.done has.at has.row other has.has in
      let long = same_length (IsBranchLine buses) 1 has.before has.done has.done_are in
      ends IsNotAfter (read_rows (read_branch most buses) [] (branch_rows (ended_lines bytes))) (after_all buses) other
      (row_met IsNotAfter (read_branch most buses) has (branches_read most buses has.before has.done has.done_are (omega (arith, few, long)))
      (branch_met most buses has.done has.at has.row other has.has))
  met_after buses other (inr has) = (
    other,
    ap (λ r. on_ok r (after_all buses)) (branches_read most buses (branch_rows (ended_lines bytes)) has.branches has.branches_are has.few)
        ∙ ap (λ fault. at_end fault (tables_of_rows most buses has.branches)) (sections_met (ended_lines bytes) other has.has),
    record { same_line = refl; not_higher = omega arith },
  )

  fault_met : (other : CdfFault) → IsFault most bytes other → Met IsNotAfter (cdf_within most bytes) other
  fault_met other (inl has) =
      ends IsNotAfter (read_rows (read_bus most) [] (bus_rows (ended_lines bytes))) after_bus_rows other
      (row_met IsNotAfter (read_bus most) has (buses_read most has.before has.done has.done_are) (bus_met most has.done has.at has.row other has.has))
  fault_met other (inr has) =
      let met = met_after has.0 other has.2 in
      (met.0, ap (λ r. on_ok r after_bus_rows) (buses_read most (bus_rows (ended_lines bytes)) has.0 has.1) ∙ met.1, met.2)

  -- a fault that is met is one of the file
  of_branches : (buses : List Bus) (fault : CdfFault) (r : Result (List Branch) CdfFault) → read_rows (read_branch most buses) [] (branch_rows (ended_lines bytes)) ≡ r → on_ok r (after_all buses) ≡ Err fault
      → HasBranchFault most buses (branch_rows (ended_lines bytes)) fault ⊎ HasSectionFault most buses (ended_lines bytes) fault
  of_branches buses fault (Err f) e is =
      let same : f ≡ fault = cc in
      let s = stops (read_branch most buses) [] (branch_rows (ended_lines bytes)) fault (e ∙ ap (λ g. Err g) same) in
      inl
      (has_fault (read_branch most buses) (AreBranchLines buses) (BranchLineHas most buses) s (branches_are most buses s.before s.done s.done_are).0
      (branch_has most buses s.done s.at s.row fault (few_branches most buses s.before s.done s.done_are) s.has))
  of_branches buses fault (Ok branches) e is =
      let part = branches_are most buses (branch_rows (ended_lines bytes)) branches e in
      inr
      (record {
        branches = branches;
        branches_are = part.0;
        few = part.1;
        has = sections_have (ended_lines bytes) fault (at_the_end (end_fault (ended_lines bytes)) is);
      })
    where
      at_the_end : (o : Option CdfFault) → at_end o (tables_of_rows most buses branches) ≡ Err fault → o ≡ Some fault
      at_the_end None h = cc
      at_the_end (Some f) h = (let same : f ≡ fault = cc in ap (λ g. Some g) same)

  of_buses : (fault : CdfFault) (r : Result (List Bus) CdfFault) → read_rows (read_bus most) [] (bus_rows (ended_lines bytes)) ≡ r → on_ok r after_bus_rows ≡ Err fault → IsFault most bytes fault
  of_buses fault (Err f) e is =
      let same : f ≡ fault = cc in
      let s = stops (read_bus most) [] (bus_rows (ended_lines bytes)) fault (e ∙ ap (λ g. Err g) same) in
      inl
      (has_fault (read_bus most) (AreAllBuses most) (BusLineHas most) s (buses_are most s.before s.done s.done_are)
      (bus_has most s.done s.at s.row fault (few_buses most s.before s.done s.done_are) s.has))
  of_buses fault (Ok buses) e is =
      inr (buses, buses_are most (bus_rows (ended_lines bytes)) buses e, of_branches buses fault (read_rows (read_branch most buses) [] (branch_rows (ended_lines bytes))) refl is)

  fault_is : (fault : CdfFault) → cdf_within most bytes ≡ Err fault → IsFault most bytes fault
  fault_is fault is = of_buses fault (read_rows (read_bus most) [] (bus_rows (ended_lines bytes))) refl is

pub FirstFaultOfFile-holds : FirstFaultOfFile
FirstFaultOfFile-holds most bytes = first_met IsNotAfter (IsFault most bytes) (cdf_within most bytes) (fault_is most bytes) (fault_met most bytes)
