-- The faults of one row.
use Rattle.std.proofs.Common.{◌≡◌, ℕ, ◌+◌, ◌≤◌, ◌⊎◌, Bool, false, cond, leb, List, length, Option, Some, None, Ok, Err, refl, sym, ap, ◌∙◌, subst, inl, inr, arith}
use Rattle.std.proofs.lemmas.Bool.{cases_Bool, leb-false, leb-true, le-leb, lt-leb}
use Rattle.obs_case.specs.declared.rows.Branch.{Branch}
use Rattle.obs_bus_branch.specs.Buses.{has_bus}
use Rattle.obs_bus_branch.proofs.RowsRead.{Met}
use Rattle.obs_matpower.specs.declared.fault.MatFault.{MatFault}
use Rattle.obs_matpower.specs.declared.fault.MatFault.TheVariants.{NoBusTable, BusTableOpen, NoBranchTable, BranchTableOpen, BadBusNumber, BadType, BusTwice, UnknownBus, TooMany, ShortRow, BadStatus}
use Rattle.obs_matpower.specs.declared.fields.BusType.{BusType}
use Rattle.obs_matpower.specs.Fields.{is_short, number_in, status_in, type_in}
use Rattle.obs_matpower.specs.inner.IsFault.{BranchRowHas, BusRowHas, IsNotAfter, IsWhole}
use Rattle.obs_matpower.specs.Read.{BusRow, branch_of, bus_of, buses_of, read_branch, read_bus, with_status}

-- ---- bus rows

module _ (most : ℕ) (earlier : List BusRow) (at : ℕ) (row : List ℕ) where
  pub bus_has : (fault : MatFault) → length earlier ≤ most → read_bus most earlier at row ≡ Err fault → BusRowHas most earlier at row fault
  bus_has fault few is =
      elim (cases_Bool (leb most (length earlier))) [
        | inl full ↦ (
            let t = rw full at is in
            let same : TooMany at ≡ fault = cc in
            subst (BusRowHas most earlier at row) same (refl, omega (arith, few, leb-true most (length earlier) full)))
        | inr room ↦
            let less = leb-false most (length earlier) room in
            let open_row = rw room at is in
            elim (cases_Bool (is_short 2 row)) [
              | inl short ↦ (
                  let t = rw short at open_row in
                  let same : ShortRow at ≡ fault = cc in
                  subst (BusRowHas most earlier at row) same (refl, less, short))
              | inr long ↦ by (number_in 1 row) (type_in 2 row) refl refl (record { room = less; long = long }) (rw long at open_row)
            ]
      ]
    where
      by : (number : Option ℕ) (kind : Option BusType) → number_in 1 row ≡ number → type_in 2 row ≡ kind → IsWhole most (length earlier) 2 row → bus_of earlier at number kind ≡ Err fault → BusRowHas most earlier at row fault
      by None kind n k whole h = (let same : BadBusNumber at ≡ fault = cc in subst (BusRowHas most earlier at row) same (refl, whole, n))
      by (Some number) None n k whole h = (let same : BadType at ≡ fault = cc in subst (BusRowHas most earlier at row) same (refl, whole, k))
      by (Some number) (Some kind) n k whole h =
          elim (cases_Bool (has_bus (buses_of earlier) number)) [
            | inl there ↦ (
                let t = rw there at h in
                let same : BusTwice at ≡ fault = cc in
                subst (BusRowHas most earlier at row) same (refl, whole, number, n, there))
            | inr fresh ↦ (let t = rw fresh at h in cc)
          ]

  -- what a row says that stands in its table and has values enough
  whole_bus : IsWhole most (length earlier) 2 row → read_bus most earlier at row ≡ bus_of earlier at (number_in 1 row) (type_in 2 row)
  whole_bus is = rw (lt-leb most (length earlier) is.room, is.long) refl

  pub bus_met : (other : MatFault) → BusRowHas most earlier at row other → Met IsNotAfter (read_bus most earlier at row) other
  bus_met NoBusTable has = absurd has
  bus_met BusTableOpen has = absurd has
  bus_met NoBranchTable has = absurd has
  bus_met BranchTableOpen has = absurd has
  bus_met (BadBusNumber n) has =
      (BadBusNumber at, whole_bus has.1 ∙ ap (λ number. bus_of earlier at number (type_in 2 row)) has.2, record { same_line = sym has.0; not_higher = omega arith })
  bus_met (BadType n) has = by (number_in 1 row) refl
    where
      by : (number : Option ℕ) → number_in 1 row ≡ number → Met IsNotAfter (read_bus most earlier at row) (BadType n)
      by None e = (BadBusNumber at, whole_bus has.1 ∙ ap (λ x. bus_of earlier at x (type_in 2 row)) e, record { same_line = sym has.0; not_higher = omega arith })
      by (Some number) e = (
        BadType at,
        whole_bus has.1 ∙ ap (λ x. bus_of earlier at x (type_in 2 row)) e ∙ ap (λ kind. bus_of earlier at (Some number) kind) has.2,
        record { same_line = sym has.0; not_higher = omega arith },
      )
  bus_met (BusTwice n) has = by (type_in 2 row) refl
    where
      by : (kind : Option BusType) → type_in 2 row ≡ kind → Met IsNotAfter (read_bus most earlier at row) (BusTwice n)
      by None e = (
        BadType at,
        whole_bus has.1 ∙ ap (λ x. bus_of earlier at x (type_in 2 row)) has.3 ∙ ap (λ kind. bus_of earlier at (Some has.2) kind) e,
        record { same_line = sym has.0; not_higher = omega arith },
      )
      by (Some kind) e = (
        BusTwice at,
        whole_bus has.1 ∙ ap (λ x. bus_of earlier at x (type_in 2 row)) has.3 ∙ ap (λ k. bus_of earlier at (Some has.2) k) e
            ∙ ap (λ b. cond b (Err (BusTwice at)) (Ok (record { number = has.2; kind = kind }))) has.4,
        record { same_line = sym has.0; not_higher = omega arith },
      )
  bus_met (UnknownBus n) has = absurd has
  bus_met (TooMany n) has =
      (TooMany at, rw (le-leb most (length earlier) (omega (arith, has.1))) refl, record { same_line = sym has.0; not_higher = omega arith })
  bus_met (ShortRow n) has =
      (ShortRow at, rw (lt-leb most (length earlier) has.1, has.2) refl, record { same_line = sym has.0; not_higher = omega arith })
  bus_met (BadStatus n) has = absurd has

-- ---- branch rows

module _ (most : ℕ) (buses : List BusRow) (earlier : List Branch) (at : ℕ) (row : List ℕ) where
  pub branch_has : (fault : MatFault) → length earlier ≤ most → read_branch most buses earlier at row ≡ Err fault → BranchRowHas most buses earlier at row fault
  branch_has fault few is =
      elim (cases_Bool (leb most (length earlier))) [
        | inl full ↦ (
            let t = rw full at is in
            let same : TooMany at ≡ fault = cc in
            subst (BranchRowHas most buses earlier at row) same (refl, omega (arith, few, leb-true most (length earlier) full)))
        | inr room ↦
            let less = leb-false most (length earlier) room in
            let open_row = rw room at is in
            elim (cases_Bool (is_short 11 row)) [
              | inl short ↦ (
                  let t = rw short at open_row in
                  let same : ShortRow at ≡ fault = cc in
                  subst (BranchRowHas most buses earlier at row) same (refl, less, short))
              | inr long ↦ by (number_in 1 row) (number_in 2 row) (status_in 11 row) refl refl refl (record { room = less; long = long }) (rw long at open_row)
            ]
      ]
    where
      by : (from to : Option ℕ) (status : Option Bool) → number_in 1 row ≡ from → number_in 2 row ≡ to → status_in 11 row ≡ status → IsWhole most (length earlier) 11 row
          → branch_of buses (length earlier + 1) at from to status ≡ Err fault → BranchRowHas most buses earlier at row fault
      by None to status f t s whole h = (let same : BadBusNumber at ≡ fault = cc in subst (BranchRowHas most buses earlier at row) same (refl, whole, inl f))
      by (Some from) None status f t s whole h = (let same : BadBusNumber at ≡ fault = cc in subst (BranchRowHas most buses earlier at row) same (refl, whole, inr t))
      by (Some from) (Some to) status f t s whole h =
          elim (cases_Bool (has_bus (buses_of buses) from)) [
            | inr absent ↦ (
                let u = rw absent at h in
                let same : UnknownBus at ≡ fault = cc in
                subst (BranchRowHas most buses earlier at row) same (refl, whole, from, inl f, absent))
            | inl there ↦
                elim (cases_Bool (has_bus (buses_of buses) to)) [
                  | inr absent ↦ (
                      let u = rw (there, absent) at h in
                      let same : UnknownBus at ≡ fault = cc in
                      subst (BranchRowHas most buses earlier at row) same (refl, whole, to, inr t, absent))
                  | inl both ↦ stated from to status s whole (rw (there, both) at h)
                ]
          ]
        where
          stated : (from to : ℕ) (status : Option Bool) → status_in 11 row ≡ status → IsWhole most (length earlier) 11 row → with_status buses (length earlier + 1) at from to status ≡ Err fault → BranchRowHas most buses earlier at row fault
          stated from to None s whole h = (let same : BadStatus at ≡ fault = cc in subst (BranchRowHas most buses earlier at row) same (refl, whole, s))
          stated from to (Some on) s whole h = cc

  pub whole_branch : IsWhole most (length earlier) 11 row → (from to : Option ℕ) → number_in 1 row ≡ from → number_in 2 row ≡ to → read_branch most buses earlier at row ≡ branch_of buses (length earlier + 1) at from to (status_in 11 row)
  whole_branch is from to f t = rw (lt-leb most (length earlier) is.room, is.long, f, t) refl

  bad_number : IsWhole most (length earlier) 11 row → (number_in 1 row ≡ None) ⊎ (number_in 2 row ≡ None) → read_branch most buses earlier at row ≡ Err (BadBusNumber at)
  bad_number whole none = by (number_in 1 row) (number_in 2 row) refl refl none
    where
      by : (from to : Option ℕ) → number_in 1 row ≡ from → number_in 2 row ≡ to → (from ≡ None) ⊎ (to ≡ None) → read_branch most buses earlier at row ≡ Err (BadBusNumber at)
      by None to f t which = whole_branch whole None to f t
      by (Some from) None f t which = whole_branch whole (Some from) None f t
      by (Some from) (Some to) f t which = elim which [ inl e ↦ cc | inr e ↦ cc ]

  unknown_bus : (n number : ℕ) → n ≡ at → IsWhole most (length earlier) 11 row → (number_in 1 row ≡ Some number) ⊎ (number_in 2 row ≡ Some number) → has_bus (buses_of buses) number ≡ false
      → Met IsNotAfter (read_branch most buses earlier at row) (UnknownBus n)
  unknown_bus n number is whole which absent = by (number_in 1 row) (number_in 2 row) refl refl which
    where
      by : (from to : Option ℕ) → number_in 1 row ≡ from → number_in 2 row ≡ to → (from ≡ Some number) ⊎ (to ≡ Some number) → Met IsNotAfter (read_branch most buses earlier at row) (UnknownBus n)
      by None to f t w = (BadBusNumber at, whole_branch whole None to f t, record { same_line = sym is; not_higher = omega arith })
      by (Some from) None f t w = (BadBusNumber at, whole_branch whole (Some from) None f t, record { same_line = sym is; not_higher = omega arith })
      by (Some from) (Some to) f t w = (
        UnknownBus at,
        whole_branch whole (Some from) (Some to) f t ∙ refused from to w,
        record { same_line = sym is; not_higher = omega arith },
      )
        where
          refused : (t u : ℕ) → (Some t ≡ Some number) ⊎ (Some u ≡ Some number) → branch_of buses (length earlier + 1) at (Some t) (Some u) (status_in 11 row) ≡ Err (UnknownBus at)
          refused t u (inl e) = (let same : t ≡ number = cc in rw (same, absent) refl)
          refused t u (inr e) =
              let same : u ≡ number = cc in
              elim (cases_Bool (has_bus (buses_of buses) t)) [
                | inl there ↦ rw (same, there, absent) refl
                | inr no_bus ↦ rw no_bus refl
              ]

  bad_status : (n : ℕ) → n ≡ at → IsWhole most (length earlier) 11 row → status_in 11 row ≡ None → Met IsNotAfter (read_branch most buses earlier at row) (BadStatus n)
  bad_status n is whole none = by (number_in 1 row) (number_in 2 row) refl refl
    where
      by : (from to : Option ℕ) → number_in 1 row ≡ from → number_in 2 row ≡ to → Met IsNotAfter (read_branch most buses earlier at row) (BadStatus n)
      by None to f t = (BadBusNumber at, whole_branch whole None to f t, record { same_line = sym is; not_higher = omega arith })
      by (Some from) None f t = (BadBusNumber at, whole_branch whole (Some from) None f t, record { same_line = sym is; not_higher = omega arith })
      by (Some from) (Some to) f t =
          let here = whole_branch whole (Some from) (Some to) f t ∙ ap (branch_of buses (length earlier + 1) at (Some from) (Some to)) none in
          elim (cases_Bool (has_bus (buses_of buses) from)) [
            | inr absent ↦ (UnknownBus at, here ∙ rw absent refl, record { same_line = sym is; not_higher = omega arith })
            | inl there ↦
                elim (cases_Bool (has_bus (buses_of buses) to)) [
                  | inr absent ↦ (UnknownBus at, here ∙ rw (there, absent) refl, record { same_line = sym is; not_higher = omega arith })
                  | inl both ↦ (BadStatus at, here ∙ rw (there, both) refl, record { same_line = sym is; not_higher = omega arith })
                ]
          ]

  pub branch_met : (other : MatFault) → BranchRowHas most buses earlier at row other → Met IsNotAfter (read_branch most buses earlier at row) other
  branch_met NoBusTable has = absurd has
  branch_met BusTableOpen has = absurd has
  branch_met NoBranchTable has = absurd has
  branch_met BranchTableOpen has = absurd has
  branch_met (BadBusNumber n) has = (BadBusNumber at, bad_number has.1 has.2, record { same_line = sym has.0; not_higher = omega arith })
  branch_met (BadType n) has = absurd has
  branch_met (BusTwice n) has = absurd has
  branch_met (UnknownBus n) has = unknown_bus n has.2 has.0 has.1 has.3 has.4
  branch_met (TooMany n) has =
      (TooMany at, rw (le-leb most (length earlier) (omega (arith, has.1))) refl, record { same_line = sym has.0; not_higher = omega arith })
  branch_met (ShortRow n) has =
      (ShortRow at, rw (lt-leb most (length earlier) has.1, has.2) refl, record { same_line = sym has.0; not_higher = omega arith })
  branch_met (BadStatus n) has = bad_status n has.0 has.1 has.2
