-- What a case answers to the rows of a file.
use Rattle.std.proofs.Common.{◌≡◌, ℕ, ◌+◌, ◌<◌, Bool, true, false, not, ◌&&◌, cond, List, [], ◌∷◌, ◌++◌, length, map, get_or, decimal, Option, Some, None, Result, Ok, Err, refl, sym, ap, ◌∙◌, subst, inl, inr, arith}
use Rattle.std.proofs.lemmas.Bool.{lt-leb}
use Rattle.std.proofs.lemmas.List.{length-map, map-append}
use Rattle.std.specs.Str.{bytes_eq}
use Rattle.obs_case.specs.Adds.{with_branch, with_node}
use Rattle.obs_case.specs.inner.Adds.{Refuses, node_fault, node_of}
use Rattle.obs_case.specs.Adds as case
use Rattle.obs_case.specs.Tables.{Tables, has_name, node_names, place_of, position_of}
use Rattle.obs_case.specs.declared.rows.Branch.{Branch}
use Rattle.obs_case.specs.declared.rows.Node.{Node}
use Rattle.obs_case.specs.declared.table.AddFault.{AddFault}
use Rattle.obs_case.specs.declared.table.AddFault.TheVariants.{NameTwice, UnknownNode, UnknownPlace, TooMany, NoMemory}
use Rattle.obs_case.proofs.NameLemmas.{missed, position-some}
use Rattle.obs_bus_branch.specs.Buses.{branch_name, has_bus, node_of_bus, place_of_bus, tables_of_rows}
use Rattle.obs_bus_branch.proofs.NumberLemmas.{has_name-bus, name_fault-open, new_name, old_name, place_of-bus}
use Rattle.obs_matpower.specs.declared.fault.MatFault.{MatFault}
use Rattle.obs_matpower.specs.declared.fault.MatFault.TheVariants as mat
use Rattle.obs_matpower.specs.declared.fields.BusType.{BusType}
use Rattle.obs_matpower.specs.declared.stop.Stop.{Stop}
use Rattle.obs_matpower.specs.declared.stop.Stop.TheVariants.{Fault}
use Rattle.obs_matpower.specs.declared.stop.Stop.TheVariants as stop
use Rattle.obs_matpower.specs.Fields.{is_isolated, is_short, is_source, number_in, type_in}
use Rattle.obs_matpower.specs.Read.{BusRow, branch_between, branch_of, buses_of, isolated_of, read_bus, with_status}
use Rattle.obs_matpower.specs.inner.Reading.{Answers, AreBuses, held_branches, held_buses, stop_of}
use Rattle.obs_matpower.proofs.NumberLemmas.{number_in-lt}

-- an answer for a cause that was met
stopped : {A S : Type 0} (stated : Result A MatFault) (held : A → S) (after : S) (fault : AddFault) (cause : MatFault) → stated ≡ Err cause → Answers stated held after (Err (stop_of fault cause))
stopped stated held after NoMemory cause is = tt
stopped stated held after NameTwice cause is = is
stopped stated held after UnknownNode cause is = is
stopped stated held after UnknownPlace cause is = is
stopped stated held after TooMany cause is = is

-- what is held after a stop is said by no answer
pub any_after : {A S : Type 0} (stated : Result A MatFault) (held : A → S) (after last : S) (stop : Stop) → Answers stated held after (Err stop) → Answers stated held last (Err stop)
any_after stated held after last (Fault fault) is = is
any_after stated held after last stop.NoMemory is = tt

-- a case has as many nodes as buses were read
pub nodes-length : (earlier : List BusRow) → length (map node_of_bus (buses_of earlier)) ≡ length earlier
nodes-length earlier =
    length-map (buses_of earlier) node_of_bus ∙ length-map earlier (λ (r : BusRow). record { number = r.number; source = is_source r.kind })

module _ (most : ℕ) (earlier : List BusRow) (at : ℕ) (row : List ℕ) (n : ℕ) (kind : BusType) (are : AreBuses (buses_of earlier)) (few : length earlier < most) (long : is_short 2 row ≡ false) (number : number_in 1 row ≡ Some n) (typed : type_in 2 row ≡ Some kind) where
  abbrev pub before : Tables
  before = tables_of_rows most (buses_of earlier) []

  abbrev pub bus : BusRow
  bus = record { number = n; kind = kind }

  node_names-length : length (node_names before) ≡ length earlier
  node_names-length =
      length-map (map node_of_bus (buses_of earlier)) (λ (r : Node). r.name) ∙ nodes-length earlier

  node_fault-bus : node_fault before (decimal n) ≡ cond (has_bus (buses_of earlier) n) (Some NameTwice) None
  node_fault-bus =
      name_fault-open most (node_names before) (decimal n) (has_bus (buses_of earlier) n)
      (omega (arith, node_names-length, few)) (has_name-bus most (buses_of earlier) [] are (omega arith) n (number_in-lt 1 row n number))

  read_bus-is : read_bus most earlier at row ≡ cond (has_bus (buses_of earlier) n) (Err (mat.BusTwice at)) (Ok bus)
  read_bus-is = rw (lt-leb most (length earlier) few, long, number, typed) refl

  bus_held : held_buses most (earlier ++ bus ∷ []) ≡ (with_node before (node_of (decimal n) (is_source kind)), isolated_of earlier ++ is_isolated kind ∷ [])
  bus_held =
      ap (λ buses. (tables_of_rows most buses [], isolated_of (earlier ++ bus ∷ []))) (map-append (λ (r : BusRow). record { number = r.number; source = is_source r.kind }) earlier (bus ∷ []))
      ∙ ap (λ nodes. (record before { nodes = nodes }, isolated_of (earlier ++ bus ∷ []))) (map-append node_of_bus (buses_of earlier) (record { number = n; source = is_source kind } ∷ []))
      ∙ ap (λ flags. (with_node before (node_of (decimal n) (is_source kind)), flags)) (map-append (λ (r : BusRow). is_isolated r.kind) earlier (bus ∷ []))

  pub bus_accepted : (old new : Tables) (flags after : List Bool) → old ≡ before → flags ≡ isolated_of earlier → node_fault old (decimal n) ≡ None → new ≡ with_node old (node_of (decimal n) (is_source kind))
      → after ≡ flags ++ is_isolated kind ∷ [] → Answers (read_bus most earlier at row) (λ b. held_buses most (earlier ++ b ∷ [])) (new, after) (Ok tt)
  bus_accepted old new flags after is flags_are accepted added pushed =
      let fresh : has_bus (buses_of earlier) n ≡ false = new_name (has_bus (buses_of earlier) n) (sym node_fault-bus ∙ ap (λ t. node_fault t (decimal n)) (sym is) ∙ accepted) in (
        bus,
        read_bus-is ∙ ap (λ there. cond there (Err (mat.BusTwice at)) (Ok bus)) fresh,
        ap (λ t. (t, after)) (added ∙ ap (λ t. with_node t (node_of (decimal n) (is_source kind))) is)
            ∙ ap (λ f. (with_node before (node_of (decimal n) (is_source kind)), f)) (pushed ∙ ap (λ f. f ++ is_isolated kind ∷ []) flags_are)
            ∙ sym bus_held,
      )

  pub bus_refused : (old : Tables) (last : Tables × List Bool) (fault : AddFault) → old ≡ before → Refuses (node_fault old (decimal n)) fault →
      Answers (read_bus most earlier at row) (λ b. held_buses most (earlier ++ b ∷ [])) last (Err (stop_of fault (mat.BusTwice at)))
  bus_refused old last fault is refused =
      let held = λ (b : BusRow). held_buses most (earlier ++ b ∷ []) in
      elim (old_name (has_bus (buses_of earlier) n) fault (subst (λ o. Refuses o fault) (ap (λ t. node_fault t (decimal n)) is ∙ node_fault-bus) refused)) [
        | inl memory ↦ subst (λ f. Answers (read_bus most earlier at row) held last (Err (stop_of f (mat.BusTwice at)))) (sym memory) tt
        | inr there ↦ stopped (read_bus most earlier at row) held last fault (mat.BusTwice at)
            (read_bus-is ∙ ap (λ b. cond b (Err (mat.BusTwice at)) (Ok bus)) there)
      ]

module _ (most : ℕ) (buses : List BusRow) (earlier : List Branch) (at from to : ℕ) (from_small : from < 1000000000) (to_small : to < 1000000000) (are : AreBuses (buses_of buses)) (old : Tables) (is : old ≡ held_branches most buses earlier) where
  -- a name that the case has is that of a bus, and one that it hasn't is not
  absent : (n : ℕ) → n < 1000000000 → None ≡ position_of (node_names old) (decimal n) → has_bus (buses_of buses) n ≡ false
  absent n small none = sym (has_name-bus most (buses_of buses) earlier are (omega arith) n small) ∙ ap (λ t. has_name (node_names t) (decimal n)) (sym is) ∙ missed (node_names old) (decimal n) none

  there : (n i : ℕ) → n < 1000000000 → Some i ≡ position_of (node_names old) (decimal n) → (has_bus (buses_of buses) n ≡ true) × (i ≡ place_of_bus (buses_of buses) n)
  there n i small some =
      let at_name = position-some (bytes_eq (decimal n)) (node_names old) i (sym some) in (
        sym (has_name-bus most (buses_of buses) earlier are (omega arith) n small) ∙ ap (λ t. has_name (node_names t) (decimal n)) (sym is) ∙ at_name.0,
        at_name.1 ∙ ap (λ t. place_of (node_names t) (decimal n)) is ∙ place_of-bus most (buses_of buses) earlier are (omega arith) n small,
      )

  module _ (k : ℕ) (status : Option Bool) where
    pub first_unknown : None ≡ position_of (node_names old) (decimal from) → branch_of buses k at (Some from) (Some to) status ≡ Err (mat.UnknownBus at)
    first_unknown none = rw (absent from from_small none) refl

    pub second_unknown : None ≡ position_of (node_names old) (decimal to) → branch_of buses k at (Some from) (Some to) status ≡ Err (mat.UnknownBus at)
    second_unknown none =
        ap (λ b. cond (has_bus (buses_of buses) from && b) (with_status buses k at from to status) (Err (mat.UnknownBus at))) (absent to to_small none)
        ∙ by (has_bus (buses_of buses) from)
      where
        by : (b : Bool) → cond (b && false) (with_status buses k at from to status) (Err (mat.UnknownBus at)) ≡ Err (mat.UnknownBus at)
        by true = refl
        by false = refl

    module _ (first second : ℕ) (first_is : Some first ≡ position_of (node_names old) (decimal from)) (second_is : Some second ≡ position_of (node_names old) (decimal to)) where
      pub both_known : branch_of buses k at (Some from) (Some to) status ≡ with_status buses k at from to status
      both_known = rw ((there from first from_small first_is).0, (there to second to_small second_is).0) refl

  module _ (first second : ℕ) (first_is : Some first ≡ position_of (node_names old) (decimal from)) (second_is : Some second ≡ position_of (node_names old) (decimal to)) (flags : List Bool) (flags_are : flags ≡ isolated_of buses) where
    -- the row that the case takes is the branch
    pub row-is : (k : ℕ) (status inservice : Bool) → inservice ≡ (status && not (get_or flags first false) && not (get_or flags second false))
        → case.branch_of old (branch_name k) (decimal from) (decimal to) inservice ≡ branch_between buses k from to status
    row-is k status inservice service =
        ap (λ t. case.branch_of t (branch_name k) (decimal from) (decimal to) inservice) is
        ∙ ap (λ i. record { name = branch_name k; from = i; to = place_of (node_names (held_branches most buses earlier)) (decimal to); inservice = inservice }) (place_of-bus most (buses_of buses) earlier are (omega arith) from from_small)
        ∙ ap (λ i. record { name = branch_name k; from = place_of_bus (buses_of buses) from; to = i; inservice = inservice }) (place_of-bus most (buses_of buses) earlier are (omega arith) to to_small)
        ∙ ap (λ on. record { name = branch_name k; from = place_of_bus (buses_of buses) from; to = place_of_bus (buses_of buses) to; inservice = on })
        (service ∙ ap (λ f. status && not (get_or f first false) && not (get_or f second false)) flags_are
        ∙ ap (λ i. status && not (get_or (isolated_of buses) i false) && not (get_or (isolated_of buses) second false)) (there from first from_small first_is).1
        ∙ ap (λ i. status && not (get_or (isolated_of buses) (place_of_bus (buses_of buses) from) false) && not (get_or (isolated_of buses) i false)) (there to second to_small second_is).1)

    pub branch_added : (status inservice : Bool) (new : Tables) → inservice ≡ (status && not (get_or flags first false) && not (get_or flags second false))
        → new ≡ with_branch old (case.branch_of old (branch_name (length earlier + 1)) (decimal from) (decimal to) inservice)
        → Answers (branch_of buses (length earlier + 1) at (Some from) (Some to) (Some status)) (λ branch. held_branches most buses (earlier ++ branch ∷ [])) new (Ok tt)
    branch_added status inservice new service added =
        let k = length earlier + 1 in (
          branch_between buses k from to status,
          both_known k (Some status) first second first_is second_is,
          added ∙ ap (λ row. with_branch old row) (row-is k status inservice service)
              ∙ ap (λ t. with_branch t (branch_between buses k from to status)) is,
        )
