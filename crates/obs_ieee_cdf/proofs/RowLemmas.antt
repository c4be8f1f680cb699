-- What a case answers to the rows that lines are.
use Rattle.std.proofs.Common.{◌≡◌, ℕ, ◌+◌, ◌<◌, ◌≤◌, Bool, true, false, ◌&&◌, ◌⊎◌, cond, List, [], ◌∷◌, ◌++◌, length, map, decimal, Some, None, Result, Ok, Err, refl, sym, ap, ◌∙◌, subst, inl, inr, arith}
use Rattle.std.proofs.lemmas.Bool.{lt-leb}
use Rattle.std.proofs.lemmas.List.{length-map, map-append}
use Rattle.obs_case.specs.Adds.{with_branch, with_node}
use Rattle.obs_case.specs.inner.Adds.{Refuses, branch_fault, first_fault, name_fault, ends_fault, node_fault, node_of}
use Rattle.obs_case.specs.Adds as case
use Rattle.obs_case.specs.Tables.{Tables, has_name, most_rows, node_names, place_of}
use Rattle.obs_case.specs.declared.rows.Branch.{Branch}
use Rattle.obs_case.specs.declared.rows.Node.{Node}
use Rattle.obs_case.specs.declared.table.AddFault.{AddFault}
use Rattle.obs_case.specs.declared.table.AddFault.TheVariants.{NameTwice, UnknownNode, UnknownPlace, TooMany, NoMemory}
use Rattle.obs_bus_branch.specs.Buses.{Bus, branch_name, has_bus, node_of_bus, place_of_bus, tables_of_rows}
use Rattle.obs_bus_branch.specs.inner.Buses.{AreNamed}
use Rattle.obs_bus_branch.proofs.NumberLemmas.{has_name-branch, has_name-bus, name_fault-open, new_name, old_name, place_of-bus}
use Rattle.obs_ieee_cdf.specs.declared.fault.CdfFault.{CdfFault}
use Rattle.obs_ieee_cdf.specs.declared.fault.CdfFault.TheVariants as cdf
use Rattle.obs_ieee_cdf.specs.Fields.{bus_field, number_of, source_of, tap_field, type_field, z_field}
use Rattle.obs_ieee_cdf.specs.inner.Reading.{Answers, AreBuses, stop_of}
use Rattle.obs_ieee_cdf.specs.Rows.{read_branch, read_bus}
use Rattle.obs_ieee_cdf.proofs.NumberLemmas.{number_of-lt}

-- an answer for a cause that was met
stopped : {A : Type 0} (stated : Result A CdfFault) (tables : A → Tables) (after : Tables) (fault : AddFault) (cause : CdfFault) → stated ≡ Err cause → Answers stated tables after (Err (stop_of fault cause))
stopped stated tables after NoMemory cause is = tt
stopped stated tables after NameTwice cause is = is
stopped stated tables after UnknownNode cause is = is
stopped stated tables after UnknownPlace cause is = is
stopped stated tables after TooMany cause is = is

module _ (most : ℕ) (earlier : List Bus) (at : ℕ) (line : List ℕ) (n : ℕ) (source : Bool) (are : AreBuses earlier) (few : length earlier < most) (number : number_of (bus_field line) ≡ Some n) (kind : source_of (type_field line) ≡ Some source) where
  node_names-length : length (node_names (tables_of_rows most earlier [])) ≡ length earlier
  node_names-length = length-map (map node_of_bus earlier) (λ (row : Node). row.name) ∙ length-map earlier node_of_bus

  node_fault-bus : node_fault (tables_of_rows most earlier []) (decimal n) ≡ cond (has_bus earlier n) (Some NameTwice) None
  node_fault-bus =
      name_fault-open most (node_names (tables_of_rows most earlier [])) (decimal n) (has_bus earlier n)
      (omega (arith, node_names-length, few)) (has_name-bus most earlier [] are (omega arith) n (number_of-lt (bus_field line) n number))

  read_bus-is : read_bus most earlier at line ≡ cond (has_bus earlier n) (Err (cdf.BusTwice at)) (Ok (record { number = n; source = source }))
  read_bus-is = rw (lt-leb most (length earlier) few, number, kind) refl

  pub bus_accepted : (old new : Tables) → old ≡ tables_of_rows most earlier [] → node_fault old (decimal n) ≡ None → new ≡ with_node old (node_of (decimal n) source) →
      Answers (read_bus most earlier at line) (λ bus. tables_of_rows most (earlier ++ bus ∷ []) []) new (Ok tt)
  bus_accepted old new is accepted added =
      let fresh : has_bus earlier n ≡ false = new_name (has_bus earlier n) (sym node_fault-bus ∙ ap (λ t. node_fault t (decimal n)) (sym is) ∙ accepted) in
      let bus : Bus = record { number = n; source = source } in (
        bus,
        read_bus-is ∙ ap (λ there. cond there (Err (cdf.BusTwice at)) (Ok bus)) fresh,
        added ∙ ap (λ t. with_node t (node_of (decimal n) source)) is
            ∙ ap (λ nodes. record (tables_of_rows most earlier []) { nodes = nodes }) (sym (map-append node_of_bus earlier (bus ∷ []))),
      )

  pub bus_refused : (old new : Tables) (fault : AddFault) → old ≡ tables_of_rows most earlier [] → Refuses (node_fault old (decimal n)) fault →
      Answers (read_bus most earlier at line) (λ bus. tables_of_rows most (earlier ++ bus ∷ []) []) new (Err (stop_of fault (cdf.BusTwice at)))
  bus_refused old new fault is refused =
      let tables = λ (bus : Bus). tables_of_rows most (earlier ++ bus ∷ []) [] in
      elim (old_name (has_bus earlier n) fault (subst (λ o. Refuses o fault) (ap (λ t. node_fault t (decimal n)) is ∙ node_fault-bus) refused)) [
        | inl memory ↦ subst (λ f. Answers (read_bus most earlier at line) tables new (Err (stop_of f (cdf.BusTwice at)))) (sym memory) tt
        | inr there ↦ stopped (read_bus most earlier at line) tables new fault (cdf.BusTwice at)
            (read_bus-is ∙ ap (λ b. cond b (Err (cdf.BusTwice at)) (Ok (record { number = n; source = source }))) there)
      ]

-- a row whose name is new is refused where an end is unknown
known : (there : Bool) → cond there None (Some UnknownNode) ≡ None → there ≡ true
known true is = refl
known false is = cc

unknown : (there : Bool) (fault : AddFault) → Refuses (cond there None (Some UnknownNode)) fault → (fault ≡ NoMemory) ⊎ (there ≡ false)
unknown false fault is = inr refl
unknown true NoMemory is = inl refl
unknown true NameTwice is = cc
unknown true UnknownNode is = cc
unknown true UnknownPlace is = cc
unknown true TooMany is = cc

module _ (most : ℕ) (limit : most ≤ most_rows) (buses : List Bus) (earlier : List Branch) (at : ℕ) (line : List ℕ) (tap z : ℕ) (are : AreBuses buses) (named : AreNamed 1 earlier) (few : length earlier < most) (from : number_of (tap_field line) ≡ Some tap) (to : number_of (z_field line) ≡ Some z) where
  abbrev pub row : Branch
  row = record { name = branch_name (length earlier + 1); from = place_of_bus buses tap; to = place_of_bus buses z; inservice = true }

  abbrev pub tables : Branch → Tables
  tables branch = tables_of_rows most buses (earlier ++ branch ∷ [])

  tap_small : tap < 10000
  tap_small = number_of-lt (tap_field line) tap from

  z_small : z < 10000
  z_small = number_of-lt (z_field line) z to

  new_branch : name_fault most (map (λ (branch : Branch). branch.name) earlier) (branch_name (length earlier + 1)) ≡ None
  new_branch =
      name_fault-open most (map (λ (branch : Branch). branch.name) earlier) (branch_name (length earlier + 1)) false
      (omega (arith, few, length-map earlier (λ (branch : Branch). branch.name)))
      (has_name-branch 1 (length earlier + 1) earlier named (omega arith) (omega (arith, few, limit)))

  branch_fault-is : branch_fault (tables_of_rows most buses earlier) (branch_name (length earlier + 1)) (decimal tap) (decimal z) ≡ cond (has_bus buses tap && has_bus buses z) None (Some UnknownNode)
  branch_fault-is =
      ap (λ o. first_fault o (ends_fault (tables_of_rows most buses earlier) (decimal tap) (decimal z))) new_branch
      ∙ ap (λ b. cond (b && has_name (node_names (tables_of_rows most buses earlier)) (decimal z)) None (Some UnknownNode)) (has_name-bus most buses earlier are (omega arith) tap tap_small)
      ∙ ap (λ b. cond (has_bus buses tap && b) None (Some UnknownNode)) (has_name-bus most buses earlier are (omega arith) z z_small)

  read_branch-is : read_branch most buses earlier at line ≡ cond (has_bus buses tap && has_bus buses z) (Ok row) (Err (cdf.UnknownBus at))
  read_branch-is = rw (lt-leb most (length earlier) few, from, to) refl

  row-is : case.branch_of (tables_of_rows most buses earlier) (branch_name (length earlier + 1)) (decimal tap) (decimal z) true ≡ row
  row-is =
      ap (λ i. record row { from = i; to = place_of (node_names (tables_of_rows most buses earlier)) (decimal z) }) (place_of-bus most buses earlier are (omega arith) tap tap_small)
      ∙ ap (λ i. record row { to = i }) (place_of-bus most buses earlier are (omega arith) z z_small)

  pub branch_accepted : (old new : Tables) → old ≡ tables_of_rows most buses earlier → branch_fault old (branch_name (length earlier + 1)) (decimal tap) (decimal z) ≡ None →
      new ≡ with_branch old (case.branch_of old (branch_name (length earlier + 1)) (decimal tap) (decimal z) true) → Answers (read_branch most buses earlier at line) tables new (Ok tt)
  branch_accepted old new is accepted added =
      let both : (has_bus buses tap && has_bus buses z) ≡ true =
      known (has_bus buses tap && has_bus buses z) (sym branch_fault-is ∙ ap (λ t. branch_fault t (branch_name (length earlier + 1)) (decimal tap) (decimal z)) (sym is) ∙ accepted) in (
        row,
        read_branch-is ∙ ap (λ b. cond b (Ok row) (Err (cdf.UnknownBus at))) both,
        added ∙ ap (λ t. with_branch t (case.branch_of t (branch_name (length earlier + 1)) (decimal tap) (decimal z) true)) is
            ∙ ap (λ branch. tables branch) row-is,
      )

  pub branch_refused : (old new : Tables) (fault : AddFault) → old ≡ tables_of_rows most buses earlier → Refuses (branch_fault old (branch_name (length earlier + 1)) (decimal tap) (decimal z)) fault →
      Answers (read_branch most buses earlier at line) tables new (Err (stop_of fault (cdf.UnknownBus at)))
  branch_refused old new fault is refused =
      elim (unknown (has_bus buses tap && has_bus buses z) fault
      (subst (λ o. Refuses o fault) (ap (λ t. branch_fault t (branch_name (length earlier + 1)) (decimal tap) (decimal z)) is ∙ branch_fault-is) refused)) [
        | inl memory ↦ subst (λ f. Answers (read_branch most buses earlier at line) tables new (Err (stop_of f (cdf.UnknownBus at)))) (sym memory) tt
        | inr absent ↦ stopped (read_branch most buses earlier at line) tables new fault (cdf.UnknownBus at)
            (read_branch-is ∙ ap (λ b. cond b (Ok row) (Err (cdf.UnknownBus at))) absent)
      ]
