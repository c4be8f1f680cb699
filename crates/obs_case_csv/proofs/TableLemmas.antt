-- The rows of one table, read over valid tables that have none of them, and the two tables of a case of nodes and switches.
use Rattle.std.proofs.Common.{ℕ, ◌≡◌, ◌≤◌, ◌∙◌, arith, ap, refl, sym, subst, List, [], ◌∷◌, ◌++◌, map, None, Result, Ok, Err, MatchResult}
use Rattle.obs_case.specs.declared.rows.Branch.{Branch}
use Rattle.obs_case.specs.declared.rows.Candidate.{Candidate}
use Rattle.obs_case.specs.declared.rows.Meter.{Meter}
use Rattle.obs_case.specs.declared.rows.Node.{Node}
use Rattle.obs_case.specs.declared.rows.Switch.{Switch}
use Rattle.obs_case.specs.Tables.{IsNamed, IsValid, Tables, most_rows, no_rows_within, usual_rows}
use Rattle.obs_case.proofs.NameLemmas.{named-none}
use Rattle.obs_case.proofs.ValidLemmas.{valid-no_rows_within}
use Rattle.obs_case_csv.specs.declared.faults.Table.{Table}
use Rattle.obs_case_csv.specs.declared.faults.Table.TheVariants.{Nodes, Switches, Branches, Meters, Candidates}
use Rattle.obs_case_csv.specs.declared.faults.TableFault.{TableFault}
use Rattle.obs_case_csv.specs.Fields.{Record}
use Rattle.obs_case_csv.specs.IsCase.{EachIs, IsBranch, IsCandidate, IsMeter, IsNode, IsSwitch}
use Rattle.obs_case_csv.specs.inner.Laws.{SwitchingIsRead, SwitchingIsReadWithin, TableIsRead}
use Rattle.obs_case_csv.specs.inner.OneTable.{HasRows, IsSwitchingCaseWithin, IsTableOf}
use Rattle.obs_case_csv.specs.Read.{fault_in, fault_of_records, first_fault, rows_before, rows_in, rows_of_records, table_records, then_read}
use Rattle.obs_case_csv.specs.Rows.{names_in}
use Rattle.obs_case_csv.proofs.CaseLemmas.{IsTable, backward, each-map, forward}
use Rattle.obs_case_csv.proofs.ExactLemmas.{are-map, branches_table, candidates_table, meters_table, nodes_table, ok_before, put_branches, put_candidates, put_meters, put_nodes, put_switches, switches_table, then-backward, then-forward}
use Rattle.obs_case_csv.proofs.ReadLemmas.{header-none, with_header}
use Rattle.obs_case_csv.proofs.ReadingLemmas.{branch_made, candidate_made, meter_made, node_made, switch_made}
use Rattle.obs_case_csv.proofs.ValidLemmas.{KeepsValid-holds, valid-then_read}

module _ {R : Type 0} (table : Table) (own : R → List ℕ) (get : Tables → List R) (put : Tables → List R → Tables) (is : Tables → Record → Record → R → Type 0)
    (made : Record → Tables → Record → R) (h : IsTable table own get put is made) (header : Record) (records : List Record) (t : Tables) (empty : get t ≡ []) where
  abbrev pub Has : Tables → Type 0
  Has u = (u ≡ put t (get u)) × EachIs (is u header) records (get u)

  rows-forward : first_fault table header t records ≡ None → Has (rows_before table header t records)
  rows-forward e =
      let read = forward table own get put is made h header records t e (subst (λ l. IsNamed t.most (map own l)) (sym empty) named-none) in
      let xs = read.0 in
      let u = put t xs in
      let same : rows_before table header t records ≡ u = read.1 ∙ ap (λ l. put t (l ++ xs)) empty in
      subst Has (sym same) (
        ap (put t) (sym (h.get_put t xs)),
        subst (EachIs (is u header) records) (sym (h.get_put t xs)) (each-map (is t header) (is u header) (λ r x i. h.put_is t xs header r x i) records xs read.2),
      )

  rows-backward : (u : Tables) → IsNamed u.most (map own (get u)) → Has u → (first_fault table header t records ≡ None) × (rows_before table header t records ≡ u)
  rows-backward u named has =
      let xs = get u in
      let among : EachIs (is (put t xs) header) records xs = subst (λ w. EachIs (is w header) records xs) has.0 has.1 in
      let each = each-map (is (put t xs) header) (is t header) (λ r x i. h.is_put t xs header r x i) records xs among in
      let read = backward table own get put is made h header records xs t each (subst (λ l. IsNamed t.most (map own (l ++ xs))) (sym empty) (subst (λ m. IsNamed m (map own xs)) (ap (λ (w : Tables). w.most) has.0 ∙ h.same_most t xs) named)) in
      (read.0, read.1 ∙ ap (λ l. put t (l ++ xs)) empty ∙ sym has.0)

-- rows without names are none
no_names : {R : Type 0} (own : R → List ℕ) (rows : List R) → map own rows ≡ [] → rows ≡ []
no_names own [] e = refl
no_names own (x ∷ rows) e = cc

module _ (header : Record) (records : List Record) (t : Tables) where
  -- records without a fault are rows
  pub rows-read : (table : Table) → names_in table t ≡ [] → first_fault table header t records ≡ None → HasRows table header records t (rows_before table header t records)
  rows-read Nodes empty e = rows-forward Nodes (λ (r : Node). r.name) (λ u. u.nodes) put_nodes IsNode node_made nodes_table header records t (no_names (λ (r : Node). r.name) t.nodes empty) e
  rows-read Switches empty e =
      rows-forward Switches (λ (r : Switch). r.name) (λ u. u.switches) put_switches IsSwitch switch_made switches_table header records t (no_names (λ (r : Switch). r.name) t.switches empty) e
  rows-read Branches empty e =
      rows-forward Branches (λ (r : Branch). r.name) (λ u. u.branches) put_branches IsBranch branch_made branches_table header records t (no_names (λ (r : Branch). r.name) t.branches empty) e
  rows-read Meters empty e =
      rows-forward Meters (λ (r : Meter). r.name) (λ u. u.meters) put_meters IsMeter meter_made meters_table header records t (no_names (λ (r : Meter). r.name) t.meters empty) e
  rows-read Candidates empty e =
      rows-forward Candidates (λ (r : Candidate). r.name) (λ u. u.candidates) put_candidates IsCandidate candidate_made candidates_table header records t
      (no_names (λ (r : Candidate). r.name) t.candidates empty) e

  -- records that are rows have no fault, and are read as these rows
  pub read-rows : (table : Table) (u : Tables) → IsValid u → names_in table t ≡ [] → HasRows table header records t u
      → (first_fault table header t records ≡ None) × (rows_before table header t records ≡ u)
  read-rows Nodes u v empty has =
      rows-backward Nodes (λ (r : Node). r.name) (λ w. w.nodes) put_nodes IsNode node_made nodes_table header records t (no_names (λ (r : Node). r.name) t.nodes empty) u v.nodes has
  read-rows Switches u v empty has =
      rows-backward Switches (λ (r : Switch). r.name) (λ w. w.switches) put_switches IsSwitch switch_made switches_table header records t (no_names (λ (r : Switch). r.name) t.switches empty) u v.switches has
  read-rows Branches u v empty has =
      rows-backward Branches (λ (r : Branch). r.name) (λ w. w.branches) put_branches IsBranch branch_made branches_table header records t (no_names (λ (r : Branch). r.name) t.branches empty) u v.branches has
  read-rows Meters u v empty has =
      rows-backward Meters (λ (r : Meter). r.name) (λ w. w.meters) put_meters IsMeter meter_made meters_table header records t (no_names (λ (r : Meter). r.name) t.meters empty) u v.meters has
  read-rows Candidates u v empty has =
      rows-backward Candidates (λ (r : Candidate). r.name) (λ w. w.candidates) put_candidates IsCandidate candidate_made candidates_table header records t
      (no_names (λ (r : Candidate). r.name) t.candidates empty) u v.candidates has

-- ---- one table

module _ (table : Table) (t : Tables) (bytes : List ℕ) (valid : IsValid t) (empty : names_in table t ≡ []) where
  table-read : fault_in table t bytes ≡ None → IsTableOf table bytes t (rows_in table t bytes)
  table-read e = by (table_records t.most bytes) refl e
    where
      by : (records : List Record) → table_records t.most bytes ≡ records → fault_of_records table t records ≡ None → IsTableOf table bytes t (rows_in table t bytes)
      by [] at e = cc
      by (header ∷ rows) at e =
          let fine = header-none table t header rows e in
          let same : rows_in table t bytes ≡ rows_before table header t rows = ap (rows_of_records table t) at ∙ (with_header table t header rows fine.0).1 in
          record {
            header = header;
            records = rows;
            records_are = at;
            columns = fine.0;
            valid = KeepsValid-holds table t bytes valid;
            rows = subst (HasRows table header rows t) (sym same) (rows-read header rows t table empty fine.1);
          }

  read-table : (u : Tables) → IsTableOf table bytes t u → (fault_in table t bytes ≡ None) × (rows_in table t bytes ≡ u)
  read-table u h =
      let read = read-rows h.header h.records t table u h.valid empty h.rows in (
        ap (fault_of_records table t) h.records_are ∙ (with_header table t h.header h.records h.columns).0 ∙ read.0,
        ap (rows_of_records table t) h.records_are ∙ (with_header table t h.header h.records h.columns).1 ∙ read.1,
      )

pub TableIsRead-holds : TableIsRead
TableIsRead-holds table t bytes valid empty = (table-read table t bytes valid empty, read-table table t bytes valid empty)

-- ---- nodes and switches alone

module _ (most : ℕ) (limit : most ≤ most_rows) (nodes switches : List ℕ) where
  switching-read : (t : Tables) → then_read Switches switches (then_read Nodes nodes (Ok (no_rows_within most))) ≡ Ok t → IsSwitchingCaseWithin most nodes switches t
  switching-read t e =
      let before = ok_before Switches switches (then_read Nodes nodes (Ok (no_rows_within most))) t e in
      let n = then-forward Nodes (λ (r : Node). r.name) (λ v. v.nodes) put_nodes IsNode node_made nodes_table (no_rows_within most) nodes refl before.0 before.1 in
      let one = put_nodes (no_rows_within most) n.0 in
      let s =
      then-forward Switches (λ (r : Switch). r.name) (λ v. v.switches) put_switches IsSwitch switch_made switches_table one switches refl t
      (subst (λ v. then_read Switches switches (Ok v) ≡ Ok t) n.1 before.2) in
      let two = put_switches one s.0 in
      let valid = valid-then_read Switches switches before.0 t (valid-then_read Nodes nodes (no_rows_within most) before.0 (valid-no_rows_within most limit) before.1) before.2 in
      subst (IsSwitchingCaseWithin most nodes switches) (sym s.1) (record {
        limit = refl;
        valid = subst IsValid s.1 valid;
        nodes_are = are-map most (IsNode (no_rows_within most)) (IsNode two) Nodes nodes n.0 (λ header row x i. record { name = i.name; source = i.source; absolute = i.absolute }) n.2;
        switches_are = are-map most (IsSwitch one) (IsSwitch two) Switches switches s.0 (λ header row x i. record { name = i.name; from = i.from; to = i.to; closed = i.closed }) s.2;
        no_branches = refl;
        no_meters = refl;
        no_candidates = refl;
      })

  -- the same of the tables' own limit
  read-own : (t : Tables) → IsSwitchingCaseWithin t.most nodes switches t → then_read Switches switches (then_read Nodes nodes (Ok (no_rows_within t.most))) ≡ Ok t
  read-own t h =
      let one = put_nodes (no_rows_within t.most) t.nodes in
      let n =
      then-backward Nodes (λ (r : Node). r.name) (λ v. v.nodes) put_nodes IsNode node_made nodes_table (no_rows_within t.most) nodes refl t.nodes
      (are-map t.most (IsNode t) (IsNode (no_rows_within t.most)) Nodes nodes t.nodes (λ header row x i. record { name = i.name; source = i.source; absolute = i.absolute }) h.nodes_are) h.valid.nodes in
      let s =
      then-backward Switches (λ (r : Switch). r.name) (λ v. v.switches) put_switches IsSwitch switch_made switches_table one switches refl t.switches
      (are-map t.most (IsSwitch t) (IsSwitch one) Switches switches t.switches (λ header row x i. record { name = i.name; from = i.from; to = i.to; closed = i.closed }) h.switches_are) h.valid.switches in
      let same : put_switches one t.switches ≡ t =
      ap (λ l. record t { branches = l; meters = []; candidates = [] }) (sym h.no_branches)
      ∙ ap (λ l. record t { meters = l; candidates = [] }) (sym h.no_meters)
      ∙ ap (λ l. record t { candidates = l }) (sym h.no_candidates) in
      ap (then_read Switches switches) n ∙ s ∙ ap (λ u. Ok u) same

  read-switching : (t : Tables) → IsSwitchingCaseWithin most nodes switches t → then_read Switches switches (then_read Nodes nodes (Ok (no_rows_within most))) ≡ Ok t
  read-switching t h =
      subst (λ m. IsSwitchingCaseWithin m nodes switches t → then_read Switches switches (then_read Nodes nodes (Ok (no_rows_within m))) ≡ Ok t) h.limit (read-own t) h

pub SwitchingIsReadWithin-holds : (most : ℕ) → most ≤ most_rows → SwitchingIsReadWithin most
SwitchingIsReadWithin-holds most limit nodes switches = by (then_read Switches switches (then_read Nodes nodes (Ok (no_rows_within most)))) refl
  where
    by : (r : Result Tables TableFault) → then_read Switches switches (then_read Nodes nodes (Ok (no_rows_within most))) ≡ r
        → MatchResult r (λ t. IsSwitchingCaseWithin most nodes switches t × ((u : Tables) → IsSwitchingCaseWithin most nodes switches u → u ≡ t))
        (λ fault. (t : Tables) → IsSwitchingCaseWithin most nodes switches t → ⊥)
    by (Ok t) e = (switching-read most limit nodes switches t e, λ u h. let read = read-switching most limit nodes switches u h in cc)
    by (Err fault) e = λ t h. let read = read-switching most limit nodes switches t h in cc

pub SwitchingIsRead-holds : SwitchingIsRead
SwitchingIsRead-holds = SwitchingIsReadWithin-holds usual_rows (omega arith)
