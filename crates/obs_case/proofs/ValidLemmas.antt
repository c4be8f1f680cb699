-- The tables stay valid as rows are added and flags are set.
use Rattle.std.proofs.Common.{ℕ, ◌≡◌, ◌<◌, ◌≤◌, refl, sym, subst, List, [], ◌∷◌, ◌++◌, length, Bool, true, false, arith, map, All, Result, Ok, Err, OnOk, OnErr}
use Rattle.std.proofs.lemmas.List.{length-append, length-map, map-append}
use Rattle.std.proofs.lemmas.List.Elements.{All-nil, All-push, All-weaker}
use Rattle.obs_text.specs.Names.{is_name}
use Rattle.obs_case.specs.declared.rows.Branch.{Branch}
use Rattle.obs_case.specs.declared.rows.Candidate.{Candidate}
use Rattle.obs_case.specs.declared.rows.Kind.{Kind}
use Rattle.obs_case.specs.declared.rows.Kind.TheVariants.{Flow, Injection, Zero, Angle}
use Rattle.obs_case.specs.declared.rows.Meter.{Meter}
use Rattle.obs_case.specs.declared.rows.Node.{Node}
use Rattle.obs_case.specs.declared.rows.Switch.{Switch}
use Rattle.obs_case.specs.declared.table.AddFault.{AddFault}
use Rattle.obs_case.specs.Flags.{with_branch_inservice, with_closed, with_meter_inservice}
use Rattle.obs_case.specs.inner.Flags.{with_absolute}
use Rattle.obs_case.specs.Tables.{IsNamed, IsValid, Tables, branch_names, candidate_names, has_name, meter_names, most_price, most_rows, no_rows_within, node_names, places, switch_names, usual_rows}
use Rattle.obs_case.specs.inner.Tables.{no_rows}
use Rattle.obs_case.proofs.NameLemmas.{named-none, named-push}
use Rattle.obs_case.proofs.RowLemmas.{All-changed, map-changed, length-changed}

pub valid-no_rows_within : (most : ℕ) → most ≤ most_rows → IsValid (no_rows_within most)
valid-no_rows_within most limit =
    record {
      nodes = named-none;
      switches = named-none;
      branches = named-none;
      meters = named-none;
      candidates = named-none;
      switch_ends = All-nil _;
      branch_ends = All-nil _;
      meter_places = All-nil _;
      candidate_places = All-nil _;
      prices = All-nil _;
      limit = limit;
    }

pub valid-no_rows : IsValid no_rows
valid-no_rows = valid-no_rows_within usual_rows (omega arith)

-- one row more of a new name
pub named-row : {R : Type 0} {most : ℕ} (own : R → List ℕ) (rows : List R) (row : R) → IsNamed most (map own rows) → is_name (own row) ≡ true → has_name (map own rows) (own row) ≡ false → length (map own rows) < most → IsNamed most (map own (rows ++ row ∷ []))
named-row {most = most} own rows row h good new room = subst (IsNamed most) (sym (map-append own rows (row ∷ []))) (named-push (map own rows) (own row) h good new room)

-- the same after a row was refused or added
grown : {R : Type 0} {most : ℕ} (own : R → List ℕ) (rows after : List R) (row : R) (result : Result ℕ AddFault) → IsNamed most (map own rows) → is_name (own row) ≡ true → (length rows ≡ most → ⊥)
    → OnOk result (has_name (map own rows) (own row) ≡ false) → OnOk result (after ≡ rows ++ row ∷ []) → OnErr result (after ≡ rows) → IsNamed most (map own after)
grown {most = most} own rows after row (Ok at) h good room new added same =
    let fits : length (map own rows) < most = omega (arith, length-map rows own, h.few, room) in
    subst (λ l. IsNamed most (map own l)) (sym added) (named-row own rows row h good new fits)
grown {most = most} own rows after row (Err e) h good room new added same = subst (λ l. IsNamed most (map own l)) (sym same) h

-- each row of the table meets a fact where the new one does
each : {R : Type 0} (P : R → Type 0) (rows after : List R) (row : R) (result : Result ℕ AddFault) → All P rows → P row → OnOk result (after ≡ rows ++ row ∷ []) → OnErr result (after ≡ rows) → All P after
each P rows after row (Ok at) h one added same = subst (All P) (sym added) (All-push P rows row h one)
each P rows after row (Err e) h one added same = subst (All P) (sym same) h

longer : {R : Type 0} (rows after : List R) (row : R) (result : Result ℕ AddFault) → OnOk result (after ≡ rows ++ row ∷ []) → OnErr result (after ≡ rows) → length rows ≤ length after
longer rows after row (Ok at) added same = rw (added, length-append rows (row ∷ [])) (omega arith)
longer rows after row (Err e) added same = rw same (omega arith)

-- positions that are in range stay so where there are more nodes and branches
more_places : (t u : Tables) (kind : Kind) → length t.nodes ≤ length u.nodes → length t.branches ≤ length u.branches → places t kind ≤ places u kind
more_places t u Flow nodes branches = branches
more_places t u Injection nodes branches = nodes
more_places t u Zero nodes branches = nodes
more_places t u Angle nodes branches = nodes

more_ends : {R : Type 0} (from to : R → ℕ) (rows : List R) (m n : ℕ) → m ≤ n → All (λ r. (from r < m) × (to r < m)) rows → All (λ r. (from r < n) × (to r < n)) rows
more_ends from to rows m n le h = All-weaker (λ r. (from r < m) × (to r < m)) (λ r. (from r < n) × (to r < n)) (λ r ends. (omega arith, omega arith)) rows h

more_at : {R : Type 0} (at : R → ℕ) (kind : R → Kind) (rows : List R) (t u : Tables) → length t.nodes ≤ length u.nodes → length t.branches ≤ length u.branches
    → All (λ r. at r < places t (kind r)) rows → All (λ r. at r < places u (kind r)) rows
more_at at kind rows t u nodes branches h =
    All-weaker (λ r. at r < places t (kind r)) (λ r. at r < places u (kind r)) (λ r within. omega (arith, more_places t u (kind r) nodes branches)) rows h

module _ (t : Tables) (h : IsValid t) (result : Result ℕ AddFault) where
  pub valid-nodes : (row : Node) (after : List Node) → is_name row.name ≡ true → (length t.nodes ≡ t.most → ⊥)
      → OnOk result (has_name (node_names t) row.name ≡ false) → OnOk result (after ≡ t.nodes ++ row ∷ []) → OnErr result (after ≡ t.nodes) → IsValid (record t { nodes = after })
  valid-nodes row after good room new added same =
      let more = longer t.nodes after row result added same in
      let u : Tables = record t { nodes = after } in
      let same_branches : length t.branches ≤ length t.branches = omega arith in
      record {
        nodes = grown (λ (r : Node). r.name) t.nodes after row result h.nodes good room new added same;
        switches = h.switches;
        branches = h.branches;
        meters = h.meters;
        candidates = h.candidates;
        switch_ends = more_ends (λ (r : Switch). r.from) (λ (r : Switch). r.to) t.switches (length t.nodes) (length after) more h.switch_ends;
        branch_ends = more_ends (λ (r : Branch). r.from) (λ (r : Branch). r.to) t.branches (length t.nodes) (length after) more h.branch_ends;
        meter_places = more_at (λ (r : Meter). r.at) (λ (r : Meter). r.kind) t.meters t u more same_branches h.meter_places;
        candidate_places = more_at (λ (r : Candidate). r.at) (λ (r : Candidate). r.kind) t.candidates t u more same_branches h.candidate_places;
        prices = h.prices;
        limit = h.limit;
      }

  pub valid-switches : (row : Switch) (after : List Switch) → is_name row.name ≡ true → (length t.switches ≡ t.most → ⊥) → (row.from < length t.nodes) × (row.to < length t.nodes)
      → OnOk result (has_name (switch_names t) row.name ≡ false) → OnOk result (after ≡ t.switches ++ row ∷ []) → OnErr result (after ≡ t.switches) → IsValid (record t { switches = after })
  valid-switches row after good room ends new added same =
      record {
        nodes = h.nodes;
        switches = grown (λ (r : Switch). r.name) t.switches after row result h.switches good room new added same;
        branches = h.branches;
        meters = h.meters;
        candidates = h.candidates;
        switch_ends = each (λ (r : Switch). (r.from < length t.nodes) × (r.to < length t.nodes)) t.switches after row result h.switch_ends ends added same;
        branch_ends = h.branch_ends;
        meter_places = h.meter_places;
        candidate_places = h.candidate_places;
        prices = h.prices;
        limit = h.limit;
      }

  pub valid-branches : (row : Branch) (after : List Branch) → is_name row.name ≡ true → (length t.branches ≡ t.most → ⊥) → (row.from < length t.nodes) × (row.to < length t.nodes)
      → OnOk result (has_name (branch_names t) row.name ≡ false) → OnOk result (after ≡ t.branches ++ row ∷ []) → OnErr result (after ≡ t.branches) → IsValid (record t { branches = after })
  valid-branches row after good room ends new added same =
      let more = longer t.branches after row result added same in
      let u : Tables = record t { branches = after } in
      let same_nodes : length t.nodes ≤ length t.nodes = omega arith in
      record {
        nodes = h.nodes;
        switches = h.switches;
        branches = grown (λ (r : Branch). r.name) t.branches after row result h.branches good room new added same;
        meters = h.meters;
        candidates = h.candidates;
        switch_ends = h.switch_ends;
        branch_ends = each (λ (r : Branch). (r.from < length t.nodes) × (r.to < length t.nodes)) t.branches after row result h.branch_ends ends added same;
        meter_places = more_at (λ (r : Meter). r.at) (λ (r : Meter). r.kind) t.meters t u same_nodes more h.meter_places;
        candidate_places = more_at (λ (r : Candidate). r.at) (λ (r : Candidate). r.kind) t.candidates t u same_nodes more h.candidate_places;
        prices = h.prices;
        limit = h.limit;
      }

  pub valid-meters : (row : Meter) (after : List Meter) → is_name row.name ≡ true → (length t.meters ≡ t.most → ⊥) → row.at < places t row.kind
      → OnOk result (has_name (meter_names t) row.name ≡ false) → OnOk result (after ≡ t.meters ++ row ∷ []) → OnErr result (after ≡ t.meters) → IsValid (record t { meters = after })
  valid-meters row after good room within new added same =
      record {
        nodes = h.nodes;
        switches = h.switches;
        branches = h.branches;
        meters = grown (λ (r : Meter). r.name) t.meters after row result h.meters good room new added same;
        candidates = h.candidates;
        switch_ends = h.switch_ends;
        branch_ends = h.branch_ends;
        meter_places = each (λ (r : Meter). r.at < places t r.kind) t.meters after row result h.meter_places within added same;
        candidate_places = h.candidate_places;
        prices = h.prices;
        limit = h.limit;
      }

  pub valid-candidates : (row : Candidate) (after : List Candidate) → is_name row.name ≡ true → (length t.candidates ≡ t.most → ⊥) → row.at < places t row.kind → row.price ≤ most_price
      → OnOk result (has_name (candidate_names t) row.name ≡ false) → OnOk result (after ≡ t.candidates ++ row ∷ []) → OnErr result (after ≡ t.candidates) → IsValid (record t { candidates = after })
  valid-candidates row after good room within price new added same =
      record {
        nodes = h.nodes;
        switches = h.switches;
        branches = h.branches;
        meters = h.meters;
        candidates = grown (λ (r : Candidate). r.name) t.candidates after row result h.candidates good room new added same;
        switch_ends = h.switch_ends;
        branch_ends = h.branch_ends;
        meter_places = h.meter_places;
        candidate_places = each (λ (r : Candidate). r.at < places t r.kind) t.candidates after row result h.candidate_places within added same;
        prices = each (λ (r : Candidate). r.price ≤ most_price) t.candidates after row result h.prices price added same;
        limit = h.limit;
      }

module _ (t : Tables) (h : IsValid t) (at : ℕ) (flag : Bool) where
  pub valid-with_absolute : IsValid (with_absolute t at flag)
  valid-with_absolute =
      let change : Node → Node = λ r. record r { absolute = flag } in
      let u = with_absolute t at flag in
      let same_length : length t.nodes ≤ length u.nodes = omega (arith, length-changed change t.nodes at) in
      let same_branches : length t.branches ≤ length t.branches = omega arith in
      record {
        nodes = subst (IsNamed t.most) (sym (map-changed change (λ (r : Node). r.name) (λ r. refl) t.nodes at)) h.nodes;
        switches = h.switches;
        branches = h.branches;
        meters = h.meters;
        candidates = h.candidates;
        switch_ends = more_ends (λ (r : Switch). r.from) (λ (r : Switch). r.to) t.switches (length t.nodes) (length u.nodes) same_length h.switch_ends;
        branch_ends = more_ends (λ (r : Branch). r.from) (λ (r : Branch). r.to) t.branches (length t.nodes) (length u.nodes) same_length h.branch_ends;
        meter_places = more_at (λ (r : Meter). r.at) (λ (r : Meter). r.kind) t.meters t u same_length same_branches h.meter_places;
        candidate_places = more_at (λ (r : Candidate). r.at) (λ (r : Candidate). r.kind) t.candidates t u same_length same_branches h.candidate_places;
        prices = h.prices;
        limit = h.limit;
      }

  pub valid-with_closed : IsValid (with_closed t at flag)
  valid-with_closed =
      let change : Switch → Switch = λ r. record r { closed = flag } in
      record {
        nodes = h.nodes;
        switches = subst (IsNamed t.most) (sym (map-changed change (λ (r : Switch). r.name) (λ r. refl) t.switches at)) h.switches;
        branches = h.branches;
        meters = h.meters;
        candidates = h.candidates;
        switch_ends = All-changed change (λ (r : Switch). (r.from < length t.nodes) × (r.to < length t.nodes)) (λ r ends. ends) t.switches at h.switch_ends;
        branch_ends = h.branch_ends;
        meter_places = h.meter_places;
        candidate_places = h.candidate_places;
        prices = h.prices;
        limit = h.limit;
      }

  pub valid-with_branch_inservice : IsValid (with_branch_inservice t at flag)
  valid-with_branch_inservice =
      let change : Branch → Branch = λ r. record r { inservice = flag } in
      let u = with_branch_inservice t at flag in
      let same_nodes : length t.nodes ≤ length t.nodes = omega arith in
      let same_length : length t.branches ≤ length u.branches = omega (arith, length-changed change t.branches at) in
      record {
        nodes = h.nodes;
        switches = h.switches;
        branches = subst (IsNamed t.most) (sym (map-changed change (λ (r : Branch). r.name) (λ r. refl) t.branches at)) h.branches;
        meters = h.meters;
        candidates = h.candidates;
        switch_ends = h.switch_ends;
        branch_ends = All-changed change (λ (r : Branch). (r.from < length t.nodes) × (r.to < length t.nodes)) (λ r ends. ends) t.branches at h.branch_ends;
        meter_places = more_at (λ (r : Meter). r.at) (λ (r : Meter). r.kind) t.meters t u same_nodes same_length h.meter_places;
        candidate_places = more_at (λ (r : Candidate). r.at) (λ (r : Candidate). r.kind) t.candidates t u same_nodes same_length h.candidate_places;
        prices = h.prices;
        limit = h.limit;
      }

  pub valid-with_meter_inservice : IsValid (with_meter_inservice t at flag)
  valid-with_meter_inservice =
      let change : Meter → Meter = λ r. record r { inservice = flag } in
      record {
        nodes = h.nodes;
        switches = h.switches;
        branches = h.branches;
        meters = subst (IsNamed t.most) (sym (map-changed change (λ (r : Meter). r.name) (λ r. refl) t.meters at)) h.meters;
        candidates = h.candidates;
        switch_ends = h.switch_ends;
        branch_ends = h.branch_ends;
        meter_places = All-changed change (λ (r : Meter). r.at < places t r.kind) (λ r within. within) t.meters at h.meter_places;
        candidate_places = h.candidate_places;
        prices = h.prices;
        limit = h.limit;
      }
