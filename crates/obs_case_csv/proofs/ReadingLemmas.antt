-- A record that isn't refused is a row, and a record that is a row isn't refused: one table after the other.
use Rattle.std.proofs.Common.{ℕ, ◌≡◌, ◌∙◌, ap, refl, sym, List, [], ◌∷◌, length, Bool, ◌||◌, not, true, false, Option, Some, None, is_none, unwrap_or, codes, if◌then◌else◌, nat_eq}
use Rattle.std.proofs.lemmas.Bool.{and_parts, and_from, not-false, or_parts}
use Rattle.std.specs.Option.{option_and_then}
use Rattle.std.specs.Str.{bytes_eq}
use Rattle.obs_text.specs.Names.{is_name}
use Rattle.obs_case.specs.declared.rows.Branch.{Branch}
use Rattle.obs_case.specs.declared.rows.Candidate.{Candidate}
use Rattle.obs_case.specs.declared.rows.Kind.{Kind}
use Rattle.obs_case.specs.declared.rows.Kind.TheVariants.{Zero}
use Rattle.obs_case.specs.declared.rows.Meter.{Meter}
use Rattle.obs_case.specs.declared.rows.Node.{Node}
use Rattle.obs_case.specs.declared.rows.Switch.{Switch}
use Rattle.obs_case.specs.Adds.{branch_of, candidate_of, meter_of, switch_of}
use Rattle.obs_case.specs.Tables.{Tables, branch_names, candidate_names, has_name, meter_names, node_names, place_names, place_of, position_of, switch_names}
use Rattle.obs_case.proofs.NameLemmas.{position-some, position-there}
use Rattle.obs_case_csv.specs.declared.faults.RowFault.{RowFault}
use Rattle.obs_case_csv.specs.declared.faults.RowFault.TheVariants.{ShortRow, TooMany}
use Rattle.obs_case_csv.specs.declared.faults.Table.{Table}
use Rattle.obs_case_csv.specs.declared.faults.Table.TheVariants.{Nodes, Switches, Branches, Meters, Candidates}
use Rattle.obs_case_csv.specs.Fields.{Record, field_of, field_under, flag_of, is_short, kind_of, price_of, read_columns}
use Rattle.obs_case_csv.specs.IsCase.{IsBranch, IsCandidate, IsMeter, IsNode, IsSwitch}
use Rattle.obs_case_csv.specs.Rows.{fields_fault, flag, has_ends, has_place, kind, lowest, names_in, node_read, price, row_fault}

-- a test that did not hold, and what was tried after it
unless : (b : Bool) (fault : RowFault) (o : Option RowFault) → (if b then Some fault else o) ≡ None → (b ≡ false) × (o ≡ None)
unless true fault o h = cc
unless false fault o h = (refl, h)

-- no test holds
clear3 : (f0 f1 f2 : RowFault) (b0 b1 b2 : Bool) → b0 ≡ false → b1 ≡ false → b2 ≡ false → lowest ((f0, b0) ∷ (f1, b1) ∷ (f2, b2) ∷ []) ≡ None
clear3 f0 f1 f2 b0 b1 b2 p q r = rw (p, q, r) refl

clear4 : (f0 f1 f2 f3 : RowFault) (b0 b1 b2 b3 : Bool) → b0 ≡ false → b1 ≡ false → b2 ≡ false → b3 ≡ false → lowest ((f0, b0) ∷ (f1, b1) ∷ (f2, b2) ∷ (f3, b3) ∷ []) ≡ None
clear4 f0 f1 f2 f3 b0 b1 b2 b3 p q r s = rw (p, q, r, s) refl

clear5 : (f0 f1 f2 f3 f4 : RowFault) (b0 b1 b2 b3 b4 : Bool) → b0 ≡ false → b1 ≡ false → b2 ≡ false → b3 ≡ false → b4 ≡ false
    → lowest ((f0, b0) ∷ (f1, b1) ∷ (f2, b2) ∷ (f3, b3) ∷ (f4, b4) ∷ []) ≡ None
clear5 f0 f1 f2 f3 f4 b0 b1 b2 b3 b4 p q r s u = rw (p, q, r, s, u) refl

-- a value that is there
value : {A : Type 0} (o : Option A) (d : A) → is_none o ≡ false → o ≡ Some (unwrap_or o d)
value None d h = cc
value (Some x) d h = refl

-- a reading that has a value
reading : {A : Type 0} (read : List ℕ → Option A) (o : Option (List ℕ)) (d : A) → is_none o ≡ false → is_none (read (unwrap_or o [])) ≡ false → option_and_then read o ≡ Some (unwrap_or (read (unwrap_or o [])) d)
reading read o d there good = ap (option_and_then read) (value o [] there) ∙ value (read (unwrap_or o [])) d good

-- what a row's reading says of the field
read_there : {A : Type 0} (read : List ℕ → Option A) (o : Option (List ℕ)) (x : A) → option_and_then read o ≡ Some x → is_none o ≡ false
read_there read None x h = cc
read_there read (Some bytes) x h = refl

read_value : {A : Type 0} (read : List ℕ → Option A) (o : Option (List ℕ)) (x : A) → option_and_then read o ≡ Some x → read (unwrap_or o []) ≡ Some x
read_value read None x h = cc
read_value read (Some bytes) x h = h

-- a row that isn't refused, before its fields are read
pub row_fault-parts : (table : Table) (header : Record) (t : Tables) (row : Record) → row_fault table header t row ≡ None
    → (nat_eq (length (names_in table t)) t.most ≡ false) × (is_short (read_columns table) header row ≡ false) × (fields_fault table t (field_of header row) ≡ None)
row_fault-parts table header t row h =
    let full = unless (nat_eq (length (names_in table t)) t.most) TooMany _ h in
    let short = unless (is_short (read_columns table) header row) ShortRow _ full.1 in
    (full.0, short.0, short.1)

pub row_fault-from : (table : Table) (header : Record) (t : Tables) (row : Record) → nat_eq (length (names_in table t)) t.most ≡ false → is_short (read_columns table) header row ≡ false
    → fields_fault table t (field_of header row) ≡ None → row_fault table header t row ≡ None
row_fault-from table header t row full short fine = rw (full, short) fine

-- a field is there under each column that is read
two_there : (header row : Record) (a b : List ℕ) → is_short (a ∷ b ∷ []) header row ≡ false → (is_none (field_under header row a) ≡ false) × (is_none (field_under header row b) ≡ false)
two_there header row a b h =
    let first = or_parts (is_none (field_under header row a)) _ h in
    let second = or_parts (is_none (field_under header row b)) _ first.1 in
    (first.0, second.0)

three_there : (header row : Record) (a b c : List ℕ) → is_short (a ∷ b ∷ c ∷ []) header row ≡ false
    → (is_none (field_under header row a) ≡ false) × (is_none (field_under header row b) ≡ false) × (is_none (field_under header row c) ≡ false)
three_there header row a b c h =
    let first = or_parts (is_none (field_under header row a)) _ h in
    let rest = two_there header row b c first.1 in
    (first.0, rest.0, rest.1)

four_there : (header row : Record) (a b c d : List ℕ) → is_short (a ∷ b ∷ c ∷ d ∷ []) header row ≡ false
    → (is_none (field_under header row a) ≡ false) × (is_none (field_under header row b) ≡ false) × (is_none (field_under header row c) ≡ false) × (is_none (field_under header row d) ≡ false)
four_there header row a b c d h =
    let first = or_parts (is_none (field_under header row a)) _ h in
    let rest = or_parts (is_none (field_under header row b)) _ first.1 in
    let last = two_there header row c d rest.1 in
    (first.0, rest.0, last.0, last.1)

three_from : (header row : Record) (a b c : List ℕ) → is_none (field_under header row a) ≡ false → is_none (field_under header row b) ≡ false → is_none (field_under header row c) ≡ false
    → is_short (a ∷ b ∷ c ∷ []) header row ≡ false
three_from header row a b c p q r = rw (p, q, r) refl

four_from : (header row : Record) (a b c d : List ℕ) → is_none (field_under header row a) ≡ false → is_none (field_under header row b) ≡ false → is_none (field_under header row c) ≡ false
    → is_none (field_under header row d) ≡ false → is_short (a ∷ b ∷ c ∷ d ∷ []) header row ≡ false
four_from header row a b c d p q r s = rw (p, q, r, s) refl

-- a name that is there has a position
named_at : (names : List (List ℕ)) (name : List ℕ) → has_name names name ≡ true → position_of names name ≡ Some (place_of names name)
named_at names name h = position-there (bytes_eq name) names h

at_named : (names : List (List ℕ)) (name : List ℕ) (i : ℕ) → position_of names name ≡ Some i → (has_name names name ≡ true) × (i ≡ place_of names name)
at_named names name i h = position-some (bytes_eq name) names i h

-- the name of a row, from its first field
own_field : (header row : Record) (column name : List ℕ) → field_under header row column ≡ Some name → field_of header row column ≡ name
own_field header row column name e = ap (λ o. unwrap_or o []) e

field_there : (header row : Record) (column name : List ℕ) → field_under header row column ≡ Some name → is_none (field_under header row column) ≡ false
field_there header row column name e = ap is_none e

module _ (header : Record) (t : Tables) (row : Record) where
  abbrev pub node_made : Node
  node_made = node_read (field_of header row (codes "node")) (field_of header row (codes "source")) (field_of header row (codes "absolute"))

  abbrev pub switch_made : Switch
  switch_made = switch_of t (field_of header row (codes "switch")) (field_of header row (codes "from")) (field_of header row (codes "to")) (flag (field_of header row (codes "closed")))

  abbrev pub branch_made : Branch
  branch_made = branch_of t (field_of header row (codes "branch")) (field_of header row (codes "from")) (field_of header row (codes "to")) (flag (field_of header row (codes "inservice")))

  abbrev pub meter_made : Meter
  meter_made = meter_of t (field_of header row (codes "meter")) (kind (field_of header row (codes "kind"))) (field_of header row (codes "at")) (flag (field_of header row (codes "inservice")))

  abbrev pub candidate_made : Candidate
  candidate_made = candidate_of t (field_of header row (codes "candidate")) (kind (field_of header row (codes "kind"))) (field_of header row (codes "at")) (price (field_of header row (codes "price")))

  pub node-reads : row_fault Nodes header t row ≡ None → IsNode t header row node_made × (is_name node_made.name ≡ true) × (has_name (node_names t) node_made.name ≡ false)
  node-reads h =
      let parts = row_fault-parts Nodes header t row h in
      let there = three_there header row (codes "node") (codes "source") (codes "absolute") parts.1 in
      let name = unless _ _ _ parts.2 in
      let flags = unless _ _ _ name.1 in
      let both = or_parts (is_none (flag_of (field_of header row (codes "source")))) (is_none (flag_of (field_of header row (codes "absolute")))) flags.0 in
      let new = unless _ _ _ flags.1 in (
        record {
          name = value (field_under header row (codes "node")) [] there.0;
          source = reading flag_of (field_under header row (codes "source")) false there.1 both.0;
          absolute = reading flag_of (field_under header row (codes "absolute")) false there.2 both.1;
        },
        not-false _ name.0,
        new.0,
      )

  pub switch-reads : row_fault Switches header t row ≡ None → IsSwitch t header row switch_made × (is_name switch_made.name ≡ true) × (has_name (switch_names t) switch_made.name ≡ false)
  switch-reads h =
      let parts = row_fault-parts Switches header t row h in
      let there = four_there header row (codes "switch") (codes "from") (codes "to") (codes "closed") parts.1 in
      let name = unless _ _ _ parts.2 in
      let closed = unless _ _ _ name.1 in
      let new = unless _ _ _ closed.1 in
      let ends = unless _ _ _ new.1 in
      let both = and_parts (has_name (node_names t) (field_of header row (codes "from"))) (has_name (node_names t) (field_of header row (codes "to"))) (not-false _ ends.0) in (
        record {
          name = value (field_under header row (codes "switch")) [] there.0;
          from = ap (option_and_then (position_of (node_names t))) (value (field_under header row (codes "from")) [] there.1) ∙ named_at (node_names t) (field_of header row (codes "from")) both.0;
          to = ap (option_and_then (position_of (node_names t))) (value (field_under header row (codes "to")) [] there.2) ∙ named_at (node_names t) (field_of header row (codes "to")) both.1;
          closed = reading flag_of (field_under header row (codes "closed")) false there.3 closed.0;
        },
        not-false _ name.0,
        new.0,
      )

  pub branch-reads : row_fault Branches header t row ≡ None → IsBranch t header row branch_made × (is_name branch_made.name ≡ true) × (has_name (branch_names t) branch_made.name ≡ false)
  branch-reads h =
      let parts = row_fault-parts Branches header t row h in
      let there = four_there header row (codes "branch") (codes "from") (codes "to") (codes "inservice") parts.1 in
      let name = unless _ _ _ parts.2 in
      let inservice = unless _ _ _ name.1 in
      let new = unless _ _ _ inservice.1 in
      let ends = unless _ _ _ new.1 in
      let both = and_parts (has_name (node_names t) (field_of header row (codes "from"))) (has_name (node_names t) (field_of header row (codes "to"))) (not-false _ ends.0) in (
        record {
          name = value (field_under header row (codes "branch")) [] there.0;
          from = ap (option_and_then (position_of (node_names t))) (value (field_under header row (codes "from")) [] there.1) ∙ named_at (node_names t) (field_of header row (codes "from")) both.0;
          to = ap (option_and_then (position_of (node_names t))) (value (field_under header row (codes "to")) [] there.2) ∙ named_at (node_names t) (field_of header row (codes "to")) both.1;
          inservice = reading flag_of (field_under header row (codes "inservice")) false there.3 inservice.0;
        },
        not-false _ name.0,
        new.0,
      )

  -- what a meter stands at
  place-reads : (o : Option (List ℕ)) (kinds : Option Kind) → is_none o ≡ false → is_none kinds ≡ false → not (has_place t kinds (unwrap_or o [])) ≡ false
      → option_and_then (position_of (place_names t (unwrap_or kinds Zero))) o ≡ Some (place_of (place_names t (unwrap_or kinds Zero)) (unwrap_or o []))
  place-reads None kinds there good place = cc
  place-reads (Some at) None there good place = cc
  place-reads (Some at) (Some k) there good place = named_at (place_names t k) at (not-false _ place)

  pub meter-reads : row_fault Meters header t row ≡ None → IsMeter t header row meter_made × (is_name meter_made.name ≡ true) × (has_name (meter_names t) meter_made.name ≡ false)
  meter-reads h =
      let parts = row_fault-parts Meters header t row h in
      let there = four_there header row (codes "meter") (codes "kind") (codes "at") (codes "inservice") parts.1 in
      let name = unless _ _ _ parts.2 in
      let inservice = unless _ _ _ name.1 in
      let good = unless _ _ _ inservice.1 in
      let new = unless _ _ _ good.1 in
      let place = unless _ _ _ new.1 in (
        record {
          name = value (field_under header row (codes "meter")) [] there.0;
          kind = reading kind_of (field_under header row (codes "kind")) Zero there.1 good.0;
          at = place-reads (field_under header row (codes "at")) (kind_of (field_of header row (codes "kind"))) there.2 good.0 place.0;
          inservice = reading flag_of (field_under header row (codes "inservice")) false there.3 inservice.0;
        },
        not-false _ name.0,
        new.0,
      )

  pub candidate-reads : row_fault Candidates header t row ≡ None → IsCandidate t header row candidate_made × (is_name candidate_made.name ≡ true) × (has_name (candidate_names t) candidate_made.name ≡ false)
  candidate-reads h =
      let parts = row_fault-parts Candidates header t row h in
      let there = four_there header row (codes "candidate") (codes "kind") (codes "at") (codes "price") parts.1 in
      let name = unless _ _ _ parts.2 in
      let good = unless _ _ _ name.1 in
      let cheap = unless _ _ _ good.1 in
      let new = unless _ _ _ cheap.1 in
      let place = unless _ _ _ new.1 in (
        record {
          name = value (field_under header row (codes "candidate")) [] there.0;
          kind = reading kind_of (field_under header row (codes "kind")) Zero there.1 good.0;
          at = place-reads (field_under header row (codes "at")) (kind_of (field_of header row (codes "kind"))) there.2 good.0 place.0;
          price = reading price_of (field_under header row (codes "price")) 0 there.3 cheap.0;
        },
        not-false _ name.0,
        new.0,
      )

-- a record that is a row of a new name isn't refused, and is that row
module _ (header : Record) (t : Tables) (row : Record) where
  pub node-fits : (x : Node) → nat_eq (length (node_names t)) t.most ≡ false → IsNode t header row x → is_name x.name ≡ true → has_name (node_names t) x.name ≡ false
      → (row_fault Nodes header t row ≡ None) × (node_made header t row ≡ x)
  node-fits x room h good new =
      let name = own_field header row (codes "node") x.name h.name in
      let source = read_value flag_of (field_under header row (codes "source")) x.source h.source in
      let absolute = read_value flag_of (field_under header row (codes "absolute")) x.absolute h.absolute in (
        row_fault-from Nodes header t row room
            (three_from header row (codes "node") (codes "source") (codes "absolute") (field_there header row (codes "node") x.name h.name)
            (read_there flag_of (field_under header row (codes "source")) x.source h.source) (read_there flag_of (field_under header row (codes "absolute")) x.absolute h.absolute))
            (clear3 _ _ _ _ _ _ (ap (λ n. not (is_name n)) name ∙ ap not good) (λ j. is_none (source j) || is_none (absolute j)) (ap (has_name (node_names t)) name ∙ new)),
        λ j. record { name = name j; source = unwrap_or (source j) false; absolute = unwrap_or (absolute j) false },
      )

  -- the positions of both ends
  ends-fit : (from to : List ℕ) (i k : ℕ) → position_of (node_names t) from ≡ Some i → position_of (node_names t) to ≡ Some k
      → (not (has_ends t from to) ≡ false) × (place_of (node_names t) from ≡ i) × (place_of (node_names t) to ≡ k)
  ends-fit from to i k p q =
      let a = at_named (node_names t) from i p in
      let b = at_named (node_names t) to k q in
      (ap not (and_from (has_name (node_names t) from) (has_name (node_names t) to) a.0 b.0), sym a.1, sym b.1)

  pub switch-fits : (x : Switch) → nat_eq (length (switch_names t)) t.most ≡ false → IsSwitch t header row x → is_name x.name ≡ true → has_name (switch_names t) x.name ≡ false
      → (row_fault Switches header t row ≡ None) × (switch_made header t row ≡ x)
  switch-fits x room h good new =
      let name = own_field header row (codes "switch") x.name h.name in
      let closed = read_value flag_of (field_under header row (codes "closed")) x.closed h.closed in
      let from = read_value (position_of (node_names t)) (field_under header row (codes "from")) x.from h.from in
      let to = read_value (position_of (node_names t)) (field_under header row (codes "to")) x.to h.to in
      let ends = ends-fit (field_of header row (codes "from")) (field_of header row (codes "to")) x.from x.to from to in (
        row_fault-from Switches header t row room
            (four_from header row (codes "switch") (codes "from") (codes "to") (codes "closed") (field_there header row (codes "switch") x.name h.name)
            (read_there (position_of (node_names t)) (field_under header row (codes "from")) x.from h.from) (read_there (position_of (node_names t)) (field_under header row (codes "to")) x.to h.to)
            (read_there flag_of (field_under header row (codes "closed")) x.closed h.closed))
            (clear4 _ _ _ _ _ _ _ _ (ap (λ n. not (is_name n)) name ∙ ap not good) (ap is_none closed) (ap (has_name (switch_names t)) name ∙ new) ends.0),
        λ j. record { name = name j; from = ends.1 j; to = ends.2 j; closed = unwrap_or (closed j) false },
      )

  pub branch-fits : (x : Branch) → nat_eq (length (branch_names t)) t.most ≡ false → IsBranch t header row x → is_name x.name ≡ true → has_name (branch_names t) x.name ≡ false
      → (row_fault Branches header t row ≡ None) × (branch_made header t row ≡ x)
  branch-fits x room h good new =
      let name = own_field header row (codes "branch") x.name h.name in
      let inservice = read_value flag_of (field_under header row (codes "inservice")) x.inservice h.inservice in
      let from = read_value (position_of (node_names t)) (field_under header row (codes "from")) x.from h.from in
      let to = read_value (position_of (node_names t)) (field_under header row (codes "to")) x.to h.to in
      let ends = ends-fit (field_of header row (codes "from")) (field_of header row (codes "to")) x.from x.to from to in (
        row_fault-from Branches header t row room
            (four_from header row (codes "branch") (codes "from") (codes "to") (codes "inservice") (field_there header row (codes "branch") x.name h.name)
            (read_there (position_of (node_names t)) (field_under header row (codes "from")) x.from h.from) (read_there (position_of (node_names t)) (field_under header row (codes "to")) x.to h.to)
            (read_there flag_of (field_under header row (codes "inservice")) x.inservice h.inservice))
            (clear4 _ _ _ _ _ _ _ _ (ap (λ n. not (is_name n)) name ∙ ap not good) (ap is_none inservice) (ap (has_name (branch_names t)) name ∙ new) ends.0),
        λ j. record { name = name j; from = ends.1 j; to = ends.2 j; inservice = unwrap_or (inservice j) false },
      )

  -- the position of what a meter stands at
  place-fits : (kinds : Option Kind) (k : Kind) (at : List ℕ) (i : ℕ) → kinds ≡ Some k → position_of (place_names t k) at ≡ Some i
      → (not (has_place t kinds at) ≡ false) × (place_of (place_names t (unwrap_or kinds Zero)) at ≡ i)
  place-fits kinds k at i e p =
      let a = at_named (place_names t k) at i p in
      (ap (λ o. not (has_place t o at)) e ∙ ap not a.0, ap (λ o. place_of (place_names t (unwrap_or o Zero)) at) e ∙ sym a.1)

  pub meter-fits : (x : Meter) → nat_eq (length (meter_names t)) t.most ≡ false → IsMeter t header row x → is_name x.name ≡ true → has_name (meter_names t) x.name ≡ false
      → (row_fault Meters header t row ≡ None) × (meter_made header t row ≡ x)
  meter-fits x room h good new =
      let name = own_field header row (codes "meter") x.name h.name in
      let inservice = read_value flag_of (field_under header row (codes "inservice")) x.inservice h.inservice in
      let known = read_value kind_of (field_under header row (codes "kind")) x.kind h.kind in
      let at = read_value (position_of (place_names t x.kind)) (field_under header row (codes "at")) x.at h.at in
      let place = place-fits (kind_of (field_of header row (codes "kind"))) x.kind (field_of header row (codes "at")) x.at known at in (
        row_fault-from Meters header t row room
            (four_from header row (codes "meter") (codes "kind") (codes "at") (codes "inservice") (field_there header row (codes "meter") x.name h.name)
            (read_there kind_of (field_under header row (codes "kind")) x.kind h.kind) (read_there (position_of (place_names t x.kind)) (field_under header row (codes "at")) x.at h.at)
            (read_there flag_of (field_under header row (codes "inservice")) x.inservice h.inservice))
            (clear5 _ _ _ _ _ _ _ _ _ _ (ap (λ n. not (is_name n)) name ∙ ap not good) (ap is_none inservice) (ap is_none known) (ap (has_name (meter_names t)) name ∙ new) place.0),
        λ j. record { name = name j; kind = unwrap_or (known j) Zero; at = place.1 j; inservice = unwrap_or (inservice j) false },
      )

  pub candidate-fits : (x : Candidate) → nat_eq (length (candidate_names t)) t.most ≡ false → IsCandidate t header row x → is_name x.name ≡ true → has_name (candidate_names t) x.name ≡ false
      → (row_fault Candidates header t row ≡ None) × (candidate_made header t row ≡ x)
  candidate-fits x room h good new =
      let name = own_field header row (codes "candidate") x.name h.name in
      let cheap = read_value price_of (field_under header row (codes "price")) x.price h.price in
      let known = read_value kind_of (field_under header row (codes "kind")) x.kind h.kind in
      let at = read_value (position_of (place_names t x.kind)) (field_under header row (codes "at")) x.at h.at in
      let place = place-fits (kind_of (field_of header row (codes "kind"))) x.kind (field_of header row (codes "at")) x.at known at in (
        row_fault-from Candidates header t row room
            (four_from header row (codes "candidate") (codes "kind") (codes "at") (codes "price") (field_there header row (codes "candidate") x.name h.name)
            (read_there kind_of (field_under header row (codes "kind")) x.kind h.kind) (read_there (position_of (place_names t x.kind)) (field_under header row (codes "at")) x.at h.at)
            (read_there price_of (field_under header row (codes "price")) x.price h.price))
            (clear5 _ _ _ _ _ _ _ _ _ _ (ap (λ n. not (is_name n)) name ∙ ap not good) (ap is_none known) (ap is_none cheap) (ap (has_name (candidate_names t)) name ∙ new) place.0),
        λ j. record { name = name j; kind = unwrap_or (known j) Zero; at = place.1 j; price = unwrap_or (cheap j) 0 },
      )
