-- The case that is read is the one that the bytes are.
use Rattle.std.proofs.Common.{ℕ, ◌≡◌, ◌∙◌, ◌<◌, ◌≤◌, ap, refl, sym, subst, arith, List, [], ◌∷◌, length, map, Option, None, Some, Result, Ok, Err, MatchResult, All, Bool, true, false, nat_le, codes, if◌then◌else◌}
use Rattle.std.proofs.lemmas.Bool.{leb-true}
use Rattle.std.proofs.lemmas.List.{length-map}
use Rattle.std.proofs.lemmas.List.Elements.{All-cons, All-nil}
use Rattle.std.specs.Option.{option_and_then}
use Rattle.std.specs.Str.{bytes_eq}
use Rattle.obs_text.specs.Numbers.{whole_of}
use Rattle.obs_case.specs.declared.rows.Branch.{Branch}
use Rattle.obs_case.specs.declared.rows.Candidate.{Candidate}
use Rattle.obs_case.specs.declared.rows.Kind.{Kind}
use Rattle.obs_case.specs.declared.rows.Kind.TheVariants.{Flow, Injection, Zero, Angle}
use Rattle.obs_case.specs.declared.rows.Meter.{Meter}
use Rattle.obs_case.specs.declared.rows.Node.{Node}
use Rattle.obs_case.specs.declared.rows.Switch.{Switch}
use Rattle.obs_case.specs.Tables.{IsNamed, Tables, most_price, most_rows, no_rows_within, place_names, places, position_of, usual_rows}
use Rattle.obs_case.proofs.NameLemmas.{named-none, place-there, position-some}
use Rattle.obs_case_csv.specs.declared.faults.Table.{Table}
use Rattle.obs_case_csv.specs.declared.faults.Table.TheVariants.{Nodes, Switches, Branches, Meters, Candidates}
use Rattle.obs_case_csv.specs.declared.faults.TableFault.{TableFault}
use Rattle.obs_case_csv.specs.Fields.{Record, field_under, price_of, price_within}
use Rattle.obs_case_csv.specs.IsCase.{AreRows, AreRowsGiven, EachIs, IsBranch, IsCandidate, IsCaseWithin, IsMeter, IsNode, IsSwitch, ReadExactly, ReadExactlyWithin}
use Rattle.obs_case_csv.specs.Read.{fault_in, rows_in, tables_or, tables_within, then_read, then_read_given}
use Rattle.obs_case_csv.proofs.CaseLemmas.{IsTable, each-map, table-backward, table-forward}
use Rattle.obs_case_csv.proofs.ReadingLemmas.{branch-fits, branch-reads, branch_made, candidate-fits, candidate-reads, candidate_made, meter-fits, meter-reads, meter_made, node-fits, node-reads, node_made, switch-fits, switch-reads, switch_made}

-- the five tables
abbrev pub put_nodes : Tables → List Node → Tables
put_nodes t rows = record t { nodes = rows }

abbrev pub put_switches : Tables → List Switch → Tables
put_switches t rows = record t { switches = rows }

abbrev pub put_branches : Tables → List Branch → Tables
put_branches t rows = record t { branches = rows }

abbrev pub put_meters : Tables → List Meter → Tables
put_meters t rows = record t { meters = rows }

abbrev pub put_candidates : Tables → List Candidate → Tables
put_candidates t rows = record t { candidates = rows }

pub nodes_table : IsTable Nodes (λ (r : Node). r.name) (λ t. t.nodes) put_nodes IsNode node_made
nodes_table =
    record {
      names = λ t. refl;
      added = λ header t row. refl;
      get_put = λ t xs. refl;
      put_put = λ t xs ys. refl;
      same_most = λ t xs. refl;
      put_get = λ t. refl;
      is_put = λ t xs header row x h. record { name = h.name; source = h.source; absolute = h.absolute };
      put_is = λ t xs header row x h. record { name = h.name; source = h.source; absolute = h.absolute };
      reads = node-reads;
      fits = node-fits;
    }

pub switches_table : IsTable Switches (λ (r : Switch). r.name) (λ t. t.switches) put_switches IsSwitch switch_made
switches_table =
    record {
      names = λ t. refl;
      added = λ header t row. refl;
      get_put = λ t xs. refl;
      put_put = λ t xs ys. refl;
      same_most = λ t xs. refl;
      put_get = λ t. refl;
      is_put = λ t xs header row x h. record { name = h.name; from = h.from; to = h.to; closed = h.closed };
      put_is = λ t xs header row x h. record { name = h.name; from = h.from; to = h.to; closed = h.closed };
      reads = switch-reads;
      fits = switch-fits;
    }

pub branches_table : IsTable Branches (λ (r : Branch). r.name) (λ t. t.branches) put_branches IsBranch branch_made
branches_table =
    record {
      names = λ t. refl;
      added = λ header t row. refl;
      get_put = λ t xs. refl;
      put_put = λ t xs ys. refl;
      same_most = λ t xs. refl;
      put_get = λ t. refl;
      is_put = λ t xs header row x h. record { name = h.name; from = h.from; to = h.to; inservice = h.inservice };
      put_is = λ t xs header row x h. record { name = h.name; from = h.from; to = h.to; inservice = h.inservice };
      reads = branch-reads;
      fits = branch-fits;
    }

pub meters_table : IsTable Meters (λ (r : Meter). r.name) (λ t. t.meters) put_meters IsMeter meter_made
meters_table =
    record {
      names = λ t. refl;
      added = λ header t row. refl;
      get_put = λ t xs. refl;
      put_put = λ t xs ys. refl;
      same_most = λ t xs. refl;
      put_get = λ t. refl;
      is_put = λ t xs header row x h. record { name = h.name; kind = h.kind; at = h.at; inservice = h.inservice };
      put_is = λ t xs header row x h. record { name = h.name; kind = h.kind; at = h.at; inservice = h.inservice };
      reads = meter-reads;
      fits = meter-fits;
    }

pub candidates_table : IsTable Candidates (λ (r : Candidate). r.name) (λ t. t.candidates) put_candidates IsCandidate candidate_made
candidates_table =
    record {
      names = λ t. refl;
      added = λ header t row. refl;
      get_put = λ t xs. refl;
      put_put = λ t xs ys. refl;
      same_most = λ t xs. refl;
      put_get = λ t. refl;
      is_put = λ t xs header row x h. record { name = h.name; kind = h.kind; at = h.at; price = h.price };
      put_is = λ t xs header row x h. record { name = h.name; kind = h.kind; at = h.at; price = h.price };
      reads = candidate-reads;
      fits = candidate-fits;
    }

-- the same rows among other tables
pub are-map : {R : Type 0} (most : ℕ) (is also : Record → Record → R → Type 0) (table : Table) (bytes : List ℕ) (xs : List R) → ((header row : Record) (x : R) → is header row x → also header row x)
    → AreRows most is table bytes xs → AreRows most also table bytes xs
are-map most is also table bytes xs f h =
    record { header = h.header; records = h.records; records_are = h.records_are; columns = h.columns; each = each-map (is h.header) (also h.header) (f h.header) h.records xs h.each }

each-all : {R : Type 0} (is : Record → R → Type 0) (P : R → Type 0) → ((row : Record) (x : R) → is row x → P x) → (rows : List Record) (xs : List R) → EachIs is rows xs → All P xs
unfolding EachIs
each-all is P f [] [] h = All-nil P
each-all is P f [] (x ∷ xs) h = absurd h
each-all is P f (row ∷ rows) [] h = absurd h
each-all is P f (row ∷ rows) (x ∷ xs) h = All-cons P x xs (f row x h.0) (each-all is P f rows xs h.1)

-- a position of a name is in range
within : (names : List (List ℕ)) (o : Option (List ℕ)) (i : ℕ) → option_and_then (position_of names) o ≡ Some i → i < length names
within names None i h = cc
within names (Some name) i h =
    let found = position-some (bytes_eq name) names i h in
    let there = place-there (bytes_eq name) names found.0 in
    omega (arith, found.1)

pub within_rows : {R : Type 0} (own : R → List ℕ) (rows : List R) (o : Option (List ℕ)) (i : ℕ) → option_and_then (position_of (map own rows)) o ≡ Some i → i < length rows
within_rows own rows o i h = let lt = within (map own rows) o i h in omega (arith, length-map rows own)

pub within_places : (t : Tables) (kind : Kind) (o : Option (List ℕ)) (i : ℕ) → option_and_then (position_of (place_names t kind)) o ≡ Some i → i < places t kind
within_places t Flow o i h = within_rows (λ (r : Branch). r.name) t.branches o i h
within_places t Injection o i h = within_rows (λ (r : Node). r.name) t.nodes o i h
within_places t Zero o i h = within_rows (λ (r : Node). r.name) t.nodes o i h
within_places t Angle o i h = within_rows (λ (r : Node). r.name) t.nodes o i h

-- a price is in range
pub cheap : (o : Option (List ℕ)) (n : ℕ) → option_and_then price_of o ≡ Some n → n ≤ most_price
cheap None n h = cc
cheap (Some bytes) n h = by (whole_of bytes) h
  where
    low : (k : ℕ) (b : Bool) → nat_le k most_price ≡ b → (if b then Some k else None) ≡ Some n → n ≤ most_price
    low k true le e = let same : k ≡ n = cc in let below = leb-true k most_price le in omega arith
    low k false le e = cc

    by : (w : Option ℕ) → price_within w ≡ Some n → n ≤ most_price
    by None e = cc
    by (Some k) e = low k (nat_le k most_price) refl e

-- a table that was read
module _ {R : Type 0} (table : Table) (own : R → List ℕ) (get : Tables → List R) (put : Tables → List R → Tables) (is : Tables → Record → Record → R → Type 0)
    (made : Record → Tables → Record → R) (h : IsTable table own get put is made) (t : Tables) (bytes : List ℕ) (empty : get t ≡ []) where
  pub then-forward : (u : Tables) → then_read table bytes (Ok t) ≡ Ok u → (xs : List R) × (u ≡ put t xs) × AreRows t.most (is t) table bytes xs × IsNamed t.most (map own xs)
  then-forward u e = by (fault_in table t bytes) refl e
    where
      by : (o : Option TableFault) → fault_in table t bytes ≡ o → tables_or o (rows_in table t bytes) ≡ Ok u → (xs : List R) × (u ≡ put t xs) × AreRows t.most (is t) table bytes xs × IsNamed t.most (map own xs)
      by (Some fault) is_fault e = cc
      by None fine e =
          let read = table-forward table own get put is made h t bytes empty fine in
          let same : u ≡ rows_in table t bytes = cc in
          (read.0, same ∙ read.1, read.2, read.3)

  pub then-backward : (xs : List R) → AreRows t.most (is t) table bytes xs → IsNamed t.most (map own xs) → then_read table bytes (Ok t) ≡ Ok (put t xs)
  then-backward xs are named =
      let read = table-backward table own get put is made h t bytes xs empty are named in
      ap (λ o. tables_or o (rows_in table t bytes)) read.0 ∙ ap Ok read.1

-- what was read before
pub ok_before : (table : Table) (bytes : List ℕ) (r : Result Tables TableFault) (u : Tables) → then_read table bytes r ≡ Ok u → (t : Tables) × (r ≡ Ok t) × (then_read table bytes (Ok t) ≡ Ok u)
ok_before table bytes (Ok t) u e = (t, refl, e)
ok_before table bytes (Err fault) u e = cc

ok_before_given : (bytes : Option (List ℕ)) (r : Result Tables TableFault) (u : Tables) → then_read_given Candidates bytes r ≡ Ok u
    → (t : Tables) × (r ≡ Ok t) × (then_read_given Candidates bytes (Ok t) ≡ Ok u)
ok_before_given None r u e = (u, e, refl)
ok_before_given (Some bytes) r u e = ok_before Candidates bytes r u e

-- the tables of a case, one more at a time
abbrev with_one : ℕ → List Node → Tables
with_one most nodes = put_nodes (no_rows_within most) nodes

abbrev with_two : ℕ → List Node → List Switch → Tables
with_two most nodes switches = put_switches (with_one most nodes) switches

abbrev with_three : ℕ → List Node → List Switch → List Branch → Tables
with_three most nodes switches branches = put_branches (with_two most nodes switches) branches

abbrev with_four : ℕ → List Node → List Switch → List Branch → List Meter → Tables
with_four most nodes switches branches meters = put_meters (with_three most nodes switches branches) meters

module _ (most : ℕ) (limit : most ≤ most_rows) (nodes switches branches meters : List ℕ) where
  -- the table of candidates, which may not be given
  candidates_forward : (candidates : Option (List ℕ)) (t u : Tables) → t.candidates ≡ [] → then_read_given Candidates candidates (Ok t) ≡ Ok u
      → (xs : List Candidate) × (u ≡ put_candidates t xs) × AreRowsGiven t.most (IsCandidate t) Candidates candidates xs × IsNamed t.most (map (λ (r : Candidate). r.name) xs)
  candidates_forward None t u empty e = let same : u ≡ t = cc in ([], same ∙ ap (put_candidates t) empty, refl, named-none)
  candidates_forward (Some bytes) t u empty e = then-forward Candidates (λ (r : Candidate). r.name) (λ v. v.candidates) put_candidates IsCandidate candidate_made candidates_table t bytes empty u e

  candidates_backward : (candidates : Option (List ℕ)) (t : Tables) (xs : List Candidate) → t.candidates ≡ [] → AreRowsGiven t.most (IsCandidate t) Candidates candidates xs
      → IsNamed t.most (map (λ (r : Candidate). r.name) xs) → then_read_given Candidates candidates (Ok t) ≡ Ok (put_candidates t xs)
  candidates_backward None t xs empty are named = ap Ok (ap (put_candidates t) (empty ∙ sym are))
  candidates_backward (Some bytes) t xs empty are named =
      then-backward Candidates (λ (r : Candidate). r.name) (λ v. v.candidates) put_candidates IsCandidate candidate_made candidates_table t bytes empty xs are named

  candidates_prices : (candidates : Option (List ℕ)) (t : Tables) (xs : List Candidate) → AreRowsGiven t.most (IsCandidate t) Candidates candidates xs
      → All (λ (r : Candidate). r.at < places t r.kind) xs × All (λ (r : Candidate). r.price ≤ most_price) xs
  candidates_prices None t xs are = (subst (All (λ (r : Candidate). r.at < places t r.kind)) (sym are) (All-nil _), subst (All (λ (r : Candidate). r.price ≤ most_price)) (sym are) (All-nil _))
  candidates_prices (Some bytes) t xs are = (
    each-all (IsCandidate t are.header) (λ r. r.at < places t r.kind) (λ row r i. within_places t r.kind (field_under are.header row (codes "at")) r.at i.at) are.records xs are.each,
    each-all (IsCandidate t are.header) (λ r. r.price ≤ most_price) (λ row r i. cheap (field_under are.header row (codes "price")) r.price i.price) are.records xs are.each,
  )

  candidates_among : (candidates : Option (List ℕ)) (t u : Tables) (xs : List Candidate) → ((header row : Record) (x : Candidate) → IsCandidate t header row x → IsCandidate u header row x)
      → AreRowsGiven t.most (IsCandidate t) Candidates candidates xs → AreRowsGiven t.most (IsCandidate u) Candidates candidates xs
  candidates_among None t u xs f are = are
  candidates_among (Some bytes) t u xs f are = are-map t.most (IsCandidate t) (IsCandidate u) Candidates bytes xs f are

  -- rows of five tables, each read with those before it, are a case
  whole : (ns : List Node) (ss : List Switch) (bs : List Branch) (ms : List Meter) (cs : List Candidate) (candidates : Option (List ℕ))
      → AreRows most (IsNode (no_rows_within most)) Nodes nodes ns → IsNamed most (map (λ (r : Node). r.name) ns)
      → AreRows most (IsSwitch (with_one most ns)) Switches switches ss → IsNamed most (map (λ (r : Switch). r.name) ss)
      → AreRows most (IsBranch (with_two most ns ss)) Branches branches bs → IsNamed most (map (λ (r : Branch). r.name) bs)
      → AreRows most (IsMeter (with_three most ns ss bs)) Meters meters ms → IsNamed most (map (λ (r : Meter). r.name) ms)
      → AreRowsGiven most (IsCandidate (with_four most ns ss bs ms)) Candidates candidates cs → IsNamed most (map (λ (r : Candidate). r.name) cs)
      → IsCaseWithin most nodes switches branches meters candidates (put_candidates (with_four most ns ss bs ms) cs)
  whole ns ss bs ms cs candidates n nn s sn b bn m mn c cn =
      let t = put_candidates (with_four most ns ss bs ms) cs in
      let prices = candidates_prices candidates (with_four most ns ss bs ms) cs c in
      record {
        limit = refl;
        valid =
            record {
              nodes = nn;
              switches = sn;
              branches = bn;
              meters = mn;
              candidates = cn;
              switch_ends =
                  each-all (IsSwitch (with_one most ns) s.header) (λ r. (r.from < length ns) × (r.to < length ns))
                  (λ row r i. (within_rows (λ (r : Node). r.name) ns (field_under s.header row (codes "from")) r.from i.from, within_rows (λ (r : Node). r.name) ns (field_under s.header row (codes "to")) r.to i.to))
                  s.records ss s.each;
              branch_ends =
                  each-all (IsBranch (with_two most ns ss) b.header) (λ r. (r.from < length ns) × (r.to < length ns))
                  (λ row r i. (within_rows (λ (r : Node). r.name) ns (field_under b.header row (codes "from")) r.from i.from, within_rows (λ (r : Node). r.name) ns (field_under b.header row (codes "to")) r.to i.to))
                  b.records bs b.each;
              meter_places =
                  each-all (IsMeter (with_three most ns ss bs) m.header) (λ r. r.at < places t r.kind) (λ row r i. within_places (with_three most ns ss bs) r.kind (field_under m.header row (codes "at")) r.at i.at)
                  m.records ms m.each;
              candidate_places = prices.0;
              prices = prices.1;
              limit = limit;
            };
        nodes_are = are-map most (IsNode (no_rows_within most)) (IsNode t) Nodes nodes ns (λ header row x i. record { name = i.name; source = i.source; absolute = i.absolute }) n;
        switches_are = are-map most (IsSwitch (with_one most ns)) (IsSwitch t) Switches switches ss (λ header row x i. record { name = i.name; from = i.from; to = i.to; closed = i.closed }) s;
        branches_are = are-map most (IsBranch (with_two most ns ss)) (IsBranch t) Branches branches bs (λ header row x i. record { name = i.name; from = i.from; to = i.to; inservice = i.inservice }) b;
        meters_are = are-map most (IsMeter (with_three most ns ss bs)) (IsMeter t) Meters meters ms (λ header row x i. record { name = i.name; kind = i.kind; at = i.at; inservice = i.inservice }) m;
        candidates_are = candidates_among candidates (with_four most ns ss bs ms) t cs (λ header row x i. record { name = i.name; kind = i.kind; at = i.at; price = i.price }) c;
      }

  -- what is read is a case: what each table has, given what those before it have
  module _ (candidates : Option (List ℕ)) (t : Tables) where
    candidates_read : (ns : List Node) (ss : List Switch) (bs : List Branch) (ms : List Meter)
        → AreRows most (IsNode (no_rows_within most)) Nodes nodes ns → IsNamed most (map (λ (r : Node). r.name) ns)
        → AreRows most (IsSwitch (with_one most ns)) Switches switches ss → IsNamed most (map (λ (r : Switch). r.name) ss)
        → AreRows most (IsBranch (with_two most ns ss)) Branches branches bs → IsNamed most (map (λ (r : Branch). r.name) bs)
        → AreRows most (IsMeter (with_three most ns ss bs)) Meters meters ms → IsNamed most (map (λ (r : Meter). r.name) ms)
        → then_read_given Candidates candidates (Ok (with_four most ns ss bs ms)) ≡ Ok t → IsCaseWithin most nodes switches branches meters candidates t
    candidates_read ns ss bs ms n nn s sn b bn m mn e = last (candidates_forward candidates (with_four most ns ss bs ms) t refl e)
      where
        last : (cs : List Candidate) × (t ≡ put_candidates (with_four most ns ss bs ms) cs) × AreRowsGiven most (IsCandidate (with_four most ns ss bs ms)) Candidates candidates cs × IsNamed most (map (λ (r : Candidate). r.name) cs)
            → IsCaseWithin most nodes switches branches meters candidates t
        last (cs, is, c, cn) = subst (IsCaseWithin most nodes switches branches meters candidates) (sym is) (whole ns ss bs ms cs candidates n nn s sn b bn m mn c cn)

    module _ (u4 : Tables) (candidates_follow : then_read_given Candidates candidates (Ok u4) ≡ Ok t) where
      meters_read : (ns : List Node) (ss : List Switch) (bs : List Branch)
          → AreRows most (IsNode (no_rows_within most)) Nodes nodes ns → IsNamed most (map (λ (r : Node). r.name) ns)
          → AreRows most (IsSwitch (with_one most ns)) Switches switches ss → IsNamed most (map (λ (r : Switch). r.name) ss)
          → AreRows most (IsBranch (with_two most ns ss)) Branches branches bs → IsNamed most (map (λ (r : Branch). r.name) bs)
          → then_read Meters meters (Ok (with_three most ns ss bs)) ≡ Ok u4 → IsCaseWithin most nodes switches branches meters candidates t
      meters_read ns ss bs n nn s sn b bn e =
          last (then-forward Meters (λ (r : Meter). r.name) (λ v. v.meters) put_meters IsMeter meter_made meters_table (with_three most ns ss bs) meters refl u4 e)
        where
          last : (ms : List Meter) × (u4 ≡ with_four most ns ss bs ms) × AreRows most (IsMeter (with_three most ns ss bs)) Meters meters ms × IsNamed most (map (λ (r : Meter). r.name) ms)
              → IsCaseWithin most nodes switches branches meters candidates t
          last (ms, is, m, mn) = candidates_read ns ss bs ms n nn s sn b bn m mn (subst (λ v. then_read_given Candidates candidates (Ok v) ≡ Ok t) is candidates_follow)

      module _ (u3 : Tables) (meters_follow : then_read Meters meters (Ok u3) ≡ Ok u4) where
        branches_read : (ns : List Node) (ss : List Switch)
            → AreRows most (IsNode (no_rows_within most)) Nodes nodes ns → IsNamed most (map (λ (r : Node). r.name) ns)
            → AreRows most (IsSwitch (with_one most ns)) Switches switches ss → IsNamed most (map (λ (r : Switch). r.name) ss)
            → then_read Branches branches (Ok (with_two most ns ss)) ≡ Ok u3 → IsCaseWithin most nodes switches branches meters candidates t
        branches_read ns ss n nn s sn e =
            last (then-forward Branches (λ (r : Branch). r.name) (λ v. v.branches) put_branches IsBranch branch_made branches_table (with_two most ns ss) branches refl u3 e)
          where
            last : (bs : List Branch) × (u3 ≡ with_three most ns ss bs) × AreRows most (IsBranch (with_two most ns ss)) Branches branches bs × IsNamed most (map (λ (r : Branch). r.name) bs)
                → IsCaseWithin most nodes switches branches meters candidates t
            last (bs, is, b, bn) = meters_read ns ss bs n nn s sn b bn (subst (λ v. then_read Meters meters (Ok v) ≡ Ok u4) is meters_follow)

        module _ (u2 : Tables) (branches_follow : then_read Branches branches (Ok u2) ≡ Ok u3) where
          switches_read : (ns : List Node)
              → AreRows most (IsNode (no_rows_within most)) Nodes nodes ns → IsNamed most (map (λ (r : Node). r.name) ns)
              → then_read Switches switches (Ok (with_one most ns)) ≡ Ok u2 → IsCaseWithin most nodes switches branches meters candidates t
          switches_read ns n nn e =
              last (then-forward Switches (λ (r : Switch). r.name) (λ v. v.switches) put_switches IsSwitch switch_made switches_table (with_one most ns) switches refl u2 e)
            where
              last : (ss : List Switch) × (u2 ≡ with_two most ns ss) × AreRows most (IsSwitch (with_one most ns)) Switches switches ss × IsNamed most (map (λ (r : Switch). r.name) ss)
                  → IsCaseWithin most nodes switches branches meters candidates t
              last (ss, is, s, sn) = branches_read ns ss n nn s sn (subst (λ v. then_read Branches branches (Ok v) ≡ Ok u3) is branches_follow)

          nodes_read : (u1 : Tables) → then_read Nodes nodes (Ok (no_rows_within most)) ≡ Ok u1 → then_read Switches switches (Ok u1) ≡ Ok u2 → IsCaseWithin most nodes switches branches meters candidates t
          nodes_read u1 e switches_follow =
              last (then-forward Nodes (λ (r : Node). r.name) (λ v. v.nodes) put_nodes IsNode node_made nodes_table (no_rows_within most) nodes refl u1 e)
            where
              last : (ns : List Node) × (u1 ≡ with_one most ns) × AreRows most (IsNode (no_rows_within most)) Nodes nodes ns × IsNamed most (map (λ (r : Node). r.name) ns)
                  → IsCaseWithin most nodes switches branches meters candidates t
              last (ns, is, n, nn) = switches_read ns n nn (subst (λ v. then_read Switches switches (Ok v) ≡ Ok u2) is switches_follow)

    -- each table was read after those before it
    pub case-read : tables_within most nodes switches branches meters candidates ≡ Ok t → IsCaseWithin most nodes switches branches meters candidates t
    case-read e = behind_candidates (ok_before_given candidates (then_read Meters meters (then_read Branches branches (then_read Switches switches (then_read Nodes nodes (Ok (no_rows_within most)))))) t e)
      where
        behind_switches : (u4 u3 u2 : Tables) → then_read_given Candidates candidates (Ok u4) ≡ Ok t → then_read Meters meters (Ok u3) ≡ Ok u4 → then_read Branches branches (Ok u2) ≡ Ok u3
            → (u1 : Tables) × (then_read Nodes nodes (Ok (no_rows_within most)) ≡ Ok u1) × (then_read Switches switches (Ok u1) ≡ Ok u2) → IsCaseWithin most nodes switches branches meters candidates t
        behind_switches u4 u3 u2 e4 e3 e2 (u1, e0, e1) = nodes_read u4 e4 u3 e3 u2 e2 u1 e0 e1

        behind_branches : (u4 u3 : Tables) → then_read_given Candidates candidates (Ok u4) ≡ Ok t → then_read Meters meters (Ok u3) ≡ Ok u4
            → (u2 : Tables) × (then_read Switches switches (then_read Nodes nodes (Ok (no_rows_within most))) ≡ Ok u2) × (then_read Branches branches (Ok u2) ≡ Ok u3) → IsCaseWithin most nodes switches branches meters candidates t
        behind_branches u4 u3 e4 e3 (u2, before, e2) = behind_switches u4 u3 u2 e4 e3 e2 (ok_before Switches switches (then_read Nodes nodes (Ok (no_rows_within most))) u2 before)

        behind_meters : (u4 : Tables) → then_read_given Candidates candidates (Ok u4) ≡ Ok t
            → (u3 : Tables) × (then_read Branches branches (then_read Switches switches (then_read Nodes nodes (Ok (no_rows_within most)))) ≡ Ok u3) × (then_read Meters meters (Ok u3) ≡ Ok u4) → IsCaseWithin most nodes switches branches meters candidates t
        behind_meters u4 e4 (u3, before, e3) = behind_branches u4 u3 e4 e3 (ok_before Branches branches (then_read Switches switches (then_read Nodes nodes (Ok (no_rows_within most)))) u3 before)

        behind_candidates : (u4 : Tables) × (then_read Meters meters (then_read Branches branches (then_read Switches switches (then_read Nodes nodes (Ok (no_rows_within most))))) ≡ Ok u4) × (then_read_given Candidates candidates (Ok u4) ≡ Ok t)
            → IsCaseWithin most nodes switches branches meters candidates t
        behind_candidates (u4, before, e4) = behind_meters u4 e4 (ok_before Meters meters (then_read Branches branches (then_read Switches switches (then_read Nodes nodes (Ok (no_rows_within most))))) u4 before)

  -- a case is read under its own limit
  read-own : (candidates : Option (List ℕ)) (t : Tables) → IsCaseWithin t.most nodes switches branches meters candidates t → tables_within t.most nodes switches branches meters candidates ≡ Ok t
  read-own candidates t h =
      let t1 = with_one t.most t.nodes in
      let t2 = with_two t.most t.nodes t.switches in
      let t3 = with_three t.most t.nodes t.switches t.branches in
      let t4 = with_four t.most t.nodes t.switches t.branches t.meters in
      let n =
      then-backward Nodes (λ (r : Node). r.name) (λ v. v.nodes) put_nodes IsNode node_made nodes_table (no_rows_within t.most) nodes refl t.nodes
      (are-map t.most (IsNode t) (IsNode (no_rows_within t.most)) Nodes nodes t.nodes (λ header row x i. record { name = i.name; source = i.source; absolute = i.absolute }) h.nodes_are) h.valid.nodes in
      let s =
      then-backward Switches (λ (r : Switch). r.name) (λ v. v.switches) put_switches IsSwitch switch_made switches_table t1 switches refl t.switches
      (are-map t.most (IsSwitch t) (IsSwitch t1) Switches switches t.switches (λ header row x i. record { name = i.name; from = i.from; to = i.to; closed = i.closed }) h.switches_are) h.valid.switches in
      let b =
      then-backward Branches (λ (r : Branch). r.name) (λ v. v.branches) put_branches IsBranch branch_made branches_table t2 branches refl t.branches
      (are-map t.most (IsBranch t) (IsBranch t2) Branches branches t.branches (λ header row x i. record { name = i.name; from = i.from; to = i.to; inservice = i.inservice }) h.branches_are) h.valid.branches in
      let m =
      then-backward Meters (λ (r : Meter). r.name) (λ v. v.meters) put_meters IsMeter meter_made meters_table t3 meters refl t.meters
      (are-map t.most (IsMeter t) (IsMeter t3) Meters meters t.meters (λ header row x i. record { name = i.name; kind = i.kind; at = i.at; inservice = i.inservice }) h.meters_are) h.valid.meters in
      let c =
      candidates_backward candidates t4 t.candidates refl
      (candidates_among candidates t t4 t.candidates (λ header row x i. record { name = i.name; kind = i.kind; at = i.at; price = i.price }) h.candidates_are) h.valid.candidates in
      ap (then_read_given Candidates candidates)
      (ap (then_read Meters meters) (ap (then_read Branches branches) (ap (then_read Switches switches) n ∙ s) ∙ b) ∙ m)
      ∙ c

  -- and under the one that it has
  pub read-case : (candidates : Option (List ℕ)) (t : Tables) → IsCaseWithin most nodes switches branches meters candidates t → tables_within most nodes switches branches meters candidates ≡ Ok t
  read-case candidates t h =
      subst (λ m. IsCaseWithin m nodes switches branches meters candidates t → tables_within m nodes switches branches meters candidates ≡ Ok t) h.limit (read-own candidates t) h

-- so a fault is given exactly where the bytes are no case
pub ReadExactlyWithin-holds : (most : ℕ) → most ≤ most_rows → ReadExactlyWithin most
ReadExactlyWithin-holds most limit nodes switches branches meters candidates = by (tables_within most nodes switches branches meters candidates) refl
  where
    by : (r : Result Tables TableFault) → tables_within most nodes switches branches meters candidates ≡ r
        → MatchResult r (λ t. IsCaseWithin most nodes switches branches meters candidates t × ((u : Tables) → IsCaseWithin most nodes switches branches meters candidates u → u ≡ t))
        (λ fault. (t : Tables) → IsCaseWithin most nodes switches branches meters candidates t → ⊥)
    by (Ok t) e = (case-read most limit nodes switches branches meters candidates t e, λ u h. let read = read-case most limit nodes switches branches meters candidates u h in cc)
    by (Err fault) e = λ t h. let read = read-case most limit nodes switches branches meters candidates t h in cc

pub ReadExactly-holds : ReadExactly
ReadExactly-holds = ReadExactlyWithin-holds usual_rows (omega arith)
