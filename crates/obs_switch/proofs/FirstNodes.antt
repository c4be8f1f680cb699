-- Buses by their first nodes.
use Rattle.std.proofs.Common.{◌≡◌, ℕ, zero, suc, ◌+◌, ◌<◌, ◌≤◌, ◌↔◌, Bool, true, false, eqb, ⊎_elim, List, [], ◌∷◌, length, get_or, sym, ap, ◌∙◌, arith, add-one}
use Rattle.std.specs.List.{Contains}
use Rattle.std.proofs.lemmas.Bool.{cases_Bool, cases_eq, cases_lt, cases_order, cond-true, cond-false, eq-eqb, eqb-true, ne_eqb}
use Rattle.std.proofs.lemmas.List.{get_or-map, length-map}
use Rattle.std.proofs.lemmas.List.FromFn.{get_or-map-range_with_len, length-map-range_with_len}
use Rattle.obs_graph.specs.Joined.{count_below}
use Rattle.obs_graph.specs.Positions.{positions_from}
use Rattle.obs_graph.proofs.Counts.{count_below-yes, count_below-no, count_below-le-n}
use Rattle.obs_graph.proofs.First.{first_joined-le, first_joined-first_joined}
use Rattle.obs_graph.proofs.Chains.{first_joined-contains, Chain-from_same_first, same_first-from_Chain}
use Rattle.obs_switch.specs.declared.link.Link.{Link}
use Rattle.obs_switch.specs.Buses.{AreOneBus, ends_of_link, ends_of_links, first_node, is_first_node, bus_of, bus_count, buses_of, members_of}

-- the link at a place, as a branch
pub link_at : (links : List Link) (k : ℕ) (d : Link) → k < length links → Contains (ends_of_links links) (ends_of_link (get_or links k d))
link_at links k d l =
    (k, omega (arith, length-map links ends_of_link), get_or-map ends_of_link links k d (ends_of_link (get_or links k d)) l)

-- both ends of a link are one bus
pub first_node-link : (links : List Link) (k : ℕ) (d : Link) → k < length links → first_node links (get_or links k d).from ≡ first_node links (get_or links k d).to
first_node-link links k d l = first_joined-contains (ends_of_links links) (ends_of_link (get_or links k d)) (link_at links k d l)

pub first_node-le : (links : List Link) (u : ℕ) → first_node links u ≤ u
first_node-le links u = first_joined-le (ends_of_links links) u

pub first_node-first_node : (links : List Link) (u : ℕ) → first_node links (first_node links u) ≡ first_node links u
first_node-first_node links u = first_joined-first_joined (ends_of_links links) u

-- more of the numbers below a greater one pass a test
pub count_below-rises : (p : ℕ → Bool) (m n : ℕ) → m ≤ n → count_below p m ≤ count_below p n
count_below-rises p m zero l = let e : m ≡ 0 = omega arith in rw e (omega arith)
count_below-rises p m (suc n) l =
    ⊎_elim
    (λ (less : m < suc n).
    let rest = count_below-rises p m n (omega arith) in
    ⊎_elim
    (λ passes. omega (arith, rest, count_below-yes p n passes))
    (λ fails. omega (arith, rest, count_below-no p n fails))
    (cases_Bool (p n)))
    (λ (more : suc n ≤ m). let e : m ≡ suc n = omega arith in rw e (omega arith))
    (cases_lt m (suc n))

-- one number more that passes
pub count_below-passed : (p : ℕ → Bool) (m n : ℕ) → m < n → p m ≡ true → count_below p m < count_below p n
count_below-passed p m n l passes = omega (arith, count_below-yes p m passes, count_below-rises p (suc m) n (omega arith))

first_passes : (links : List Link) (u : ℕ) → is_first_node links (first_node links u) ≡ true
first_passes links u = eq-eqb (first_node links (first_node links u)) (first_node links u) (first_node-first_node links u)

pub bus_of-order : (links : List Link) (u v : ℕ) → first_node links u < first_node links v → bus_of links u < bus_of links v
bus_of-order links u v l = count_below-passed (is_first_node links) (first_node links u) (first_node links v) l (first_passes links u)

pub bus_of-below : (nodes : ℕ) (links : List Link) (u : ℕ) → u < nodes → bus_of links u < bus_count nodes links
bus_of-below nodes links u l = count_below-passed (is_first_node links) (first_node links u) nodes (omega (arith, first_node-le links u)) (first_passes links u)

pub same_first-from_same_bus : (links : List Link) (u v : ℕ) → bus_of links u ≡ bus_of links v → first_node links u ≡ first_node links v
same_first-from_same_bus links u v same =
    ⊎_elim
    (λ e. e)
    (λ differ. ⊎_elim
    (λ less. absurd (omega (arith, same, bus_of-order links u v less)))
    (λ more. absurd (omega (arith, same, bus_of-order links v u more)))
    differ)
    (cases_order (first_node links u) (first_node links v))

pub one_bus : (links : List Link) (u v : ℕ) → (bus_of links u ≡ bus_of links v) ↔ AreOneBus links u v
one_bus links u v = (
  λ same. Chain-from_same_first (ends_of_links links) u v (same_first-from_same_bus links u v same),
  λ chain. ap (count_below (is_first_node links)) (same_first-from_Chain (ends_of_links links) chain),
)

-- the number of a first node's bus is how many first nodes stand before it
pub bus_of-first : (links : List Link) (u : ℕ) → first_node links u ≡ u → bus_of links u ≡ bus_count u links
bus_of-first links u own = ap (count_below (is_first_node links)) own

pub bus_of-first_node : (links : List Link) (u : ℕ) → bus_of links (first_node links u) ≡ bus_of links u
bus_of-first_node links u = ap (count_below (is_first_node links)) (first_node-first_node links u)

-- each number below the count is that of a bus
pub bus_at : (nodes : ℕ) (links : List Link) (bus : ℕ) → bus < bus_count nodes links → (u : ℕ) × (u < nodes) × (bus_of links u ≡ bus)
bus_at zero links bus l = absurd (omega arith)
bus_at (suc n) links bus l =
    ⊎_elim
    (λ (passes : is_first_node links n ≡ true).
    ⊎_elim
    (λ (less : bus < bus_count n links). let rest = bus_at n links bus less in (rest.0, omega (arith, rest.1), rest.2))
    (λ (more : bus_count n links ≤ bus).
    let own : first_node links n ≡ n = eqb-true (first_node links n) n passes in
    (n, omega arith, omega (arith, bus_of-first links n own, count_below-yes (is_first_node links) n passes)))
    (cases_lt bus (bus_count n links)))
    (λ (fails : is_first_node links n ≡ false).
    let rest = bus_at n links bus (omega (arith, count_below-no (is_first_node links) n fails)) in (rest.0, omega (arith, rest.1), rest.2))
    (cases_Bool (is_first_node links n))

pub buses_of-at : (nodes : ℕ) (links : List Link) (u : ℕ) → u < nodes → get_or (buses_of nodes links) u 0 ≡ bus_of links u
buses_of-at nodes links u l = get_or-map-range_with_len (bus_of links) 0 nodes u u 0 l (omega arith)

-- the number that a node is given, once those before it have theirs
pub numbered_next : (links : List Link) (numbers : List ℕ) (node first count bus : ℕ) → first ≡ first_node links node → ((u : ℕ) → u < node → get_or numbers u 0 ≡ bus_of links u) → count ≡ bus_count node links
    → (first ≡ node → bus ≡ count) → ((first ≡ node → ⊥) → bus ≡ get_or numbers first 0) → bus ≡ bus_of links node
numbered_next links numbers node first count bus is numbered counted new known =
    ⊎_elim
    (λ (own : first ≡ node). new own ∙ (counted ∙ sym (bus_of-first links node (sym is ∙ own))))
    (λ (other : first ≡ node → ⊥).
    let low = first_node-le links node in
    known other ∙ (numbered first (omega arith) ∙ (ap (bus_of links) is ∙ bus_of-first_node links node)))
    (cases_eq first node)

-- how many buses there are with one node more
pub counted_first : (links : List Link) (node count : ℕ) → first_node links node ≡ node → count ≡ bus_count node links → count + 1 ≡ bus_count (node + 1) links
counted_first links node count own counted = omega (arith, ap (λ n. bus_count n links) (add-one node), count_below-yes (is_first_node links) node (eq-eqb (first_node links node) node own))

pub counted_other : (links : List Link) (node count : ℕ) → (first_node links node ≡ node → ⊥) → count ≡ bus_count node links → count ≡ bus_count (node + 1) links
counted_other links node count other counted = omega (arith, ap (λ n. bus_count n links) (add-one node), count_below-no (is_first_node links) node (ne_eqb (first_node links node) node other))

-- the first place that passes a test is the first of the positions
positions_from-first : (test : ℕ → Bool) (i : ℕ) (xs : List ℕ) (k : ℕ) → k < length xs → test (get_or xs k 0) ≡ true → ((j : ℕ) → j < k → test (get_or xs j 0) ≡ false)
    → (0 < length (positions_from test i xs)) × (get_or (positions_from test i xs) 0 0 ≡ i + k)
positions_from-first test i [] k l passes before = absurd (omega arith)
positions_from-first test i (x ∷ xs) zero l passes before =
    let here : positions_from test i (x ∷ xs) ≡ i ∷ positions_from test (suc i) xs = cond-true (test x) (i ∷ positions_from test (suc i) xs) (positions_from test (suc i) xs) passes in
    rw here (omega arith, omega arith)
positions_from-first test i (x ∷ xs) (suc k) l passes before =
    let here : positions_from test i (x ∷ xs) ≡ positions_from test (suc i) xs = cond-false (test x) (i ∷ positions_from test (suc i) xs) (positions_from test (suc i) xs) (before 0 (omega arith)) in
    let rest = positions_from-first test (suc i) xs k (omega arith) passes (λ j lj. before (suc j) (omega arith)) in
    rw here (rest.0, rest.1 ∙ omega arith)

-- the first member of a node's bus is the bus's first node
pub first_member : (nodes : ℕ) (links : List Link) (u : ℕ) → u < nodes
    → (0 < length (members_of (buses_of nodes links) (bus_of links u))) × (get_or (members_of (buses_of nodes links) (bus_of links u)) 0 0 ≡ first_node links u)
first_member nodes links u l =
    let first = first_node links u in
    let low = first_node-le links u in
    let test : ℕ → Bool = λ b. eqb b (bus_of links u) in
    let found = positions_from-first test 0 (buses_of nodes links) first (omega (arith, length-map-range_with_len (bus_of links) 0 nodes))
    (eq-eqb (get_or (buses_of nodes links) first 0) (bus_of links u) (buses_of-at nodes links first (omega arith) ∙ bus_of-first_node links u))
    (λ j lj.
    let at : get_or (buses_of nodes links) j 0 ≡ bus_of links j = buses_of-at nodes links j (omega arith) in
    ne_eqb (get_or (buses_of nodes links) j 0) (bus_of links u)
    (λ same. let e = same_first-from_same_bus links j u (sym at ∙ same) in omega (arith, first_node-le links j))) in
    (found.0, found.1 ∙ omega arith)

pub bus_count-le : (nodes : ℕ) (links : List Link) → bus_count nodes links ≤ nodes
bus_count-le nodes links = count_below-le-n (is_first_node links) nodes
