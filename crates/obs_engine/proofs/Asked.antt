-- The texts of asks, piece by piece.
use Rattle.std.proofs.Common.{◌≡◌, ℕ, zero, suc, ◌+◌, ◌-◌, ◌<◌, ◌≤◌, Bool, true, false, List, [], ◌∷◌, ◌++◌, length, refl, sym, ap, ◌∙◌, subst, arith, add-one, append_assoc, drop, get_or, take, Option, Ok, Result}
use Rattle.std.specs.Prelude.{flat_map, slice_index}
use Rattle.std.specs.List.{range_with_len}
use Rattle.std.proofs.lemmas.Bool.{eq-eqb, ne_eqb}
use Rattle.std.proofs.Math.Seq.{drop-cons, take-suc}
use Rattle.std.proofs.lemmas.Grind.{flat_map-append}
use Rattle.std.proofs.lemmas.List.{append-nil, length-map, take-append-drop}
use Rattle.std.proofs.lemmas.List.FromFn.{get_or-map-range_with_len, length-range_with_len}
use Rattle.obs_case.specs.Tables.{IsValid, Tables}
use Rattle.obs_io.specs.declared.outside.Failed.{Failed}
use Rattle.obs_matroid.specs.Assignments.{Pair}
use Rattle.obs_meter.specs.Touches.{every_item}
use Rattle.obs_assign.specs.Assignment.{Assignment}
use Rattle.obs_assign.specs.inner.Assignment.{pairs}
use Rattle.obs_first.specs.First.{first_pairs}
use Rattle.obs_first.proofs.Lawful.{first_pairs-is}
use Rattle.obs_islands.specs.Firsts.{island_first}
use Rattle.obs_islands.specs.Islands.{every_vertex}
use Rattle.obs_islands.proofs.Firsts.{first_in, partition}
use Rattle.obs_network.specs.Network.{Network, case_branches, case_component_count, case_meters, case_need, case_vertex_count, network_of}
use Rattle.obs_network.proofs.OfCase.{case_branches-are}
use Rattle.obs_network.specs.inner.Located.{live_meters_of}
use Rattle.obs_network.specs.Observable.{IsObservable, case_live_meters, case_rank, is_energised_component}
use Rattle.obs_network.proofs.Listed.{no_pairs_in}
use Rattle.obs_report.specs.Counts.{counts_text}
use Rattle.obs_report.specs.Islands.{islands_text}
use Rattle.obs_report.specs.Meters.{bound_text, component_name, critical_text}
use Rattle.obs_report.specs.inner.Printed.{AppendsAt}
use Rattle.obs_report.specs.Items.{pair_line}
use Rattle.obs_report.specs.Trees.{tree_line, tree_text}
use Rattle.obs_report.proofs.Printing.{and_then_none}
use Rattle.obs_repair.specs.Bounds.{bound_meters, bound_outside, bound_rank, case_critical_meters, component_rank}
use Rattle.obs_edit.specs.Answers.{case_first_pairs, case_islands}
use Rattle.obs_kept.specs.inner.Kept.{AreLongest}
use Rattle.obs_repair.proofs.Enough.{live_pairs}
use Rattle.obs_repair.proofs.Tight.{observable-from, observable-to}
use Rattle.obs_engine.specs.Asks.{block_text, blocks_text, bound_claim, claims_text, component_claim, text_if, tree_claim}
use Rattle.obs_engine.specs.declared.blocks.Block.{Block}
use Rattle.obs_engine.specs.declared.blocks.Block.TheVariants.{Counts, Trees, Bounds, Claims, Islands, Critical}

-- nothing was printed
pub appends_nothing : {T E : Type 0} (x : T) (a : Option (List ℕ)) (f : ℕ) (p : ℕ → Type 0) → AppendsAt {T = T} {E = E} a a f f p p (Ok x) []
appends_nothing x a f p = record {
  writes = sym (and_then_none a);
  cause = record { later = omega arith; failed = tt };
  quiet = λ ok. refl;
  fits = λ rest has. let e : 0 + rest ≡ rest = omega arith in (refl, subst p e has);
}

-- the text of the tree, from the pairs that are at hand
pub tree_is : (t : Tables) (c : ℕ) (pairs : List Pair) → pairs ≡ case_first_pairs t → tree_text t c pairs ≡ tree_claim t c
unfolding tree_claim
tree_is t c pairs e = ap (tree_text t c) e

-- the text of the tree of a component without a live meter, from the kept pairs: no pair lies in it
pub lone_tree_is : (t : Tables) → IsValid t → (c : ℕ) → live_meters_of (network_of t) c ≡ [] → (a : Assignment) → AreLongest t a → tree_text t c (pairs a) ≡ tree_claim t c
unfolding tree_claim case_first_pairs
lone_tree_is t v c lone a longest =
    let touches = case_meters t in
    let first = first_pairs-is (case_vertex_count t) (case_branches t) touches (case_branches-are t v) in
    let kept_none = no_pairs_in t v c lone (case_live_meters t) (pairs a) (live_pairs t v a longest) in
    let first_none = no_pairs_in t v c lone (every_item touches) (first_pairs (case_vertex_count t) (case_branches t) touches) first.assigns in
    ap (λ (l : List Pair). tree_line (component_name t c) ++ flat_map (pair_line t) l) (kept_none ∙ sym first_none)

-- the text of the bound, from its parts
pub bound_is : (t : Tables) (c rank outside : ℕ) (inside : List ℕ) → inside ≡ bound_meters t c → rank ≡ bound_rank t c → outside ≡ bound_outside t c → bound_text t c inside rank outside ≡ bound_claim t c
unfolding bound_claim
bound_is t c rank outside inside i r o =
    ap (λ (x : List ℕ). bound_text t c x rank outside) i ∙ (ap (λ (x : ℕ). bound_text t c (bound_meters t c) x outside) r ∙ ap (λ (x : ℕ). bound_text t c (bound_meters t c) (bound_rank t c) x) o)

-- the claim on a component that isn't energised, is observable, or isn't
pub claim_dead : (trees bounds : Bool) (t : Tables) (c : ℕ) → is_energised_component t c ≡ false → component_claim trees bounds t c ≡ []
unfolding component_claim
claim_dead trees bounds t c dead = rw dead refl

module _ (trees bounds : Bool) (t : Tables) (v : IsValid t) (c : ℕ) (low : c < case_component_count t) (energised : is_energised_component t c ≡ true) where
  pub claim_observable : IsObservable t c → component_claim trees bounds t c ≡ text_if trees (tree_claim t c)
  unfolding component_claim
  claim_observable o = let e = eq-eqb (component_rank t c) (case_need t c) (observable-to t v c low o) in rw (energised, e) refl

  pub claim_short : (IsObservable t c → ⊥) → component_claim trees bounds t c ≡ text_if bounds (bound_claim t c)
  unfolding component_claim
  claim_short short = let e = ne_eqb (component_rank t c) (case_need t c) (λ same. short (observable-from t v c same)) in rw (energised, e) refl

  -- where its kind is asked for, or isn't
  pub tree_claimed : IsObservable t c → (b : Bool) → trees ≡ b → text_if b (tree_claim t c) ≡ component_claim trees bounds t c
  tree_claimed o b e = sym (claim_observable o ∙ ap (λ (x : Bool). text_if x (tree_claim t c)) e)

  pub bound_claimed : (r : Bool) → (IsObservable t c → r ≡ true) → r ≡ false → (b : Bool) → bounds ≡ b → text_if b (bound_claim t c) ≡ component_claim trees bounds t c
  bound_claimed r is not b e = sym (claim_short (λ o. absurd (cc (is o, not))) ∙ ap (λ (x : Bool). text_if x (bound_claim t c)) e)

-- the texts of the numbers below n, one after the other
abbrev pub texts_below : (ℕ → List ℕ) → ℕ → List ℕ
texts_below text n = flat_map text (range_with_len 0 n)

texts_split : (text : ℕ → List ℕ) (a n m k b : ℕ) → k ≡ n + m → b ≡ a + n → flat_map text (range_with_len a k) ≡ flat_map text (range_with_len a n) ++ flat_map text (range_with_len b m)
texts_split text a zero m k b e s = let x : k ≡ m = omega (arith, e) in let y : b ≡ a = omega (arith, s) in rw (x, y) refl
texts_split text a (suc n) m k b e s =
    let x : k ≡ suc (n + m) = omega (arith, e) in
    ap (λ i. flat_map text (range_with_len a i)) x
    ∙ (ap (λ r. text a ++ r) (texts_split text (a + 1) n m (n + m) b refl (omega (arith, s)))
    ∙ sym (append_assoc (text a) (flat_map text (range_with_len (a + 1) n)) (flat_map text (range_with_len b m))))

-- one more
pub texts_more : (text : ℕ → List ℕ) (n : ℕ) → texts_below text (n + 1) ≡ texts_below text n ++ text n
texts_more text n = texts_split text 0 n 1 (n + 1) n refl (omega arith) ∙ ap (λ r. texts_below text n ++ r) (append-nil (text n))

-- all of them, of which one is in the middle
pub texts_around : (text : ℕ → List ℕ) (n m : ℕ) → n < m → (texts_below text n ++ text n) ++ flat_map text (range_with_len (n + 1) (m - (n + 1))) ≡ texts_below text m
texts_around text n m l =
    ap (λ r. r ++ flat_map text (range_with_len (n + 1) (m - (n + 1)))) (sym (texts_more text n)) ∙ sym (texts_split text 0 (n + 1) (m - (n + 1)) m (n + 1) (omega arith) (omega arith))

pub claims_are : (trees bounds : Bool) (t : Tables) → texts_below (component_claim trees bounds t) (case_component_count t) ≡ claims_text trees bounds t
unfolding claims_text
claims_are trees bounds t = refl

-- the claims on the first components were printed
abbrev pub AreClaimed : Bool → Bool → Tables → Option (List ℕ) → Option (List ℕ) → ℕ → ℕ → (ℕ → Type 0) → (ℕ → Type 0) → ℕ → Type 0
AreClaimed trees bounds t before now faults_before faults_now room_before room_now c =
    AppendsAt {T = Unit {0}} {E = Failed} before now faults_before faults_now room_before room_now (Ok tt) (texts_below (component_claim trees bounds t) c)

-- the same bytes under another name
pub appends_as : {T E : Type 0} {a b : Option (List ℕ)} {f k : ℕ} {p q : ℕ → Type 0} {r : Result T E} {one two : List ℕ} → one ≡ two → AppendsAt a b f k p q r one → AppendsAt a b f k p q r two
appends_as {a = a} {b = b} {f = f} {k = k} {p = p} {q = q} {r = r} e h = subst (λ (text : List ℕ). AppendsAt a b f k p q r text) e h

-- the parts of answers, from what is at hand
pub counts_are : (t : Tables) (n : Network) (rank : ℕ) → n ≡ network_of t → rank ≡ case_rank t → counts_text n rank ≡ block_text Counts t
unfolding block_text
counts_are t n rank same r = ap (λ (x : Network). counts_text x rank) same ∙ ap (counts_text (network_of t)) r

pub islands_are : (t : Tables) (islands : List ℕ) → islands ≡ case_islands t → islands_text t islands ≡ block_text Islands t
unfolding block_text
islands_are t islands e = ap (islands_text t) e

pub critical_are : (t : Tables) (list : List ℕ) → list ≡ case_critical_meters t → critical_text t list ≡ block_text Critical t
unfolding block_text
critical_are t list e = ap (critical_text t) e

pub claimed_are : (t : Tables) → (claims_text true false t ≡ block_text Trees t) × (claims_text false true t ≡ block_text Bounds t) × (claims_text true true t ≡ block_text Claims t)
unfolding block_text
claimed_are t = (refl, refl, refl)

-- some parts of an answer were printed
abbrev pub ArePrinted : Tables → Option (List ℕ) → Option (List ℕ) → ℕ → ℕ → (ℕ → Type 0) → (ℕ → Type 0) → List Block → Type 0
ArePrinted t before now faults_before faults_now room_before room_now blocks =
    AppendsAt {T = Unit {0}} {E = Failed} before now faults_before faults_now room_before room_now (Ok tt) (blocks_text blocks t)

-- one more
pub blocks_more : (t : Tables) (blocks : List Block) (k : ℕ) (d : Block) → k < length blocks → blocks_text (take k blocks) t ++ block_text (get_or blocks k d) t ≡ blocks_text (take (k + 1) blocks) t
blocks_more t blocks k d low =
    let more : take (k + 1) blocks ≡ take k blocks ++ (get_or blocks k d ∷ []) = rw add-one (take-suc blocks k d low) in
    ap (λ (text : List ℕ). blocks_text (take k blocks) t ++ text) (sym (append-nil (block_text (get_or blocks k d) t)))
    ∙ (sym (flat_map-append (λ (block : Block). block_text block t) (take k blocks) (get_or blocks k d ∷ []))
    ∙ ap (λ (all : List Block). blocks_text all t) (sym more))

-- all of them, of which one is in the middle
pub blocks_around : (t : Tables) (blocks : List Block) (k : ℕ) (d : Block) → k < length blocks
    → (blocks_text (take k blocks) t ++ block_text (get_or blocks k d) t) ++ blocks_text (drop (suc k) blocks) t ≡ blocks_text blocks t
blocks_around t blocks k d low =
    append_assoc (blocks_text (take k blocks) t) (block_text (get_or blocks k d) t) (blocks_text (drop (suc k) blocks) t)
    ∙ (ap (λ (rest : List Block). blocks_text (take k blocks) t ++ blocks_text rest t) (sym (drop-cons blocks k d low))
    ∙ (sym (flat_map-append (λ (block : Block). block_text block t) (take k blocks) (drop k blocks))
    ∙ ap (λ (all : List Block). blocks_text all t) (take-append-drop k blocks)))

-- each bus has an island, whose first bus isn't above it
pub islands_few : (t : Tables) (islands : List ℕ) (n : Network) → n ≡ network_of t → islands ≡ case_islands t → length islands ≡ n.graph.vertices
unfolding case_islands
islands_few t islands n same e =
    ap (λ (xs : List ℕ). length xs) e
    ∙ (length-map (every_vertex (case_vertex_count t)) (island_first (case_vertex_count t) (case_branches t) (case_meters t))
    ∙ (length-range_with_len 0 (case_vertex_count t) ∙ ap (λ (x : Network). x.graph.vertices) (sym same)))

pub islands_low : (t : Tables) → IsValid t → (islands : List ℕ) → islands ≡ case_islands t → (bus : ℕ) → bus < length islands → slice_index islands bus ≤ bus
unfolding case_islands
islands_low t v islands e bus low =
    let n = case_vertex_count t in
    let ends = case_branches t in
    let touches = case_meters t in
    let many = ap (λ (xs : List ℕ). length xs) e ∙ (length-map (every_vertex n) (island_first n ends touches) ∙ length-range_with_len 0 n) in
    let l : bus < n = omega (arith, low, many) in
    let p = partition n ends touches (case_branches-are t v) bus l in
    let first = (first_in n ends touches (case_branches-are t v) bus l p.0 p.1.island p.1.has).first bus l p.1.has in
    let at : slice_index islands bus ≡ island_first n ends touches bus = ap (λ (xs : List ℕ). slice_index xs bus) e ∙ get_or-map-range_with_len (island_first n ends touches) 0 n bus bus 0 l (omega arith) in
    omega (arith, first, at)
