-- What the summary of a case counts, and that it goes with whole answers alone.
use Rattle.std.proofs.Common.{ℕ, suc, ◌≡◌, ◌∙◌, ◌⊎◌, ◌<◌, ◌≤◌, ◌+◌, ◌&&◌, Bool, true, false, List, [], ◌∷◌, length, map, filter, take, get_or, set, refl, ap, sym, subst, inl, inr, arith}
use Rattle.std.specs.List.{range_with_len}
use Rattle.std.specs.Prelude.{count_by, nat_lt, ◌==◌}
use Rattle.std.proofs.lemmas.Bool.{cases_Bool, cases_eq, eq-eqb, ne_eqb}
use Rattle.std.proofs.lemmas.Grind.{same_number_lists}
use Rattle.std.proofs.lemmas.List.{get_or-map, get_or-set_other, get_or-set_same}
use Rattle.std.proofs.lemmas.List.FromFn.{get_or-map-range_with_len, length-map-range_with_len, length-range_with_len}
use Rattle.std.proofs.lemmas.List.Elements.{All-get_or}
use Rattle.std.proofs.lemmas.List.Sums.{length-filter}
use Rattle.obs_case.specs.declared.rows.Kind.{Kind}
use Rattle.obs_case.specs.declared.rows.Kind.TheVariants.{Flow, Injection, Zero, Angle}
use Rattle.obs_case.specs.declared.rows.Meter.{Meter}
use Rattle.obs_case.specs.Tables.{IsValid, Tables, places}
use Rattle.obs_files.specs.declared.status.Status.{Status}
use Rattle.obs_files.specs.declared.status.Status.TheVariants.{InputFault, NoMemory, ReadFault, Usage, WriteFault}
use Rattle.obs_meter.specs.Touches.{is_live}
use Rattle.obs_network.specs.Network.{case_branches, case_meters}
use Rattle.obs_network.specs.Switched.{case_bus_count, case_buses}
use Rattle.obs_network.proofs.OfCase.{length-case_buses, length-case_meters}
use Rattle.obs_report.proofs.Counted.{counted_all, range_more_no, range_more_yes}
use Rattle.obs_engine.specs.Summaries.{IsWholeAnswer, crowded_buses, injection_bus, injection_count, is_injection, is_injection_at, is_injection_kind}

-- an injection and a zero stand at a node
node_places : (t : Tables) (kind : Kind) → is_injection_kind kind ≡ true → places t kind ≡ length t.nodes
node_places t Flow e = absurd cc
node_places t Injection e = refl
node_places t Zero e = refl
node_places t Angle e = absurd cc

pub injection_node : (t : Tables) → IsValid t → (m : ℕ) (d : Meter) → m < length t.meters → is_injection t m ≡ true → (get_or t.meters m d).at < length (case_buses t)
injection_node t v m d low is =
    let row = get_or t.meters m d in
    let kind : is_injection_kind row.kind ≡ true = sym (get_or-map (λ (r : Meter). is_injection_kind r.kind) t.meters m d false low) ∙ is in
    let at : row.at < places t row.kind = All-get_or (λ (r : Meter). r.at < places t r.kind) t.meters m d low v.meter_places in
    subst (λ n. row.at < n) (node_places t row.kind kind ∙ sym (length-case_buses t)) at

-- whether a meter is a live injection or zero, and at a bus
abbrev pub is_live_injection : Tables → ℕ → Bool
is_live_injection t m = is_live (case_branches t) (case_meters t) m && is_injection t m

abbrev pub stands_at : Tables → ℕ → ℕ → Bool
stands_at t bus m = is_live (case_branches t) (case_meters t) m && is_injection_at t bus m

all_three : (l i e : Bool) → (l && i) ≡ true → e ≡ true → (l && (i && e)) ≡ true
all_three true true true a b = refl
all_three true true false a b = absurd cc
all_three true false e a b = absurd cc
all_three false i e a b = absurd cc

not_last : (l i e : Bool) → e ≡ false → (l && (i && e)) ≡ false
not_last true true true b = absurd cc
not_last true true false b = refl
not_last true false e b = refl
not_last false i e b = refl

not_first : (l i e : Bool) → (l && i) ≡ false → (l && (i && e)) ≡ false
not_first true true e a = absurd cc
not_first true false e a = refl
not_first false i e a = refl

-- of so many meters the first ones, and one more, at each bus
abbrev pub CountedTo : Tables → List ℕ → ℕ → ℕ → Type 0
CountedTo t counts m bus = get_or counts bus 0 ≡ count_by (stands_at t bus) (take m (range_with_len 0 (length t.meters)))

pub one_there : (t : Tables) (counts : List ℕ) (m bus : ℕ) → m < length t.meters → bus < length counts → is_live_injection t m ≡ true
    → CountedTo t counts m bus → CountedTo t (set counts (injection_bus t m) (get_or counts (injection_bus t m) 0 + 1)) (m + 1) bus
one_there t counts m bus low few is counted = by (injection_bus t m) refl
  where
    live : Bool
    live = is_live (case_branches t) (case_meters t) m

    by : (x : ℕ) → injection_bus t m ≡ x → CountedTo t (set counts x (get_or counts x 0 + 1)) (m + 1) bus
    by x at =
        elim (cases_eq x bus) [
          | inl e ↦ subst (λ y. get_or (set counts y (get_or counts y 0 + 1)) bus 0 ≡ count_by (stands_at t bus) (take (m + 1) (range_with_len 0 (length t.meters)))) (sym e)
              (get_or-set_same counts bus (get_or counts bus 0 + 1) 0 few
              ∙ (ap (λ n. n + 1) counted
              ∙ sym (range_more_yes (stands_at t bus) (length t.meters) m low (all_three live (is_injection t m) (injection_bus t m == bus) is (eq-eqb (injection_bus t m) bus (at ∙ e))))))
          | inr e ↦ get_or-set_other counts x bus (get_or counts x 0 + 1) 0 (λ (same : bus ≡ x). e (sym same))
              ∙ (counted
              ∙ sym (range_more_no (stands_at t bus) (length t.meters) m low (not_last live (is_injection t m) (injection_bus t m == bus) (ne_eqb (injection_bus t m) bus (λ same. e (sym at ∙ same))))))
        ]

pub none_there : (t : Tables) (counts : List ℕ) (m bus : ℕ) → m < length t.meters → is_live_injection t m ≡ false → CountedTo t counts m bus → CountedTo t counts (m + 1) bus
none_there t counts m bus low not counted =
    counted ∙ sym (range_more_no (stands_at t bus) (length t.meters) m low (not_first (is_live (case_branches t) (case_meters t) m) (is_injection t m) (injection_bus t m == bus) not))

-- what is counted of those that pass a test, and of what is read off each
passing_twice : {X : Type 0} (p q : X → Bool) (xs : List X) → filter p (filter q xs) ≡ filter (λ x. q x && p x) xs
passing_twice p q [] = refl
passing_twice p q (x ∷ xs) =
    let rest = passing_twice p q xs in
    elim (cases_Bool (q x)) [
      | inl e ↦ rw e (elim (cases_Bool (p x)) [ inl d ↦ rw d (ap (λ t. x ∷ t) rest) | inr d ↦ rw d rest ])
      | inr e ↦ rw e rest
    ]

count_of_passing : {X : Type 0} (p q : X → Bool) (xs : List X) → count_by p (filter q xs) ≡ count_by (λ x. q x && p x) xs
count_of_passing p q xs = sym (length-filter p (filter q xs)) ∙ (ap (λ t. length t) (passing_twice p q xs) ∙ length-filter (λ x. q x && p x) xs)

as_many_passing : {X Y : Type 0} (p : Y → Bool) (f : X → Y) (xs : List X) → length (filter p (map f xs)) ≡ length (filter (λ x. p (f x)) xs)
as_many_passing p f [] = refl
as_many_passing p f (x ∷ xs) =
    let rest = as_many_passing p f xs in
    elim (cases_Bool (p (f x))) [ inl e ↦ rw e (ap (λ n. suc n) rest) | inr e ↦ rw e rest ]

count_of_map : {X Y : Type 0} (p : Y → Bool) (f : X → Y) (xs : List X) → count_by p (map f xs) ≡ count_by (λ x. p (f x)) xs
count_of_map p f xs = sym (length-filter p (map f xs)) ∙ (as_many_passing p f xs ∙ length-filter (λ x. p (f x)) xs)

-- all meters were counted
pub counted_meters : (t : Tables) (counts : List ℕ) (m bus : ℕ) → length t.meters ≤ m → CountedTo t counts m bus → get_or counts bus 0 ≡ injection_count t bus
counted_meters t counts m bus all counted =
    let range = range_with_len 0 (length t.meters) in
    counted ∙ (counted_all (stands_at t bus) range m (omega (arith, all, length-range_with_len 0 (length t.meters)))
    ∙ (ap (λ n. count_by (stands_at t bus) (range_with_len 0 n)) (sym (length-case_meters t))
    ∙ sym (count_of_passing (is_injection_at t bus) (is_live (case_branches t) (case_meters t)) (range_with_len 0 (length (case_meters t))))))

-- and all buses
pub crowded_of : (t : Tables) (counts : List ℕ) → length counts ≡ case_bus_count t → ((bus : ℕ) → bus < case_bus_count t → get_or counts bus 0 ≡ injection_count t bus)
    → count_by (λ n. nat_lt 1 n) counts ≡ crowded_buses t
unfolding crowded_buses
crowded_of t counts len at =
    let f : ℕ → ℕ = injection_count t in
    let n = case_bus_count t in
    let same : counts ≡ map f (range_with_len 0 n) =
    same_number_lists counts (map f (range_with_len 0 n)) (len ∙ sym (length-map-range_with_len f 0 n))
    (λ k l. at k (omega (arith, l, len)) ∙ sym (get_or-map-range_with_len f 0 n k k 0 (omega (arith, l, len)) (omega arith))) in
    ap (count_by (λ m. nat_lt 1 m)) same ∙ count_of_map (λ m. nat_lt 1 m) f (range_with_len 0 n)

-- for want of memory, and where words or files are refused, there is no whole answer
pub not_for_memory : {P : Type 0} → IsWholeAnswer NoMemory → P
not_for_memory (inl e) = absurd cc
not_for_memory (inr e) = absurd cc

pub not_for_words : {P : Type 0} {status : Status} → (status ≡ Usage) ⊎ (status ≡ WriteFault) → IsWholeAnswer status → P
not_for_words (inl s) (inl e) = absurd cc
not_for_words (inl s) (inr e) = absurd cc
not_for_words (inr s) (inl e) = absurd cc
not_for_words (inr s) (inr e) = absurd cc

pub not_for_files : {P : Type 0} {status : Status} → (status ≡ InputFault) ⊎ (status ≡ ReadFault) ⊎ (status ≡ WriteFault) ⊎ (status ≡ NoMemory) → IsWholeAnswer status → P
not_for_files (inl s) (inl e) = absurd cc
not_for_files (inl s) (inr e) = absurd cc
not_for_files (inr (inl s)) (inl e) = absurd cc
not_for_files (inr (inl s)) (inr e) = absurd cc
not_for_files (inr (inr (inl s))) (inl e) = absurd cc
not_for_files (inr (inr (inl s))) (inr e) = absurd cc
not_for_files (inr (inr (inr s))) (inl e) = absurd cc
not_for_files (inr (inr (inr s))) (inr e) = absurd cc
