-- What loops over buses and nodes find.
use Rattle.std.proofs.Common.{◌≡◌, ℕ, zero, suc, ◌+◌, ◌<◌, ◌≤◌, ◌||◌, Bool, true, false, Option, None, List, [], ◌∷◌, ◌++◌, length, map, filter, take, get_or, set, refl, sym, subst, ap, ◌∙◌, inl, inr, arith, add-one, length-append}
use Rattle.std.specs.List.{range_with_len}
use Rattle.std.specs.Prelude.{cond, count_by, sum_by, ◌==◌}
use Rattle.std.proofs.lemmas.Bool.{cases_Bool, cases_eq, eq-eqb, ne_eqb}
use Rattle.std.proofs.lemmas.Grind.{same_number_lists}
use Rattle.std.proofs.lemmas.List.{ext_get_or, get_or-map, get_or-set_other, get_or-set_same, get_or_append_left, length-map, take_all, take_more_set}
use Rattle.std.proofs.lemmas.List.Sums.{count_by_more_no, count_by_more_yes, sum_by-append}
use Rattle.std.proofs.lemmas.List.FromFn.{filter_of_map_range_with_len_more, get_or-map-range_with_len, length-map-range_with_len}
use Rattle.obs_matroid.specs.Lists.{In}
use Rattle.obs_matroid.proofs.Lists.{In-filter_from}
use Rattle.std.proofs.Math.Seq.{get_or-append_seam}
use Rattle.obs_graph.specs.Joined.{count_below}
use Rattle.obs_graph.specs.Positions.{sum_below}
use Rattle.obs_graph.proofs.First.{first_joined-le, first_joined-first_joined}
use Rattle.obs_switch.proofs.FirstNodes.{count_below-passed}
use Rattle.obs_graph.specs.declared.Ends.{Ends}
use Rattle.obs_case.specs.declared.rows.Node.{Node}
use Rattle.obs_network.specs.Components.{component_count, component_of, components_of, first_bus, first_buses_of, if_energised, is_first_bus, is_marked, marked_of, sizes_of}
use Rattle.obs_network.proofs.Numbered.{components_of-at}

map_same : (xs : List ℕ) → map (λ x. x) xs ≡ xs
map_same [] = refl
map_same (x ∷ xs) = ap (λ t. x ∷ t) (map_same xs)

-- one number more, which passes or doesn't
filter_more : (p : ℕ → Bool) (n : ℕ) → filter p (range_with_len 0 (n + 1)) ≡ filter p (range_with_len 0 n) ++ cond (p n) (n ∷ []) []
filter_more p n =
    ap (filter p) (sym (map_same (range_with_len 0 (n + 1))))
    ∙ filter_of_map_range_with_len_more p (λ x. x) 0 n n (omega arith)
    ∙ ap (λ t. filter p t ++ cond (p n) (n ∷ []) []) (map_same (range_with_len 0 n))

-- the first buses that are noted
pub noted_first : (live : List Ends) (noted : List ℕ) (bus count : ℕ) → count < length noted → first_bus live bus ≡ bus
    → take count noted ≡ filter (is_first_bus live) (range_with_len 0 bus) → take (count + 1) (set noted count bus) ≡ filter (is_first_bus live) (range_with_len 0 (bus + 1))
noted_first live noted bus count l own so_far =
    let p : is_first_bus live bus ≡ true = eq-eqb (first_bus live bus) bus own in
    take_more_set noted count bus l ∙ ap (λ t. t ++ bus ∷ []) so_far ∙ sym (filter_more (is_first_bus live) bus ∙ ap (λ b. filter (is_first_bus live) (range_with_len 0 bus) ++ cond b (bus ∷ []) []) p)

pub noted_other : (live : List Ends) (noted : List ℕ) (bus count : ℕ) → (first_bus live bus ≡ bus → ⊥)
    → take count noted ≡ filter (is_first_bus live) (range_with_len 0 bus) → take count noted ≡ filter (is_first_bus live) (range_with_len 0 (bus + 1))
noted_other live noted bus count other so_far =
    let p : is_first_bus live bus ≡ false = ne_eqb (first_bus live bus) bus other in
    so_far ∙ sym (filter_more (is_first_bus live) bus ∙ ap (λ b. filter (is_first_bus live) (range_with_len 0 bus) ++ cond b (bus ∷ []) []) p ∙ append_none (filter (is_first_bus live) (range_with_len 0 bus)))
  where
    append_none : (xs : List ℕ) → xs ++ [] ≡ xs
    append_none [] = refl
    append_none (x ∷ xs) = ap (λ t. x ∷ t) (append_none xs)

-- each bus has its number
pub numbered_all : (n : ℕ) (live : List Ends) (numbers : List ℕ) → length numbers ≡ n → ((u : ℕ) → u < n → get_or numbers u 0 ≡ component_of live u) → numbers ≡ components_of n live
numbered_all n live numbers len at =
    same_number_lists numbers (components_of n live) (len ∙ sym (length-map-range_with_len (component_of live) 0 n)) (λ k l. at k (omega arith) ∙ sym (components_of-at n live k (omega arith)))

-- each component has its size
pub sized_all : (count : ℕ) (numbers sizes : List ℕ) → length sizes ≡ count → ((c : ℕ) → c < count → get_or sizes c 0 ≡ count_by (λ x. x == c) numbers) → sizes ≡ sizes_of count numbers
sized_all count numbers sizes len at =
    let f : ℕ → ℕ = λ c. count_by (λ x. x == c) numbers in
    same_number_lists sizes (sizes_of count numbers) (len ∙ sym (length-map-range_with_len f 0 count)) (λ k l. at k (omega arith) ∙ sym (get_or-map-range_with_len f 0 count k k 0 (omega arith) (omega arith)))

-- one bus more counted
pub sized_more : (numbers sizes : List ℕ) (i c : ℕ) → i < length numbers → c < length sizes → get_or sizes c 0 ≡ count_by (λ x. x == c) (take i numbers)
    → get_or (set sizes (get_or numbers i 0) (get_or sizes (get_or numbers i 0) 0 + 1)) c 0 ≡ count_by (λ x. x == c) (take (i + 1) numbers)
sized_more numbers sizes i c low few counted = by (get_or numbers i 0) refl
  where
    by : (x : ℕ) → get_or numbers i 0 ≡ x → get_or (set sizes x (get_or sizes x 0 + 1)) c 0 ≡ count_by (λ x. x == c) (take (i + 1) numbers)
    by x is =
        elim (cases_eq x c) [
          | inl e ↦ subst (λ y. get_or (set sizes y (get_or sizes y 0 + 1)) c 0 ≡ count_by (λ x. x == c) (take (i + 1) numbers)) (sym e)
              (get_or-set_same sizes c (get_or sizes c 0 + 1) 0 few
              ∙ (ap (λ n. n + 1) counted ∙ sym (count_by_more_yes (λ x. x == c) numbers i 0 low (eq-eqb (get_or numbers i 0) c (is ∙ e)))))
          | inr e ↦ get_or-set_other sizes x c (get_or sizes x 0 + 1) 0 (λ (same : c ≡ x). e (sym same))
              ∙ (counted ∙ sym (count_by_more_no (λ x. x == c) numbers i 0 low (ne_eqb (get_or numbers i 0) c (λ same. e (sym is ∙ same)))))
        ]

-- each component has its mark
pub marked_all : (flag : Node → Bool) (count : ℕ) (numbers buses : List ℕ) (nodes : List Node) (marks : List Bool) → length marks ≡ count → ((c : ℕ) → c < count → get_or marks c false ≡ is_marked flag numbers buses nodes c) → marks ≡ marked_of flag count numbers buses nodes
marked_all flag count numbers buses nodes marks len at =
    let f : ℕ → Bool = is_marked flag numbers buses nodes in
    ext_get_or false marks (marked_of flag count numbers buses nodes) (len ∙ sym (length-map-range_with_len f 0 count)) (λ k l. at k (omega arith) ∙ sym (get_or-map-range_with_len f 0 count k k false (omega arith) (omega arith)))

pub or_nothing : (b : Bool) → b || false ≡ b
or_nothing true = refl
or_nothing false = refl

-- what is filtered from the numbers below n is below n
pub filtered_below : (p : ℕ → Bool) (a n : ℕ) (x : ℕ) → In x (filter p (range_with_len a n)) → x < a + n
filtered_below p a n x i = range_below a n x (In-filter_from p x (range_with_len a n) i).0
  where
    range_below : (a n x : ℕ) → In x (range_with_len a n) → x < a + n
    range_below a zero x i = absurd i
    range_below a (suc n) x (inl e) = omega (arith, e)
    range_below a (suc n) x (inr i) = let h = range_below (a + 1) n x i in omega (arith, h)

-- as many pass as are counted
pub length-passing : (p : ℕ → Bool) (n : ℕ) → length (filter p (range_with_len 0 n)) ≡ count_below p n
length-passing p zero = refl
length-passing p (suc n) =
    let more = ap (λ (xs : List ℕ). length xs) (ap (λ m. filter p (range_with_len 0 m)) (sym (add-one n)) ∙ filter_more p n) in
    let rest = length-passing p n in
    elim (cases_Bool (p n)) [
      | inl e ↦ more ∙ (length-append (filter p (range_with_len 0 n)) (cond (p n) (n ∷ []) []) ∙ rw e (omega (arith, rest)))
      | inr e ↦ more ∙ (length-append (filter p (range_with_len 0 n)) (cond (p n) (n ∷ []) []) ∙ rw e (omega (arith, rest)))
    ]

-- and each stands where as many pass before it
pub passing_at : (p : ℕ → Bool) (n m : ℕ) → m < n → p m ≡ true → get_or (filter p (range_with_len 0 n)) (count_below p m) 0 ≡ m
passing_at p zero m l t = absurd (omega arith)
passing_at p (suc n) m l t =
    let xs = filter p (range_with_len 0 n) in
    let more : filter p (range_with_len 0 (suc n)) ≡ xs ++ cond (p n) (n ∷ []) [] = ap (λ k. filter p (range_with_len 0 k)) (sym (add-one n)) ∙ filter_more p n in
    let len = length-passing p n in
    elim (cases_eq m n) [
      | inl e ↦
          let here : p n ≡ true = ap p (sym e) ∙ t in
          let at : count_below p m ≡ length xs = ap (count_below p) e ∙ sym len in
          rw (more, here, at) (get_or-append_seam xs n [] 0 ∙ sym e)
      | inr ne ↦
          let low : count_below p m < length xs = omega (arith, len, count_below-passed p m n (omega arith) t) in
          rw more (get_or_append_left xs (cond (p n) (n ∷ []) []) 0 (count_below p m) low ∙ passing_at p n m (omega arith) t)
    ]

-- a sum over what passes
pub sum_of_passing : (p : ℕ → Bool) (f : ℕ → ℕ) (n : ℕ) → sum_below (λ c. cond (p c) (f c) 0) n ≡ sum_by f (filter p (range_with_len 0 n))
sum_of_passing p f zero = refl
sum_of_passing p f (suc n) =
    let xs = filter p (range_with_len 0 n) in
    let more : filter p (range_with_len 0 (suc n)) ≡ xs ++ cond (p n) (n ∷ []) [] = ap (λ k. filter p (range_with_len 0 k)) (sym (add-one n)) ∙ filter_more p n in
    let rest = sum_of_passing p f n in
    rw more (rw (sum_by-append f xs (cond (p n) (n ∷ []) [])) (elim (cases_Bool (p n)) [ inl e ↦ rw e (omega (arith, rest)) | inr e ↦ rw e (omega (arith, rest)) ]))

pub length-first_buses_of : (n : ℕ) (live : List Ends) → length (first_buses_of n live) ≡ component_count n live
length-first_buses_of n live = length-passing (is_first_bus live) n

pub first_bus_at : (n : ℕ) (live : List Ends) (b : ℕ) → b < n → get_or (first_buses_of n live) (component_of live b) 0 ≡ first_bus live b
first_bus_at n live b l =
    passing_at (is_first_bus live) n (first_bus live b) (omega (arith, first_joined-le live b)) (eq-eqb (first_bus live (first_bus live b)) (first_bus live b) (first_joined-first_joined live b))

-- the live branches below `end` are of energised components
abbrev pub AreAllKept : List ℕ → List Bool → List (Option Ends) → ℕ → Type 0
AreAllKept numbers energised live end =
    (k : ℕ) → k < end → if_energised numbers energised (get_or live k None) ≡ get_or live k None

-- where all live branches are of energised components, what is kept is what is live
pub AllKept-all : (numbers : List ℕ) (energised : List Bool) (live kept : List (Option Ends)) (i : ℕ) → length live ≤ i → length live ≡ length kept → take i kept ≡ map (if_energised numbers energised) (take i live)
    → AreAllKept numbers energised live i → kept ≡ live
AllKept-all numbers energised live kept i le len written h =
    let f = if_energised numbers energised in
    let same : map f live ≡ live =
    ext_get_or None (map f live) live (length-map live f)
    (λ k l. let low : k < length live = omega (arith, l, length-map live f) in get_or-map f live k None None low ∙ h k (omega (arith, low, le))) in
    sym (take_all i kept (omega (arith, le, len))) ∙ written ∙ ap (map f) (take_all i live le) ∙ same
