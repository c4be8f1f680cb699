-- Counting the items that pass a test, and those outside a list.
use Rattle.std.proofs.Common.{◌≡◌, ℕ, suc, ◌+◌, ◌-◌, ◌≤◌, Bool, true, false, not, List, [], ◌∷◌, length, filter, refl, sym, ap, ◌∙◌, inl, inr, arith}
use Rattle.std.specs.List.{list_any, range_with_len}
use Rattle.std.proofs.lemmas.Bool.{not-false, or_parts}
use Rattle.obs_graph.specs.Joined.{count_below}
use Rattle.obs_graph.proofs.Counts.{count_below-no, count_below-yes}
use Rattle.obs_network.proofs.Marked.{length-passing}
use Rattle.obs_matroid.specs.Lists.{In, IsDistinct}
use Rattle.obs_matroid.proofs.Lists.{In-filter, In-filter_from, IsDistinct-filter, clash, length-split, length-within}
use Rattle.obs_cert.specs.Flaws.{twice}
use Rattle.obs_meter.specs.Lost.{is_listed}
use Rattle.obs_meter.proofs.Touched.{In-from_any, any-from_In}

-- so many of the numbers below m pass
pub record IsCounting (p : ℕ → Bool) (m count : ℕ) : Type 0 where
  pub is : count ≡ count_below p m
  pub few : count ≤ m

pub counting_none : (p : ℕ → Bool) → IsCounting p 0 0
counting_none p = record { is = refl; few = omega arith }

pub counting_more : (p : ℕ → Bool) (m count : ℕ) → p m ≡ true → IsCounting p m count → IsCounting p (m + 1) (count + 1)
counting_more p m count t i =
    let e : suc m ≡ m + 1 = omega arith in
    record {
      is = (let c = count_below-yes p m t in let w : count_below p (m + 1) ≡ count_below p (suc m) = ap (count_below p) (sym e) in omega (arith, c, w, i.is));
      few = omega (arith, i.few);
    }

pub counting_same : (p : ℕ → Bool) (m count : ℕ) → p m ≡ false → IsCounting p m count → IsCounting p (m + 1) count
counting_same p m count f i =
    let e : suc m ≡ m + 1 = omega arith in
    record {
      is = (let c = count_below-no p m f in let w : count_below p (m + 1) ≡ count_below p (suc m) = ap (count_below p) (sym e) in omega (arith, c, w, i.is));
      few = omega (arith, i.few);
    }

pub counted : (p : ℕ → Bool) (m n count : ℕ) → m ≡ n → IsCounting p m count → count ≡ length (filter p (range_with_len 0 n))
counted p m n count same i = i.is ∙ ap (count_below p) same ∙ sym (length-passing p n)

-- a list without doubles whose items are in the scope
pub distinct : (xs : List ℕ) → twice xs ≡ false → IsDistinct xs
distinct [] e = tt
distinct (x ∷ xs) e = let two = or_parts (is_listed xs x) (twice xs) e in ((λ i. clash (any-from_In xs x i) two.0), distinct xs two.1)

-- where no element fails a test, each passes it
pub each_passes : {X : Type 0} (test : X → Bool) (xs : List X) → list_any (λ (x : X). not (test x)) xs ≡ false → (x : X) → In x xs → test x ≡ true
each_passes test [] e x i = absurd i
each_passes test (y ∷ ys) e x (inl is) = ap test is ∙ not-false (test y) (or_parts (not (test y)) (list_any (λ z. not (test z)) ys) e).0
each_passes test (y ∷ ys) e x (inr i) = each_passes test ys (or_parts (not (test y)) (list_any (λ z. not (test z)) ys) e).1 x i

-- the others of a scope are as many as it has more than the list
pub others : (scope all xs : List ℕ) → IsDistinct scope → IsDistinct xs → ((x : ℕ) → In x xs → In x scope) → length (filter (λ m. not (is_listed xs m)) scope) ≡ length scope - length xs
others scope all xs ds dx inside =
    let split = length-split (is_listed xs) scope in
    let up = length-within xs (filter (is_listed xs) scope) dx (λ x i. In-filter (is_listed xs) x scope (inside x i) (any-from_In xs x i)) in
    let down = length-within (filter (is_listed xs) scope) xs (IsDistinct-filter (is_listed xs) scope ds) (λ x i. In-from_any xs x (In-filter_from (is_listed xs) x scope i).1) in
    omega (arith, split, up, down)
