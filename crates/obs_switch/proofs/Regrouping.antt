-- Groups when the key of one item changes: its entry moves from the old group to the new one.
use Rattle.std.proofs.Common.{inl, inr, ◌≡◌, ℕ, zero, suc, ◌+◌, ◌-◌, ◌<◌, ◌≤◌, Bool, eqb, ⊎_elim, List, [], ◌∷◌, ◌++◌, length, take, drop, refl, sym, ap, ◌∙◌, subst, arith, length-append}
use Rattle.std.specs.List.{count_by, slice_range}
use Rattle.std.proofs.Math.Seq.{take-add, drop-append_seam, take-append_seam}
use Rattle.std.proofs.lemmas.Bool.{cases_Bool, cases_eq, cond-true, cond-false, eq-eqb, ne_eqb}
use Rattle.std.proofs.lemmas.List.{append_assoc, append-nil, take-append-drop}
use Rattle.obs_graph.specs.Positions.{positions_from}
use Rattle.obs_graph.proofs.FlatParts.{length-positions_from}
use Rattle.obs_switch.specs.Groups.{items_with}
use Rattle.obs_switch.specs.inner.Groups.{group_start}

-- the groups of so many keys, one after another
abbrev pub flat : List ℕ → ℕ → List ℕ
flat keys zero = []
flat keys (suc n) = flat keys n ++ items_with keys n

size : (keys : List ℕ) (k : ℕ) → length (items_with keys k) ≡ count_by (λ x. eqb x k) keys
size keys k = length-positions_from (λ x. eqb x k) 0 keys

pub length-flat : (keys : List ℕ) (n : ℕ) → length (flat keys n) ≡ group_start keys n
length-flat keys zero = refl
length-flat keys (suc n) = length-append (flat keys n) (items_with keys n) ∙ omega (arith, length-flat keys n, size keys n)

-- groups that stand in an array are its front
pub take-flat : (keys members : List ℕ) (n : ℕ) → ((k : ℕ) → k < n → slice_range members (group_start keys k) (group_start keys (suc k)) ≡ items_with keys k) → take (group_start keys n) members ≡ flat keys n
take-flat keys members zero at = refl
take-flat keys members (suc n) at =
    let a = group_start keys n in
    let c = count_by (λ x. eqb x n) keys in
    let same : c ≡ a + c - a = omega arith in
    let part : take c (drop a members) ≡ items_with keys n = ap (λ k. take k (drop a members)) same ∙ at n (omega arith) in
    take-add a c members ∙ ap (λ l. l ++ take c (drop a members)) (take-flat keys members n (λ k l. at k (omega (arith, l)))) ∙ ap (λ l. flat keys n ++ l) part

flat-front : (keys : List ℕ) (k d : ℕ) → (rest : List ℕ) × (flat keys (k + d) ≡ flat keys k ++ rest)
flat-front keys k zero = let e : k + 0 ≡ k = omega arith in ([], ap (flat keys) e ∙ sym (append-nil (flat keys k)))
flat-front keys k (suc d) =
    let r = flat-front keys k d in
    let e : k + suc d ≡ suc (k + d) = omega arith in
    (r.0 ++ items_with keys (k + d), ap (flat keys) e ∙ ap (λ l. l ++ items_with keys (k + d)) r.1 ∙ append_assoc (flat keys k) r.0 (items_with keys (k + d)))

middle : (front part rest : List ℕ) → take (length part) (drop (length front) ((front ++ part) ++ rest)) ≡ part
middle front part rest =
    ap (λ l. take (length part) (drop (length front) l)) (append_assoc front part rest)
    ∙ ap (take (length part)) (drop-append_seam front (part ++ rest))
    ∙ take-append_seam part rest

-- and where they are its front, they stand there
pub group-from_flat : (keys members : List ℕ) (n : ℕ) → take (group_start keys n) members ≡ flat keys n → (k : ℕ) → k < n → slice_range members (group_start keys k) (group_start keys (suc k)) ≡ items_with keys k
group-from_flat keys members n is k l =
    let d = n - suc k in
    let e : suc k + d ≡ n = omega (arith, l) in
    let r = flat-front keys (suc k) d in
    let z = drop (group_start keys n) members in
    let whole : members ≡ (flat keys k ++ items_with keys k) ++ (r.0 ++ z) =
    sym (take-append-drop (group_start keys n) members) ∙ ap (λ l. l ++ z) (is ∙ ap (flat keys) (sym e) ∙ r.1) ∙ append_assoc (flat keys (suc k)) r.0 z in
    let a = group_start keys k in
    let c = count_by (λ x. eqb x k) keys in
    let width : a + c - a ≡ length (items_with keys k) = omega (arith, size keys k) in
    let start : a ≡ length (flat keys k) = sym (length-flat keys k) in
    ap (λ t. take (a + c - a) (drop a t)) whole
    ∙ ap (λ w. take w (drop a ((flat keys k ++ items_with keys k) ++ (r.0 ++ z)))) width
    ∙ ap (λ s. take (length (items_with keys k)) (drop s ((flat keys k ++ items_with keys k) ++ (r.0 ++ z)))) start
    ∙ middle (flat keys k) (items_with keys k) (r.0 ++ z)

positions-split : (test : ℕ → Bool) (i : ℕ) (xs : List ℕ) (y : ℕ) (ys : List ℕ) → positions_from test i (xs ++ y ∷ ys) ≡ positions_from test i xs ++ positions_from test (i + length xs) (y ∷ ys)
positions-split test i [] y ys = let e : i ≡ i + 0 = omega arith in ap (λ n. positions_from test n (y ∷ ys)) e
positions-split test i (x ∷ xs) y ys =
    let e : suc i + length xs ≡ i + suc (length xs) = omega arith in
    let rest = positions-split test (suc i) xs y ys ∙ ap (λ n. positions_from test (suc i) xs ++ positions_from test n (y ∷ ys)) e in
    elim (cases_Bool (test x)) [
      | inl t ↦ rw t (ap (λ l. i ∷ l) rest)
      | inr t ↦ rw t rest
    ]

-- an entry moved towards the back
pub record IsMovedBack (before after : List ℕ) (from to : ℕ) : Type 0 where
  pub front : List ℕ
  pub item : ℕ
  pub between : List ℕ
  pub behind : List ℕ
  pub was : before ≡ front ++ (item ∷ (between ++ behind))
  pub is : after ≡ front ++ (between ++ (item ∷ behind))
  pub starts : length front ≡ from
  pub ends : length front + length between ≡ to

-- one item's key is a, and then b
module _ (xs ys : List ℕ) (a b : ℕ) (rises : a < b) where
  abbrev m : ℕ
  m = length xs

  abbrev keyed : ℕ → List ℕ
  keyed v = xs ++ v ∷ ys

  abbrev before_it : ℕ → List ℕ
  before_it k = positions_from (λ x. eqb x k) 0 xs

  abbrev behind_it : ℕ → List ℕ
  behind_it k = positions_from (λ x. eqb x k) (suc m) ys

  split : (v k : ℕ) → items_with (keyed v) k ≡ before_it k ++ positions_from (λ x. eqb x k) m (v ∷ ys)
  split v k = let e : 0 + m ≡ m = omega arith in positions-split (λ x. eqb x k) 0 xs v ys ∙ ap (λ n. before_it k ++ positions_from (λ x. eqb x k) n (v ∷ ys)) e

  items-with_it : (v : ℕ) → items_with (keyed v) v ≡ before_it v ++ (m ∷ behind_it v)
  items-with_it v = split v v ∙ ap (λ l. before_it v ++ l) (cond-true (eqb v v) (m ∷ behind_it v) (behind_it v) (eq-eqb v v refl))

  items-without_it : (v k : ℕ) → (v ≡ k → ⊥) → items_with (keyed v) k ≡ before_it k ++ behind_it k
  items-without_it v k other = split v k ∙ ap (λ l. before_it k ++ l) (cond-false (eqb v k) (m ∷ behind_it k) (behind_it k) (ne_eqb v k other))

  items-same : (k : ℕ) → (a ≡ k → ⊥) → (b ≡ k → ⊥) → items_with (keyed b) k ≡ items_with (keyed a) k
  items-same k not_a not_b = items-without_it b k not_b ∙ sym (items-without_it a k not_a)

  flat-low : (n : ℕ) → n ≤ a → flat (keyed b) n ≡ flat (keyed a) n
  flat-low zero l = refl
  flat-low (suc n) l =
      ap (λ t. t ++ items_with (keyed b) n) (flat-low n (omega (arith, l)))
      ∙ ap (λ t. flat (keyed a) n ++ t) (items-same n (λ e. omega (arith, l, e)) (λ e. omega (arith, l, e, rises)))

  abbrev front_of : List ℕ
  front_of = flat (keyed a) a ++ before_it a

  IsBetween : ℕ → Type 0
  IsBetween n = (q : List ℕ) × (flat (keyed a) n ≡ front_of ++ (m ∷ q)) × (flat (keyed b) n ≡ front_of ++ q)

  between-first : IsBetween (suc a)
  unfolding IsBetween
  between-first = (
    behind_it a,
    ap (λ t. flat (keyed a) a ++ t) (items-with_it a) ∙ sym (append_assoc (flat (keyed a) a) (before_it a) (m ∷ behind_it a)),
    ap (λ t. t ++ items_with (keyed b) a) (flat-low a (omega arith))
        ∙ ap (λ t. flat (keyed a) a ++ t) (items-without_it b a (λ e. omega (arith, e, rises)))
        ∙ sym (append_assoc (flat (keyed a) a) (before_it a) (behind_it a)),
  )

  between : (n : ℕ) → a < n → n ≤ b → IsBetween n
  unfolding IsBetween
  between zero l h = absurd (omega arith)
  between (suc n) l h =
      ⊎_elim
      (λ (same : n ≡ a). subst (λ k. IsBetween (suc k)) (sym same) between-first)
      (λ (other : n ≡ a → ⊥).
      let r = between n (omega (arith, l, other)) (omega (arith, h)) in
      let g = items_with (keyed a) n in
      let new = items-same n (λ e. other (sym e)) (λ e. omega (arith, h, e)) in
      (r.0 ++ g, ap (λ t. t ++ g) r.1 ∙ append_assoc front_of (m ∷ r.0) g, ap (λ t. t ++ items_with (keyed b) n) r.2 ∙ ap (λ t. (front_of ++ r.0) ++ t) new ∙ append_assoc front_of r.0 g))
      (cases_eq n a)

  abbrev from_place : ℕ
  from_place = group_start (keyed a) a + length (before_it a)

  abbrev to_place : ℕ
  to_place = group_start (keyed a) b + length (before_it b)

  length-front : length front_of ≡ from_place
  length-front = length-append (flat (keyed a) a) (before_it a) ∙ omega (arith, length-flat (keyed a) a)

  moved-first : (t : ℕ) → suc t ≡ to_place → IsMovedBack (flat (keyed a) (suc b)) (flat (keyed b) (suc b)) from_place t
  unfolding IsBetween
  moved-first t is_t =
      let r = between b rises (omega arith) in
      let long : group_start (keyed a) b ≡ length front_of + suc (length r.0) = sym (length-flat (keyed a) b) ∙ ap length r.1 ∙ length-append front_of (m ∷ r.0) in
      record {
        front = front_of;
        item = m;
        between = r.0 ++ before_it b;
        behind = behind_it b;
        was = ap (λ t. t ++ items_with (keyed a) b) r.1
            ∙ ap (λ t. (front_of ++ (m ∷ r.0)) ++ t) (items-without_it a b (λ e. omega (arith, e, rises)))
            ∙ append_assoc front_of (m ∷ r.0) (before_it b ++ behind_it b)
            ∙ ap (λ t. front_of ++ (m ∷ t)) (sym (append_assoc r.0 (before_it b) (behind_it b)));
        is = ap (λ t. t ++ items_with (keyed b) b) r.2
            ∙ ap (λ t. (front_of ++ r.0) ++ t) (items-with_it b)
            ∙ append_assoc front_of r.0 (before_it b ++ (m ∷ behind_it b))
            ∙ ap (λ t. front_of ++ t) (sym (append_assoc r.0 (before_it b) (m ∷ behind_it b)));
        starts = length-front;
        ends = omega (arith, long, length-append r.0 (before_it b), is_t);
      }

  pub moved : (n t : ℕ) → b < n → suc t ≡ to_place → IsMovedBack (flat (keyed a) n) (flat (keyed b) n) from_place t
  moved zero t l is_t = absurd (omega arith)
  moved (suc n) t l is_t =
      ⊎_elim
      (λ (same : n ≡ b). subst (λ k. IsMovedBack (flat (keyed a) (suc k)) (flat (keyed b) (suc k)) from_place t) (sym same) (moved-first t is_t))
      (λ (other : n ≡ b → ⊥).
      let r = moved n t (omega (arith, l, other)) is_t in
      let g = items_with (keyed a) n in
      let new = items-same n (λ e. omega (arith, e, l, rises)) (λ e. other (sym e)) in
      record {
        front = r.front;
        item = r.item;
        between = r.between;
        behind = r.behind ++ g;
        was = ap (λ t. t ++ g) r.was ∙ append_assoc r.front (r.item ∷ (r.between ++ r.behind)) g ∙ ap (λ t. r.front ++ (r.item ∷ t)) (append_assoc r.between r.behind g);
        is = ap (λ t. t ++ items_with (keyed b) n) r.is
            ∙ ap (λ t. (r.front ++ (r.between ++ (r.item ∷ r.behind))) ++ t) new
            ∙ append_assoc r.front (r.between ++ (r.item ∷ r.behind)) g
            ∙ ap (λ t. r.front ++ t) (append_assoc r.between (r.item ∷ r.behind) g);
        starts = r.starts;
        ends = r.ends;
      })
      (cases_eq n b)

  -- where the groups begin then
  pub start-low : (n : ℕ) → n ≤ a → group_start (keyed b) n ≡ group_start (keyed a) n
  start-low n l = sym (length-flat (keyed b) n) ∙ ap length (flat-low n l) ∙ length-flat (keyed a) n

  pub start-between : (n : ℕ) → a < n → n ≤ b → suc (group_start (keyed b) n) ≡ group_start (keyed a) n
  unfolding IsBetween
  start-between n l h =
      let r = between n l h in
      omega (arith, length-flat (keyed b) n, length-flat (keyed a) n, ap length r.1, ap length r.2, length-append front_of (m ∷ r.0), length-append front_of r.0)

  pub start-high : (n : ℕ) → b < n → group_start (keyed b) n ≡ group_start (keyed a) n
  start-high n l =
      rises_same n l
    where
      rises_same : (n : ℕ) → b < n → group_start (keyed b) n ≡ group_start (keyed a) n
      rises_same zero l = absurd (omega arith)
      rises_same (suc n) l =
          ⊎_elim
          (λ (same : n ≡ b).
          let low = start-between b rises (omega arith) in
          let with_b : count_by (λ x. eqb x b) (keyed b) ≡ suc (length (before_it b) + length (behind_it b)) = sym (size (keyed b) b) ∙ ap length (items-with_it b) ∙ length-append (before_it b) (m ∷ behind_it b) ∙ omega arith in
          let with_a : count_by (λ x. eqb x b) (keyed a) ≡ length (before_it b) + length (behind_it b) =
          sym (size (keyed a) b) ∙ ap length (items-without_it a b (λ e. omega (arith, e, rises))) ∙ length-append (before_it b) (behind_it b) in
          let at_b : group_start (keyed b) (suc b) ≡ group_start (keyed a) (suc b) = omega (arith, low, with_b, with_a) in
          subst (λ k. group_start (keyed b) (suc k) ≡ group_start (keyed a) (suc k)) (sym same) at_b)
          (λ (other : n ≡ b → ⊥).
          let rest = rises_same n (omega (arith, l, other)) in
          let new = items-same n (λ e. omega (arith, e, l, rises)) (λ e. other (sym e)) in
          omega (arith, rest, size (keyed b) n, size (keyed a) n, ap length new))
          (cases_eq n b)

-- the same of a list and what it becomes, in numbers
module _ (old new xs ys : List ℕ) (a b : ℕ) (rises : a < b) (old_is : xs ++ a ∷ ys ≡ old) (new_is : xs ++ b ∷ ys ≡ new) where
  pub moved-as : (n from to : ℕ) → b < n → from ≡ group_start old a + count_by (λ x. eqb x a) xs → suc to ≡ group_start old b + count_by (λ x. eqb x b) xs → IsMovedBack (flat old n) (flat new n) from to
  moved-as n from to l is_from is_to =
      let at_a = ap (λ t. group_start t a) old_is in
      let at_b = ap (λ t. group_start t b) old_is in
      let more_a = length-positions_from (λ x. eqb x a) 0 xs in
      let more_b = length-positions_from (λ x. eqb x b) 0 xs in
      let here = moved xs ys a b rises n to l (omega (arith, at_b, more_b, is_to)) in
      let same : group_start (xs ++ a ∷ ys) a + length (positions_from (λ x. eqb x a) 0 xs) ≡ from = omega (arith, at_a, more_a, is_from) in
      subst (λ t. IsMovedBack (flat t n) (flat new n) from to) old_is
      (subst (λ t. IsMovedBack (flat (xs ++ a ∷ ys) n) (flat t n) from to) new_is
      (subst (λ f. IsMovedBack (flat (xs ++ a ∷ ys) n) (flat (xs ++ b ∷ ys) n) f to) same here))

  pub low-as : (n : ℕ) → n ≤ a → group_start new n ≡ group_start old n
  low-as n l = omega (arith, ap (λ t. group_start t n) old_is, ap (λ t. group_start t n) new_is, start-low xs ys a b rises n l)

  pub between-as : (n : ℕ) → a < n → n ≤ b → suc (group_start new n) ≡ group_start old n
  between-as n l h = omega (arith, ap (λ t. group_start t n) old_is, ap (λ t. group_start t n) new_is, start-between xs ys a b rises n l h)

  pub high-as : (n : ℕ) → b < n → group_start new n ≡ group_start old n
  high-as n l = omega (arith, ap (λ t. group_start t n) old_is, ap (λ t. group_start t n) new_is, start-high xs ys a b rises n l)
