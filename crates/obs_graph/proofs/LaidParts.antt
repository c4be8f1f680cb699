-- Parts one after another in a flat list, of which one changes in place.
use Rattle.std.proofs.Common.{◌≡◌, ℕ, zero, suc, ◌+◌, ◌-◌, ◌<◌, ◌≤◌, Bool, true, false, cond, eqb, ltb, ⊎_elim, List, [], ◌∷◌, ◌++◌, length, get_or, map, take, drop, refl, sym, ap, ◌∙◌, subst, arith}
use Rattle.std.specs.List.{count_by, insert, remove, slice_range}
use Rattle.std.specs.List.Sorted.{IsNonDecreasing, IsPartitionedBy, IsPartitionPoint}
use Rattle.std.specs.Prelude.{All}
use Rattle.std.proofs.lemmas.Bool.{cases_lt, cond-true, cond-false, eq-eqb, ne_eqb}
use Rattle.std.proofs.lemmas.List.{append-nil, append_assoc, drop_at, drop-take, get_or-append_right, get_or-drop, get_or-map, get_or-take, get_or_append_left, get_or_default, length-append, length-drop, length-map, length-take-le, take-take, take_at}
use Rattle.std.proofs.lemmas.List.Edits.{insert-append_left, insert-append_right, remove-append_left, remove-append_right}
use Rattle.std.proofs.lemmas.List.Elements.{All-head, All-tail}
use Rattle.std.proofs.lemmas.List.Sums.{sum_by-append, sum_by-cons}
use Rattle.obs_graph.specs.Positions.{sum_below}
use Rattle.obs_graph.specs.inner.Placing.{part_of, place_of, total_of}
use Rattle.obs_graph.proofs.FlatParts.{starts_rise, sum_below-agree}

-- where the part of v begins, and the parts below n one after another
abbrev pub start_of : (ℕ → List ℕ) → ℕ → ℕ
start_of parts v = sum_below (λ w. length (parts w)) v

abbrev pub parts_below : (ℕ → List ℕ) → ℕ → List ℕ
parts_below parts zero = []
parts_below parts (suc n) = parts_below parts n ++ parts n

pub length-parts_below : (parts : ℕ → List ℕ) (n : ℕ) → length (parts_below parts n) ≡ start_of parts n
length-parts_below parts zero = refl
length-parts_below parts (suc n) = length-append (parts_below parts n) (parts n) ∙ ap (λ k. k + length (parts n)) (length-parts_below parts n)

pub parts_below-agree : (parts more : ℕ → List ℕ) (n : ℕ) → ((v : ℕ) → v < n → parts v ≡ more v) → parts_below parts n ≡ parts_below more n
parts_below-agree parts more zero same = refl
parts_below-agree parts more (suc n) same =
    ap (λ l. l ++ parts n) (parts_below-agree parts more n (λ v l. same v (omega arith))) ∙ ap (λ l. parts_below more n ++ l) (same n (omega arith))

pub start_of-rise : (parts : ℕ → List ℕ) (v w : ℕ) → v ≤ w → start_of parts v ≤ start_of parts w
start_of-rise parts v w l = starts_rise (start_of parts) (λ u. omega arith) v w l

-- the parts below n stand in the flat list, and the starts say where
pub record IsLaid (n : ℕ) (parts : ℕ → List ℕ) (starts at : List ℕ) : Type 0 where
  pub size : length starts ≡ suc n
  pub begin : (v : ℕ) → v < suc n → get_or starts v 0 ≡ start_of parts v
  pub items : take (start_of parts n) at ≡ parts_below parts n
  pub room : start_of parts n ≤ length at

pub IsLaid-agree : (n : ℕ) (parts more : ℕ → List ℕ) (starts at : List ℕ) → ((v : ℕ) → v < n → parts v ≡ more v) → IsLaid n parts starts at → IsLaid n more starts at
IsLaid-agree n parts more starts at same f =
    let lengths = λ (v : ℕ) (l : v ≤ n). sum_below-agree (λ w. length (parts w)) (λ w. length (more w)) v (λ w lw. ap length (same w (omega arith))) in
    record {
      size = f.size;
      begin = λ v l. f.begin v l ∙ lengths v (omega arith);
      items = ap (λ k. take k at) (sym (lengths n (omega arith))) ∙ (f.items ∙ parts_below-agree parts more n same);
      room = omega (arith, f.room, lengths n (omega arith));
    }

-- the part of v is ps
abbrev pub changed : ℕ → List ℕ → (ℕ → List ℕ) → ℕ → List ℕ
changed v ps parts w = cond (eqb w v) ps (parts w)

pub changed-at : (v : ℕ) (ps : List ℕ) (parts : ℕ → List ℕ) (w : ℕ) → w ≡ v → changed v ps parts w ≡ ps
changed-at v ps parts w e = cond-true (eqb w v) ps (parts w) (eq-eqb w v e)

pub changed-other : (v : ℕ) (ps : List ℕ) (parts : ℕ → List ℕ) (w : ℕ) → (w ≡ v → ⊥) → changed v ps parts w ≡ parts w
changed-other v ps parts w ne = cond-false (eqb w v) ps (parts w) (ne_eqb w v ne)

-- what stands behind the part of v
abbrev behind_part : (ℕ → List ℕ) → ℕ → ℕ → List ℕ
behind_part parts v k = parts_below (λ w. parts (suc v + w)) k

-- the parts before v, that of v, and those behind
parts_split : (parts : ℕ → List ℕ) (v k : ℕ) → parts_below parts (suc v + k) ≡ parts_below parts v ++ (parts v ++ behind_part parts v k)
parts_split parts v zero = let e : suc v + 0 ≡ suc v = omega arith in rw e (ap (λ l. parts_below parts v ++ l) (sym (append-nil (parts v))))
parts_split parts v (suc k) =
    let before = parts_below parts v in
    let rest = behind_part parts v k in
    let last = parts (suc v + k) in
    let e : suc v + suc k ≡ suc (suc v + k) = omega arith in
    ap (parts_below parts) e ∙ ap (λ l. l ++ last) (parts_split parts v k) ∙ (append_assoc before (parts v ++ rest) last ∙ ap (λ l. before ++ l) (append_assoc (parts v) rest last))

changed_split : (parts : ℕ → List ℕ) (v k : ℕ) (ps : List ℕ) → parts_below (changed v ps parts) (suc v + k) ≡ parts_below parts v ++ (ps ++ behind_part parts v k)
changed_split parts v k ps =
    let new = changed v ps parts in
    let low = parts_below-agree new parts v (λ w l. changed-other v ps parts w (λ e. omega arith)) in
    let high = parts_below-agree (λ w. new (suc v + w)) (λ w. parts (suc v + w)) k (λ w l. changed-other v ps parts (suc v + w) (λ e. omega arith)) in
    parts_split new v k ∙ rw (low, high, changed-at v ps parts v refl) refl

-- up to v the parts begin where they did, and behind it so much later or earlier
changed_start : (parts : ℕ → List ℕ) (v : ℕ) (ps : List ℕ) (w : ℕ) → w ≤ v → start_of (changed v ps parts) w ≡ start_of parts w
changed_start parts v ps w l = sum_below-agree (λ u. length (changed v ps parts u)) (λ u. length (parts u)) w (λ u lu. ap length (changed-other v ps parts u (λ e. omega arith)))

changed_start-above : (parts : ℕ → List ℕ) (v : ℕ) (ps : List ℕ) (k : ℕ) → start_of (changed v ps parts) (suc v + k) + length (parts v) ≡ start_of parts (suc v + k) + length ps
changed_start-above parts v ps zero =
    let e : suc v + 0 ≡ suc v = omega arith in
    rw e (omega (arith, changed_start parts v ps v (omega arith), ap length (changed-at v ps parts v refl)))
changed_start-above parts v ps (suc k) =
    let e : suc v + suc k ≡ suc (suc v + k) = omega arith in
    rw e (omega (arith, changed_start-above parts v ps k, ap length (changed-other v ps parts (suc v + k) (λ same. omega arith))))

-- one more between the halves of a part in the midst of a list, and one less
insert_amid : (xs low high ys : List ℕ) (i k : ℕ) → k ≡ length xs + length low → insert (xs ++ ((low ++ high) ++ ys)) k i ≡ xs ++ ((low ++ i ∷ high) ++ ys)
insert_amid xs low high ys i k is =
    let at : k - length xs ≡ length low = omega arith in
    insert-append_right xs ((low ++ high) ++ ys) (length xs) k i refl (omega arith)
    ∙ ap (λ l. xs ++ l) (ap (λ t. insert ((low ++ high) ++ ys) t i) at ∙ (insert-append_left (low ++ high) ys (length low) i (omega (arith, length-append low high)) ∙ ap (λ l. l ++ ys) (rw (take_at low high (length low) refl, drop_at low high (length low) refl) refl)))

remove_amid : (xs low high ys : List ℕ) (i k : ℕ) → k ≡ length xs + length low → remove (xs ++ ((low ++ i ∷ high) ++ ys)) k ≡ xs ++ ((low ++ high) ++ ys)
remove_amid xs low high ys i k is =
    let at : k - length xs ≡ length low = omega arith in
    let next : drop (suc (length low)) (low ++ i ∷ high) ≡ high = ap (λ l. drop (suc (length low)) l) (sym (append_assoc low (i ∷ []) high)) ∙ drop_at (low ++ i ∷ []) high (suc (length low)) (length-append low (i ∷ []) ∙ omega arith) in
    remove-append_right xs ((low ++ i ∷ high) ++ ys) (length xs) k refl (omega arith)
    ∙ ap (λ l. xs ++ l) (ap (λ t. remove ((low ++ i ∷ high) ++ ys) t) at ∙ (remove-append_left (low ++ i ∷ high) ys (length low) (omega (arith, length-append low (i ∷ high))) ∙ ap (λ l. l ++ ys) (rw (take_at low (i ∷ high) (length low) refl, next) refl)))

-- the numbers behind the first m of a list were changed one by one
changed_below : (f : ℕ → ℕ) (m : ℕ) (xs : List ℕ) (v : ℕ) → v < m → m ≤ length xs → get_or (take m xs ++ map f (drop m xs)) v 0 ≡ get_or xs v 0
changed_below f m xs v l le = get_or_append_left (take m xs) (map f (drop m xs)) 0 v (omega (arith, length-take-le m xs le)) ∙ get_or-take m xs v 0 l

changed_above : (f : ℕ → ℕ) (m : ℕ) (xs : List ℕ) (k : ℕ) → m + k < length xs → get_or (take m xs ++ map f (drop m xs)) (m + k) 0 ≡ f (get_or xs (m + k) 0)
changed_above f m xs k l =
    let at : m + k - m ≡ k = omega arith in
    get_or-append_right (take m xs) (map f (drop m xs)) m (m + k) 0 (length-take-le m xs (omega arith)) (omega arith)
    ∙ (ap (λ t. get_or (map f (drop m xs)) t 0) at ∙ (get_or-map f (drop m xs) k 0 0 (omega (arith, length-drop m xs)) ∙ ap f (get_or-drop m xs k 0)))

-- a number that a test counts at its seam
count_all : (p : ℕ → Bool) (xs : List ℕ) → All (λ x. p x ≡ true) xs → count_by p xs ≡ length xs
count_all p [] all = refl
count_all p (x ∷ xs) all =
    omega (arith, sum_by-cons (λ y. cond (p y) 1 0) x xs, cond-true {A = ℕ} (p x) 1 0 (All-head (λ y. p y ≡ true) x xs all), count_all p xs (All-tail (λ y. p y ≡ true) x xs all))

count_none : (p : ℕ → Bool) (xs : List ℕ) → All (λ x. p x ≡ false) xs → count_by p xs ≡ 0
count_none p [] all = refl
count_none p (x ∷ xs) all =
    omega (arith, sum_by-cons (λ y. cond (p y) 1 0) x xs, cond-false {A = ℕ} (p x) 1 0 (All-head (λ y. p y ≡ false) x xs all), count_none p xs (All-tail (λ y. p y ≡ false) x xs all))

pub count_at_seam : (p : ℕ → Bool) (xs ys : List ℕ) → All (λ x. p x ≡ true) xs → All (λ y. p y ≡ false) ys → count_by p (xs ++ ys) ≡ length xs
count_at_seam p xs ys front back = omega (arith, sum_by-append (λ y. cond (p y) 1 0) xs ys, count_all p xs front, count_none p ys back)

pub count_at_point : (p : ℕ → Bool) (xs : List ℕ) (i : ℕ) → i ≤ length xs → IsPartitionPoint (λ y. p y ≡ true) (λ y. p y ≡ false) xs i → count_by p xs ≡ i
count_at_point p [] i l point = omega arith
count_at_point p (x ∷ xs) zero l point = count_none p (x ∷ xs) (λ k d lk. point.1 k d (omega arith) lk)
count_at_point p (x ∷ xs) (suc i) l point =
    omega (arith, sum_by-cons (λ y. cond (p y) 1 0) x xs, cond-true {A = ℕ} (p x) 1 0 (point.0 0 0 (omega arith) (omega arith)), count_at_point p xs i (omega arith) ((λ k d low high. point.0 (suc k) d (omega arith) (omega arith)), (λ k d low high. point.1 (suc k) d (omega arith) (omega arith))))

pub IsPartitionedBy-seam : (p : ℕ → Bool) (xs ys : List ℕ) → All (λ x. p x ≡ true) xs → All (λ y. p y ≡ false) ys → IsPartitionedBy p (xs ++ ys)
IsPartitionedBy-seam p [] ys front back i j d l lj t = absurd (let f = back j d lj in cc)
IsPartitionedBy-seam p (x ∷ xs) ys front back zero j d l lj t = All-head (λ y. p y ≡ true) x xs front
IsPartitionedBy-seam p (x ∷ xs) ys front back (suc i) (suc j) d l lj t = IsPartitionedBy-seam p xs ys (All-tail (λ y. p y ≡ true) x xs front) back i j d (omega arith) (omega arith) t
IsPartitionedBy-seam p (x ∷ xs) ys front back (suc i) zero d l lj t = absurd (omega arith)

-- how much later the last part ends
pub changed_total : (parts : ℕ → List ℕ) (n v : ℕ) → v < n → (ps : List ℕ) → start_of (changed v ps parts) n + length (parts v) ≡ start_of parts n + length ps
changed_total parts n v l ps =
    let e : n ≡ suc v + (n - suc v) = omega arith in
    subst (λ t. start_of (changed v ps parts) t + length (parts v) ≡ start_of parts t + length ps) (sym e) (changed_start-above parts v ps (n - suc v))

-- what is asked before i goes into the part of v, and before it goes out of it
pub record CanPut (starts at : List ℕ) (v i : ℕ) : Type 0 where
  pub v_in : suc v < length starts
  pub rise : IsNonDecreasing starts
  pub room : total_of starts < length at
  pub parted : IsPartitionedBy (λ p. ltb p i) (part_of starts at v)

pub record CanTake (starts at : List ℕ) (v i : ℕ) : Type 0 where
  pub v_in : suc v < length starts
  pub rise : IsNonDecreasing starts
  pub room : total_of starts ≤ length at
  pub parted : IsPartitionedBy (λ p. ltb p i) (part_of starts at v)
  pub there : place_of starts at v i < get_or starts (suc v) 0

-- what the starts say of parts that are laid
module _ (n : ℕ) (parts : ℕ → List ℕ) (starts at : List ℕ) (f : IsLaid n parts starts at) where
  pub laid_total : total_of starts ≡ start_of parts n
  laid_total = let e : length starts - 1 ≡ n = omega (arith, f.size) in ap (λ k. get_or starts k 0) e ∙ f.begin n (omega arith)

  pub laid_rise : IsNonDecreasing starts
  laid_rise i j d l lj =
      let size = f.size in
      let low = get_or_default starts i d 0 (omega arith) ∙ f.begin i (omega arith) in
      let high = get_or_default starts j d 0 lj ∙ f.begin j (omega arith) in
      omega (arith, start_of-rise parts i j l, low, high)

  module _ (v : ℕ) (l : v < n) where
    -- the parts before v, its own, and those behind
    laid_around : take (start_of parts n) at ≡ parts_below parts v ++ (parts v ++ behind_part parts v (n - suc v))
    laid_around = let e : n ≡ suc v + (n - suc v) = omega arith in f.items ∙ (ap (parts_below parts) e ∙ parts_split parts v (n - suc v))

    pub laid_part : part_of starts at v ≡ parts v
    laid_part =
        let from = start_of parts v in
        let size = length (parts v) in
        let rest = start_of parts n - from in
        let up = start_of-rise parts (suc v) n l in
        let e : start_of parts n ≡ from + rest = omega arith in
        let bounds : part_of starts at v ≡ slice_range at from (start_of parts (suc v)) = rw (f.begin v (omega arith), f.begin (suc v) (omega arith)) refl in
        let long : start_of parts (suc v) - from ≡ size = omega arith in
        bounds
        ∙ (ap (λ k. take k (drop from at)) long
        ∙ (sym (take-take size rest (drop from at) (omega arith))
        ∙ (ap (take size) (sym (drop-take from rest at) ∙ (ap (λ k. drop from (take k at)) (sym e) ∙ (ap (drop from) laid_around ∙ drop_at (parts_below parts v) (parts v ++ behind_part parts v (n - suc v)) from (length-parts_below parts v))))
        ∙ take_at (parts v) (behind_part parts v (n - suc v)) size refl)))

    -- where the numbers of a part are low and then high, a place in it
    module _ (i : ℕ) (low high : List ℕ) (is : parts v ≡ low ++ high) (front : All (λ p. ltb p i ≡ true) low) (back : All (λ p. ltb p i ≡ false) high) where
      pub laid_parted : IsPartitionedBy (λ p. ltb p i) (part_of starts at v)
      laid_parted = subst (λ ps. IsPartitionedBy (λ p. ltb p i) ps) (sym (laid_part ∙ is)) (IsPartitionedBy-seam (λ p. ltb p i) low high front back)

      pub laid_place : place_of starts at v i ≡ start_of parts v + length low
      laid_place =
          let count : count_by (λ p. ltb p i) (part_of starts at v) ≡ length low = ap (count_by (λ p. ltb p i)) (laid_part ∙ is) ∙ count_at_seam (λ p. ltb p i) low high front back in
          omega (arith, count, f.begin v (omega arith))

    -- where one part is another, and the starts behind it are changed alike
    module _ (ps : List ℕ) (g : ℕ → ℕ) (step : (m k : ℕ) → k + length (parts v) ≡ m + length ps → g m ≡ k) (starts' at' : List ℕ) (is : starts' ≡ take (suc v) starts ++ map g (drop (suc v) starts)) where
      changed_begin : (w : ℕ) → w < suc n → get_or starts' w 0 ≡ start_of (changed v ps parts) w
      changed_begin w lw =
          let size = f.size in
          ⊎_elim
          (λ (before : w < suc v).
          ap (λ t. get_or t w 0) is ∙ (changed_below g (suc v) starts w before (omega arith) ∙ (f.begin w lw ∙ sym (changed_start parts v ps w (omega arith)))))
          (λ (after : suc v ≤ w).
          let e : w ≡ suc v + (w - suc v) = omega arith in
          let moved : get_or starts' w 0 ≡ g (get_or starts w 0) = ap (λ t. get_or t w 0) is ∙ subst (λ t. get_or (take (suc v) starts ++ map g (drop (suc v) starts)) t 0 ≡ g (get_or starts t 0)) (sym e) (changed_above g (suc v) starts (w - suc v) (omega arith)) in
          let above = subst (λ t. start_of (changed v ps parts) t + length (parts v) ≡ start_of parts t + length ps) (sym e) (changed_start-above parts v ps (w - suc v)) in
          moved ∙ (ap g (f.begin w lw) ∙ step (start_of parts w) (start_of (changed v ps parts) w) above))
          (cases_lt w (suc v))

      changed_size : length starts' ≡ suc n
      changed_size =
          let size = f.size in
          ap length is ∙ omega (arith, length-append (take (suc v) starts) (map g (drop (suc v) starts)), length-take-le (suc v) starts (omega arith), length-map (drop (suc v) starts) g, length-drop (suc v) starts)

      pub laid_changed : take (start_of (changed v ps parts) n) at' ≡ parts_below parts v ++ (ps ++ behind_part parts v (n - suc v)) → start_of (changed v ps parts) n ≤ length at' → IsLaid n (changed v ps parts) starts' at'
      laid_changed items room =
          let e : n ≡ suc v + (n - suc v) = omega arith in
          record {
            size = changed_size;
            begin = changed_begin;
            items = items ∙ (sym (changed_split parts v (n - suc v) ps) ∙ ap (parts_below (changed v ps parts)) (sym e));
            room = room;
          }

    -- i comes between the low and the high numbers of a part
    module _ (i : ℕ) (low high : List ℕ) (is : parts v ≡ low ++ high) (front : All (λ p. ltb p i ≡ true) low) (back : All (λ p. ltb p i ≡ false) high) where
      one_more : start_of (changed v (low ++ i ∷ high) parts) n ≡ suc (start_of parts n)
      one_more = omega (arith, changed_total parts n v l (low ++ i ∷ high), ap length is, length-append low high, length-append low (i ∷ high))

      pub can_put : start_of (changed v (low ++ i ∷ high) parts) n ≤ length at → CanPut starts at v i
      can_put room =
          record {
            v_in = omega (arith, f.size);
            rise = laid_rise;
            room = omega (arith, one_more, laid_total);
            parted = laid_parted i low high is front back;
          }

      pub laid_put : (starts' at' : List ℕ) → start_of (changed v (low ++ i ∷ high) parts) n ≤ length at' → starts' ≡ take (suc v) starts ++ map (λ k. k + 1) (drop (suc v) starts)
          → take (suc (total_of starts)) at' ≡ insert (take (total_of starts) at) (place_of starts at v i) i → IsLaid n (changed v (low ++ i ∷ high) parts) starts' at'
      laid_put starts' at' room is_starts is_at =
          let rest = behind_part parts v (n - suc v) in
          let more : length (low ++ i ∷ high) ≡ suc (length (parts v)) = omega (arith, ap length is, length-append low high, length-append low (i ∷ high)) in
          let around : take (total_of starts) at ≡ parts_below parts v ++ ((low ++ high) ++ rest) = ap (λ k. take k at) laid_total ∙ (laid_around ∙ ap (λ ps. parts_below parts v ++ (ps ++ rest)) is) in
          let place : place_of starts at v i ≡ length (parts_below parts v) + length low = laid_place i low high is front back ∙ ap (λ k. k + length low) (sym (length-parts_below parts v)) in
          let last : start_of (changed v (low ++ i ∷ high) parts) n ≡ suc (total_of starts) = omega (arith, one_more, laid_total) in
          laid_changed (low ++ i ∷ high) (λ k. k + 1) (λ m k e. omega (arith, e, more)) starts' at' is_starts
          (ap (λ k. take k at') last ∙ (is_at ∙ (ap (λ l. insert l (place_of starts at v i) i) around ∙ insert_amid (parts_below parts v) low high rest i (place_of starts at v i) place)))
          room

    -- i goes from among the numbers of a part
    module _ (i : ℕ) (low high : List ℕ) (is : parts v ≡ low ++ i ∷ high) (front : All (λ p. ltb p i ≡ true) low) (back : All (λ p. ltb p i ≡ false) (i ∷ high)) where
      one_less : suc (start_of (changed v (low ++ high) parts) n) ≡ start_of parts n
      one_less = omega (arith, changed_total parts n v l (low ++ high), ap length is, length-append low high, length-append low (i ∷ high))

      pub can_take : CanTake starts at v i
      can_take =
          record {
            v_in = omega (arith, f.size);
            rise = laid_rise;
            room = omega (arith, f.room, laid_total);
            parted = laid_parted i low (i ∷ high) is front back;
            there = omega (arith, laid_place i low (i ∷ high) is front back, f.begin (suc v) (omega arith), ap length is, length-append low (i ∷ high));
          }

      pub laid_take : (starts' at' : List ℕ) → length at' ≡ length at → starts' ≡ take (suc v) starts ++ map (λ k. k - 1) (drop (suc v) starts)
          → take (total_of starts - 1) at' ≡ remove (take (total_of starts) at) (place_of starts at v i) → IsLaid n (changed v (low ++ high) parts) starts' at'
      laid_take starts' at' long is_starts is_at =
          let rest = behind_part parts v (n - suc v) in
          let less : length (parts v) ≡ suc (length (low ++ high)) = omega (arith, ap length is, length-append low high, length-append low (i ∷ high)) in
          let around : take (total_of starts) at ≡ parts_below parts v ++ ((low ++ i ∷ high) ++ rest) = ap (λ k. take k at) laid_total ∙ (laid_around ∙ ap (λ ps. parts_below parts v ++ (ps ++ rest)) is) in
          let place : place_of starts at v i ≡ length (parts_below parts v) + length low = laid_place i low (i ∷ high) is front back ∙ ap (λ k. k + length low) (sym (length-parts_below parts v)) in
          let last : start_of (changed v (low ++ high) parts) n ≡ total_of starts - 1 = omega (arith, one_less, laid_total) in
          laid_changed (low ++ high) (λ k. k - 1) (λ m k e. omega (arith, e, less)) starts' at' is_starts
          (ap (λ k. take k at') last ∙ (is_at ∙ (ap (λ l. remove l (place_of starts at v i)) around ∙ remove_amid (parts_below parts v) low high rest i (place_of starts at v i) place)))
          (omega (arith, one_less, f.room))
