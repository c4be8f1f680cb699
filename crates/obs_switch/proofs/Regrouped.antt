-- What the arrays of groups hold after the key of one item changed.
use Rattle.std.proofs.Common.{◌≡◌, ℕ, suc, ◌+◌, ◌-◌, ◌<◌, ◌≤◌, eqb, ⊎_elim, List, ◌∷◌, ◌++◌, length, get_or, set, take, drop, sym, ap, ◌∙◌, arith, length-append}
use Rattle.std.specs.List.{count_by}
use Rattle.std.proofs.Math.Seq.{take-append_seam}
use Rattle.std.proofs.lemmas.Bool.{cases_lt}
use Rattle.std.proofs.lemmas.List.Sums.{count_by-le-length}
use Rattle.std.proofs.lemmas.List.{append_assoc, set_split, set-get_or, length-take-le, take-append-drop}
use Rattle.obs_switch.specs.inner.Groups.{AreGroups, group_start}
use Rattle.obs_switch.proofs.Grouping.{group_start-le}
use Rattle.obs_switch.proofs.Regrouping.{IsMovedBack, between-as, flat, group-from_flat, high-as, length-flat, low-as, moved-as, take-flat}

-- the front of an array after an entry moved back
back-front : (old new members after : List ℕ) (n from to : ℕ) → IsMovedBack (flat old n) (flat new n) from to → take (group_start old n) members ≡ flat old n
    → ((front : List ℕ) (item : ℕ) (between behind : List ℕ) → members ≡ front ++ (item ∷ (between ++ behind)) → length front ≡ from → length front + length between ≡ to → after ≡ front ++ (between ++ (item ∷ behind)))
    → take (group_start new n) after ≡ flat new n
back-front old new members after n from to e here moves =
    let z = drop (group_start old n) members in
    let whole = sym (take-append-drop (group_start old n) members) ∙ ap (λ t. t ++ z) (here ∙ e.was) ∙ append_assoc e.front (e.item ∷ (e.between ++ e.behind)) z ∙ ap (λ t. e.front ++ (e.item ∷ t)) (append_assoc e.between e.behind z) in
    let then = moves e.front e.item e.between (e.behind ++ z) whole e.starts e.ends in
    let same : after ≡ flat new n ++ z = then ∙ sym (ap (λ t. t ++ z) e.is ∙ append_assoc e.front (e.between ++ (e.item ∷ e.behind)) z ∙ ap (λ t. e.front ++ t) (append_assoc e.between (e.item ∷ e.behind) z)) in
    ap (take (group_start new n)) same ∙ ap (λ k. take k (flat new n ++ z)) (sym (length-flat new n)) ∙ take-append_seam (flat new n) z

-- and after one moved to the front
front-front : (old new members after : List ℕ) (n from to : ℕ) → IsMovedBack (flat new n) (flat old n) to from → take (group_start old n) members ≡ flat old n
    → ((front : List ℕ) (item : ℕ) (between behind : List ℕ) → members ≡ front ++ (between ++ (item ∷ behind)) → length front ≡ to → length front + length between ≡ from → after ≡ front ++ (item ∷ (between ++ behind)))
    → take (group_start new n) after ≡ flat new n
front-front old new members after n from to e here moves =
    let z = drop (group_start old n) members in
    let whole = sym (take-append-drop (group_start old n) members) ∙ ap (λ t. t ++ z) (here ∙ e.is) ∙ append_assoc e.front (e.between ++ (e.item ∷ e.behind)) z ∙ ap (λ t. e.front ++ t) (append_assoc e.between (e.item ∷ e.behind) z) in
    let then = moves e.front e.item e.between (e.behind ++ z) whole e.starts e.ends in
    let same : after ≡ flat new n ++ z = then ∙ sym (ap (λ t. t ++ z) e.was ∙ append_assoc e.front (e.item ∷ (e.between ++ e.behind)) z ∙ ap (λ t. e.front ++ (e.item ∷ t)) (append_assoc e.between e.behind z)) in
    ap (take (group_start new n)) same ∙ ap (λ k. take k (flat new n ++ z)) (sym (length-flat new n)) ∙ take-append_seam (flat new n) z

-- the place of an entry that moves lies among the members
entry-low : (before after : List ℕ) (from to : ℕ) → IsMovedBack before after from to → (from ≤ to) × (to < length before)
entry-low before after from to e =
    let long = ap length e.was in
    let parts = length-append e.front (e.item ∷ (e.between ++ e.behind)) in
    let more = length-append e.between e.behind in
    (omega (arith, e.starts, e.ends), omega (arith, e.ends, long, parts, more))

module _ (keys members starts : List ℕ) (n item b : ℕ) (low : item < length keys) (room : length keys ≤ length members) (g : AreGroups keys members starts n) where
  abbrev a : ℕ
  a = get_or keys item 0

  abbrev new : List ℕ
  new = set keys item b

  abbrev xs : List ℕ
  xs = take item keys

  abbrev ys : List ℕ
  ys = drop (suc item) keys

  keys-is : xs ++ a ∷ ys ≡ keys
  keys-is = sym (set_split keys item a low) ∙ set-get_or keys item 0

  new-is : xs ++ b ∷ ys ≡ new
  new-is = sym (set_split keys item b low)

  here : take (group_start keys n) members ≡ flat keys n
  here = take-flat keys members n g.groups

  fits : length (flat keys n) ≤ length members
  fits = omega (arith, length-flat keys n, group_start-le keys n, room)

  abbrev from : ℕ
  from = get_or starts a 0 + count_by (λ x. eqb x a) xs

  abbrev to : ℕ
  to = get_or starts b 0 + count_by (λ x. eqb x b) xs

  groups-from : (after begins : List ℕ) → take (group_start new n) after ≡ flat new n → ((k : ℕ) → k < n → get_or begins k 0 ≡ group_start new k) → AreGroups new after begins n
  groups-from after begins front is = record { begins = is; groups = group-from_flat new after n front }

  pub start-few : (k : ℕ) → k < n → get_or starts k 0 ≤ length keys
  start-few k l = omega (arith, g.begins k l, group_start-le keys k)

  pub count-few : (k : ℕ) → count_by (λ x. eqb x k) xs ≤ length keys
  count-few k = omega (arith, count_by-le-length (λ x. eqb x k) xs, length-take-le item keys (omega (arith, low)))

  -- the new key is above the old one
  pub some-back : a < b → b < n → (k : ℕ) → a < k → k ≤ b → 0 < get_or starts k 0
  some-back rises l k above below = omega (arith, g.begins k (omega arith), between-as keys new xs ys a b rises keys-is new-is k above below)

  pub to-some : a < b → b < n → 0 < to
  to-some rises l = omega (arith, some-back rises l b rises (omega arith))

  entry-back : a < b → b < n → IsMovedBack (flat keys n) (flat new n) from (to - 1)
  entry-back rises l =
      let some = some-back rises l b rises (omega arith) in
      moved-as keys new xs ys a b rises keys-is new-is n from (to - 1) l (omega (arith, g.begins a (omega (arith, rises, l)))) (omega (arith, some, g.begins b l))

  pub order-back : a < b → b < n → (from ≤ to - 1) × (to - 1 < length members)
  order-back rises l = let r = entry-low (flat keys n) (flat new n) from (to - 1) (entry-back rises l) in (r.0, omega (arith, r.1, fits))

  pub groups-back : a < b → b < n → (after begins : List ℕ)
      → ((front : List ℕ) (item : ℕ) (between behind : List ℕ) → members ≡ front ++ (item ∷ (between ++ behind)) → length front ≡ from → length front + length between ≡ to - 1 → after ≡ front ++ (between ++ (item ∷ behind)))
      → ((k : ℕ) → a < k → k ≤ b → get_or begins k 0 + 1 ≡ get_or starts k 0) → ((k : ℕ) → k ≤ a → get_or begins k 0 ≡ get_or starts k 0) → ((k : ℕ) → b < k → get_or begins k 0 ≡ get_or starts k 0)
      → AreGroups new after begins n
  groups-back rises l after begins moves between lower higher =
      groups-from after begins (back-front keys new members after n from (to - 1) (entry-back rises l) here moves)
      (λ k h. ⊎_elim
      (λ (above : a < k). ⊎_elim
      (λ (past : b < k). omega (arith, higher k past, g.begins k h, high-as keys new xs ys a b rises keys-is new-is k past))
      (λ (within : k ≤ b). omega (arith, between k above within, g.begins k h, between-as keys new xs ys a b rises keys-is new-is k above within))
      (cases_lt b k))
      (λ (below : k ≤ a). omega (arith, lower k below, g.begins k h, low-as keys new xs ys a b rises keys-is new-is k below))
      (cases_lt a k))

  -- the new key is below the old one
  entry-front : b < a → a < n → IsMovedBack (flat new n) (flat keys n) to from
  entry-front falls l =
      moved-as new keys xs ys b a falls new-is keys-is n to from l
      (omega (arith, g.begins b (omega (arith, falls, l)), low-as new keys xs ys b a falls new-is keys-is b (omega arith)))
      (omega (arith, g.begins a l, between-as new keys xs ys b a falls new-is keys-is a falls (omega arith)))

  pub order-front : b < a → a < n → (to ≤ from) × (from < length members)
  order-front falls l =
      let r = entry-low (flat new n) (flat keys n) to from (entry-front falls l) in
      (r.0, omega (arith, r.1, fits, length-flat keys n, length-flat new n, high_or_same n l))
    where
      high_or_same : (n : ℕ) → a < n → group_start keys n ≡ group_start new n
      high_or_same n l = high-as new keys xs ys b a falls new-is keys-is n l

  pub groups-front : b < a → a < n → (after begins : List ℕ)
      → ((front : List ℕ) (item : ℕ) (between behind : List ℕ) → members ≡ front ++ (between ++ (item ∷ behind)) → length front ≡ to → length front + length between ≡ from → after ≡ front ++ (item ∷ (between ++ behind)))
      → ((k : ℕ) → b < k → k ≤ a → get_or begins k 0 ≡ get_or starts k 0 + 1) → ((k : ℕ) → k ≤ b → get_or begins k 0 ≡ get_or starts k 0) → ((k : ℕ) → a < k → get_or begins k 0 ≡ get_or starts k 0)
      → AreGroups new after begins n
  groups-front falls l after begins moves between lower higher =
      groups-from after begins (front-front keys new members after n from to (entry-front falls l) here moves)
      (λ k h. ⊎_elim
      (λ (above : b < k). ⊎_elim
      (λ (past : a < k). omega (arith, higher k past, g.begins k h, high-as new keys xs ys b a falls new-is keys-is k past))
      (λ (within : k ≤ a). omega (arith, between k above within, g.begins k h, between-as new keys xs ys b a falls new-is keys-is k above within))
      (cases_lt a k))
      (λ (below : k ≤ b). omega (arith, lower k below, g.begins k h, low-as new keys xs ys b a falls new-is keys-is k below))
      (cases_lt b k))
