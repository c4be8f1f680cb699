-- Noting what is lost after the branches that are noted.
use Rattle.std.proofs.Common.{◌≡◌, ℕ, suc, ◌+◌, ◌<◌, ◌≤◌, ◌==◌, Bool, true, false, ◌||◌, Option, Some, None, List, length, get_or, set, refl, sym, ap, ◌∙◌, inl, inr, subst, add-one, length-set, eq-eqb, arith}
use Rattle.std.specs.Prelude.{nat_lt, slice_index_or}
use Rattle.std.proofs.lemmas.Bool.{cases_Bool, cases_eq, eqb-true, or_right}
use Rattle.std.proofs.lemmas.Bool.Decides.{nat_tests}
use Rattle.std.proofs.lemmas.List.{get_or_default, get_or-set_same, get_or-set_other}
use Rattle.obs_graph.specs.declared.Ends.{Ends}
use Rattle.obs_graph.specs.Joined.{count_below}
use Rattle.obs_graph.specs.Positions.{branches_at, has_end}
use Rattle.obs_graph.proofs.AtVertex.{branches_at-entry}
use Rattle.obs_graph.proofs.Counts.{count_below-agree, count_below-le-n, count_below-no, count_below-one_more, count_below-yes}
use Rattle.obs_meter.specs.declared.Hub.{Hub}
use Rattle.obs_meter.specs.declared.Touch.{Touch}
use Rattle.obs_meter.specs.declared.Touch.TheVariants.{Nothing}
use Rattle.obs_meter.specs.Touches.{touch_at}
use Rattle.obs_meter.specs.inner.Touches.{hub_of, touches_branch}
use Rattle.obs_matroid.specs.Lists.{In}
use Rattle.obs_meter.proofs.Touched.{In-from_any}
use Rattle.obs_assign.specs.Assignment.{Assignment}
use Rattle.obs_assign.specs.inner.Assignment.{branch_at}
use Rattle.obs_islands.specs.inner.GivenUp.{GivesUp, IsLost, IsQueue, StillGivesUp, is_noted}
use Rattle.obs_islands.specs.inner.GivenUp.IsLost.{first, next}
use Rattle.obs_islands.specs.inner.Rounds.{AreLowest, IsNotedAt, noted}
use Rattle.obs_islands.proofs.Hubs.{hub-end}
use Rattle.obs_islands.proofs.Noting.{NotedAt-both}

or_false : (a b : Bool) → b ≡ false → (a || b) ≡ a
or_false true b f = refl
or_false false b f = f

module _ (ends : List (Option Ends)) (touches : List Touch) (a : Assignment) where
  -- what lies between two pieces is lost
  pub GivesUp-lowest : (test : ℕ → Bool) (limit : ℕ) (lowest : List ℕ) → AreLowest ends test limit lowest
      → ((m e : ℕ) (h : Hub) → hub_of ends (slice_index_or touches m Nothing) ≡ Some h → In e (touch_at ends touches m) → e < limit) → GivesUp ends touches a test (noted lowest)
  GivesUp-lowest test limit lowest low above = record {
    at = low.at;
    lost = λ v l. first (low.passes v l);
    none_lower = λ m e h is i t. low.none_lower h.vertex e (above m e h is i) (hub-end ends (slice_index_or touches m Nothing) h e is i) t;
  }

  pub StillGivesUp-refl : (p : ℕ → ℕ) → StillGivesUp ends touches a p p
  StillGivesUp-refl p test h = h

  pub StillGivesUp-then : (p q r : ℕ → ℕ) → StillGivesUp ends touches a p q → StillGivesUp ends touches a q r → StillGivesUp ends touches a p r
  StillGivesUp-then p q r h k test g = k test (h test g)

  -- a lost branch is noted at its ends
  pub StillGivesUp-noted : (p : ℕ → Bool) (e : ℕ) (before after : List ℕ) → IsNotedAt p e before after → ((u : ℕ) → p u ≡ true → has_end u (get_or ends e None) ≡ true)
      → ((test : ℕ → Bool) → GivesUp ends touches a test (noted before) → IsLost ends touches a test e) → StillGivesUp ends touches a (noted before) (noted after)
  StillGivesUp-noted p e before after n there lost test h = record {
    at = λ v l. elim (n.only v) [
      | inl same ↦ subst (λ k. has_end v (get_or ends k None) ≡ true) (sym same) (h.at v (omega (arith, l, same)))
      | inr w ↦ subst (λ k. has_end v (get_or ends k None) ≡ true) (sym w.1) (there v w.0)
    ];
    lost = λ v l. elim (n.only v) [
      | inl same ↦ subst (λ k. IsLost ends touches a test k) (sym same) (h.lost v (omega (arith, l, same)))
      | inr w ↦ subst (λ k. IsLost ends touches a test k) (sym w.1) (lost test h)
    ];
    none_lower = λ m f u is i t. let old = h.none_lower m f u is i t in let low = n.no_higher u.vertex in omega (arith, old, low);
  }

  -- the branch of an item that touches what is noted at v is noted at both its ends
  pub StillGivesUp-ends : (before mid after : List ℕ) (v m e : ℕ) (x : Ends) → noted before v < length ends → touches_branch ends touches m (noted before v) ≡ true → branch_at a m ≡ Some e
      → e < length ends → get_or ends e (Some x) ≡ Some x → IsNotedAt (λ u. x.a == u) e before mid → IsNotedAt (λ u. x.b == u) e mid after → StillGivesUp ends touches a (noted before) (noted after)
  StillGivesUp-ends before mid after v m e x l t has low there one two =
      let is : get_or ends e None ≡ Some x = get_or_default ends e None (Some x) low ∙ there in
      StillGivesUp-noted (λ u. (x.a == u) || (x.b == u)) e before after (NotedAt-both (λ u. x.a == u) (λ u. x.b == u) e before mid after one two)
      (λ u s. ap (has_end u) is ∙ s)
      (λ test h. next (h.lost v l) (record { item = m; touched = In-from_any (touch_at ends touches m) (noted before v) t; has = has }))

or_other : (b : Bool) (k u : ℕ) → (k ≡ u → ⊥) → (b || k == u) ≡ b
or_other b k u o = elim (cases_Bool (k == u)) [ inl t ↦ absurd (o (eqb-true k u t)) | inr f ↦ or_false b (k == u) f ]

-- a position in the list of a vertex is one of the graph's
pub entry_low : (ends : List (Option Ends)) (v k : ℕ) (at : List ℕ) → at ≡ branches_at ends v → k < length at → get_or at k 0 < length ends
entry_low ends v k at is l = let e = branches_at-entry ends v k (rw is at l) in rw is e.0

lt_true : (a b : ℕ) → a < b → nat_lt a b ≡ true
lt_true a b l = grind (arith, nat_tests)

lt_false : (a b : ℕ) → b ≤ a → nat_lt a b ≡ false
lt_false a b l = grind (arith, nat_tests)

-- the queue after one entry more: a vertex at which a branch is noted
pub entries_more : (positions : ℕ) (lowest queue : List ℕ) (tail v : ℕ) → tail < length queue → noted lowest v < positions → ((k : ℕ) → k < tail → noted lowest (get_or queue k 0) < positions)
    → (k : ℕ) → k < tail + 1 → noted lowest (get_or (set queue tail v) k 0) < positions
entries_more positions lowest queue tail v room low marks k l = elim (cases_eq k tail) [
  | inl e ↦ subst (λ u. noted lowest u < positions) (sym (ap (λ j. get_or (set queue tail v) j 0) e ∙ get_or-set_same queue tail v 0 room)) low
  | inr n ↦ subst (λ u. noted lowest u < positions) (sym (get_or-set_other queue tail k v 0 n)) (marks k (omega (arith, l, n)))
]

-- while the queue is filled, the vertices below v were looked at
pub record IsFilling (positions : ℕ) (lowest queue : List ℕ) (tail v : ℕ) : Type 0 where
  pub count : tail ≡ count_below (is_noted positions lowest) v
  pub marks : (k : ℕ) → k < tail → noted lowest (get_or queue k 0) < positions

module _ (positions : ℕ) (lowest queue : List ℕ) (tail v : ℕ) (h : IsFilling positions lowest queue tail v) where
  pub IsFilling-more : noted lowest v < positions → tail < length queue → IsFilling positions lowest (set queue tail v) (tail + 1) (v + 1)
  IsFilling-more low room = record {
    count = let y = count_below-yes (is_noted positions lowest) v (lt_true (noted lowest v) positions low) in let c = h.count in rw (add-one v) (omega (arith, y, c));
    marks = entries_more positions lowest queue tail v room low h.marks;
  }

  pub IsFilling-same : positions ≤ noted lowest v → IsFilling positions lowest queue tail (v + 1)
  IsFilling-same high = record {
    count = rw (add-one v) (h.count ∙ sym (count_below-no (is_noted positions lowest) v (lt_false (noted lowest v) positions high)));
    marks = h.marks;
  }

-- the queue of the vertices at which a branch is noted
module _ (positions : ℕ) (lowest queue : List ℕ) (tail : ℕ) (q : IsQueue positions lowest queue tail) where
  pub tail_low : tail ≤ length lowest
  tail_low = let m = count_below-le-n (is_noted positions lowest) (length lowest) in let c = q.count in omega (arith, m, c)

  module _ (v e : ℕ) (after : List ℕ) (len : length after ≡ length lowest) (low : v < length lowest) (below : e < positions) (n : IsNotedAt (λ u. v == u) e lowest after) where
    here : noted after v < positions
    here = let h = n.here v (eq-eqb v v refl) in omega (arith, h, below)

    others : (k : ℕ) → (k ≡ v → ⊥) → is_noted positions lowest k ≡ is_noted positions after k
    others k other = elim (n.only k) [
      | inl same ↦ ap (λ x. nat_lt x positions) (sym same)
      | inr w ↦ absurd (other (sym (eqb-true v k w.0)))
    ]

    still : (k : ℕ) → k < tail → noted after (get_or queue k 0) < positions
    still k l = let old = q.marks k l in let le = n.no_higher (get_or queue k 0) in omega (arith, old, le)

    module _ (bare : positions ≤ noted lowest v) where
      more : count_below (is_noted positions after) (length lowest) ≡ suc tail
      more =
          let m = count_below-one_more (is_noted positions lowest) (is_noted positions after) v (length lowest) low
          (lt_false (noted lowest v) positions bare) (lt_true (noted after v) positions here) (λ k l o. others k o) in
          let c = q.count in
          omega (arith, m, c)

      pub IsQueue-push : tail < length queue → IsQueue positions after (set queue tail v) (tail + 1)
      IsQueue-push room = record {
        places = length-set queue tail v ∙ (q.places ∙ sym len);
        count = let m = more in rw len (omega (arith, m));
        marks = entries_more positions after queue tail v room here still;
      }

    -- a vertex that waits already
    pub IsQueue-kept : noted lowest v < positions → IsQueue positions after queue tail
    IsQueue-kept waits = record {
      places = q.places ∙ sym len;
      count = q.count
          ∙ (count_below-agree (is_noted positions lowest) (is_noted positions after) (length lowest) (λ k l. elim (cases_eq k v) [
            | inl y ↦ rw y (lt_true (noted lowest v) positions waits ∙ sym (lt_true (noted after v) positions here))
            | inr o ↦ others k o
          ])
          ∙ ap (λ m. count_below (is_noted positions after) m) (sym len));
      marks = still;
    }

  -- where a vertex doesn't wait yet, the queue has room
  pub queue_room : (v : ℕ) → v < length lowest → positions ≤ noted lowest v → tail < length queue
  queue_room v low bare =
      let m = count_below-one_more (is_noted positions lowest) (λ u. is_noted positions lowest u || u == v) v (length lowest) low
      (lt_false (noted lowest v) positions bare) (or_right (is_noted positions lowest v) (v == v) (eq-eqb v v refl)) (λ k l o. sym (or_other (is_noted positions lowest k) k v o)) in
      let l = count_below-le-n (λ u. is_noted positions lowest u || u == v) (length lowest) in
      let c = q.count in
      let p = q.places in
      omega (arith, m, l, p, c)
