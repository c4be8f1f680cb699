-- The branches that a meter of the queue touches, one after the other.
use Rattle.std.proofs.Common.{rules, ◌≡◌, ℕ, ◌+◌, ◌<◌, ◌≤◌, Bool, true, Option, None, Some, ⊎_elim, List, length, get_or, set, take, sym, ap, ◌∙◌, subst, inl, inr, arith, length-set, get_or-set_same, get_or-set_other}
use Rattle.std.proofs.lemmas.Bool.{cases_eq, cases_lt}
use Rattle.std.proofs.lemmas.List.{get_or_default}
use Rattle.obs_graph.specs.Positions.{branches_at}
use Rattle.obs_matroid.specs.Lists.{In}
use Rattle.obs_matroid.proofs.Contained.{Contains-from_In}
use Rattle.obs_meter.specs.declared.Hub.{Hub}
use Rattle.obs_meter.proofs.Touched.{In-take_more}
use Rattle.obs_assign.specs.declared.Move.{Move}
use Rattle.obs_assign.specs.inner.Assignment.{has_flag}
use Rattle.obs_exchange.specs.inner.Classes.{AreClasses}
use Rattle.obs_exchange.specs.inner.Searching.{AreStarred, AreWalkedOf, HasOrigin, IsParent, IsSearching, IsVisiting, IsWalked, parent_of, place_of}
use Rattle.obs_exchange.specs.inner.Setting.{Setting, touched_in}
use Rattle.obs_exchange.specs.inner.Trail.{Keeps, Stays, Trail}
use Rattle.obs_exchange.proofs.Queued.{flag-from, flag-kept}
use Rattle.obs_exchange.proofs.Trails.{Stays-then}

-- the first k branches of the visited meter were walked
pub record IsTouching (over : Setting) (before trail : Trail) (m : ℕ) (tops touched : List ℕ) (k : ℕ) : Type 0 where
  pub visiting : IsVisiting over trail m
  pub classes : AreClasses over trail.marks tops
  pub done : (i : ℕ) → i < k → has_flag trail.walked (get_or touched i 0) ≡ true
  pub stays : Stays before trail

-- one more of its branches was walked
pub Touching-more : (over : Setting) (before trail : Trail) (m : ℕ) (tops touched : List ℕ) (k : ℕ) → IsTouching over before trail m tops touched k
    → (next : Trail) (new_tops : List ℕ) → IsVisiting over next m → AreClasses over next.marks new_tops → Stays trail next → has_flag next.walked (get_or touched k 0) ≡ true
    → IsTouching over before next m new_tops touched (k + 1)
Touching-more over before trail m tops touched k t next new_tops visiting classes stays walked =
    record {
      visiting = visiting;
      classes = classes;
      done = λ i l. ⊎_elim
          (λ (low : i < k). stays.follows.walked (get_or touched i 0) (t.done i low))
          (λ (high : k ≤ i). let same : k ≡ i = omega arith in subst (λ j. has_flag next.walked (get_or touched j 0) ≡ true) same walked)
          (cases_lt i k);
      stays = Stays-then before trail next t.stays stays;
    }

pub Touching-end : (over : Setting) (before trail : Trail) (m : ℕ) (tops touched : List ℕ) (k : ℕ) → IsTouching over before trail m tops touched k
    → touched ≡ touched_in over m → length touched ≤ k → AreWalkedOf over trail.walked m
Touching-end over before trail m tops touched k t same l e i =
    let c = Contains-from_In e touched (rw same i) in
    let b = c.1 in
    let s : get_or touched c.0 0 ≡ e = get_or_default touched c.0 0 e c.1 ∙ c.2 in
    rw (← s) (t.done c.0 (omega arith))

module _ (over : Setting) (stars : List ℕ) (walked : List Bool) (h : Hub) (m : ℕ) (s : AreStarred over stars walked)
    (same : touched_in over m ≡ take h.count (branches_at over.graph.ends h.vertex)) where
  -- no more branches than were walked
  pub AreWalkedOf-front : h.count ≤ get_or stars h.vertex 0 → AreWalkedOf over walked m
  AreWalkedOf-front l e i = s.starred h.vertex e (In-take_more h.count (get_or stars h.vertex 0) (branches_at over.graph.ends h.vertex) e l (subst (λ (xs : List ℕ). In e xs) same i))

  -- no more are noted than were walked
  pub AreStarred-set : (n : ℕ) → n ≤ h.count → h.vertex < over.graph.vertices → AreWalkedOf over walked m → AreStarred over (set stars h.vertex n) walked
  AreStarred-set n few low all =
      let part : List ℕ = branches_at over.graph.ends h.vertex in
      let r = s.room in
      let here : get_or (set stars h.vertex n) h.vertex 0 ≡ n = get_or-set_same stars h.vertex n 0 (omega (arith, r, low)) in
      record {
        room = let l = length-set stars h.vertex n in omega (arith, l, r);
        starred = λ w e i. elim (cases_eq w h.vertex) [
          | inl is ↦
              let j = subst (λ (v : ℕ). In e (take (get_or (set stars h.vertex n) v 0) (branches_at over.graph.ends v))) is i in
              let k = subst (λ (a : ℕ). In e (take a part)) here j in
              all e (subst (λ (xs : List ℕ). In e xs) (sym same) (In-take_more n h.count part e few k))
          | inr o ↦ s.starred w e (subst (λ (a : ℕ). In e (take a (branches_at over.graph.ends w))) (get_or-set_other stars h.vertex w n 0 o) i)
        ];
      }

-- more branches were walked
pub AreStarred-kept : (over : Setting) (stars : List ℕ) (walked more : List Bool) → AreStarred over stars walked → Keeps walked more → AreStarred over stars more
AreStarred-kept over stars walked more s keeps = record { room = s.room; starred = λ v e i. keeps e (s.starred v e i) }

-- a branch whose meters are marked was walked
pub IsVisiting-walk : (over : Setting) (trail : Trail) (m : ℕ) → IsVisiting over trail m → (e : ℕ) → e < length trail.walked → IsWalked over trail.marks e
    → IsVisiting over (record trail { walked = set trail.walked e true }) m
IsVisiting-walk over trail m v e l w =
    let len = length-set trail.walked e true in
    let kept = flag-kept trail.walked e l in
    let from = flag-from trail.walked e in
    search (rules, len, kept, from)

module _ (over : Setting) (trail : Trail) (m : ℕ) (v : IsVisiting over trail m) where
  -- the meter at the head is marked
  pub visited_marked : has_flag trail.marks m ≡ true
  visited_marked = subst (λ (k : ℕ). has_flag trail.marks k ≡ true) v.at_head (v.searching.entries trail.head v.below).0

  origin_next : (x : ℕ) (o : Option Move) → HasOrigin over trail x o → HasOrigin over (record trail { head = trail.head + 1 }) x o
  origin_next x None h = h
  origin_next x (Some p) h = record { marked = h.marked; before = h.before; near = omega (arith, h.near); touched = h.touched; needed = h.needed }

  -- a meter whose place is the head's is the visited one
  at_place : (x : ℕ) → has_flag trail.marks x ≡ true → place_of trail x ≡ trail.head → x ≡ m
  at_place x t at = sym (v.searching.placed x t).1 ∙ (ap (λ (k : ℕ). get_or trail.queue k 0) at ∙ v.at_head)

  -- where it has walked its branches, the search goes on at the next one
  pub IsSearching-next : AreWalkedOf over trail.walked m → IsSearching over (record trail { head = trail.head + 1 })
  IsSearching-next w = let s = v.searching in record {
    sound = s.sound;
    marks_len = s.marks_len;
    parents_len = s.parents_len;
    queue_len = s.queue_len;
    walked_len = s.walked_len;
    low = s.low;
    thawed = s.thawed;
    few = s.few;
    head_le = omega (arith, v.below);
    placed = s.placed;
    entries = s.entries;
    origins = λ x t. origin_next x (parent_of trail x) (s.origins x t);
    in_order = s.in_order;
    finished = λ y q t p. inl (elim (s.finished y q t p) [
      | inl f ↦ f
      | inr at ↦ let o : IsParent over trail y q = subst (λ (o : Option Move). HasOrigin over trail y o) p (s.origins y t) in
          w q.branch (subst (λ (k : ℕ). In q.branch (touched_in over k)) (at_place q.meter o.marked at) o.touched)
    ]);
    walks = s.walks;
    looked = λ k e l i. elim (cases_lt k trail.head) [
      | inl b ↦ s.looked k e b i
      | inr n ↦ let y : k ≡ trail.head = omega (arith, l, n) in
          w e (subst (λ (j : ℕ). In e (touched_in over j)) (ap (λ (j : ℕ). get_or trail.queue j 0) y ∙ v.at_head) i)
    ];
  }
