-- Meters that are critical beside the frozen pairs: they stay so, and a closed search finds more of them.
use Rattle.std.proofs.Common.{◌≡◌, ◌≢◌, ℕ, ◌+◌, ◌<◌, ◌≤◌, ◌&&◌, ◌||◌, Bool, true, false, Option, None, List, length, get_or, replicate, set, refl, sym, ap, ◌∙◌, subst, inl, inr, arith, length-set}
use Rattle.std.proofs.lemmas.Bool.{cases_Bool}
use Rattle.obs_graph.specs.declared.Ends.{Ends}
use Rattle.obs_graph.specs.Graph.{Graph}
use Rattle.obs_graph.specs.Positions.{AreBranches}
use Rattle.obs_matroid.specs.Lists.{In}
use Rattle.obs_matroid.specs.Assignments.{Pair, items}
use Rattle.obs_matroid.specs.inner.Assignments.{part}
use Rattle.obs_matroid.proofs.Comparing.{cases_Option}
use Rattle.obs_matroid.proofs.Lists.{clash}
use Rattle.obs_matroid.proofs.Pairs.{In-items_from, In-part, In-part_from, more_pairs}
use Rattle.obs_matroid.proofs.Slots.{slot_at, slot_from}
use Rattle.obs_meter.specs.declared.Touch.{Touch}
use Rattle.obs_meter.specs.declared.Touch.TheVariants.{Nothing}
use Rattle.obs_meter.specs.Assignments.{IsAssignmentAt, IsRhoAt}
use Rattle.obs_meter.specs.Spanned.{graph_matroid}
use Rattle.obs_meter.specs.Touches.{every_item, is_live, live_items, touch_at}
use Rattle.obs_meter.proofs.Instance.{IsMatroid-graph}
use Rattle.obs_meter.proofs.Live.{live_low}
use Rattle.obs_meter.proofs.Touched.{live-from_In}
use Rattle.obs_assign.specs.Assignment.{Assignment}
use Rattle.obs_assign.specs.inner.Assignment.{IsWhole, StandsOver, branch_at, has_flag, is_frozen, pairs}
use Rattle.obs_assign.proofs.Keeping.{flags_clear}
use Rattle.obs_assign.proofs.Pinning.{nothing}
use Rattle.obs_assign.proofs.Slotted.{none_some}
use Rattle.obs_exchange.specs.declared.Sources.{Sources}
use Rattle.obs_exchange.specs.declared.Sources.TheVariants.{All, One}
use Rattle.obs_exchange.specs.inner.Closed.{HoldsSourcesAt, IsClosedAt, IsLeastClosedAt, IsSource}
use Rattle.obs_exchange.specs.inner.Found.{HasClosed, Work}
use Rattle.obs_exchange.specs.inner.Longest.{IsLongest}
use Rattle.obs_exchange.specs.inner.Noting.{AreNoted, Noted}
use Rattle.obs_exchange.proofs.AtGraph.{out-from_bare}
use Rattle.obs_exchange.proofs.Beside.{critical_beside, longer_or_closed}
use Rattle.obs_exchange.proofs.Changing.{IsAssignmentAt-changed, StandsOver-changed, live_other, not_live, set_back, touch_changed, touch_other}
use Rattle.obs_exchange.proofs.Lengthening.{room_again}
use Rattle.obs_first.specs.inner.Deciding.{AreCriticalBeside, IsAside, IsPrepared, KeepsFrozen}
use Rattle.obs_first.proofs.Changed.{dropped_frozen, dropped_keeps, dropped_noted, other_slot}
use Rattle.obs_first.proofs.Frozen.{HasFrozenOf-back, HasFrozenOf-pairs, frozen_same}

-- a source is one of all sources
pub source_of_all : (ends : List (Option Ends)) (touches : List Touch) (from : Sources) (a : Assignment) (k : ℕ) → IsSource ends touches from a k → IsSource ends touches All a k
source_of_all ends touches All a k s = s
source_of_all ends touches (One x) a k s = (s.1, s.2)

module _ (ends : List (Option Ends)) (touches : List Touch) (a b : Assignment) (loose : List Bool) (long : ℕ) (keeps : KeepsFrozen a b) where
  -- beside more frozen pairs
  pub AreCriticalBeside-more : ((x : ℕ) → is_frozen a x ≡ true → is_frozen b x ≡ true) → AreCriticalBeside ends touches a loose long → AreCriticalBeside ends touches b loose long
  AreCriticalBeside-more more h m live out B f without = h m live out B (HasFrozenOf-back ends touches a b B more keeps f) without

-- a meter that has a pair is live
pub live_paired : (g : Graph) (touches : List Touch) (a : Assignment) (m : ℕ) → StandsOver a g touches → branch_at a m ≢ None → is_live g.ends touches m ≡ true
live_paired g touches a m stands paired = elim (cases_Option (branch_at a m)) [
  | inl n ↦ absurd (paired n)
  | inr e ↦ live-from_In g.ends touches m e.0 (stands.touched m e.0 e.1)
]

-- a meter that is critical is set aside without a search
module _ (g : Graph) (touches : List Touch) (b : Assignment) (m long : ℕ) (low : m < length touches) (ok : AreBranches g.vertices g.ends) (whole : IsWhole b) (stands : StandsOver b g touches)
    (bare : branch_at b m ≡ None) where
  without_meter : (B : List Pair) → IsAssignmentAt g.ends (set touches m Nothing) (every_item (set touches m Nothing)) B → (p : Pair) → In p B → p.0 ≡ m → ⊥
  without_meter B h p i e =
      subst (λ (l : List ℕ). In p.1 l) (touch_changed g.ends touches m Nothing low) (subst (λ (k : ℕ). In p.1 (touch_at g.ends (set touches m Nothing) k)) e (h.touched p i))

  IsAssignmentAt-back : (B : List Pair) → IsAssignmentAt g.ends (set touches m Nothing) (every_item (set touches m Nothing)) B → IsAssignmentAt g.ends touches (every_item touches) B
  IsAssignmentAt-back B h =
      subst (λ (X : List Touch). IsAssignmentAt g.ends X (every_item X) B) (set_back touches m Nothing)
      (IsAssignmentAt-changed g.ends (set touches m Nothing) m (get_or touches m Nothing) B h (λ p i e. absurd (without_meter B h p i e)))

  pub IsAside-critical : long ≤ length (pairs b) + 1 → ((B : List Pair) → IsAssignmentAt g.ends touches (every_item touches) B → ((p : Pair) → In p (pairs b) → is_frozen b p.0 ≡ true → In p B) → (In m (items B) → ⊥) → length B < long)
      → IsAside g.ends touches b m long
  IsAside-critical near critical =
      let own = HasFrozenOf-pairs b b g touches whole stands (λ x f. refl) in
      elim (longer_or_closed b g (set touches m Nothing) ok whole (StandsOver-changed g touches m Nothing b bare stands)) [
        | inl h ↦
            let n = critical h.0 (IsAssignmentAt-back h.0 h.1) h.2 (λ j. let v = In-items_from h.0 m j in without_meter h.0 h.1 v.0 v.1 (sym v.2)) in
            let l = h.3 in
            absurd (omega (arith, n, l, near))
        | inr s ↦ record { bare = bare; short = critical (pairs b) own.assigns own.extends (out-from_bare b m bare); near = near; closed = s.0; least = s.1 }
      ]

-- what a search from all sources reached in vain, but for one meter that has a pair, is closed where this has its pair
module _ (g : Graph) (touches : List Touch) (a b : Assignment) (m : ℕ) (low : m < length touches) (ok : AreBranches g.vertices g.ends) (paired : branch_at a m ≢ None)
    (thawed : is_frozen a m ≡ false) (slots : b.slots ≡ set a.slots m None) (frozen : b.frozen ≡ a.frozen) (S : ℕ → Bool) (least : IsLeastClosedAt g.ends (set touches m Nothing) All b S) where
  other : (k : ℕ) → is_live g.ends (set touches m Nothing) k ≡ true → k ≡ m → ⊥
  other k t e = clash (ap (is_live g.ends (set touches m Nothing)) (sym e) ∙ t) (not_live g.ends touches m low)

  kept_pair : (p : Pair) → In p (part (λ x. S x || is_frozen b x) (pairs b)) → In p (part (λ x. S x || is_frozen a x) (pairs a))
  kept_pair p i =
      let u = In-part_from (λ x. S x || is_frozen b x) (pairs b) p i in
      let there = slot_from b.slots p u.0 in
      let n : p.0 ≡ m → ⊥ = λ e. none_some p.1 (sym (ap (λ (s : List (Option ℕ)). get_or s m None) slots ∙ nothing a.slots m) ∙ (ap (branch_at b) (sym e) ∙ there)) in
      In-part (λ x. S x || is_frozen a x) (pairs a) p (slot_at a.slots p.0 p.1 (sym (other_slot a b m slots thawed p.0 n) ∙ there))
      (ap (λ f. S p.0 || f) (sym (frozen_same a b frozen p.0)) ∙ u.1)

  pub closed_before : IsClosedAt g.ends touches a S
  closed_before = record {
    live = λ k t. let n = other k (least.closed.live k t) in sym (live_other g.ends touches m Nothing k n) ∙ least.closed.live k t;
    joined = λ k e t j.
        let n = other k (least.closed.live k t) in
        more_pairs (graph_matroid g.vertices g.ends) (IsMatroid-graph g.vertices g.ends ok) (part (λ x. S x || is_frozen b x) (pairs b)) (part (λ x. S x || is_frozen a x) (pairs a)) e kept_pair
        (least.closed.joined k e t (subst (λ (l : List ℕ). In e l) (sym (touch_other g.ends touches m Nothing k n)) j));
  }

  pub sources_before : HoldsSourcesAt g.ends touches All a S
  sources_before k s =
      let n : k ≡ m → ⊥ = λ e. paired (ap (branch_at a) (sym e) ∙ s.1) in
      least.holds k (live_other g.ends touches m Nothing k n ∙ s.0, other_slot a b m slots thawed k n ∙ s.1)

-- what wasn't reached by a closed search is critical too
module _ (g : Graph) (touches : List Touch) (a : Assignment) (long : ℕ) (ok : AreBranches g.vertices g.ends) (whole : IsWhole a) (stands : StandsOver a g touches) (few : length (pairs a) ≤ long)
    (old reached new : List Bool) (room : length touches ≤ length reached) (narrowed : (m : ℕ) → m < length reached → has_flag new m ≡ (has_flag old m && has_flag reached m)) where
  pub AreCriticalBeside-narrowed : IsClosedAt g.ends touches a (has_flag reached) → HoldsSourcesAt g.ends touches All a (has_flag reached)
      → AreCriticalBeside g.ends touches a old long → AreCriticalBeside g.ends touches a new long
  AreCriticalBeside-narrowed closed holds before m live out B f without =
      let l = live_low g.ends touches m live in
      let both = sym (narrowed m (omega (arith, l, room))) ∙ out in
      elim (cases_Bool (has_flag old m)) [
        | inr o ↦ before m live o B f without
        | inl t ↦
            let n = critical_beside a g touches ok whole stands (has_flag reached) closed holds m live (sym (ap (λ b. b && has_flag reached m) t) ∙ both) B f.assigns f.extends without in
            omega (arith, n, few)
      ]

-- what the work value knows after a search or a pin
module _ (g : Graph) (touches : List Touch) (a b : Assignment) (w v : Work) (long : ℕ) (sizes : v.sizes ≡ w.sizes) (copied : v.touches ≡ w.touches) (loose : v.loose ≡ w.loose)
    (noted : AreNoted g.ends touches All b v.noted) (keeps : KeepsFrozen a b) (h : IsPrepared g touches a w long) where
  pub IsPrepared-more : ((x : ℕ) → is_frozen a x ≡ true → is_frozen b x ≡ true) → IsPrepared g touches b v long
  IsPrepared-more more = record {
    room = room_again g touches w.sizes v.sizes sizes h.room;
    noted = noted;
    copied = copied ∙ h.copied;
    critical = subst (λ (l : List Bool). AreCriticalBeside g.ends touches b l long) (sym loose) (AreCriticalBeside-more g.ends touches a b w.loose long keeps more h.critical);
  }

  pub IsPrepared-on : b.frozen ≡ a.frozen → IsPrepared g touches b v long
  IsPrepared-on same = IsPrepared-more (λ x f. frozen_same a b same x ∙ f)

-- a longest assignment is one with nothing frozen
pub thawed_longest : (g : Graph) (touches : List Touch) (a b : Assignment) → b ≡ record a { frozen = replicate (length a.frozen) false } → IsWhole b → StandsOver a g touches
    → IsRhoAt g.ends touches (live_items g.ends touches) (length (pairs a)) → IsLongest g touches b
thawed_longest g touches a b is whole stands rho = record {
  stands = subst (λ (x : Assignment). StandsOver x g touches) (sym is) (record { forest = stands.forest; meters = stands.meters; touched = stands.touched });
  whole = whole;
  thawed = λ m. ap (λ (x : Assignment). has_flag x.frozen m) is ∙ flags_clear (length a.frozen) m;
  longest = subst (λ (x : Assignment). IsRhoAt g.ends touches (live_items g.ends touches) (length (pairs x))) (sym is) rho;
}

-- where all meters are loose, nothing is said
pub AreCriticalBeside-loose : (ends : List (Option Ends)) (touches : List Touch) (a : Assignment) (loose : List Bool) (long n : ℕ) → length touches ≤ n → ((m : ℕ) → m < n → has_flag loose m ≡ true)
    → AreCriticalBeside ends touches a loose long
AreCriticalBeside-loose ends touches a loose long n few all m live out B f without = let l = live_low ends touches m live in clash (all m (omega (arith, l, few))) out

-- a thawed meter lost its pair, and is noted
module _ (g : Graph) (touches : List Touch) (a b : Assignment) (w v : Work) (m long : ℕ) (slots : b.slots ≡ set a.slots m None) (flags : b.frozen ≡ set a.frozen m false) (thawed : is_frozen a m ≡ false)
    (note : v ≡ record w { noted = record w.noted { flags = set w.noted.flags m true } }) (low : m < length w.noted.flags) where
  pub IsPrepared-dropped : IsPrepared g touches a w long → IsPrepared g touches b v long
  IsPrepared-dropped h =
      IsPrepared-on g touches a b w v long (ap (λ (x : Work). x.sizes) note) (ap (λ (x : Work). x.touches) note) (ap (λ (x : Work). x.loose) note)
      (subst (λ (n : Noted). AreNoted g.ends touches All b n) (sym (ap (λ (x : Work). x.noted) note)) (dropped_noted a b m slots thawed g.ends touches w.noted low h.noted))
      (dropped_keeps a b m slots thawed) h (dropped_frozen a b m slots thawed flags)

-- what the work value knows where the search then found nothing, and what it reached is kept
module _ (g : Graph) (touches : List Touch) (a b : Assignment) (w v : Work) (m long : ℕ) (low : m < length touches) (ok : AreBranches g.vertices g.ends) (whole : IsWhole a) (stands : StandsOver a g touches)
    (paired : branch_at a m ≢ None) (thawed : is_frozen a m ≡ false) (slots : b.slots ≡ set a.slots m None) (frozen : b.frozen ≡ a.frozen) (few : length (pairs a) ≤ long)
    (same : v ≡ record w { loose = v.loose }) (closed : HasClosed g.ends (set touches m Nothing) All b b w.reached)
    (narrowed : (k : ℕ) → k < length w.reached → has_flag v.loose k ≡ (has_flag w.loose k && has_flag w.reached k)) where
  pub IsPrepared-narrowed : IsPrepared g touches b w long → IsPrepared g touches b v long
  IsPrepared-narrowed h =
      let keeps = dropped_keeps a b m slots thawed in
      let back : AreCriticalBeside g.ends touches a w.loose long =
      AreCriticalBeside-more g.ends touches b a w.loose long (λ x f. sym (keeps x (sym (frozen_same a b frozen x) ∙ f))) (λ x f. sym (frozen_same a b frozen x) ∙ f) h.critical in
      let S = has_flag w.reached in
      record {
        room = room_again g touches w.sizes v.sizes (ap (λ (x : Work). x.sizes) same) h.room;
        noted = subst (λ (n : Noted). AreNoted g.ends touches All b n) (sym (ap (λ (x : Work). x.noted) same)) h.noted;
        copied = ap (λ (x : Work). x.touches) same ∙ h.copied;
        critical = AreCriticalBeside-more g.ends touches a b v.loose long keeps (λ x f. frozen_same a b frozen x ∙ f)
            (AreCriticalBeside-narrowed g touches a long ok whole stands few w.loose w.reached v.loose (let n = closed.flags in omega (arith, n, length-set touches m Nothing)) narrowed
            (closed_before g touches a b m low ok paired thawed slots frozen S closed.least) (sources_before g touches a b m low ok paired thawed slots frozen S closed.least) back);
      }
