-- The loops over items, and over meters in their lists, where one row of a graph changed.
use Rattle.std.proofs.Common.{◌≡◌, ℕ, ◌+◌, ◌<◌, ◌≤◌, Bool, false, Option, List, length, map, get_or, set, take, refl, sym, ap, ◌∙◌, subst, arith, inl, inr}
use Rattle.std.proofs.lemmas.Bool.{cases_eq, cases_lt}
use Rattle.std.proofs.lemmas.List.{ext_get_or, get_or-map, get_or-set_other, get_or-set_same, get_or-take, get_or_past, length-map, length-set, length-take}
use Rattle.std.proofs.lemmas.List.Elements.{All-get_or}
use Rattle.obs_graph.specs.declared.Ends.{Ends}
use Rattle.obs_graph.specs.Graph.{Graph}
use Rattle.obs_meter.specs.declared.Touch.{Touch}
use Rattle.obs_meter.specs.declared.Touch.TheVariants.{Nothing}
use Rattle.obs_meter.specs.Held.{Meters}
use Rattle.obs_meter.specs.inner.Touches.{AreInRange, IsInRange}
use Rattle.obs_network.specs.declared.following.Change.{Change}
use Rattle.obs_network.specs.inner.Following.{AreFollowed, AreListedFar, followed, followed_items, is_near}
use Rattle.obs_network.specs.inner.Kept.{Listed, list_of, lists_of}
use Rattle.obs_network.specs.Located.{touch_component}
use Rattle.obs_network.specs.Network.{Components}
use Rattle.obs_network.proofs.FollowedItems.{followed_far}
use Rattle.obs_network.proofs.RefreshedMeter.{length-lists_of}

-- the meters below `end` stand in the lists that are wanted, and so do those that aren't near
pub record AreMoved (near : ℕ → Bool) (wanted lists : List ℕ) (end : ℕ) : Type 0 where
  pub done : (k : ℕ) → k < end → get_or lists k 0 ≡ get_or wanted k 0
  pub far : (k : ℕ) → k < length lists → near k ≡ false → get_or lists k 0 ≡ get_or wanted k 0

-- the meters below `end` follow, also among what is offered, and stand in the lists that are wanted, where some are left that
-- may change theirs one by one
pub record AreFollowedMeters (follow : Touch → Touch) (near : ℕ → Bool) (wanted : List ℕ) (before_meters before_offered : Meters) (before : Listed)
    (meters offered : Meters) (listed : Listed) (left end : ℕ) : Type 0 where
  pub meters_follow : AreFollowed follow before_meters meters 0 end
  pub offered_follow : AreFollowed follow before_offered offered 0 end
  pub moved : 0 < left → AreMoved near wanted listed.lists end
  pub len : length listed.lists ≡ length wanted
  pub components : listed.components ≡ before.components
  pub most_meters : listed.most_meters ≡ before.most_meters
  pub most_components : listed.most_components ≡ before.most_components

module _ (follow : Touch → Touch) (before : Meters) (first : ℕ) where
  -- where none follow yet
  pub Followed-none : (end : ℕ) → end ≤ first → AreFollowed follow before before first end
  Followed-none end le = record { most = refl; len = refl; below = λ k l. refl; done = λ k f l. absurd (omega (arith, le, f, l)); rest = λ k l. refl }

  -- an item that stays as it is follows
  pub Followed-far : (after : Meters) (i : ℕ) → follow (get_or before.touches i Nothing) ≡ get_or before.touches i Nothing → AreFollowed follow before after first i → AreFollowed follow before after first (i + 1)
  Followed-far after i stays h = record {
    most = h.most;
    len = h.len;
    below = h.below;
    done = λ k f l. elim (cases_eq k i) [
      | inl s ↦ h.rest k (omega (arith, s)) ∙ ap (λ x. get_or before.touches x Nothing) s ∙ sym stays ∙ ap (λ x. follow (get_or before.touches x Nothing)) (sym s)
      | inr n ↦ h.done k f (omega (arith, l, n))
    ];
    rest = λ k l. h.rest k (omega (arith, l));
  }

  -- one that touches what is there now does
  pub Followed-near : (after next : Meters) (i : ℕ) (touch : Touch) → first ≤ i → i < length before.touches → touch ≡ follow (get_or before.touches i Nothing) → AreFollowed follow before after first i
      → next ≡ record after { touches = set after.touches i touch } → AreFollowed follow before next first (i + 1)
  Followed-near after next i touch from low is h e =
      let p = h.len in
      rw e (record {
        most = h.most;
        len = length-set after.touches i touch ∙ h.len;
        below = λ k l. get_or-set_other after.touches i k touch Nothing (λ s. omega (arith, l, s, from)) ∙ h.below k l;
        done = λ k f l. elim (cases_eq k i) [
          | inl s ↦ ap (λ x. get_or (set after.touches i touch) x Nothing) s ∙ get_or-set_same after.touches i touch Nothing (omega (arith, p, low)) ∙ is ∙ ap (λ x. follow (get_or before.touches x Nothing)) (sym s)
          | inr n ↦ get_or-set_other after.touches i k touch Nothing n ∙ h.done k f (omega (arith, l, n))
        ];
        rest = λ k l. get_or-set_other after.touches i k touch Nothing (λ s. omega (arith, l, s)) ∙ h.rest k (omega (arith, l));
      })

  -- so do all of a greater bound, where there are no more
  pub Followed-end : (after : Meters) (i : ℕ) → length before.touches ≤ i → AreFollowed follow before after first i → AreFollowed follow before after first (length before.touches)
  Followed-end after i le h = record {
    most = h.most;
    len = h.len;
    below = h.below;
    done = λ k f l. h.done k f (omega (arith, l, le));
    rest = λ k l. let p = h.len in get_or_past after.touches k Nothing (omega (arith, p, l)) ∙ sym (get_or_past before.touches k Nothing l);
  }

-- where each item follows, all do
Followed-map : (follow : Touch → Touch) (before after : Meters) → after.most ≡ before.most → length after.touches ≡ length before.touches
    → ((k : ℕ) → k < length before.touches → get_or after.touches k Nothing ≡ follow (get_or before.touches k Nothing)) → after ≡ record before { touches = map follow before.touches }
Followed-map follow before after most len each =
    let is : after.touches ≡ map follow before.touches =
    ext_get_or Nothing after.touches (map follow before.touches) (len ∙ sym (length-map before.touches follow))
    (λ k l. each k (omega (arith, l, len)) ∙ sym (get_or-map follow before.touches k Nothing Nothing (omega (arith, l, len)))) in
    ap (λ (t : List Touch). record after { touches = t }) is ∙ ap (λ (most : ℕ). record before { touches = map follow before.touches; most = most }) most

pub Followed-all : (follow : Touch → Touch) (before after : Meters) (i : ℕ) → length before.touches ≤ i → AreFollowed follow before after 0 i → after ≡ record before { touches = map follow before.touches }
Followed-all follow before after i e h = Followed-map follow before after h.most h.len (λ k l. h.done k (omega arith) (omega (arith, l, e)))

-- first those before a number, and then the others
pub Followed-then : (follow : Touch → Touch) (before then after : Meters) (n : ℕ) → AreFollowed follow before then 0 n → AreFollowed follow then after n (length then.touches)
    → after ≡ record before { touches = map follow before.touches }
Followed-then follow before then after n one two =
    let p = one.len in
    Followed-map follow before after (two.most ∙ one.most) (two.len ∙ one.len) (λ k l. elim (cases_lt k n) [
      | inl low ↦ two.below k low ∙ one.done k (omega arith) low
      | inr past ↦ two.done k past (omega (arith, l, p)) ∙ ap follow (one.rest k past)
    ])

-- the list that is wanted is that of what a meter touches
wanted-at : (components : Components) (graph : Graph) (meters : Meters) (m : ℕ) (touch : Touch) → m < length meters.touches → touch ≡ get_or meters.touches m Nothing
    → list_of (length components.first_buses) (touch_component components.of_buses graph.ends touch) ≡ get_or (lists_of components graph meters) m 0
wanted-at components graph meters m touch low is =
    let list : Touch → ℕ = λ t. list_of (length components.first_buses) (touch_component components.of_buses graph.ends t) in
    ap list is ∙ sym (get_or-map list meters.touches m Nothing 0 low)

module _ (near : ℕ → Bool) (wanted lists : List ℕ) (i : ℕ) (len : length lists ≡ length wanted) (low : i < length wanted) (h : AreMoved near wanted lists i) where
  -- a meter that isn't near stands in its list
  Moved-far : near i ≡ false → AreMoved near wanted lists (i + 1)
  Moved-far far = record {
    done = λ k l. elim (cases_eq k i) [
      | inl s ↦ ap (λ x. get_or lists x 0) s ∙ h.far i (omega (arith, len, low)) far ∙ ap (λ x. get_or wanted x 0) (sym s)
      | inr n ↦ h.done k (omega (arith, l, n))
    ];
    far = h.far;
  }

  -- one that is near is put there
  Moved-near : (next : List ℕ) (list : ℕ) → list ≡ get_or wanted i 0 → next ≡ set lists i list → AreMoved near wanted next (i + 1)
  Moved-near next list is e =
      let at : get_or (set lists i list) i 0 ≡ get_or wanted i 0 = get_or-set_same lists i list 0 (omega (arith, len, low)) ∙ is in
      rw e (record {
        done = λ k l. elim (cases_eq k i) [
          | inl s ↦ ap (λ x. get_or (set lists i list) x 0) s ∙ at ∙ ap (λ x. get_or wanted x 0) (sym s)
          | inr n ↦ get_or-set_other lists i k list 0 n ∙ h.done k (omega (arith, l, n))
        ];
        far = λ k l f. elim (cases_eq k i) [
          | inl s ↦ ap (λ x. get_or (set lists i list) x 0) s ∙ at ∙ ap (λ x. get_or wanted x 0) (sym s)
          | inr n ↦ get_or-set_other lists i k list 0 n ∙ h.far k (omega (arith, l, length-set lists i list)) f
        ];
      })

-- the loop over meters
module _ (rows : List (Option Ends)) (change : Change) (components : Components) (graph : Graph) (meters offered : Meters) (listed : Listed)
    (same : take (length meters.touches) offered.touches ≡ meters.touches) where
  abbrev follow : Touch → Touch
  follow = followed rows change.before change.after

  abbrev near : ℕ → Bool
  near m = is_near change.at change.before change.after (get_or meters.touches m Nothing)

  abbrev wanted : List ℕ
  wanted = lists_of components graph (followed_items rows change meters)

  -- the records of the loop, at its values
  abbrev pub AreAt : Meters → Meters → Listed → ℕ → ℕ → Type 0
  AreAt now_meters now_offered now left i = AreFollowedMeters follow near wanted meters offered listed now_meters now_offered now left i

  length-wanted : length wanted ≡ length meters.touches
  length-wanted = length-lists_of components graph (followed_items rows change meters) ∙ length-map meters.touches follow

  offered-at : (i : ℕ) → i < length meters.touches → get_or offered.touches i Nothing ≡ get_or meters.touches i Nothing
  offered-at i low = sym (get_or-take (length meters.touches) offered.touches i Nothing low) ∙ ap (λ l. get_or l i Nothing) same

  length-offered : length meters.touches ≤ length offered.touches
  length-offered = omega (arith, ap (λ (l : List Touch). length l) same, length-take (length meters.touches) offered.touches)

  -- what a meter touches now is in range
  pub Meters-in_range : (i : ℕ) (touch next : Touch) → i < length meters.touches → touch ≡ get_or meters.touches i Nothing → next ≡ follow touch → AreInRange graph (followed_items rows change meters).touches → IsInRange graph next
  Meters-in_range i touch next low is is_next all =
      let here : i < length (followed_items rows change meters).touches = omega (arith, low, length-map meters.touches follow) in
      subst (IsInRange graph) (get_or-map follow meters.touches i Nothing Nothing low ∙ ap follow (sym is) ∙ sym is_next) (All-get_or (IsInRange graph) (followed_items rows change meters).touches i Nothing here all)

  pub Meters-start : (left : ℕ) → length listed.lists ≡ length meters.touches → AreListedFar rows change components graph meters listed.lists → AreAt meters offered listed left 0
  Meters-start left len far = record {
    meters_follow = Followed-none follow meters 0 0 (omega arith);
    offered_follow = Followed-none follow offered 0 0 (omega arith);
    moved = λ _. record { done = λ k l. absurd (omega (arith, l)); far = far };
    len = len ∙ sym length-wanted;
    components = refl;
    most_meters = refl;
    most_components = refl;
  }

  module _ (now_meters now_offered : Meters) (now : Listed) (left i : ℕ) (low : i < length meters.touches) (h : AreAt now_meters now_offered now left i) where
    -- what is read
    pub Meters-read : get_or now_meters.touches i Nothing ≡ get_or meters.touches i Nothing
    Meters-read = h.meters_follow.rest i (omega arith)

    pub Meters-low : (i < length now_meters.touches) × (i < length now_offered.touches) × (i < length now.lists)
    Meters-low =
        let a = h.meters_follow.len in
        let b = h.offered_follow.len in
        let c = h.len in
        (omega (arith, a, low), omega (arith, b, low, length-offered), omega (arith, c, low, length-wanted))

    -- a meter that isn't near stays
    pub Meters-far : (touch : Touch) → touch ≡ get_or now_meters.touches i Nothing → is_near change.at change.before change.after touch ≡ false → AreAt now_meters now_offered now left (i + 1)
    Meters-far touch is far =
        let away : near i ≡ false = ap (is_near change.at change.before change.after) (sym (is ∙ Meters-read)) ∙ far in
        let stays = followed_far rows change.at change.before change.after (get_or meters.touches i Nothing) away in
        record {
          meters_follow = Followed-far follow meters 0 now_meters i stays h.meters_follow;
          offered_follow = Followed-far follow offered 0 now_offered i (rw (offered-at i low) stays) h.offered_follow;
          moved = λ some. Moved-far near wanted now.lists i h.len (omega (arith, low, length-wanted)) (h.moved some) away;
          len = h.len;
          components = h.components;
          most_meters = h.most_meters;
          most_components = h.most_components;
        }

    -- one that is near follows, and is put into its list where some are left
    pub Meters-near : (touch next : Touch) → touch ≡ get_or now_meters.touches i Nothing → next ≡ follow touch → (fewer : ℕ) → fewer ≤ left → (then_meters then_offered : Meters) (then : Listed)
        → then_meters ≡ record now_meters { touches = set now_meters.touches i next } → then_offered ≡ record now_offered { touches = set now_offered.touches i next }
        → (0 < fewer → then.lists ≡ set now.lists i (list_of (length components.first_buses) (touch_component components.of_buses graph.ends next)))
        → length then.lists ≡ length now.lists → then.components ≡ now.components → then.most_meters ≡ now.most_meters → then.most_components ≡ now.most_components → AreAt then_meters then_offered then fewer (i + 1)
    Meters-near touch next is is_next fewer le then_meters then_offered then of_meters of_offered lists len count most_meters most_components =
        let next_is : next ≡ follow (get_or meters.touches i Nothing) = is_next ∙ ap follow (is ∙ Meters-read) in
        let here : i < length (followed_items rows change meters).touches = omega (arith, low, length-map meters.touches follow) in
        let at = wanted-at components graph (followed_items rows change meters) i next here (next_is ∙ sym (get_or-map follow meters.touches i Nothing Nothing low)) in
        record {
          meters_follow = Followed-near follow meters 0 now_meters then_meters i next (omega arith) low next_is h.meters_follow of_meters;
          offered_follow = Followed-near follow offered 0 now_offered then_offered i next (omega arith) (omega (arith, low, length-offered)) (next_is ∙ ap follow (sym (offered-at i low))) h.offered_follow of_offered;
          moved = λ some. Moved-near near wanted now.lists i h.len (omega (arith, low, length-wanted)) (h.moved (omega (arith, some, le))) then.lists _ at (lists some);
          len = len ∙ h.len;
          components = count ∙ h.components;
          most_meters = most_meters ∙ h.most_meters;
          most_components = most_components ∙ h.most_components;
        }

  -- behind the last meter
  module _ (now_meters now_offered : Meters) (now : Listed) (left i : ℕ) (all : length meters.touches ≤ i) (h : AreAt now_meters now_offered now left i) where
    pub Meters-all : now_meters ≡ followed_items rows change meters
    Meters-all = Followed-all follow meters now_meters i all h.meters_follow

    pub Meters-listed : 0 < left → now.lists ≡ lists_of components graph now_meters
    Meters-listed some =
        let p = h.len in
        let m = h.moved some in
        ext_get_or 0 now.lists wanted h.len (λ k l. m.done k (omega (arith, l, p, all, length-wanted))) ∙ ap (lists_of components graph) (sym Meters-all)
