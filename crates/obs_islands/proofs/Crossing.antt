-- Which touches straddle, and what remains of them.
use Rattle.std.proofs.Common.{◌≡◌, ℕ, zero, suc, ◌+◌, ◌<◌, ◌≤◌, List, [], ◌∷◌, length, get_or, set, take, refl, sym, ap, ◌∙◌, subst, inl, inr, ◌⊎◌, Bool, true, false, ◌||◌, Option, Some, None, arith}
use Rattle.std.specs.List.{list_any}
use Rattle.std.proofs.lemmas.Bool.{cases_Bool, cases_eq, or_left, or_right}
use Rattle.std.proofs.lemmas.List.{ext_get_or, get_or-set_other, get_or-set_same, length-map, length-set, take_all}
use Rattle.obs_graph.specs.declared.Ends.{Ends}
use Rattle.obs_graph.specs.Positions.{branches_at}
use Rattle.obs_graph.specs.Graph.{Graph}
use Rattle.obs_graph.proofs.AtVertex.{at_vertex}
use Rattle.obs_graph.proofs.Present.{present_low}
use Rattle.obs_matroid.specs.Lists.{In}
use Rattle.obs_matroid.proofs.Contained.{All-from_In, In-from_All, In-from_Contains}
use Rattle.obs_matroid.proofs.Lists.{clash, In-map_from}
use Rattle.obs_meter.specs.declared.Hub.{Hub}
use Rattle.obs_meter.specs.declared.Touch.{Touch}
use Rattle.obs_meter.specs.declared.Touch.TheVariants.{Nothing, Edge, Star, Front}
use Rattle.obs_meter.specs.Touches.{touch_at, touched}
use Rattle.obs_meter.specs.inner.Touches.{AreInRange, IsInRange, hub_of}
use Rattle.obs_meter.proofs.Touched.{In-from_any, any-from_In, touch-rising, touched-hub, touched-present}
use Rattle.obs_assign.specs.Assignment.{Assignment}
use Rattle.obs_islands.specs.inner.GivenUp.{GivesUp}
use Rattle.obs_islands.specs.inner.Rounds.{is_between, is_crossing, kept, remaining, straddles, straddles_at}
use Rattle.obs_islands.proofs.Hubs.{In-take_below}

hub_cases : (o : Option Hub) → (o ≡ None) ⊎ ((h : Hub) × (o ≡ Some h))
hub_cases None = inl refl
hub_cases (Some h) = inr (h, refl)

-- what straddles touches the branch that is noted at its hub
pub straddles-from : (ends : List (Option Ends)) (lowest : ℕ → ℕ) (t : Touch) → straddles ends lowest t ≡ true → (h : Hub) × (hub_of ends t ≡ Some h) × In (lowest h.vertex) (touched ends t)
straddles-from ends lowest t s = elim (hub_cases (hub_of ends t)) [
  | inl none ↦ clash s (ap (straddles_at lowest (touched ends t)) none)
  | inr h ↦ (h.0, h.1, In-from_any (touched ends t) (lowest h.0.vertex) (sym (ap (straddles_at lowest (touched ends t)) h.1) ∙ s))
]

-- what doesn't is kept
pub kept-other : (ends : List (Option Ends)) (lowest : ℕ → ℕ) (t : Touch) → straddles ends lowest t ≡ false → kept ends lowest t ≡ t
kept-other ends lowest t f = rw f refl

pub remaining_at : (ends : List (Option Ends)) (lowest : ℕ → ℕ) (touches : List Touch) (m : ℕ) → get_or (remaining ends lowest touches) m Nothing ≡ kept ends lowest (get_or touches m Nothing)
remaining_at ends lowest [] m = refl
remaining_at ends lowest (t ∷ ts) zero = refl
remaining_at ends lowest (t ∷ ts) (suc m) = remaining_at ends lowest ts m

-- each item is discarded or as before
pub kept_cases : (ends : List (Option Ends)) (lowest : ℕ → ℕ) (t : Touch) → (kept ends lowest t ≡ t) ⊎ (kept ends lowest t ≡ Nothing)
kept_cases ends lowest t = elim (cases_Bool (straddles ends lowest t)) [ inl y ↦ inr (rw y refl) | inr n ↦ inl (kept-other ends lowest t n) ]

pub none_straddles : (ends : List (Option Ends)) (lowest : ℕ → ℕ) (touches : List Touch) (m : ℕ) → list_any (straddles ends lowest) touches ≡ false → straddles ends lowest (get_or touches m Nothing) ≡ false
none_straddles ends lowest [] m f = refl
none_straddles ends lowest (t ∷ ts) zero f = elim (cases_Bool (straddles ends lowest t)) [ inl y ↦ clash (or_left (straddles ends lowest t) (list_any (straddles ends lowest) ts) y) f | inr n ↦ n ]
none_straddles ends lowest (t ∷ ts) (suc m) f =
    none_straddles ends lowest ts m (elim (cases_Bool (list_any (straddles ends lowest) ts)) [ inl y ↦ clash (or_right (straddles ends lowest t) (list_any (straddles ends lowest) ts) y) f | inr n ↦ n ])

-- a branch between two pieces is present
pub crossing-from : (ends : List (Option Ends)) (firsts : List ℕ) (e : ℕ) → is_crossing ends firsts e ≡ true → (x : Ends) × (get_or ends e None ≡ Some x) × (is_between firsts (Some x) ≡ true)
crossing-from ends firsts e t = found (get_or ends e None) refl t
  where
    found : (o : Option Ends) → get_or ends e None ≡ o → is_between firsts o ≡ true → (x : Ends) × (get_or ends e None ≡ Some x) × (is_between firsts (Some x) ≡ true)
    found None is t = clash t refl
    found (Some x) is t = (x, is, t)

-- no branch that an item touches lies between two pieces, where the item has a hub and doesn't straddle
pub uncrossed-from : (ends : List (Option Ends)) (touches : List Touch) (a : Assignment) (test : ℕ → Bool) (lowest : ℕ → ℕ) → GivesUp ends touches a test lowest → (m e : ℕ) (h : Hub)
    → hub_of ends (get_or touches m Nothing) ≡ Some h → straddles ends lowest (get_or touches m Nothing) ≡ false → In e (touch_at ends touches m) → test e ≡ false
uncrossed-from ends touches a test lowest g m e h is stays i = elim (cases_Bool (test e)) [
  | inr n ↦ n
  | inl t ↦
      let branches = touch_at ends touches m in
      let low = g.none_lower m e h is i t in
      let end = present_low ends e (touched-present ends (get_or touches m Nothing) e i) in
      let there = In-from_Contains (lowest h.vertex) (branches_at ends h.vertex) (at_vertex ends h.vertex (lowest h.vertex) (g.at h.vertex (omega (arith, low, end)))) in
      let front = touched-hub ends (get_or touches m Nothing) h is in
      let first = In-take_below h.count (branches_at ends h.vertex) (lowest h.vertex) e (touch-rising ends (Star h.vertex ∷ []) 0) there (subst (λ (xs : List ℕ). In e xs) front i) low in
      clash (any-from_In branches (lowest h.vertex) (subst (λ (xs : List ℕ). In (lowest h.vertex) xs) (sym front) first)) (sym (ap (straddles_at lowest branches) is) ∙ stays)
]

-- how many touches have a hub
abbrev pub hubs : List Touch → ℕ
hubs [] = 0
hubs (Nothing ∷ ts) = hubs ts
hubs (Edge e ∷ ts) = hubs ts
hubs (Star v ∷ ts) = suc (hubs ts)
hubs (Front v count ∷ ts) = suc (hubs ts)

module _ (ends : List (Option Ends)) (lowest : ℕ → ℕ) where
  no_more_hubs : (ts : List Touch) → hubs (remaining ends lowest ts) ≤ hubs ts
  no_more_hubs [] = omega arith
  no_more_hubs (Nothing ∷ ts) = no_more_hubs ts
  no_more_hubs (Edge e ∷ ts) = no_more_hubs ts
  no_more_hubs (Star v ∷ ts) =
      let h = no_more_hubs ts in
      elim (cases_Bool (straddles ends lowest (Star v))) [ inl y ↦ rw y (omega (arith, h)) | inr n ↦ rw n (omega (arith, h)) ]
  no_more_hubs (Front v count ∷ ts) =
      let h = no_more_hubs ts in
      elim (cases_Bool (straddles ends lowest (Front v count))) [ inl y ↦ rw y (omega (arith, h)) | inr n ↦ rw n (omega (arith, h)) ]

  -- where one straddles, fewer remain
  pub fewer_hubs : (ts : List Touch) → list_any (straddles ends lowest) ts ≡ true → hubs (remaining ends lowest ts) < hubs ts
  fewer_hubs [] t = clash t refl
  fewer_hubs (Nothing ∷ ts) t = fewer_hubs ts t
  fewer_hubs (Edge e ∷ ts) t = fewer_hubs ts t
  fewer_hubs (Star v ∷ ts) t =
      elim (cases_Bool (straddles ends lowest (Star v))) [
        | inl y ↦ let h = no_more_hubs ts in rw y (omega (arith, h))
        | inr n ↦ let h = fewer_hubs ts (rw n at t) in rw n (omega (arith, h))
      ]
  fewer_hubs (Front v count ∷ ts) t =
      elim (cases_Bool (straddles ends lowest (Front v count))) [
        | inl y ↦ let h = no_more_hubs ts in rw y (omega (arith, h))
        | inr n ↦ let h = fewer_hubs ts (rw n at t) in rw n (omega (arith, h))
      ]

kept_in_range : (g : Graph) (lowest : ℕ → ℕ) (t : Touch) → IsInRange g t → IsInRange g (kept g.ends lowest t)
kept_in_range g lowest t h = elim (cases_Bool (straddles g.ends lowest t)) [ inl y ↦ rw y tt | inr n ↦ rw n h ]

-- what remains is in range
pub remaining_in_range : (g : Graph) (lowest : ℕ → ℕ) (touches : List Touch) → AreInRange g touches → AreInRange g (remaining g.ends lowest touches)
remaining_in_range g lowest touches h =
    All-from_In (IsInRange g) (remaining g.ends lowest touches) (λ t i. let p = In-map_from (kept g.ends lowest) t touches i in
    rw p.2 (kept_in_range g lowest p.0 (In-from_All (IsInRange g) touches h p.0 p.1)))

any_suc : (p : Touch → Bool) (xs : List Touch) (i : ℕ) → i < length xs → list_any p (take (suc i) xs) ≡ (list_any p (take i xs) || p (get_or xs i Nothing))
any_suc p [] i l = absurd (omega arith)
any_suc p (x ∷ xs) zero l = or_none (p x)
  where
    or_none : (b : Bool) → (b || false) ≡ b
    or_none true = refl
    or_none false = refl
any_suc p (x ∷ xs) (suc i) l = ap (λ b. p x || b) (any_suc p xs i (omega arith)) ∙ or_apart (p x) (list_any p (take i xs)) (p (get_or xs i Nothing))
  where
    or_apart : (a b c : Bool) → (a || (b || c)) ≡ ((a || b) || c)
    or_apart true b c = refl
    or_apart false b c = refl

any_more : (p : Touch → Bool) (xs : List Touch) (i : ℕ) → i < length xs → list_any p (take (i + 1) xs) ≡ (list_any p (take i xs) || p (get_or xs i Nothing))
any_more p xs i l = let e : i + 1 ≡ suc i = omega arith in rw e (any_suc p xs i l)

-- the first i items are as they remain, and the others as they were; `some` says whether one of the first straddles
pub record IsKeeping (ends : List (Option Ends)) (lowest : ℕ → ℕ) (before now : List Touch) (i : ℕ) (some : Bool) : Type 0 where
  pub any : some ≡ list_any (straddles ends lowest) (take i before)
  pub one_each : length now ≡ length before
  pub done : (k : ℕ) → k < i → get_or now k Nothing ≡ kept ends lowest (get_or before k Nothing)
  pub left : (k : ℕ) → i ≤ k → get_or now k Nothing ≡ get_or before k Nothing

or_false : (a b : Bool) → b ≡ false → (a || b) ≡ a
or_false true b f = refl
or_false false b f = f

module _ (ends : List (Option Ends)) (lowest : ℕ → ℕ) (before now : List Touch) (i : ℕ) (some : Bool) (h : IsKeeping ends lowest before now i some) where
  -- what straddles is discarded
  pub Keeping-less : i < length before → straddles ends lowest (get_or now i Nothing) ≡ true → IsKeeping ends lowest before (set now i Nothing) (i + 1) true
  Keeping-less low t = record {
    any = sym (any_more (straddles ends lowest) before i low ∙ or_right (list_any (straddles ends lowest) (take i before)) (straddles ends lowest (get_or before i Nothing)) (ap (straddles ends lowest) (sym (h.left i (omega arith))) ∙ t));
    one_each = length-set now i Nothing ∙ h.one_each;
    done = λ k l. elim (cases_eq k i) [
      | inl y ↦
          let was : straddles ends lowest (get_or before k Nothing) ≡ true = ap (λ j. straddles ends lowest (get_or before j Nothing)) y ∙ (ap (straddles ends lowest) (sym (h.left i (omega arith))) ∙ t) in
          ap (λ j. get_or (set now i Nothing) j Nothing) y ∙ (get_or-set_same now i Nothing Nothing (let e = h.one_each in omega (arith, e, low)) ∙ sym (rw was refl))
      | inr n ↦ get_or-set_other now i k Nothing Nothing n ∙ h.done k (omega (arith, l, n))
    ];
    left = λ k l. get_or-set_other now i k Nothing Nothing (λ y. omega (arith, l, y)) ∙ h.left k (omega (arith, l));
  }

  -- the others stay
  pub Keeping-same : i < length before → straddles ends lowest (get_or now i Nothing) ≡ false → IsKeeping ends lowest before now (i + 1) some
  Keeping-same low f = record {
    any = h.any ∙ sym (any_more (straddles ends lowest) before i low ∙ or_false (list_any (straddles ends lowest) (take i before)) (straddles ends lowest (get_or before i Nothing)) (ap (straddles ends lowest) (sym (h.left i (omega arith))) ∙ f));
    one_each = h.one_each;
    done = λ k l. elim (cases_eq k i) [
      | inl y ↦
          let at = h.left i (omega arith) in
          ap (λ j. get_or now j Nothing) y ∙ (at ∙ (sym (kept-other ends lowest (get_or before i Nothing) (ap (straddles ends lowest) (sym at) ∙ f)) ∙ ap (λ j. kept ends lowest (get_or before j Nothing)) (sym y)))
      | inr n ↦ h.done k (omega (arith, l, n))
    ];
    left = λ k l. h.left k (omega (arith, l));
  }

  pub any_ended : length before ≤ i → some ≡ list_any (straddles ends lowest) before
  any_ended l = h.any ∙ ap (list_any (straddles ends lowest)) (take_all i before l)

  pub Keeping-ended : length before ≤ i → now ≡ remaining ends lowest before
  Keeping-ended l = ext_get_or Nothing now (remaining ends lowest before) (h.one_each ∙ sym (length-map before (kept ends lowest)))
      (λ k low. let e = h.one_each in h.done k (omega (arith, low, e, l)) ∙ sym (remaining_at ends lowest before k))
