-- A search that marks items in the order of a queue: its parents give an exchange path, or its marks are the least closed set.
use Rattle.std.proofs.Common.{◌≡◌, ℕ, zero, suc, ◌≤◌, ◌<◌, List, [], ◌∷◌, inl, inr, Bool, true, false, cond, arith}
use Rattle.std.proofs.lemmas.Bool.{cases_Bool}
use Rattle.obs_matroid.specs.Lists.{In}
use Rattle.obs_matroid.specs.Matroid.{Matroid}
use Rattle.obs_matroid.specs.inner.Matroid.{IsMatroid}
use Rattle.obs_matroid.specs.Assignments.{Pair, items, branches, IsAssignment}
use Rattle.obs_matroid.specs.inner.Assignments.{others}
use Rattle.obs_matroid.specs.inner.Closed.{HasFrozen, HoldsSources, IsLeastClosed, IsGrown}
use Rattle.obs_matroid.specs.inner.Exchange.{put_all, source}
use Rattle.obs_matroid.proofs.Search.{Trail, Reached, start, step, Trail-grows}
use Rattle.obs_matroid.proofs.Least.{least_closed}

module _ (g : Matroid) (touch : ℕ → List ℕ) (M : List ℕ) (frozen from : ℕ → Bool) (A : List Pair)
    (marked root : ℕ → Bool) (parent : ℕ → Pair) (place : ℕ → ℕ) where
  -- an item of the queue: a source, or one that an earlier item led to
  pub record IsRoot (x : ℕ) : Type 0 where
    pub of_items : In x M
    pub is_source : from x ≡ true
    pub bare : In x (items A) → ⊥

  pub record IsLed (x : ℕ) : Type 0 where
    pub earlier : marked (parent x).0 ≡ true
    pub before : place (parent x).0 < place x
    pub touched : In (parent x).1 (touch (parent x).0)
    pub spanned : g.spans (branches A) (parent x).1 ≡ true
    pub on_circuit : g.spans (others A x) (parent x).1 ≡ false

  -- the queue in the order in which items were marked: an item on the cycle of a branch was marked when that branch was looked at, or before
  pub record IsQueue : Type 0 where
    pub inside : (x : ℕ) → marked x ≡ true → In x M × (frozen x ≡ false)
    pub roots : (x : ℕ) → marked x ≡ true → root x ≡ true → IsRoot x
    pub led : (x : ℕ) → marked x ≡ true → root x ≡ false → IsLed x
    pub in_order : (x y : ℕ) → marked x ≡ true → root x ≡ false → marked y ≡ true → root y ≡ false
        → g.spans (others A x) (parent y).1 ≡ false → place (parent x).0 ≤ place (parent y).0

  -- the moves from x back to a root, by the parents
  unfoldable pub walk : ℕ → ℕ → List Pair
  walk zero x = []
  walk (suc n) x = cond (root x) [] (parent x ∷ walk n (parent x).0)

  module _ (q : IsQueue) where
    abbrev IsMove : ℕ → Pair → Type 0
    IsMove n p = (y : ℕ) × (marked y ≡ true) × (root y ≡ false) × (p ≡ parent y) × (place y ≤ n)

    -- the parents of a queue lead back without shortcuts
    walk_trail : (n x : ℕ) → place x < n → marked x ≡ true
        → Trail g touch M frozen from A x (walk n x) × ((p : Pair) → In p (walk n x) → IsMove (place x) p)
    unfolding walk
    walk_trail zero x l t = absurd (omega (arith, l))
    walk_trail (suc n) x l t =
        elim (cases_Bool (root x)) [
          | inl r ↦ rw r (let k = q.roots x t r in
              (record { leads = k.bare; moves = λ p i. absurd i; begins = k.is_source; had_none = k.bare }, λ p i. absurd i))
          | inr r ↦
              let k = q.led x t r in
              let m : ℕ = (parent x).0 in
              let b = k.before in
              let w = walk_trail n m (omega (arith, l, b)) k.earlier in
              let u = q.inside m k.earlier in
              rw r (
                record {
                  leads = (
                    record {
                      spanned = k.spanned;
                      on_circuit = k.on_circuit;
                      no_shortcut = λ p i.
                          elim (cases_Bool (g.spans (others A x) p.1)) [
                            | inl y ↦ y
                            | inr n' ↦
                                let v = w.1 p i in
                                let z : g.spans (others A x) (parent v.0).1 ≡ false = rw v.3 at n' in
                                let o = q.in_order x v.0 t r v.1 v.2 z in
                                let e = (q.led v.0 v.1 v.2).before in
                                let f = v.4 in
                                absurd (omega (arith, o, e, f))
                          ];
                    },
                    w.0.leads,
                  );
                  moves = λ p i. elim i [ inl s ↦ rw s (u.0, k.touched, u.1) | inr j ↦ w.0.moves p j ];
                  begins = w.0.begins;
                  had_none = w.0.had_none;
                },
                λ p i. elim i [
                  | inl s ↦ (x, t, r, s, omega arith)
                  | inr j ↦ let v = w.1 p j in let f = v.4 in (v.0, v.1, v.2, v.3, omega (arith, f, b))
                ],
              )
        ]

    pub Trail-queue : (x : ℕ) → marked x ≡ true → Trail g touch M frozen from A x (walk (suc (place x)) x)
    Trail-queue x t = (walk_trail (suc (place x)) x (omega arith) t).0

    reached_by : (n x : ℕ) → place x < n → marked x ≡ true → Reached g touch M frozen from A x
    reached_by zero x l t = absurd (omega (arith, l))
    reached_by (suc n) x l t =
        elim (cases_Bool (root x)) [
          | inl r ↦ let k = q.roots x t r in start k.of_items k.is_source k.bare
          | inr r ↦ let k = q.led x t r in let b = k.before in
              step (parent x).0 (parent x).1 (reached_by n (parent x).0 (omega (arith, l, b)) k.earlier) k.touched k.spanned k.on_circuit (q.inside x t).1
        ]

    -- what is marked is reached
    pub Reached-queue : (x : ℕ) → marked x ≡ true → Reached g touch M frozen from A x
    Reached-queue x t = reached_by (suc (place x)) x (omega arith) t

    module _ (laws : IsMatroid g) (a : IsAssignment g touch M A) (has : HasFrozen frozen A) where
      -- where a marked item touches a free branch, the moves back to a root give one more pair
      pub queue_grows : (x e : ℕ) → marked x ≡ true → In e (touch x) → g.spans (branches A) e ≡ false
          → let back : List Pair = walk (suc (place x)) x in IsGrown g touch M frozen from A (put_all ((x, e) ∷ back) A) (source x back)
      queue_grows x e t k n = let u = q.inside x t in
          Trail-grows g touch M frozen from A laws a has x e (walk (suc (place x)) x) (Trail-queue x t) u.0 u.1 k n

      -- where the marked items touch no free branch, and nothing is left to mark, they are the least closed set
      pub queue_closed : HoldsSources M from A marked
          → ((m : ℕ) → marked m ≡ true → (e : ℕ) → In e (touch m) → g.spans (branches A) e ≡ true)
          → ((m : ℕ) → marked m ≡ true → (e : ℕ) → In e (touch m) → (x : ℕ) → In x (items A) → g.spans (others A x) e ≡ false → frozen x ≡ false → marked x ≡ true)
          → IsLeastClosed g touch M frozen from A marked
      queue_closed = least_closed g laws touch M frozen from A a has marked Reached-queue
