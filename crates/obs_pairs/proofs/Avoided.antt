-- Meters that some sources don't reach: a closed set holds these sources, and not the meter.
use Rattle.std.proofs.Common.{◌≡◌, ℕ, ◌<◌, Bool, true, false, not, ◌||◌, eqb, None, List, length, refl, sym, ap, ◌∙◌, subst, inl, inr, arith}
use Rattle.std.proofs.lemmas.Bool.{and_parts, cases_eq, ne_eqb, not-true, or_cases, or_left, or_right}
use Rattle.obs_graph.specs.Graph.{Graph}
use Rattle.obs_graph.specs.Positions.{AreBranches}
use Rattle.obs_matroid.specs.Assignments.{IsAssignment, Pair, items}
use Rattle.obs_matroid.specs.inner.Assignments.{IsRho}
use Rattle.obs_matroid.specs.inner.Closed.{HoldsSources, IsClosed, every, none}
use Rattle.obs_matroid.specs.inner.Critical.{IsCritical}
use Rattle.obs_matroid.specs.Lists.{In, IsDistinct, other_than, without}
use Rattle.obs_matroid.specs.Matroid.{Matroid}
use Rattle.obs_matroid.specs.inner.Matroid.{IsMatroid}
use Rattle.obs_matroid.proofs.Closed.{IsClosed-union}
use Rattle.obs_matroid.proofs.Critical.{closed_tight, longest_from_closed, tight_outside}
use Rattle.obs_matroid.proofs.Heredity.{critical_within}
use Rattle.obs_matroid.proofs.Pairs.{In-items}
use Rattle.obs_matroid.proofs.Lists.{IsDistinct-filter, In-filter, In-filter_from, clash, other_ne, other_true}
use Rattle.obs_meter.specs.declared.Touch.{Touch}
use Rattle.obs_meter.specs.Lost.{losing}
use Rattle.obs_meter.specs.inner.Lost.{left_of}
use Rattle.obs_meter.specs.Spanned.{graph_matroid}
use Rattle.obs_meter.specs.Touches.{is_live, live_items, touch_at}
use Rattle.obs_meter.proofs.Assigned.{every-to_live, live-to_every, live_items-distinct, rho-to_matroid}
use Rattle.obs_meter.proofs.Instance.{IsMatroid-graph}
use Rattle.obs_meter.proofs.Lost.{live-losing}
use Rattle.obs_meter.proofs.Live.{In-live, live-from_live_items}
use Rattle.obs_assign.specs.Assignment.{Assignment}
use Rattle.obs_assign.specs.inner.Assignment.{branch_at, is_frozen, pairs}
use Rattle.obs_assign.proofs.Standing.{IsAssignmentAt-standing}
use Rattle.obs_exchange.specs.Critical.{critical_at}
use Rattle.obs_exchange.specs.inner.Longest.{IsLongest}
use Rattle.obs_exchange.specs.inner.Ordered.{IsLeastClosedFrom}
use Rattle.obs_exchange.proofs.AtGraph.{IsAssignment-live, IsClosed-to_matroid, bare-from_out, out-from_bare}
use Rattle.obs_exchange.proofs.Lawful.{IsCritical-from_matroid, IsCritical-to_matroid, critical_at-exactly}
use Rattle.obs_exchange.proofs.Losing.{most-left, most-longest, stands-left}
use Rattle.obs_pairs.specs.Partners.{class_at}
use Rattle.obs_pairs.specs.inner.Settled.{redundant_at}
use Rattle.obs_pairs.proofs.Left.{critical-left}
use Rattle.obs_pairs.proofs.Partnered.{classes_at, newly_critical_at, partners_at-both_ways, redundant-from, redundant-parts}

-- what a closed set that holds every source lacks is critical
outside_critical : (g : Matroid) (laws : IsMatroid g) (touch : ℕ → List ℕ) (M : List ℕ) (A : List Pair) (S : ℕ → Bool) → IsDistinct M → IsAssignment g touch M A
    → IsClosed g touch M none A S → HoldsSources M every A S → (k : ℕ) → In k M → S k ≡ false → IsCritical g touch M k
outside_critical g laws touch M A S d a c h k i out =
    let rho : IsRho g touch M (length A) = record { longest = A; assigns = a; long = refl; none_longer = longest_from_closed g laws touch M A S a c h } in
    tight_outside g laws touch M S d (subst (λ (r : ℕ). IsRho g touch M r) (sym (closed_tight g laws touch M A S d a c h)) rho) k i out

-- an item without a pair in a longest assignment can be left out
without_bare : (g : Matroid) (touch : ℕ → List ℕ) (M : List ℕ) (A : List Pair) (u : ℕ) → IsAssignment g touch M A → ((p : Pair) → In p A → p.0 ≡ u → ⊥) → IsAssignment g touch (without u M) A
without_bare g touch M A u a out = record {
  of_items = λ p i. In-filter (other_than u) p.0 M (a.of_items p i) (other_true u p.0 (out p i));
  touched = a.touched;
  different = a.different;
  independent = a.independent;
}

-- a closed set of the live meters holds the sources that the test asks for, and not the meter
pub record IsAvoided (g : Graph) (touches : List Touch) (a : Assignment) (from : ℕ → Bool) (k : ℕ) : Type 0 where
  pub set : ℕ → Bool
  pub closed : IsClosed (graph_matroid g.vertices g.ends) (touch_at g.ends touches) (live_items g.ends touches) none (pairs a) set
  pub holds : HoldsSources (live_items g.ends touches) from (pairs a) set
  pub out : set k ≡ false

module _ (g : Graph) (touches : List Touch) (a : Assignment) (ok : AreBranches g.vertices g.ends) where
  -- no source at all
  pub avoided_none : (from : ℕ → Bool) (k : ℕ) → ((m : ℕ) → from m ≡ false) → IsAvoided g touches a from k
  avoided_none from k none_of = record {
    set = λ x. false;
    closed = record { spanned = λ m e i t j. clash t refl };
    holds = λ m i f out. clash f (none_of m);
    out = refl;
  }

  -- fewer sources; only meters without a pair are sources
  pub avoided_less : (p q : ℕ → Bool) (k : ℕ) → ((m : ℕ) → is_live g.ends touches m ≡ true → branch_at a m ≡ None → q m ≡ true → p m ≡ true) → IsAvoided g touches a p k → IsAvoided g touches a q k
  avoided_less p q k less h = record {
    set = h.set;
    closed = h.closed;
    holds = λ m i f out. h.holds m i (less m (live-from_live_items g.ends touches m i) (bare-from_out a m out) f) out;
    out = h.out;
  }

  -- the sources of both
  pub avoided_both : (p q : ℕ → Bool) (k : ℕ) → IsAvoided g touches a p k → IsAvoided g touches a q k → IsAvoided g touches a (λ x. p x || q x) k
  avoided_both p q k s t = record {
    set = λ x. s.set x || t.set x;
    closed = IsClosed-union (graph_matroid g.vertices g.ends) (IsMatroid-graph g.vertices g.ends ok) (touch_at g.ends touches) none (pairs a) (live_items g.ends touches) s.set t.set s.closed t.closed;
    holds = λ m i f out. elim (or_cases (p m) (q m) f) [
      | inl y ↦ or_left (s.set m) (t.set m) (s.holds m i y out)
      | inr y ↦ or_right (s.set m) (t.set m) (t.holds m i y out)
    ];
    out = rw (s.out, t.out) refl;
  }

  module _ (h : IsLongest g touches a) where
    -- all sources together reach what is redundant
    pub avoided_all : (k : ℕ) → redundant_at g.vertices g.ends touches k ≡ true → IsAvoided g touches a every k → ⊥
    avoided_all k red s =
        let n = g.vertices in
        let M = live_items g.ends touches in
        let u = redundant-parts n g.ends touches ok k red in
        u.1 (IsCritical-from_matroid n g.ends touches M k u.0
        (outside_critical (graph_matroid n g.ends) (IsMatroid-graph n g.ends ok) (touch_at g.ends touches) M (pairs a) s.set (live_items-distinct g.ends touches) (IsAssignment-live n a g touches h.whole h.stands)
        s.closed s.holds k u.0 s.out))

    module _ (u : ℕ) (live : is_live g.ends touches u ≡ true) (bare : branch_at a u ≡ None) where
      less_bare : IsAssignment (graph_matroid g.vertices g.ends) (touch_at g.ends touches) (without u (live_items g.ends touches)) (pairs a)
      less_bare =
          without_bare (graph_matroid g.vertices g.ends) (touch_at g.ends touches) (live_items g.ends touches) (pairs a) u (IsAssignment-live g.vertices a g touches h.whole h.stands)
          (λ p i e. out-from_bare a u bare (subst (λ (x : ℕ). In x (items (pairs a))) e (In-items (pairs a) p i)))

      -- a meter without a pair is redundant
      pub bare_redundant : redundant_at g.vertices g.ends touches u ≡ true
      bare_redundant =
          let n = g.vertices in
          let M = live_items g.ends touches in
          let i = In-live g.ends touches u live in
          let rho = rho-to_matroid n g.ends touches M (length (pairs a)) h.longest in
          let less : IsRho (graph_matroid n g.ends) (touch_at g.ends touches) (without u M) (length (pairs a)) = record {
            longest = pairs a;
            assigns = less_bare;
            long = refl;
            none_longer = λ B b. rho.none_longer B (record {
              of_items = λ p j. (In-filter_from (other_than u) p.0 M (b.of_items p j)).0;
              touched = b.touched;
              different = b.different;
              independent = b.independent;
            });
          } in
          redundant-from n g.ends touches ok u i (λ c.
          let falls : length (pairs a) < length (pairs a) = IsCritical-to_matroid n g.ends touches M u c (length (pairs a)) (length (pairs a)) rho less in
          omega (arith, falls))

      -- what the others without a pair don't reach has its class
      pub class_of_avoided : (k : ℕ) → redundant_at g.vertices g.ends touches k ≡ true → IsAvoided g touches a (λ v. not (eqb v u)) k → class_at g.vertices g.ends touches k ≡ class_at g.vertices g.ends touches u
      class_of_avoided k red s = elim (cases_eq k u) [
        | inl e ↦ ap (class_at g.vertices g.ends touches) e
        | inr apart ↦
            let n = g.vertices in
            let M = live_items g.ends touches in
            let d = live_items-distinct g.ends touches in
            let at_k = redundant-parts n g.ends touches ok k red in
            let at_u = redundant-parts n g.ends touches ok u bare_redundant in
            let i : In k (without u M) = In-filter (other_than u) k M at_k.0 (other_true u k apart) in
            let c : IsCritical (graph_matroid n g.ends) (touch_at g.ends touches) (without u M) k =
            outside_critical (graph_matroid n g.ends) (IsMatroid-graph n g.ends ok) (touch_at g.ends touches) (without u M) (pairs a) s.set (IsDistinct-filter (other_than u) M d) less_bare
            (record { spanned = λ m e j t f. s.closed.spanned m e (In-filter_from (other_than u) m M j).0 t f })
            (λ m j f out.
            let w = In-filter_from (other_than u) m M j in
            s.holds m w.0 (ap not (ne_eqb m u (other_ne u m w.1))) out)
            k i s.out in
            (classes_at n g.ends touches ok k u).1
            (inr (partners_at-both_ways n g.ends touches ok M d u k ((newly_critical_at n g.ends touches ok M d u k at_u.0 at_u.1).0 (IsCritical-from_matroid n g.ends touches (without u M) k i c, at_k.1))))
      ]

      -- what is redundant where it is lost has another class
      pub apart_lost : (lost : ℕ → Bool) (k : ℕ) → lost u ≡ true → redundant_at g.vertices g.ends (losing lost touches) k ≡ true → class_at g.vertices g.ends touches k ≡ class_at g.vertices g.ends touches u → ⊥
      apart_lost lost k gone red e =
          let n = g.vertices in
          let M = live_items g.ends touches in
          let d = live_items-distinct g.ends touches in
          let left = losing lost touches in
          let r = and_parts (is_live g.ends left k) (not (critical_at n g.ends left k)) red in
          let l = and_parts (is_live g.ends touches k) (not (lost k)) (sym (live-losing lost touches g.ends k) ∙ r.0) in
          let kept = not-true (lost k) l.1 in
          elim ((classes_at n g.ends touches ok k u).0 e) [
            | inl same ↦ clash (ap lost same ∙ gone) kept
            | inr p ↦
                let at_u = redundant-parts n g.ends touches ok u bare_redundant in
                let new = (newly_critical_at n g.ends touches ok M d u k at_u.0 at_u.1).1 (partners_at-both_ways n g.ends touches ok M d k u p) in
                let i = In-live g.ends touches k l.0 in
                let fewer : In k (left_of lost M) = In-filter (λ m. not (lost m)) k M i l.1 in
                let c : IsCritical (graph_matroid n g.ends) (touch_at g.ends touches) (left_of lost M) k =
                critical_within (graph_matroid n g.ends) (IsMatroid-graph n g.ends ok) (touch_at g.ends touches) (left_of lost M) (without u M) k (IsDistinct-filter (λ m. not (lost m)) M d) (IsDistinct-filter (other_than u) M d)
                (λ x j. let w = In-filter_from (λ m. not (lost m)) x M j in
                In-filter (other_than u) x M w.0 (other_true u x (λ same. clash (ap lost same ∙ gone) (not-true (lost x) w.1))))
                fewer (IsCritical-to_matroid n g.ends touches (without u M) k new.0) in
                clash ((critical_at-exactly n g.ends left ok k).1 (r.0, (critical-left lost g.ends touches k).1 (IsCritical-from_matroid n g.ends touches (left_of lost M) k fewer c)))
                (not-true (critical_at n g.ends left k) r.1)
          ]

    -- what isn't reached from the sources that a test asks for
    pub avoided_front : (from S : ℕ → Bool) → IsLeastClosedFrom g.ends touches from a S → (k : ℕ) → S k ≡ false → IsAvoided g touches a from k
    avoided_front from S c k f =
        let same : is_frozen a ≡ none = λ i m. h.thawed m i in
        record {
          set = S;
          closed = subst (λ (t : ℕ → Bool). IsClosed (graph_matroid g.vertices g.ends) (touch_at g.ends touches) (live_items g.ends touches) t (pairs a) S) same
              (IsClosed-to_matroid g.vertices a g touches h.stands (live_items g.ends touches) S c.closed);
          holds = λ m i t out. c.holds m t (live-from_live_items g.ends touches m i, bare-from_out a m out);
          out = f;
        }

    module _ (lost : ℕ → Bool) (bare : (m : ℕ) → lost m ≡ true → branch_at a m ≡ None) where
      -- the pairs are as many as there can be where meters without pairs are lost
      pub longest_left : IsLongest g (losing lost touches) a
      longest_left =
          let stands = stands-left lost g touches a h.stands bare in
          record {
            stands = stands;
            whole = h.whole;
            thawed = h.thawed;
            longest = record {
              longest = pairs a;
              assigns = every-to_live g.ends (losing lost touches) (pairs a) (IsAssignmentAt-standing a g (losing lost touches) h.whole stands);
              long = refl;
              none_longer = λ B b. most-left lost g.ends touches (length (pairs a)) (most-longest g touches a h) B (live-to_every g.ends (losing lost touches) B b);
            };
          }
