-- Partners among the live meters of a graph, and their classes.
use Rattle.std.proofs.Common.{◌≡◌, ◌≢◌, ◌↔◌, ◌⊎◌, ℕ, ◌≤◌, Bool, true, false, not, ◌&&◌, ◌||◌, eqb, Option, List, [], ◌∷◌, length, refl, sym, ap, ◌∙◌, subst, inl, inr, arith}
use Rattle.std.proofs.lemmas.Bool.{and_from, and_parts, cases_Bool, cases_lt, eq-eqb, eqb-true, not-true, or_cases, or_left, or_right}
use Rattle.obs_graph.specs.declared.Ends.{Ends}
use Rattle.obs_graph.specs.Positions.{AreBranches}
use Rattle.obs_matroid.specs.Lists.{In, IsDistinct, IsRising, other_than, without}
use Rattle.obs_matroid.specs.Partners.{first_passing}
use Rattle.obs_matroid.specs.inner.Partners.{ArePartners}
use Rattle.obs_matroid.proofs.Lists.{In-filter, In-filter_from, clash, other_true}
use Rattle.obs_matroid.proofs.Partners.{is_partner_is, newly_critical, one_class, partners_apart, partners_both_ways, partners_in, partners_together}
use Rattle.obs_matroid.proofs.Ranges.{range_rising, rising_filter}
use Rattle.obs_meter.specs.declared.Touch.{Touch}
use Rattle.obs_meter.specs.Assignments.{IsRhoAt}
use Rattle.obs_meter.specs.Spanned.{graph_matroid}
use Rattle.obs_meter.specs.Touches.{every_item, is_live, live_items, touch_at}
use Rattle.obs_meter.proofs.Assigned.{live_items-distinct, rho-from_matroid, rho-to_matroid, rho_at-unique}
use Rattle.obs_meter.proofs.Instance.{IsMatroid-graph}
use Rattle.obs_meter.proofs.Live.{In-live, live-from_live_items}
use Rattle.obs_exchange.specs.Critical.{IsCriticalAt, critical_at}
use Rattle.obs_exchange.proofs.Lawful.{IsCritical-from_matroid, IsCritical-to_matroid, critical_at-exactly}
use Rattle.obs_pairs.specs.Partners.{class_at}
use Rattle.obs_pairs.specs.inner.Partners.{ArePartnersAt, IsFirstOfClass, partner_at}
use Rattle.obs_pairs.specs.inner.Settled.{redundant_at}

-- the first that passes does pass, and stands no later than any that does
first_passes : (test : ℕ → Bool) (d : ℕ) (xs : List ℕ) → test d ≡ true → test (first_passing test d xs) ≡ true
first_passes test d [] t = t
first_passes test d (x ∷ xs) t = elim (cases_Bool (test x)) [ inl y ↦ rw y y | inr n ↦ rw n (first_passes test d xs t) ]

first_low : (test : ℕ → Bool) (d m : ℕ) (xs : List ℕ) → IsRising xs → In m xs → test m ≡ true → first_passing test d xs ≤ m
first_low test d m [] r i t = absurd i
first_low test d m (x ∷ xs) r (inl e) t =
    let y : test x ≡ true = ap test (sym e) ∙ t in
    rw y (omega (arith, e))
first_low test d m (x ∷ xs) r (inr i) t = elim (cases_Bool (test x)) [
  | inl y ↦ rw y (let l = r.0 m i in omega (arith, l))
  | inr n ↦ rw n (first_low test d m xs r.1 i t)
]

module _ (n : ℕ) (ends : List (Option Ends)) (touches : List Touch) (ok : AreBranches n ends) where
  -- partners over the graph are those over its matroid
  module _ (M : List ℕ) (d : IsDistinct M) where
    pub partners-to_matroid : (m k : ℕ) → ArePartnersAt ends touches M m k → ArePartners (graph_matroid n ends) (touch_at ends touches) M m k
    partners-to_matroid m k h = record {
      one_noncritical = λ c. h.one_noncritical (IsCritical-from_matroid n ends touches M m h.one c);
      other_noncritical = λ c. h.other_noncritical (IsCritical-from_matroid n ends touches M k h.other c);
      falls = λ r s p q. h.falls r s (rho-from_matroid n ends touches M r p) (rho-from_matroid n ends touches (without k (without m M)) s q);
    }

    pub partners-from_matroid : (m k : ℕ) → ArePartners (graph_matroid n ends) (touch_at ends touches) M m k → ArePartnersAt ends touches M m k
    partners-from_matroid m k h =
        let within = partners_in (graph_matroid n ends) (IsMatroid-graph n ends ok) (touch_at ends touches) M d m k h in
        record {
          one = within.0;
          other = within.1;
          different = λ e. partners_apart (graph_matroid n ends) (IsMatroid-graph n ends ok) (touch_at ends touches) M d m k h e;
          one_noncritical = λ c. h.one_noncritical (IsCritical-to_matroid n ends touches M m c);
          other_noncritical = λ c. h.other_noncritical (IsCritical-to_matroid n ends touches M k c);
          falls = λ r s p q. h.falls r s (rho-to_matroid n ends touches M r p) (rho-to_matroid n ends touches (without k (without m M)) s q);
        }

    -- the partners of what is redundant are what is critical without it alone
    pub newly_critical_at : (m k : ℕ) → In m M → (IsCriticalAt ends touches M m → ⊥)
        → (IsCriticalAt ends touches (without m M) k × (IsCriticalAt ends touches M k → ⊥)) ↔ ArePartnersAt ends touches M m k
    newly_critical_at m k i red =
        let new = newly_critical (graph_matroid n ends) (IsMatroid-graph n ends ok) (touch_at ends touches) M d m k (λ c. red (IsCritical-from_matroid n ends touches M m i c)) in (
          (λ c.
              let j : In k M = (In-filter_from (other_than m) k M c.0.item).0 in
              partners-from_matroid m k (new.0 (IsCritical-to_matroid n ends touches (without m M) k c.0, λ x. c.1 (IsCritical-from_matroid n ends touches M k j x)))),
          (λ p.
              let apart : k ≡ m → ⊥ = λ e. p.different (sym e) in (
                IsCritical-from_matroid n ends touches (without m M) k (In-filter (other_than m) k M p.other (other_true m k apart)) (new.1 (partners-to_matroid m k p)).0,
                p.other_noncritical,
              )),
        )

    -- without what is redundant the greatest length is no less
    pub rho-redundant : (m r s : ℕ) → In m M → (IsCriticalAt ends touches M m → ⊥) → IsRhoAt ends touches M r → IsRhoAt ends touches (without m M) s → r ≤ s
    rho-redundant m r s i red p q = elim (cases_lt s r) [
      | inl l ↦ absurd (red (record {
        item = i;
        falls = λ r2 s2 p2 q2.
            let a = rho_at-unique ends touches M r r2 p p2 in
            let b = rho_at-unique ends touches (without m M) s s2 q q2 in
            omega (arith, a, b, l);
      }))
      | inr l ↦ l
    ]

    pub partners_at-both_ways : (m k : ℕ) → ArePartnersAt ends touches M m k → ArePartnersAt ends touches M k m
    partners_at-both_ways m k p =
        partners-from_matroid k m (partners_both_ways (graph_matroid n ends) (IsMatroid-graph n ends ok) (touch_at ends touches) M d m k (partners-to_matroid m k p))

    pub partners_at-together : (m k x : ℕ) → ArePartnersAt ends touches M m k → ArePartnersAt ends touches M m x → k ≢ x → ArePartnersAt ends touches M k x
    partners_at-together m k x p q apart =
        partners-from_matroid k x (partners_together (graph_matroid n ends) (IsMatroid-graph n ends ok) (touch_at ends touches) M d m k x (partners-to_matroid m k p) (partners-to_matroid m x q) (λ e. apart e))

  abbrev live : List ℕ
  live = live_items ends touches

  live_rising : IsRising live
  live_rising = rising_filter (is_live ends touches) (every_item touches) (range_rising 0 (length touches))

  different : IsDistinct live
  different = live_items-distinct ends touches

  -- the test is the relation
  pub partner_at-exactly : (m k : ℕ) → (partner_at n ends touches m k ≡ true) ↔ ArePartnersAt ends touches live m k
  partner_at-exactly m k =
      let is = is_partner_is (graph_matroid n ends) (IsMatroid-graph n ends ok) (touch_at ends touches) live different m k in
      ((λ t. partners-from_matroid live different m k (is.0 t)), (λ p. is.1 (partners-to_matroid live different m k p)))

  pub classes_at : (m k : ℕ) → (class_at n ends touches m ≡ class_at n ends touches k) ↔ ((m ≡ k) ⊎ ArePartnersAt ends touches live m k)
  classes_at m k =
      let is = one_class (graph_matroid n ends) (IsMatroid-graph n ends ok) (touch_at ends touches) live different m k in (
        (λ e. elim (is.0 e) [ inl s ↦ inl s | inr p ↦ inr (partners-from_matroid live different m k p) ]),
        (λ s. elim s [ inl e ↦ is.1 (inl e) | inr p ↦ is.1 (inr (partners-to_matroid live different m k p)) ]),
      )

  -- a redundant meter is live and not critical
  pub redundant-parts : (m : ℕ) → redundant_at n ends touches m ≡ true → In m live × (IsCriticalAt ends touches live m → ⊥)
  redundant-parts m t =
      let u = and_parts (is_live ends touches m) (not (critical_at n ends touches m)) t in (
        In-live ends touches m u.0,
        (λ c. clash ((critical_at-exactly n ends touches ok m).1 (u.0, c)) (not-true (critical_at n ends touches m) u.1)),
      )

  pub redundant-from : (m : ℕ) → In m live → (IsCriticalAt ends touches live m → ⊥) → redundant_at n ends touches m ≡ true
  redundant-from m i red =
      and_from (is_live ends touches m) (not (critical_at n ends touches m)) (live-from_live_items ends touches m i) (elim (cases_Bool (critical_at n ends touches m)) [
        | inl t ↦ absurd (red ((critical_at-exactly n ends touches ok m).0 t).1)
        | inr f ↦ ap not f
      ])

  -- the class of a meter is this one or a partner
  pub class_own : (m : ℕ) → (class_at n ends touches m ≡ m) ⊎ ArePartnersAt ends touches live m (class_at n ends touches m)
  class_own m =
      let test : ℕ → Bool = λ x. eqb x m || partner_at n ends touches m x in
      let t : test (class_at n ends touches m) ≡ true = first_passes test m live (or_left (eqb m m) (partner_at n ends touches m m) (eq-eqb m m refl)) in
      elim (or_cases (eqb (class_at n ends touches m) m) (partner_at n ends touches m (class_at n ends touches m)) t) [
        | inl e ↦ inl (eqb-true (class_at n ends touches m) m e)
        | inr p ↦ inr ((partner_at-exactly m (class_at n ends touches m)).0 p)
      ]

  pub class_low : (m : ℕ) → class_at n ends touches m ≤ m
  class_low m = elim (class_own m) [
    | inl e ↦ omega (arith, e)
    | inr p ↦ first_low (λ x. eqb x m || partner_at n ends touches m x) m m live live_rising p.one
        (or_left (eqb m m) (partner_at n ends touches m m) (eq-eqb m m refl))
  ]

  -- and the first of them
  pub class_first : (m : ℕ) → IsFirstOfClass ends touches live m (class_at n ends touches m)
  class_first m = record {
    of_class = class_own m;
    not_above = class_low m;
    first = λ x p. first_low (λ y. eqb y m || partner_at n ends touches m y) m x live live_rising p.other
        (or_right (eqb x m) (partner_at n ends touches m x) ((partner_at-exactly m x).1 p));
  }

  -- a class is its own
  pub class_again : (m : ℕ) → class_at n ends touches (class_at n ends touches m) ≡ class_at n ends touches m
  class_again m = elim (class_own m) [
    | inl e ↦ ap (class_at n ends touches) e
    | inr p ↦ sym ((classes_at m (class_at n ends touches m)).1 (inr p))
  ]

  pub class_redundant : (m : ℕ) → redundant_at n ends touches m ≡ true → redundant_at n ends touches (class_at n ends touches m) ≡ true
  class_redundant m t = elim (class_own m) [
    | inl e ↦ subst (λ (x : ℕ). redundant_at n ends touches x ≡ true) (sym e) t
    | inr p ↦ redundant-from (class_at n ends touches m) p.other p.other_noncritical
  ]

  -- what isn't redundant has no partner
  pub class_alone : (m : ℕ) → redundant_at n ends touches m ≡ false → class_at n ends touches m ≡ m
  class_alone m f = elim (class_own m) [ inl e ↦ e | inr p ↦ clash (redundant-from m p.one p.one_noncritical) f ]

  pub class_lone : (m : ℕ) → ((is_live ends touches m ≡ false) ⊎ (critical_at n ends touches m ≡ true)) → class_at n ends touches m ≡ m
  class_lone m h = class_alone m (elim h [ inl f ↦ idle (is_live ends touches m) (critical_at n ends touches m) f | inr t ↦ critical (is_live ends touches m) (critical_at n ends touches m) t ])
    where
      idle : (a b : Bool) → a ≡ false → (a && not b) ≡ false
      idle a b f = rw f refl

      critical : (a b : Bool) → b ≡ true → (a && not b) ≡ false
      critical true b t = rw t refl
      critical false b t = refl
