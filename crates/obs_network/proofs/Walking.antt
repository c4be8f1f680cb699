-- A walk from both ends of a row: its queues and labels.
use Rattle.std.proofs.Common.{◌≡◌, ℕ, suc, ◌+◌, ◌<◌, ◌≤◌, false, Option, Some, None, inl, inr, List, length, get_or, set, refl, sym, ap, ◌∙◌, subst, eq-eqb, arith}
use Rattle.std.proofs.lemmas.Bool.{cases_eq, ne_eqb}
use Rattle.std.proofs.lemmas.List.{get_or-set_other, get_or-set_same, length-set}
use Rattle.obs_graph.specs.declared.Ends.{Ends}
use Rattle.obs_graph.specs.Joined.{Chain, count_below}
use Rattle.obs_graph.specs.Positions.{present}
use Rattle.obs_graph.specs.inner.Search.{Reaches}
use Rattle.obs_graph.proofs.Counts.{count_below-agree, count_below-le-n, count_below-none, count_below-one_more}
use Rattle.obs_network.specs.inner.Sides.{AreFollowedUpTo, HaveGrown, IsQueueOf, is_from, label_at}

-- two labels of one vertex are the same
pub one_label : (o : Option ℕ) (u w : ℕ) → o ≡ Some u → o ≡ Some w → u ≡ w
one_label o u w e f = cc

pub no_label : {P : Type 0} (o : Option ℕ) (u : ℕ) → o ≡ None → o ≡ Some u → P
no_label o u e f = absurd cc

-- labels after some more vertices were reached
module _ (before after : List (Option ℕ)) (end : ℕ) (g : HaveGrown before after end) where
  pub label-kept : (v u : ℕ) → label_at before v ≡ Some u → label_at after v ≡ Some u
  label-kept v u is = elim (g v) [
    | inl same ↦ same ∙ is
    | inr new ↦ no_label (label_at before v) u new.0 is
  ]

  pub label-older : (v u : ℕ) → (u ≡ end → ⊥) → label_at after v ≡ Some u → label_at before v ≡ Some u
  label-older v u other is = elim (g v) [
    | inl same ↦ sym same ∙ is
    | inr new ↦ absurd (other (one_label (label_at after v) u end is new.1))
  ]

  pub AreFollowedUpTo-grown : (held : List (Option Ends)) (u : ℕ) (queue : List ℕ) (head : ℕ) → AreFollowedUpTo held before u queue head → AreFollowedUpTo held after u queue head
  AreFollowedUpTo-grown held u queue head f j l w p r = label-kept w u (f j l w p r)

pub HaveGrown-same : (labels : List (Option ℕ)) (end : ℕ) → HaveGrown labels labels end
HaveGrown-same labels end v = inl refl

pub HaveGrown-then : (a b c : List (Option ℕ)) (end : ℕ) → HaveGrown a b end → HaveGrown b c end → HaveGrown a c end
HaveGrown-then a b c end g h v = elim (h v) [
  | inl same ↦ elim (g v) [
    | inl before ↦ inl (same ∙ before)
    | inr new ↦ inr (new.0, same ∙ new.1)
  ]
  | inr new ↦ elim (g v) [
    | inl before ↦ inr (sym before ∙ new.0, new.1)
    | inr old ↦ no_label (label_at b v) end new.0 old.1
  ]
]

pub HaveGrown-set : (labels : List (Option ℕ)) (v end : ℕ) → v < length labels → label_at labels v ≡ None → HaveGrown labels (set labels v (Some end)) end
HaveGrown-set labels v end low bare w = elim (cases_eq w v) [
  | inl e ↦ inr (ap (label_at labels) e ∙ bare, ap (label_at (set labels v (Some end))) e ∙ get_or-set_same labels v (Some end) None low)
  | inr ne ↦ inl (get_or-set_other labels v w (Some end) None ne)
]

from_other : (u end : ℕ) → (u ≡ end → ⊥) → is_from end (Some u) ≡ false
from_other u end other = ne_eqb u end other

-- the queue of an end from which no vertex is reached
pub IsQueueOf-none : (n : ℕ) (held : List (Option Ends)) (labels : List (Option ℕ)) (end : ℕ) (queue : List ℕ) → length queue ≡ length labels → ((v : ℕ) → label_at labels v ≡ Some end → ⊥) → IsQueueOf n held labels end queue 0
IsQueueOf-none n held labels end queue len bare = record {
  places = len;
  few = omega arith;
  count = sym (count_below-none (λ v. is_from end (label_at labels v)) (length labels) (λ v l. other (label_at labels v) (bare v)));
  below = λ j l. absurd (omega (arith, l));
  reached = λ j l. absurd (omega (arith, l));
  queued = λ v is. absurd (bare v is);
  once = λ i j l m. absurd (omega (arith, m));
  joined = λ v is. absurd (bare v is);
}
  where
    other : (o : Option ℕ) → (o ≡ Some end → ⊥) → is_from end o ≡ false
    other None ne = refl
    other (Some u) ne = from_other u end (λ e. ne (ap Some e))

module _ (n : ℕ) (held : List (Option Ends)) (labels : List (Option ℕ)) (end : ℕ) (queue : List ℕ) (tail : ℕ) (q : IsQueueOf n held labels end queue tail) where
  -- vertices reached from another end change nothing
  pub IsQueueOf-grown : (after : List (Option ℕ)) (u : ℕ) → length after ≡ length labels → HaveGrown labels after u → (end ≡ u → ⊥) → IsQueueOf n held after end queue tail
  IsQueueOf-grown after u len g other = record {
    places = q.places ∙ sym len;
    few = q.few;
    count = q.count ∙ (count_below-agree (λ v. is_from end (label_at labels v)) (λ v. is_from end (label_at after v)) (length labels) (λ v l. agree v)
        ∙ ap (λ m. count_below (λ v. is_from end (label_at after v)) m) (sym len));
    below = q.below;
    reached = λ j l. label-kept labels after u g (get_or queue j 0) end (q.reached j l);
    queued = λ v is. q.queued v (label-older labels after u g v end other is);
    once = q.once;
    joined = λ v is. q.joined v (label-older labels after u g v end other is);
  }
    where
      agree : (v : ℕ) → is_from end (label_at labels v) ≡ is_from end (label_at after v)
      agree v = elim (g v) [
        | inl same ↦ ap (is_from end) (sym same)
        | inr new ↦ ap (is_from end) new.0 ∙ sym (ap (is_from end) new.1 ∙ from_other u end (λ e. other (sym e)))
      ]

  -- a vertex that isn't reached yet
  module _ (v : ℕ) (low : v < length labels) (bare : label_at labels v ≡ None) where
    here : label_at (set labels v (Some end)) v ≡ Some end
    here = get_or-set_same labels v (Some end) None low

    one_more : count_below (λ w. is_from end (label_at (set labels v (Some end)) w)) (length labels) ≡ suc tail
    one_more =
        let m = count_below-one_more (λ w. is_from end (label_at labels w)) (λ w. is_from end (label_at (set labels v (Some end)) w)) v (length labels) low
        (ap (is_from end) bare) (ap (is_from end) here ∙ eq-eqb end end refl) (λ w l ne. ap (is_from end) (sym (get_or-set_other labels v w (Some end) None ne))) in
        m ∙ ap suc (sym q.count)

    pub tail_room : tail < length queue
    tail_room =
        let m = count_below-le-n (λ w. is_from end (label_at (set labels v (Some end)) w)) (length labels) in
        omega (arith, m, one_more, q.places)

    at_tail : get_or (set queue tail v) tail 0 ≡ v
    at_tail = get_or-set_same queue tail v 0 tail_room

    before_tail : (j : ℕ) → j < tail → get_or (set queue tail v) j 0 ≡ get_or queue j 0
    before_tail j l = get_or-set_other queue tail j v 0 (λ e. omega (arith, e, l))

    -- P holds of each entry after, where it holds of each before and of v
    entries : (P : ℕ → Type 0) → P v → ((j : ℕ) → j < tail → P (get_or queue j 0)) → (j : ℕ) → j < tail + 1 → P (get_or (set queue tail v) j 0)
    entries P at_v at j l = elim (cases_eq j tail) [
      | inl e ↦ subst P (sym (ap (λ k. get_or (set queue tail v) k 0) e ∙ at_tail)) at_v
      | inr ne ↦ let less : j < tail = omega (arith, l, ne) in subst P (sym (before_tail j less)) (at j less)
    ]

    is_new : (j : ℕ) → j < tail → get_or queue j 0 ≡ v → ⊥
    is_new j l e = no_label (label_at labels v) end bare (sym (ap (label_at labels) e) ∙ q.reached j l)

    pub IsQueueOf-push : v < n → Chain (present held) end v → IsQueueOf n held (set labels v (Some end)) end (set queue tail v) (tail + 1)
    IsQueueOf-push inside chain =
        let g = HaveGrown-set labels v end low bare in record {
          places = length-set queue tail v ∙ (q.places ∙ sym (length-set labels v (Some end)));
          few = omega (arith, tail_room, length-set queue tail v);
          count = subst (λ m. tail + 1 ≡ count_below (λ w. is_from end (label_at (set labels v (Some end)) w)) m) (sym (length-set labels v (Some end))) (omega (arith, one_more));
          below = entries (λ w. w < n) inside q.below;
          reached = entries (λ w. label_at (set labels v (Some end)) w ≡ Some end) here (λ j l. label-kept labels (set labels v (Some end)) end g (get_or queue j 0) end (q.reached j l));
          queued = λ w is. elim (cases_eq w v) [
            | inl e ↦ (tail, omega arith, at_tail ∙ sym e)
            | inr ne ↦ let old = q.queued w (sym (get_or-set_other labels v w (Some end) None ne) ∙ is) in
                (old.0, omega (arith, old.1), before_tail old.0 old.1 ∙ old.2)
          ];
          once = λ i j l m. elim (cases_eq j tail) [
            | inl e ↦ λ same. is_new i (omega (arith, l, e)) (sym (before_tail i (omega (arith, l, e))) ∙ (same ∙ (ap (λ k. get_or (set queue tail v) k 0) e ∙ at_tail)))
            | inr ne ↦ let less : j < tail = omega (arith, m, ne) in
                λ same. q.once i j l less (sym (before_tail i (omega (arith, l, less))) ∙ (same ∙ before_tail j less))
          ];
          joined = λ w is. elim (cases_eq w v) [
            | inl e ↦ subst (λ x. Chain (present held) end x) (sym e) chain
            | inr ne ↦ q.joined w (sym (get_or-set_other labels v w (Some end) None ne) ∙ is)
          ];
        }

    -- what was followed before stays so
    pub AreFollowedUpTo-push : (head : ℕ) → head ≤ tail → AreFollowedUpTo held labels end queue head → AreFollowedUpTo held (set labels v (Some end)) end (set queue tail v) head
    AreFollowedUpTo-push head le f j l w p r =
        label-kept labels (set labels v (Some end)) end (HaveGrown-set labels v end low bare) w end
        (f j l w p (subst (λ x. Reaches held x w p) (before_tail j (omega (arith, l, le))) r))
