-- Following the rows but one at the vertex at the head of a queue.
use Rattle.std.proofs.Common.{◌≡◌, ◌≢◌, ℕ, ◌+◌, ◌<◌, ◌≤◌, Bool, true, false, Option, Some, None, inl, inr, List, length, get_or, set, take, refl, sym, ap, ◌∙◌, subst, arith}
use Rattle.std.specs.Prelude.{MatchBool}
use Rattle.std.proofs.lemmas.Bool.{cases_eq, cases_lt}
use Rattle.std.proofs.lemmas.List.{get_or-set_other, get_or-set_same, get_or-take, get_or_past, length-set, length-take}
use Rattle.obs_graph.specs.declared.Ends.{Ends}
use Rattle.obs_graph.specs.Joined.{Chain}
use Rattle.obs_graph.specs.Joined.Chain.{none, step}
use Rattle.obs_graph.specs.Positions.{branches_at, has_end, present}
use Rattle.obs_graph.specs.inner.Search.{IsPart, Reaches}
use Rattle.obs_graph.proofs.AtVertex.{branches_at-entry, positions_from_rise}
use Rattle.obs_graph.proofs.Chains.{Chain-append}
use Rattle.obs_graph.proofs.Expanding.{AreDone, done_absent, done_all, done_one}
use Rattle.obs_graph.proofs.Present.{contains_present, none_some}
use Rattle.obs_network.specs.inner.Sides.{AreFollowedUpTo, HaveGrown, IsMeeting, IsQueueOf, label_at, rows_but}
use Rattle.obs_network.proofs.Walking.{AreFollowedUpTo-push, HaveGrown-set, HaveGrown-then, IsQueueOf-push, label-kept}

-- the rows but one are branches of the graph
module _ (ends : List (Option Ends)) (rows e : ℕ) where
  pub but_past : (p : ℕ) → rows ≤ p → get_or (rows_but ends rows e) p None ≡ None
  but_past p past = get_or_past (rows_but ends rows e) p None (omega (arith, past, length-set (take rows ends) e None, length-take rows ends))

  pub but_itself : get_or (rows_but ends rows e) e None ≡ None
  but_itself = elim (cases_lt e (length (take rows ends))) [
    | inl low ↦ get_or-set_same (take rows ends) e None None low
    | inr past ↦ get_or_past (rows_but ends rows e) e None (omega (arith, past, length-set (take rows ends) e None))
  ]

  pub but_other : (p : ℕ) → p < rows → (p ≡ e → ⊥) → get_or (rows_but ends rows e) p None ≡ get_or ends p None
  but_other p low ne = get_or-set_other (take rows ends) e p None None ne ∙ get_or-take rows ends p None low

  pub rows_but-IsPart : IsPart (rows_but ends rows e) ends
  rows_but-IsPart p x is = elim (cases_lt p rows) [
    | inr past ↦ absurd (none_some x (sym (but_past p past) ∙ is))
    | inl low ↦ elim (cases_eq p e) [
      | inl same ↦ absurd (none_some x (sym (ap (λ k. get_or (rows_but ends rows e) k None) same ∙ but_itself) ∙ is))
      | inr ne ↦ sym (but_other p low ne) ∙ is
    ]
  ]

  pub but_reaches : (v w p : ℕ) → p < rows → (p ≡ e → ⊥) → Reaches ends v w p → Reaches (rows_but ends rows e) v w p
  but_reaches v w p low ne r = (r.0, but_other p low ne ∙ r.1, r.2)

-- a branch in the list of a vertex has an end there
pub end_at_entry : (ends : List (Option Ends)) (v k : ℕ) (bl : List ℕ) → bl ≡ branches_at ends v → k < length bl → has_end v (get_or ends (get_or bl k 0) None) ≡ true
end_at_entry ends v k bl bl_is l =
    subst (λ xs. k < length xs → has_end v (get_or ends (get_or xs k 0) None) ≡ true) (sym bl_is) (λ m. (branches_at-entry ends v k m).1) l

-- the first k branches of the list are followed, which are those at the vertex at the head
pub record IsFollowing (n : ℕ) (held : List (Option Ends)) (end v head : ℕ) (bl : List ℕ) (start : List (Option ℕ)) (from : ℕ)
    (labels : List (Option ℕ)) (queue : List ℕ) (tail k : ℕ) : Type 0 where
  pub here : IsQueueOf n held labels end queue tail
  pub before : AreFollowedUpTo held labels end queue head
  pub at_head : get_or queue head 0 ≡ v
  pub waits : head < tail
  pub longer : from ≤ tail
  pub done : AreDone held v bl (λ w. label_at labels w ≡ Some end) k
  pub grown : HaveGrown start labels end

module _ (n : ℕ) (held : List (Option Ends)) (end v head : ℕ) (bl : List ℕ) (start : List (Option ℕ)) (from : ℕ) (labels : List (Option ℕ)) (queue : List ℕ) (tail k : ℕ)
    (x : IsFollowing n held end v head bl start from labels queue tail k) where
  pub Following-skip : get_or held (get_or bl k 0) None ≡ None → IsFollowing n held end v head bl start from labels queue tail (k + 1)
  Following-skip absent = record {
    here = x.here;
    before = x.before;
    at_head = x.at_head;
    waits = x.waits;
    longer = x.longer;
    done = done_absent held v bl (λ w. label_at labels w ≡ Some end) k x.done absent;
    grown = x.grown;
  }

  v_label : label_at labels v ≡ Some end
  v_label = subst (λ u. label_at labels u ≡ Some end) x.at_head (x.here.reached head x.waits)

  module _ (w : ℕ) (to : Reaches held v w (get_or bl k 0)) where
    chain : Chain (present held) end w
    chain = Chain-append (present held) (x.here.joined v v_label) (step (contains_present held (get_or bl k 0) to.0 to.1) to.2 none)

    pub Following-met : (u : ℕ) → label_at labels w ≡ Some u → (u ≡ end → ⊥) → IsMeeting held labels end
    Following-met u is other = record { vertex = w; from = u; reached = is; apart = other; joined = chain }

    pub Following-known : label_at labels w ≡ Some end → IsFollowing n held end v head bl start from labels queue tail (k + 1)
    Following-known is = record {
      here = x.here;
      before = x.before;
      at_head = x.at_head;
      waits = x.waits;
      longer = x.longer;
      done = done_one held v bl (λ y. label_at labels y ≡ Some end) k x.done to.0 w to.1 to.2 is;
      grown = x.grown;
    }

    pub Following-new : w < n → w < length labels → label_at labels w ≡ None → IsFollowing n held end v head bl start from (set labels w (Some end)) (set queue tail w) (tail + 1) (k + 1)
    Following-new inside low bare =
        let g = HaveGrown-set labels w end low bare in
        let waits = x.waits in
        let longer = x.longer in record {
          here = IsQueueOf-push n held labels end queue tail x.here w low bare inside chain;
          before = AreFollowedUpTo-push n held labels end queue tail x.here w low bare head (omega (arith, waits)) x.before;
          at_head = get_or-set_other queue tail head w 0 (λ e. omega (arith, e, waits)) ∙ x.at_head;
          waits = omega (arith, waits);
          longer = omega (arith, longer);
          done = done_one held v bl (λ y. label_at (set labels w (Some end)) y ≡ Some end) k (λ j y l r. label-kept labels (set labels w (Some end)) end g y end (x.done j y l r))
              to.0 w to.1 to.2 (get_or-set_same labels w (Some end) None low);
          grown = HaveGrown-then start labels (set labels w (Some end)) end x.grown g;
        }

    -- what coming to a vertex says
    module _ (after : List (Option ℕ)) (longer : List ℕ) (more : ℕ) (met : Bool)
        (new : label_at labels w ≡ None → (met ≡ false) × (after ≡ set labels w (Some end)) × (longer ≡ set queue tail w) × (more ≡ tail + 1))
        (known : (u : ℕ) → label_at labels w ≡ Some u → (after ≡ labels) × (longer ≡ queue) × (more ≡ tail) × MatchBool met (u ≢ end) (u ≡ end)) where
      pub Following-come : met ≡ false → w < n → w < length labels → IsFollowing n held end v head bl start from after longer more (k + 1)
      Following-come unmet inside low = by_label (label_at labels w) refl
        where
          by_label : (o : Option ℕ) → label_at labels w ≡ o → IsFollowing n held end v head bl start from after longer more (k + 1)
          by_label None is = let f = new is in rw (f.1, f.2, f.3) (Following-new inside low is)
          by_label (Some u) is =
              let f = known u is in
              let same : u ≡ end = subst (λ b. MatchBool b (u ≢ end) (u ≡ end)) unmet f.3 in
              rw (f.0, f.1, f.2) (Following-known (is ∙ ap Some same))

      pub Following-come_met : met ≡ true → IsMeeting held after end
      Following-come_met is_met = by_label (label_at labels w) refl
        where
          by_label : (o : Option ℕ) → label_at labels w ≡ o → IsMeeting held after end
          by_label None is = let f = new is in let wrong = sym is_met ∙ f.0 in absurd cc
          by_label (Some u) is = let f = known u is in
              subst (λ ls. IsMeeting held ls end) (sym f.0) (Following-met u is (subst (λ b. MatchBool b (u ≢ end) (u ≡ end)) is_met f.3))

  module _ (bs : List (Option Ends)) (part : IsPart held bs) (bl_is : bl ≡ branches_at bs v) where
    all_done : (m : ℕ) → AreDone held v bl (λ w. label_at labels w ≡ Some end) m → length bl ≤ m → AreFollowedUpTo held labels end queue (head + 1)
    all_done m done all j l w p r = elim (cases_eq j head) [
      | inl e ↦ done_all held v bl (λ y. label_at labels y ≡ Some end) m done bs part bl_is all p w (subst (λ u. Reaches held u w p) (ap (λ i. get_or queue i 0) e ∙ x.at_head) r)
      | inr ne ↦ x.before j (omega (arith, l, ne)) w p r
    ]

    pub Following-end : length bl ≤ k → AreFollowedUpTo held labels end queue (head + 1)
    Following-end all = all_done k x.done all

    -- behind a branch that is no row there are no rows
    pub Following-stop : (rows : ℕ) → ((p : ℕ) → rows ≤ p → get_or held p None ≡ None) → k < length bl → rows ≤ get_or bl k 0 → AreFollowedUpTo held labels end queue (head + 1)
    Following-stop rows past low stop = all_done (length bl) rest (omega arith)
      where
        later : (i : ℕ) → k ≤ i → i < length bl → rows ≤ get_or bl i 0
        later i from l = elim (cases_eq i k) [
          | inl e ↦ subst (λ j. rows ≤ get_or bl j 0) (sym e) stop
          | inr ne ↦
              let rises : get_or bl k 0 < get_or bl i 0 = subst (λ xs. i < length xs → get_or xs k 0 < get_or xs i 0) (sym bl_is)
              (λ m. positions_from_rise (has_end v) 0 bs k i 0 (omega (arith, from, ne)) m) l in
              omega (arith, rises, stop)
        ]

        rest : AreDone held v bl (λ w. label_at labels w ≡ Some end) (length bl)
        rest i w l r = elim (cases_lt i k) [
          | inl less ↦ x.done i w less r
          | inr from ↦ absurd (none_some r.0 (sym (past (get_or bl i 0) (later i from l)) ∙ r.1))
        ]
