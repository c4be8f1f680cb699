-- Walking from both ends of a row in turn.
use Rattle.std.proofs.Common.{◌≡◌, ℕ, ◌+◌, ◌<◌, ◌≤◌, Bool, false, Option, Some, None, ◌⊎◌, inl, inr, List, length, set, sym, ap, ◌∙◌, arith}
use Rattle.std.specs.Prelude.{IsTrue}
use Rattle.std.proofs.lemmas.List.{get_or-set_other, get_or-set_same, length-set}
use Rattle.obs_graph.specs.declared.Ends.{Ends}
use Rattle.obs_graph.specs.Joined.Chain.{none}
use Rattle.obs_graph.specs.Positions.{present}
use Rattle.obs_graph.proofs.Chains.{Chain-append, Chain-back}
use Rattle.obs_network.specs.declared.sides.Walked.{Walked}
use Rattle.obs_network.specs.inner.Sides.{AreClear, AreFollowedUpTo, AreWalked, HaveGrown, IsMeeting, IsQueueOf, label_at}
use Rattle.obs_network.proofs.Walking.{AreFollowedUpTo-grown, HaveGrown-set, IsQueueOf-grown, IsQueueOf-none, IsQueueOf-push, label-kept, label-older, no_label, one_label}

-- both ends are reached from themselves
module _ (n : ℕ) (held : List (Option Ends)) (labels : List (Option ℕ)) (one other : ℕ) (queue queue_there : List ℕ) (clear : AreClear labels)
    (places : length queue ≡ length labels) (places_there : length queue_there ≡ length labels) (room : n ≤ length labels) (low : one < n) (low_there : other < n) (apart : one ≡ other → ⊥) where
  abbrev pub first : List (Option ℕ)
  first = set labels one (Some one)

  abbrev pub both : List (Option ℕ)
  both = set first other (Some other)

  inside : one < length labels
  inside = omega (arith, low, room)

  inside_there : other < length first
  inside_there = omega (arith, low_there, room, length-set labels one (Some one))

  grown : HaveGrown labels first one
  grown = HaveGrown-set labels one one inside (clear one)

  bare : label_at first other ≡ None
  bare = get_or-set_other labels one other (Some one) None (λ e. apart (sym e)) ∙ clear other

  grown_there : HaveGrown first both other
  grown_there = HaveGrown-set first other other inside_there bare

  none_there : (v : ℕ) → label_at first v ≡ Some other → ⊥
  none_there v is = no_label (label_at labels v) other (clear v) (label-older labels first one grown v other (λ e. apart (sym e)) is)

  here : IsQueueOf n held first one (set queue 0 one) 1
  here = IsQueueOf-push n held labels one queue 0 (IsQueueOf-none n held labels one queue places (λ v is. no_label (label_at labels v) one (clear v) is)) one inside (clear one) low none

  pub AreWalked-begun : AreWalked n held both one other (set queue 0 one) (set queue_there 0 other) (record { met = false; head = 0; tail = 1; head_there = 0; tail_there = 1 })
  AreWalked-begun = record {
    here = IsQueueOf-grown n held first one (set queue 0 one) 1 here both other (length-set first other (Some other)) grown_there apart;
    there = IsQueueOf-push n held first other queue_there 0 (IsQueueOf-none n held first other queue_there (places_there ∙ sym (length-set labels one (Some one))) none_there) other inside_there bare low_there none;
    begun = label-kept first both other grown_there one one (get_or-set_same labels one (Some one) None inside);
    begun_there = get_or-set_same first other (Some other) None inside_there;
    ends = λ v u is. elim (grown_there v) [
      | inr new ↦ inr (one_label (label_at both v) u other is new.1)
      | inl same ↦ elim (grown v) [
        | inr new ↦ inl (one_label (label_at first v) u one (sym same ∙ is) new.1)
        | inl before ↦ no_label (label_at labels v) u (clear v) (sym before ∙ (sym same ∙ is))
      ]
    ];
    low = omega arith;
    low_there = omega arith;
    met = λ t. absurd cc;
    followed = λ f j l. absurd (omega (arith, l));
    followed_there = λ f j l. absurd (omega (arith, l));
  }

-- the two ends in the other order
pub AreWalked-swap : (n : ℕ) (held : List (Option Ends)) (labels : List (Option ℕ)) (one other : ℕ) (queue queue_there : List ℕ) (w : Walked) → AreWalked n held labels one other queue queue_there w
    → AreWalked n held labels other one queue_there queue (record { met = w.met; head = w.head_there; tail = w.tail_there; head_there = w.head; tail_there = w.tail })
AreWalked-swap n held labels one other queue queue_there w x = record {
  here = x.there;
  there = x.here;
  begun = x.begun_there;
  begun_there = x.begun;
  ends = λ v u is. elim (x.ends v u is) [ inl e ↦ inr e | inr e ↦ inl e ];
  low = x.low_there;
  low_there = x.low;
  met = λ t. Chain-back (present held) (x.met t);
  followed = x.followed_there;
  followed_there = x.followed;
}

-- the rows at the vertex at the head of one queue are followed
pub AreWalked-step : (n : ℕ) (held : List (Option Ends)) (labels : List (Option ℕ)) (one other : ℕ) (queue queue_there : List ℕ) (w : Walked) → AreWalked n held labels one other queue queue_there w
    → w.met ≡ false → w.head < w.tail → (one ≡ other → ⊥)
    → (after : List (Option ℕ)) (longer : List ℕ) (tail : ℕ) (met : Bool) → length after ≡ length labels → IsQueueOf n held after one longer tail
    → (met ≡ false → AreFollowedUpTo held after one longer (w.head + 1)) → (IsTrue met → IsMeeting held after one) → HaveGrown labels after one → w.tail ≤ tail
    → AreWalked n held after one other longer queue_there (record { met = met; head = w.head + 1; tail = tail; head_there = w.head_there; tail_there = w.tail_there })
AreWalked-step n held labels one other queue queue_there w x unmet waits apart after longer tail met len here followed meets grown more =
    let there = IsQueueOf-grown n held labels other queue_there w.tail_there x.there after one len grown (λ e. apart (sym e)) in record {
      here = here;
      there = there;
      begun = label-kept labels after one grown one one x.begun;
      begun_there = label-kept labels after one grown other other x.begun_there;
      ends = λ v u is. elim (grown v) [
        | inl same ↦ x.ends v u (sym same ∙ is)
        | inr new ↦ inl (one_label (label_at after v) u one is new.1)
      ];
      low = omega (arith, waits, more);
      low_there = x.low_there;
      met = λ t. let m = meets t in elim (x_ends m) [
        | inl e ↦ absurd (m.apart e)
        | inr e ↦ Chain-append (present held) m.joined (Chain-back (present held) (there.joined m.vertex (m.reached ∙ ap Some e)))
      ];
      followed = followed;
      followed_there = λ f. AreFollowedUpTo-grown labels after one grown held other queue_there w.head_there (x.followed_there unmet);
    }
  where
    x_ends : (m : IsMeeting held after one) → (m.from ≡ one) ⊎ (m.from ≡ other)
    x_ends m = elim (grown m.vertex) [
      | inl same ↦ x.ends m.vertex m.from (sym same ∙ m.reached)
      | inr new ↦ inl (one_label (label_at after m.vertex) m.from one m.reached new.1)
    ]
