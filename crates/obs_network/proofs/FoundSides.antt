-- The side that a walk found, and taking its labels off.
use Rattle.std.proofs.Common.{◌≡◌, ℕ, ◌+◌, ◌<◌, ◌≤◌, ◌==◌, Bool, true, false, Option, Some, None, ◌⊎◌, inl, inr, List, length, get_or, set, take, refl, sym, ap, ◌∙◌, subst, arith}
use Rattle.std.specs.Prelude.{All, IsTrue, MatchBool, MatchOption}
use Rattle.std.proofs.lemmas.Bool.{cases_eq, cases_lt, eqb-false, eqb-true}
use Rattle.std.proofs.lemmas.List.{get_or-set_other, get_or-set_same, get_or-take, get_or_default, get_or_past, length-take, length-take-le}
use Rattle.obs_graph.specs.declared.Ends.{Ends}
use Rattle.obs_graph.specs.Joined.{Chain, Leads}
use Rattle.obs_graph.specs.Joined.Chain.{none, step}
use Rattle.obs_graph.specs.Positions.{AreBranches, present}
use Rattle.obs_graph.specs.inner.Search.{AreBelow, Reaches}
use Rattle.obs_graph.proofs.Chains.{Chain-back, Leads-back}
use Rattle.obs_graph.proofs.Neighbours.{reached_below}
use Rattle.obs_graph.proofs.Present.{AreBelow-part, branch_at, none_some, present_contains, some_is_in, some_one}
use Rattle.obs_matroid.specs.Lists.{In, IsDistinct}
use Rattle.obs_matroid.proofs.Contained.{All-from_In, Contains-from_In, In-get_or, IsDistinct-from_pairs}
use Rattle.obs_network.specs.declared.sides.Walked.{Walked}
use Rattle.obs_network.specs.inner.Parted.{AreJoinedWithout, IsSide, IsSideOf}
use Rattle.obs_network.specs.inner.Sides.{AreClear, AreFollowedUpTo, AreWalked, IsQueueOf, label_at, rows_but}
use Rattle.obs_network.proofs.FollowedRows.{rows_but-IsPart}
use Rattle.obs_network.proofs.Walking.{one_label}

-- a branch leads from one vertex to one other
one_other : (x : Ends) (u v w : ℕ) → Leads x u v → Leads x u w → w ≡ v
one_other x u v w (inl (a, b)) (inl (c, d)) = sym d ∙ b
one_other x u v w (inl (a, b)) (inr (c, d)) = sym d ∙ (a ∙ (sym c ∙ b))
one_other x u v w (inr (a, b)) (inl (c, d)) = sym d ∙ (a ∙ (sym c ∙ b))
one_other x u v w (inr (a, b)) (inr (c, d)) = sym d ∙ b

-- the vertices of a queue have places in labels for all
pub queued_below : (n most tail : ℕ) (queue : List ℕ) → tail ≤ length queue → ((k : ℕ) → k < tail → get_or queue k 0 < n) → n ≤ most → All (λ v. v < most) (take tail queue)
queued_below n most tail queue few below room k d l =
    let low : k < tail = omega (arith, l, length-take-le tail queue few) in
    let is : get_or (take tail queue) k d ≡ get_or queue k 0 = get_or-take tail queue k d low ∙ get_or_default queue k d 0 (omega (arith, low, few)) in
    omega (arith, is, below k low, room)

-- what stands in the first part of a list, by its place
pub place_in : (xs : List ℕ) (v : ℕ) → In v xs → (j : ℕ) × (j < length xs) × (get_or xs j 0 ≡ v)
place_in xs v i = let c = Contains-from_In v xs i in let l = c.1 in (c.0, l, get_or_default xs c.0 0 v l ∙ c.2)

module _ (xs : List ℕ) (n v : ℕ) (few : n ≤ length xs) where
  pub place_in_take : In v (take n xs) → (j : ℕ) × (j < n) × (get_or xs j 0 ≡ v)
  place_in_take i =
      let p = place_in (take n xs) v i in
      let l : p.0 < n = omega (arith, p.1, length-take-le n xs few) in
      (p.0, l, sym (get_or-take n xs p.0 0 l) ∙ p.2)

  pub in_take : (j : ℕ) → j < n → get_or xs j 0 ≡ v → In v (take n xs)
  in_take j l is = subst (λ u. In u (take n xs)) (get_or-take n xs j 0 l ∙ is) (In-get_or (take n xs) j 0 (omega (arith, l, length-take-le n xs few)))

module _ (n : ℕ) (held : List (Option Ends)) (labels : List (Option ℕ)) (end : ℕ) (queue : List ℕ) (tail : ℕ) (q : IsQueueOf n held labels end queue tail) where
  few : tail ≤ length queue
  few = q.few

  pub reached_in : (v : ℕ) → In v (take tail queue) → label_at labels v ≡ Some end
  reached_in v i = let p = place_in_take queue tail v few i in subst (λ u. label_at labels u ≡ Some end) p.2 (q.reached p.0 p.1)

  pub in_reached : (v : ℕ) → label_at labels v ≡ Some end → In v (take tail queue)
  in_reached v is = let p = q.queued v is in in_take queue tail v few p.0 p.1 p.2

  pub queue_below : (room : ℕ) → n ≤ room → All (λ v. v < room) (take tail queue)
  queue_below room le = All-from_In (λ v. v < room) (take tail queue)
      (λ v i. let p = place_in_take queue tail v few i in subst (λ u. u < room) p.2 (let l = q.below p.0 p.1 in omega (arith, l, le)))

  pub queue_once : IsDistinct (take tail queue)
  queue_once = IsDistinct-from_pairs (take tail queue) (λ i j d l m.
      let len = length-take-le tail queue few in
      let lj : j < tail = omega (arith, m, len) in
      let li : i < tail = omega (arith, l, lj) in
      λ same. q.once i j l lj (sym (place i d li) ∙ (same ∙ place j d lj)))
    where
      place : (k d : ℕ) → k < tail → get_or (take tail queue) k d ≡ get_or queue k 0
      place k d l = get_or-take tail queue k d l ∙ get_or_default queue k d 0 (omega (arith, l, few))

  -- all of the queue is followed, so it has all that the held branches join with the end
  module _ (followed : AreFollowedUpTo held labels end queue tail) where
    pub reached_along : {u v : ℕ} → Chain (present held) u v → label_at labels u ≡ Some end → label_at labels v ≡ Some end
    reached_along none is = is
    reached_along (step {e = e} {u = u} {v = v} has leads rest) is =
        let p = present_contains held e has in
        let at = q.queued u is in
        reached_along rest (followed at.0 at.1 v p.0 (subst (λ x. Reaches held x v p.0) (sym at.2) (e, p.1, leads)))

-- the queue of an end is its side
pub IsSideOf-found : (n : ℕ) (rows : List (Option Ends)) (e : ℕ) (labels : List (Option ℕ)) (one other : ℕ) (queue : List ℕ) (tail : ℕ) → IsQueueOf n (set rows e None) labels one queue tail
    → AreFollowedUpTo (set rows e None) labels one queue tail → label_at labels one ≡ Some one → label_at labels other ≡ Some other → (one ≡ other → ⊥)
    → ((x : Ends) → get_or rows e None ≡ Some x → Leads x one other) → IsSideOf rows e one (take tail queue)
IsSideOf-found n rows e labels one other queue tail q followed begun begun_there apart leads =
    let held = set rows e None in record {
      joined = λ v. (
        (λ i. q.joined v (reached_in n held labels one queue tail q v i)),
        (λ c. in_reached n held labels one queue tail q v (reached_along n held labels one queue tail q followed c begun)),
      );
      different = queue_once n held labels one queue tail q;
      apart = λ x v is to i.
          let same : v ≡ other = one_other x one other v (leads x is) to in
          apart (one_label (label_at labels v) one other (reached_in n held labels one queue tail q v i) (subst (λ u. label_at labels u ≡ Some other) (sym same) begun_there));
    }

module _ (n : ℕ) (rows : List (Option Ends)) (e : ℕ) (labels : List (Option ℕ)) (one other : ℕ) (queue queue_there : List ℕ) (w : Walked) (x : AreWalked n (set rows e None) labels one other queue queue_there w)
    (apart : one ≡ other → ⊥) (ends : Ends) (is : get_or rows e None ≡ Some ends) (leads : Leads ends one other) where
  leads_all : (y : Ends) → get_or rows e None ≡ Some y → Leads y one other
  leads_all y there = subst (λ z. Leads z one other) (some_one ends y (sym is ∙ there)) leads

  -- the side of the one end
  side_here : w.met ≡ false → w.head ≡ w.tail → IsSideOf rows e one (take w.tail queue)
  side_here unmet ended =
      IsSideOf-found n rows e labels one other queue w.tail x.here (subst (λ h. AreFollowedUpTo (set rows e None) labels one queue h) ended (x.followed unmet)) x.begun x.begun_there apart leads_all

  side_there : w.met ≡ false → w.head_there ≡ w.tail_there → IsSideOf rows e other (take w.tail_there queue_there)
  side_there unmet ended =
      IsSideOf-found n rows e labels other one queue_there w.tail_there x.there (subst (λ h. AreFollowedUpTo (set rows e None) labels other queue_there h) ended (x.followed_there unmet)) x.begun_there x.begun (λ s. apart (sym s))
      (λ y there. Leads-back y one other (leads_all y there))

  -- the side of either end is one of the row's
  side_of : (end : ℕ) (side : List ℕ) → (end ≡ one) ⊎ (end ≡ other) → IsSideOf rows e end side → IsSide rows e side
  side_of end side which s y there = elim (which_end y there) [
    | inl a ↦ inl (subst (λ u. IsSideOf rows e u side) (sym a) s)
    | inr b ↦ inr (subst (λ u. IsSideOf rows e u side) (sym b) s)
  ]
    where
      which_end : (y : Ends) → get_or rows e None ≡ Some y → (y.a ≡ end) ⊎ (y.b ≡ end)
      which_end y there = elim (leads_all y there) [
        | inl f ↦ elim which [ inl o ↦ inl (f.0 ∙ sym o) | inr o ↦ inr (f.1 ∙ sym o) ]
        | inr f ↦ elim which [ inl o ↦ inr (f.0 ∙ sym o) | inr o ↦ inl (f.1 ∙ sym o) ]
      ]

  joined_all : IsTrue w.met → AreJoinedWithout rows e
  joined_all met y there = elim (leads_all y there) [
    | inl f ↦ subst (λ u. Chain (present (set rows e None)) u y.b) (sym f.0) (subst (λ v. Chain (present (set rows e None)) one v) (sym f.1) (x.met met))
    | inr f ↦ Chain-back (present (set rows e None)) (subst (λ u. Chain (present (set rows e None)) u y.a) (sym f.0) (subst (λ v. Chain (present (set rows e None)) one v) (sym f.1) (x.met met)))
  ]

  -- what the walk came to
  pub walked_parts : ((w.met ≡ false) → (w.head ≡ w.tail) ⊎ (w.head_there ≡ w.tail_there)) → (o : Option ℕ) (found : List ℕ)
      → MatchOption o (IsTrue w.met) (λ count. (w.met ≡ false) × (count ≤ length found) × MatchBool (w.head == w.tail) (take count found ≡ take w.tail queue) (take count found ≡ take w.tail_there queue_there))
      → MatchOption o (AreJoinedWithout rows e) (λ count. (count ≤ length found) × IsSide rows e (take count found))
  walked_parts ended None found kept = joined_all kept
  walked_parts ended (Some count) found kept = (kept.1, by_end (w.head == w.tail) refl kept.2)
    where
      by_end : (b : Bool) → (w.head == w.tail) ≡ b → MatchBool b (take count found ≡ take w.tail queue) (take count found ≡ take w.tail_there queue_there) → IsSide rows e (take count found)
      by_end true same same_list = subst (IsSide rows e) (sym same_list) (side_of one (take w.tail queue) (inl refl) (side_here kept.0 (eqb-true w.head w.tail same)))
      by_end false other_end same_list = elim (ended kept.0) [
        | inl at ↦ absurd (eqb-false w.head w.tail other_end at)
        | inr at ↦ subst (IsSide rows e) (sym same_list) (side_of other (take w.tail_there queue_there) (inr refl) (side_there kept.0 at))
      ]

-- a label is taken off, or stays
abbrev pub MayClear : List (Option ℕ) → List (Option ℕ) → Type 0
MayClear before after = (v : ℕ) → (label_at after v ≡ label_at before v) ⊎ (label_at after v ≡ None)

-- the labels of the first k vertices are taken off
pub record IsClearing (before : List (Option ℕ)) (reached : List ℕ) (labels : List (Option ℕ)) (k : ℕ) : Type 0 where
  pub off : (j : ℕ) → j < k → label_at labels (get_or reached j 0) ≡ None
  pub kept : MayClear before labels

pub IsClearing-next : (before : List (Option ℕ)) (reached : List ℕ) (labels : List (Option ℕ)) (k : ℕ) → IsClearing before reached labels k → (v : ℕ) → get_or reached k 0 ≡ v → v < length labels → IsClearing before reached (set labels v None) (k + 1)
IsClearing-next before reached labels k x v is low = record {
  off = λ j l. elim (cases_eq (get_or reached j 0) v) [
    | inl e ↦ here (get_or reached j 0) e
    | inr ne ↦ elim (cases_eq j k) [
      | inl e ↦ absurd (ne (ap (λ i. get_or reached i 0) e ∙ is))
      | inr other ↦ get_or-set_other labels v (get_or reached j 0) None None ne ∙ x.off j (omega (arith, l, other))
    ]
  ];
  kept = λ w. elim (cases_eq w v) [
    | inl e ↦ inr (here w e)
    | inr ne ↦ elim (x.kept w) [
      | inl same ↦ inl (get_or-set_other labels v w None None ne ∙ same)
      | inr off ↦ inr (get_or-set_other labels v w None None ne ∙ off)
    ]
  ];
}
  where
    here : (w : ℕ) → w ≡ v → label_at (set labels v None) w ≡ None
    here w e = ap (label_at (set labels v None)) e ∙ get_or-set_same labels v None None low

-- both queues were cleared
pub AreClear-after : (n : ℕ) (held : List (Option Ends)) (labels : List (Option ℕ)) (one other : ℕ) (queue queue_there : List ℕ) (w : Walked) → AreWalked n held labels one other queue queue_there w
    → (mid after : List (Option ℕ)) → ((v : ℕ) → In v (take w.tail queue) → label_at mid v ≡ None) → MayClear labels mid → ((v : ℕ) → In v (take w.tail_there queue_there) → label_at after v ≡ None) → MayClear mid after → AreClear after
AreClear-after n held labels one other queue queue_there w x mid after off kept off_there kept_there v = by_label (label_at labels v) refl
  where
    stays : (before later : List (Option ℕ)) → MayClear before later → label_at before v ≡ None → label_at later v ≡ None
    stays before later k bare = elim (k v) [ inl same ↦ same ∙ bare | inr now ↦ now ]

    by_label : (o : Option ℕ) → label_at labels v ≡ o → label_at after v ≡ None
    by_label None is = stays mid after kept_there (stays labels mid kept is)
    by_label (Some u) is = elim (x.ends v u is) [
      | inl e ↦ stays mid after kept_there (off v (in_reached n held labels one queue w.tail x.here v (is ∙ ap Some e)))
      | inr e ↦ off_there v (in_reached n held labels other queue_there w.tail_there x.there v (is ∙ ap Some e))
    ]

-- the two ends of a branch are two vertices
pub leads_apart : (x : Ends) (u v : ℕ) → Leads x u v → (x.a ≡ x.b → ⊥) → u ≡ v → ⊥
leads_apart x u v (inl (a, b)) apart same = apart (a ∙ (same ∙ sym b))
leads_apart x u v (inr (a, b)) apart same = apart (b ∙ (sym same ∙ sym a))

-- along held branches of a graph a chain stays below n
along_below : (n : ℕ) (held : List (Option Ends)) → AreBelow n held → {u v : ℕ} → Chain (present held) u v → u < n → v < n
along_below n held below none l = l
along_below n held below (step {e = e} {u = u} {v = v} has leads rest) l =
    let p = present_contains held e has in along_below n held below rest (reached_below n held below u v p.0 (e, p.1, leads))

-- the vertices of a side are some of the graph's
pub side_below : (n : ℕ) (ends : List (Option Ends)) (rows e : ℕ) (x : Ends) (side : List ℕ) → AreBranches n ends → get_or (take rows ends) e None ≡ Some x → IsSide (take rows ends) e side → All (λ v. v < n) side
side_below n ends rows e x side branches is s = All-from_In (λ v. v < n) side (λ v i. elim (s x is) [
  | inl a ↦ along_below n (rows_but ends rows e) held ((a.joined v).0 i) low.0
  | inr b ↦ along_below n (rows_but ends rows e) held ((b.joined v).0 i) low.1
])
  where
    held : AreBelow n (rows_but ends rows e)
    held = AreBelow-part n (rows_but ends rows e) ends (rows_but-IsPart ends rows e) branches

    there : get_or ends e None ≡ Some x
    there = elim (cases_lt e rows) [
      | inl l ↦ sym (get_or-take rows ends e None l) ∙ is
      | inr past ↦ absurd (none_some x (sym (get_or_past (take rows ends) e None (omega (arith, past, length-take rows ends))) ∙ is))
    ]

    low : (x.a < n) × (x.b < n) × (x.a ≡ x.b → ⊥)
    low = branch_at n ends e x branches (some_is_in ends e x there) there

-- where there is a side, the other rows don't join the row's ends
pub side_parts : (rows : List (Option Ends)) (e : ℕ) (x : Ends) (side : List ℕ) → get_or rows e None ≡ Some x → IsSide rows e side → AreJoinedWithout rows e → ⊥
side_parts rows e x side is s joined = elim (s x is) [
  | inl a ↦ a.apart x x.b is (inl (refl, refl)) ((a.joined x.b).1 (joined x is))
  | inr b ↦ b.apart x x.a is (inr (refl, refl)) ((b.joined x.a).1 (Chain-back (present (set rows e None)) (joined x is)))
]
