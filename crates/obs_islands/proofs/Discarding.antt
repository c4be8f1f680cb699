-- A round: the ends of a lost branch lie in no set that is spanned from inside, and where no item touches one at its hub, the
-- pieces of the pairs that are left are the islands.
use Rattle.std.proofs.Common.{◌≡◌, ℕ, ◌<◌, List, length, get_or, refl, sym, ap, ◌∙◌, inl, inr, Bool, true, false, not, Option, Some, None, subst, eq-eqb, arith}
use Rattle.std.specs.Prelude.{nat_lt, slice_index}
use Rattle.std.specs.List.{list_any}
use Rattle.std.proofs.lemmas.Bool.{cases_Bool, cases_eq}
use Rattle.std.proofs.lemmas.List.FromFn.{fill_by_all}
use Rattle.obs_graph.specs.declared.Ends.{Ends}
use Rattle.obs_graph.specs.Joined.{first_joined}
use Rattle.obs_graph.specs.Positions.{AreBranches, branches_at, present}
use Rattle.obs_graph.specs.Graph.{Graph}
use Rattle.obs_graph.proofs.First.{first_joined-first_joined, first_joined-le}
use Rattle.obs_graph.proofs.Present.{branch_at as at_branch, present_low, some_is_in}
use Rattle.obs_matroid.specs.Lists.{In, other_than, without}
use Rattle.obs_matroid.specs.Assignments.{branches}
use Rattle.obs_matroid.specs.inner.Assignments.{part}
use Rattle.obs_matroid.proofs.Comparing.{cases_Option}
use Rattle.obs_matroid.proofs.Graphs.{joined_member, joined_more}
use Rattle.obs_matroid.proofs.Islands.{joined_at_hub}
use Rattle.obs_matroid.proofs.Lists.{clash, In_same}
use Rattle.obs_matroid.proofs.Pairs.{branches_within, own}
use Rattle.obs_meter.specs.declared.Hub.{Hub}
use Rattle.obs_meter.specs.declared.Touch.{Touch}
use Rattle.obs_meter.specs.declared.Touch.TheVariants.{Nothing, Edge, Star, Front}
use Rattle.obs_meter.specs.Spanned.{ends_at, graph_matroid, common_vertex, joined_at, rank_at}
use Rattle.obs_meter.specs.Touches.{live_items, touch_at, touched}
use Rattle.obs_meter.specs.inner.Touches.{hub_of}
use Rattle.obs_meter.proofs.Assigned.{live_items-distinct}
use Rattle.obs_meter.proofs.Instance.{IsJoining-graph}
use Rattle.obs_meter.proofs.Touched.{itself_from, live-from_In, touched-vertex, touched-present}
use Rattle.obs_meter.proofs.Live.{In-live, live-from_live_items}
use Rattle.obs_assign.specs.Assignment.{Assignment}
use Rattle.obs_assign.specs.inner.Assignment.{branch_at}
use Rattle.obs_assign.specs.inner.Pins.{joins}
use Rattle.obs_assign.proofs.Paths.{apart_ends, joins-from}
use Rattle.obs_exchange.specs.inner.Longest.{IsLongest}
use Rattle.obs_exchange.proofs.Queued.{eqb_false}
use Rattle.obs_exchange.proofs.Walking.{touched_ends, touched_low}
use Rattle.obs_islands.specs.Firsts.{island_first, islands_of}
use Rattle.obs_islands.specs.inner.GivenUp.{GivesUp, IsLost}
use Rattle.obs_islands.specs.inner.GivenUp.IsLost.{first, next}
use Rattle.obs_islands.specs.Islands.{every_vertex}
use Rattle.obs_islands.specs.inner.Left.{AreLeft}
use Rattle.obs_islands.specs.inner.Rounds.{AreFirsts, is_between, is_crossing, remaining, straddles}
use Rattle.obs_islands.proofs.Crossing.{crossing-from, kept-other, none_straddles, remaining_at, straddles-from, uncrossed-from}
use Rattle.obs_islands.proofs.Firsts.{Settled, island_first-is}
use Rattle.obs_islands.proofs.Over.{IsApart, IsClosedOver, IsOver, apart_from, laws, lies_outside, longest_over, not_marked, over_others, own_from, own_pairs}
use Rattle.obs_islands.proofs.Parts.{vertices-distinct}
use Rattle.obs_islands.proofs.Remaining.{HoldsAll, IsUsedOf, apart-left, bare_out, branch_left, joined-left, left_pairs, over_used, pair_left, something, used_live, used_touch}
use Rattle.obs_islands.proofs.Spanning.{ends_low}

module _ (g : Graph) (ts : List Touch) (a : Assignment) (ok : AreBranches g.vertices g.ends) (h : IsLongest g ts a) (us : List Touch) (used : IsUsedOf ts us) (holds : HoldsAll g ts us)
    (S : ℕ → Bool) (c : IsClosedOver g ts a S) (spares : (m : ℕ) → In m (live_items g.ends ts) → S m ≡ true → In m (live_items g.ends us))
    (held : List (Option Ends)) (left : AreLeft g.ends us a held) (firsts : List ℕ) (named : AreFirsts g.vertices held firsts)
    (lowest : ℕ → ℕ) (gives_up : GivesUp g.ends us a (is_crossing g.ends firsts) lowest) where
  over : IsOver g ts a ok h S c (live_items g.ends us) (left_pairs us a)
  over = over_used g ts us used a ok h holds S c spares

  touches_used : (m e : ℕ) → In e (touch_at g.ends us m) → In m (live_items g.ends us)
  touches_used m e i = In-live g.ends us m (live-from_In g.ends us m e i)

  -- what an item touches still it touched at first
  touched_first : (m e : ℕ) → In e (touch_at g.ends us m) → In e (touch_at g.ends ts m)
  touched_first m e i = subst (λ (xs : List ℕ). In e xs) (used_touch g ts us used m (touches_used m e i)) i

  -- the branches of the pairs that are left join the ends of a branch exactly where it doesn't lie between two pieces
  joined_is : (e : ℕ) (x : Ends) → e < length g.ends → get_or g.ends e None ≡ Some x → joins g.ends (branches (left_pairs us a)) e ≡ not (is_between firsts (Some x))
  joined_is e x l is =
      let b = at_branch g.vertices g.ends e x ok l is in
      let p = named.first x.a b.0 in
      let q = named.first x.b b.1 in
      elim (cases_eq (first_joined (present held) x.a) (first_joined (present held) x.b)) [
        | inl s ↦ joins-from g.ends (branches (left_pairs us a)) e x is (joined-left g us a held left x.a x.b s)
            ∙ sym (ap (λ d. not (not d)) (eq-eqb (slice_index firsts x.a) (slice_index firsts x.b) (p ∙ (s ∙ sym q))))
        | inr n ↦ apart_ends g.ends (branches (left_pairs us a)) e x is (apart-left g us a held left x.a x.b n)
            ∙ sym (ap (λ d. not (not d)) (eqb_false (slice_index firsts x.a) (slice_index firsts x.b) (λ s. n (sym p ∙ (sym s ∙ q)))))
      ]

  -- a lost branch is apart
  lost_apart : (e : ℕ) → IsLost g.ends us a (is_crossing g.ends firsts) e → IsApart g ts a ok h S c e
  lost_apart e (first t) =
      let r = crossing-from g.ends firsts e t in
      apart_from g ts a ok h S c (live_items g.ends us) (left_pairs us a) over
      e r.0 r.1 (joined_is e r.0 (some_is_in g.ends e r.0 r.1) r.1 ∙ ap not r.2)
  lost_apart f (next {e = e} before l) =
      let m : ℕ = l.item in
      let touches = touched_first m e l.touched in
      let live = used_live g ts us used m (touches_used m e l.touched) in
      let there = h.stands.touched m f l.has in
      let x = touched_ends g.ends ts m f there in
      apart_from g ts a ok h S c (without m (live_items g.ends us)) (part (other_than m) (left_pairs us a))
      (over_others g ts a ok h S c m e live touches (lost_apart e before) (live_items g.ends us) (left_pairs us a) over)
      f x.0 x.1
      (own (graph_matroid g.vertices g.ends) (laws g ts a ok h) (left_pairs us a) (m, f) over.assigns.independent over.assigns.different
      (pair_left us a m f (record { has = l.has; used = something g.ends (get_or us m Nothing) e l.touched })))

  -- an item stays that doesn't touch a branch which is apart
  stays_used : (m : ℕ) → In m (live_items g.ends us) → ((e : ℕ) → In e (touch_at g.ends us m) → IsApart g ts a ok h S c e → ⊥) → In m (live_items g.ends (remaining g.ends lowest us))
  stays_used m i none =
      In-live g.ends (remaining g.ends lowest us) m (elim (cases_Bool (straddles g.ends lowest (get_or us m Nothing))) [
        | inr stays ↦
            ap (λ (x : Touch). nat_lt 0 (length (touched g.ends x))) (remaining_at g.ends lowest us m ∙ kept-other g.ends lowest (get_or us m Nothing) stays)
            ∙ live-from_live_items g.ends us m i
        | inl out ↦
            let s = straddles-from g.ends lowest (get_or us m Nothing) out in
            let low = present_low g.ends (lowest s.0.vertex) (touched-present g.ends (get_or us m Nothing) (lowest s.0.vertex) s.2) in
            absurd (none (lowest s.0.vertex) s.2 (lost_apart (lowest s.0.vertex) (gives_up.lost s.0.vertex low)))
      ])

  -- no item that is discarded lies inside a spanned set
  pub round_holds : HoldsAll g ts (remaining g.ends lowest us)
  round_holds T t m i j =
      let k = holds T t m i j in
      stays_used m k (λ e touches apart. lies_outside g ts a ok h S c m e i (touched_first m e touches) apart T t j)

  -- and none is in the closed set
  pub round_spares : (m : ℕ) → In m (live_items g.ends ts) → S m ≡ true → In m (live_items g.ends (remaining g.ends lowest us))
  round_spares m i t = stays_used m (spares m i t) (λ e touches apart. clash t (not_marked g ts a ok h S c m e i (touched_first m e touches) apart))

  module _ (none : list_any (straddles g.ends lowest) us ≡ false) where
    -- what an item that stays touches at its hub is joined
    hub_joined : (m e : ℕ) (b : Hub) → In e (touch_at g.ends us m) → hub_of g.ends (get_or us m Nothing) ≡ Some b → joins g.ends (branches (left_pairs us a)) e ≡ true
    hub_joined m e b j is =
        let x = touched_ends g.ends us m e j in
        let low = touched_low g.ends us m e j in
        let off = uncrossed-from g.ends us a (is_crossing g.ends firsts) lowest gives_up m e b is (none_straddles g.ends lowest us m none) j in
        joined_is e x.0 low x.1 ∙ ap not (ap (is_between firsts) (sym x.1) ∙ off)

    -- and a flow's own branch
    touch_joined : (m e : ℕ) → In m (live_items g.ends us) → In e (touch_at g.ends us m) → (t : Touch) → get_or us m Nothing ≡ t → joins g.ends (branches (left_pairs us a)) e ≡ true
    touch_joined m e i j Nothing is = absurd (rw is at j)
    touch_joined m e i j (Star v) is = hub_joined m e (record { vertex = v; count = length (branches_at g.ends v) }) j (ap (hub_of g.ends) is)
    touch_joined m e i j (Front v count) is = hub_joined m e (record { vertex = v; count = count }) j (ap (hub_of g.ends) is)
    touch_joined m e i j (Edge p) is =
        let mine : (f : ℕ) → In f (touch_at g.ends us m) → f ≡ p = λ f k. (itself_from (get_or g.ends p None) p f (rw is at k)).0 in
        elim (cases_Option (branch_at a m)) [
          | inr s ↦
              let there : In s.0 (touch_at g.ends us m) = subst (λ (xs : List ℕ). In s.0 xs) (sym (used_touch g ts us used m i)) (h.stands.touched m s.0 s.1) in
              let same : e ≡ s.0 = mine e j ∙ sym (mine s.0 there) in
              joined_member (ends_at g.ends) (joined_at g.ends) (IsJoining-graph g.ends) (branches (left_pairs us a)) e
              (In_same e s.0 (branches (left_pairs us a)) same (branch_left us a m s.0 (record { has = s.1; used = something g.ends (get_or us m Nothing) e j })))
          | inl bare ↦
              let marked = over.sources m i (bare_out us a m bare) in
              joined_more (ends_at g.ends) (joined_at g.ends) (IsJoining-graph g.ends) (branches (own_pairs g ts a ok h S c)) (branches (left_pairs us a)) (ends_at g.ends e).0 (ends_at g.ends e).1
              (λ x k. branches_within (own_pairs g ts a ok h S c) (left_pairs us a) (λ q l. let w = own_from g ts a ok h S c q l in over.own q w.0 w.1) x k)
              (c.closed.spanned m e (used_live g ts us used m i) marked (touched_first m e j))
        ]

    settled : Settled g.vertices g.ends ts (live_items g.ends us) (left_pairs us a)
    settled = record {
      different = live_items-distinct g.ends us;
      of_all = used_live g ts us used;
      assigns = over.assigns;
      longest = longest_over g ts a ok h S c (live_items g.ends us) (left_pairs us a) over;
      holds_inside = holds;
      in_one_piece = λ m u v i.
          joined_at_hub (ends_at g.ends) (joined_at g.ends) (rank_at g.vertices g.ends) (IsJoining-graph g.ends) (laws g ts a ok h) (touch_at g.ends ts) (every_vertex g.vertices) (live_items g.ends ts)
          (vertices-distinct g.vertices) (live_items-distinct g.ends ts) (λ m e i j. ends_low g.vertices g.ends ts ok m e j)
          (left_pairs us a) m (common_vertex g.ends (get_or ts m Nothing)) (λ e k. touched-vertex g.ends (get_or ts m Nothing) e k)
          (λ e k. touch_joined m e i (subst (λ (xs : List ℕ). In e xs) (sym (used_touch g ts us used m i)) k) (get_or us m Nothing) refl) u v;
    }

    first_is : (v : ℕ) → v < g.vertices → get_or firsts v 0 ≡ island_first g.vertices g.ends ts v
    first_is v l =
        let fj : ℕ → ℕ = first_joined (present held) in
        let low = first_joined-le (present held) v in
        named.first v l ∙
        sym (island_first-is g.vertices g.ends ts ok (live_items g.ends us) (left_pairs us a) settled v (fj v) l (omega (arith, low, l))
        (joined-left g us a held left v (fj v) (sym (first_joined-first_joined (present held) v)))
        (λ u k t. elim (cases_eq (fj v) (fj u)) [
          | inl s ↦ let m = first_joined-le (present held) u in omega (arith, s, m)
          | inr n ↦ clash t (apart-left g us a held left v u n)
        ]))

    -- the pieces are the islands
    pub round_islands : firsts ≡ islands_of g.vertices g.ends ts
    round_islands = fill_by_all (island_first g.vertices g.ends ts) firsts g.vertices 0 named.one_each first_is
