-- How many pairs there can be after an edit, and how many searches one of a meter takes.
use Rattle.std.proofs.Common.{inl, inr, ◌≡◌, ℕ, ◌+◌, ◌-◌, ◌≤◌, Bool, true, false, None, ◌∷◌, length, get_or, refl, sym, ap, ◌∙◌, subst, arith}
use Rattle.std.specs.Prelude.{IsTrue, nat_lt, if◌then◌else◌}
use Rattle.std.proofs.lemmas.Bool.{cases_Bool, cases_eq}
use Rattle.std.proofs.lemmas.Bool.Decides.{nat_tests}
use Rattle.std.proofs.lemmas.List.{length-map}
use Rattle.obs_case.specs.Tables.{IsValid, Tables}
use Rattle.obs_matroid.specs.Lists.{In}
use Rattle.obs_matroid.specs.Assignments.{Pair, items}
use Rattle.obs_matroid.proofs.Lists.{length-within}
use Rattle.obs_matroid.proofs.Pairs.{In-items, In-items_from}
use Rattle.obs_matroid.proofs.Slots.{IsDistinct-slots, slot_from}
use Rattle.obs_meter.specs.Touches.{every_item}
use Rattle.obs_meter.proofs.Assigned.{every-to_live}
use Rattle.obs_assign.specs.Assignment.{Assignment}
use Rattle.obs_assign.specs.inner.Assignment.{branch_at, pairs}
use Rattle.obs_assign.proofs.Slotted.{none_some}
use Rattle.obs_exchange.specs.inner.Lengthened.{HasLengthened}
use Rattle.obs_exchange.specs.inner.Longest.{IsMost}
use Rattle.obs_network.specs.Network.{Network, case_branches, case_meters, case_needed, network_of}
use Rattle.obs_network.proofs.Observed.{most_pairs as most_needed}
use Rattle.obs_network.proofs.OfCase.{case_branches-are}
use Rattle.obs_repair.specs.declared.edit.Edit.{Edit}
use Rattle.obs_repair.specs.declared.edit.Edit.TheVariants as edit
use Rattle.obs_repair.specs.Edits.{edited}
use Rattle.obs_repair.specs.inner.Edits.{HasRow, TakesOne}
use Rattle.obs_repair.specs.inner.Repairing.{AreLeft, IsBefore, IsSaidAlone, IsTaken, most_pairs}
use Rattle.obs_repair.proofs.Absent.{absent-out}
use Rattle.obs_repair.proofs.GivenUp.{as_many, same_but, unchanged}
use Rattle.obs_repair.proofs.Metered.{most-lost, most-regained}
use Rattle.obs_repair.proofs.SameBut.{most-come, most-gone}

not_below : (a b : ℕ) → nat_lt a b ≡ false → b ≤ a
not_below a b e = grind (arith, nat_tests)

module _ (t : Tables) (e : Edit) (n : Network) (a : Assignment) (h : IsBefore t e n a) (v : IsValid t) (alone : Bool) (after : Network) (net : after ≡ network_of t) (said : IsSaidAlone e alone n after) where
  abbrev Most : ℕ → Type 0
  Most k = IsMost (case_branches t) (case_meters t) k

  bound_before : IsMost (case_branches h.before) (case_meters h.before) (length (pairs a))
  bound_before B x = h.longest.longest.none_longer B (every-to_live (case_branches h.before) (case_meters h.before) B x)

  bound_needed : Most (case_needed t)
  bound_needed B x = most_needed t v (case_meters t) (every_item (case_meters t)) B x

  -- one more, where fewer were there than are needed
  one_more : Most (length (pairs a) + 1) → Most (if nat_lt (length (pairs a)) (case_needed t) then length (pairs a) + 1 else length (pairs a))
  one_more most =
      elim (cases_Bool (nat_lt (length (pairs a)) (case_needed t))) [
        | inl l ↦ rw l most
        | inr l ↦ rw l (λ B x. let few = bound_needed B x in let not_fewer = not_below (length (pairs a)) (case_needed t) l in omega (arith, few, not_fewer))
      ]

  bound_alone : IsTrue alone → (x : Edit) → e ≡ x → IsSaidAlone x alone n after → Most (most_pairs x true (length (pairs a)) (case_needed t))
  bound_alone surely (edit.Switch at closed) is s =
      subst (λ (x : Network). IsMost x.graph.ends x.meters.touches (length (pairs a))) (unchanged t e n a h after net (s surely)) bound_before
  bound_alone surely (edit.Branch at false) is s =
      let same = h.same ∙ ap (edited h.before) is in
      most-gone at (network_of h.before) (network_of t) (same_but t e n a h after net at (s surely)) (as_many t e n a h) (length (pairs a))
      (ap (λ (x : Tables). get_or (case_branches x) at None) same ∙ absent-out h.before at (subst (λ (x : Edit). HasRow h.before x) is h.row)) bound_before
  bound_alone surely (edit.Branch at true) is s =
      one_more (most-come at (network_of h.before) (network_of t) (same_but t e n a h after net at (s surely)) (as_many t e n a h) (length (pairs a)) (case_branches-are t v) bound_before)
  bound_alone surely (edit.Meter at false) is s =
      subst (λ (x : Tables). IsMost (case_branches x) (case_meters x) (length (pairs a))) (sym (h.same ∙ ap (edited h.before) is)) (most-lost h.before at (length (pairs a)) bound_before)
  bound_alone surely (edit.Meter at true) is s =
      one_more (subst (λ (x : Tables). IsMost (case_branches x) (case_meters x) (length (pairs a) + 1)) (sym (h.same ∙ ap (edited h.before) is)) (most-regained h.before h.valid at (length (pairs a)) bound_before))

  bound_by : (b : Bool) → alone ≡ b → Most (most_pairs e b (length (pairs a)) (case_needed t))
  bound_by false is = bound_needed
  bound_by true is = bound_alone is e refl said

  pub bound_now : (had needed most : ℕ) → had ≡ length (pairs a) → needed ≡ after.needed → most ≡ most_pairs e alone had needed
      → IsMost (case_branches t) (case_meters t) most
  bound_now had needed most h_is n_is m_is =
      let s : needed ≡ case_needed t = n_is ∙ ap (λ (x : Network). x.needed) net in
      let k : most ≡ most_pairs e alone (length (pairs a)) (case_needed t) = m_is ∙ (ap (λ x. most_pairs e alone x needed) h_is ∙ ap (λ x. most_pairs e alone (length (pairs a)) x) s) in
      subst (λ (x : ℕ). Most x) (sym k) (bound_by alone refl)

-- the pairs that are left, and what is made of them
module _ (e : Edit) (a b : Assignment) (l : AreLeft e a b) where
  -- no pair is given up where none is taken away
  pub all_left : ((p : Pair) → In p (pairs a) → IsTaken e p → ⊥) → length (pairs a) ≤ length (pairs b)
  all_left none =
      let m = length-within (items (pairs a)) (items (pairs b)) (IsDistinct-slots a.slots) there in
      omega (arith, m, length-map (pairs a) (λ (p : Pair). p.0), length-map (pairs b) (λ (p : Pair). p.0))
    where
      there : (x : ℕ) → In x (items (pairs a)) → In x (items (pairs b))
      there x i =
          let q = In-items_from (pairs a) x i in
          subst (λ y. In y (items (pairs b))) (sym q.2) (In-items (pairs b) q.0 ((l.left q.0).1 (q.1, none q.0 q.1)))

  -- the pair of a meter that goes is one
  pub but_one_left : (at : ℕ) → e ≡ edit.Meter at false → length (pairs a) ≤ length (pairs b) + 1
  but_one_left at is =
      let m = length-within (items (pairs a)) (at ∷ items (pairs b)) (IsDistinct-slots a.slots) there in
      omega (arith, m, length-map (pairs a) (λ (p : Pair). p.0), length-map (pairs b) (λ (p : Pair). p.0))
    where
      there : (x : ℕ) → In x (items (pairs a)) → In x (at ∷ items (pairs b))
      there x i = elim (cases_eq x at) [
        | inl s ↦ inl s
        | inr ne ↦
            let q = In-items_from (pairs a) x i in
            inr (subst (λ y. In y (items (pairs b))) (sym q.2) (In-items (pairs b) q.0 ((l.left q.0).1 (q.1, λ k. ne (q.2 ∙ subst (λ (y : Edit). IsTaken y q.0) is k)))))
      ]

  -- the pairs k are those that are left, where nothing else changed
  module _ (k c : Assignment) (searches had needed most : ℕ) (alone : Bool) (same : IsTrue alone → k ≡ b) (is_had : had ≡ length (pairs a)) (is_most : most ≡ most_pairs e alone had needed)
      (bound : searches ≤ most - length (pairs k)) (grown : HasLengthened k c searches) where
    as_left : IsTrue alone → length (pairs k) ≡ length (pairs b)
    as_left surely = ap (λ (x : Assignment). length (pairs x)) (same surely)

    turned : IsTrue alone → searches ≤ 1 → c.turns ≤ a.turns + 1
    turned surely one =
        let found = grown.turns_found in
        let more = grown.grown in
        let was = ap (λ (x : Assignment). x.turns) (same surely) in
        let left = l.turns in
        omega (arith, found, more, was, left, one)

    most_of : (x : Edit) → e ≡ x → IsTrue alone → most ≡ most_pairs x true had needed
    most_of x is surely = is_most ∙ (ap (λ (x : Edit). most_pairs x alone had needed) is ∙ ap (λ (b : Bool). most_pairs x b had needed) surely)

    few_more : (if nat_lt had needed then had + 1 else had) ≤ had + 1
    few_more = elim (cases_Bool (nat_lt had needed)) [ inl y ↦ rw y (omega arith) | inr y ↦ rw y (omega arith) ]

    -- an edit of a meter takes one search at the most
    one_search_by : (x : Edit) → e ≡ x → ((at : ℕ) (inservice : Bool) → x ≡ edit.Meter at inservice → IsTrue alone) → TakesOne x a c searches
    one_search_by (edit.Switch at closed) is meter = tt
    one_search_by (edit.Branch at inservice) is meter = tt
    one_search_by (edit.Meter at false) is meter =
        let surely = meter at false refl in
        let m = most_of (edit.Meter at false) is surely in
        let few = but_one_left at is in
        let many = as_left surely in
        let one : searches ≤ 1 = omega (arith, m, few, many, bound, is_had) in
        (one, turned surely one)
    one_search_by (edit.Meter at true) is meter =
        let surely = meter at true refl in
        let m = most_of (edit.Meter at true) is surely in
        let all = all_left (λ p i k. subst (λ (y : Edit). IsTaken y p) is k) in
        let many = as_left surely in
        let few = few_more in
        let one : searches ≤ 1 = omega (arith, m, all, few, many, bound, is_had) in
        (one, turned surely one)

    pub one_search : ((at : ℕ) (inservice : Bool) → e ≡ edit.Meter at inservice → IsTrue alone) → TakesOne e a c searches
    one_search meter = one_search_by e refl meter

    -- and none where a meter goes that has no pair
    pub no_search_bare : (at : ℕ) → e ≡ edit.Meter at false → IsTrue alone → branch_at a at ≡ None → (searches ≡ 0) × (c.turns ≡ a.turns)
    no_search_bare at is surely none =
        let m = most_of (edit.Meter at false) is surely in
        let all = all_left (λ p i k. none_some p.1 (sym none ∙ (ap (λ j. branch_at a j) (sym (subst (λ (y : Edit). IsTaken y p) is k)) ∙ slot_from a.slots p i))) in
        let many = as_left surely in
        let zero : searches ≡ 0 = omega (arith, m, all, many, bound, is_had) in
        (zero, ap (λ (x : Assignment). x.turns) (grown.none zero ∙ same surely) ∙ l.turns)
