-- The dips of a trial are the critical meters of its case.
use Rattle.std.proofs.Common.{◌≡◌, ℕ, Bool, false, not, ◌&&◌, List, [], ◌∷◌, length, filter, refl, sym, ap, ◌∙◌, arith, inl, inr}
use Rattle.std.specs.Prelude.{cond, nat_lt}
use Rattle.std.specs.List.{range_with_len}
use Rattle.std.proofs.lemmas.Bool.{cases_Bool, cases_eq}
use Rattle.std.proofs.lemmas.Bool.Decides.{nat_tests}
use Rattle.std.proofs.lemmas.List.Elements.{filter_agree}
use Rattle.std.proofs.Math.Bool.{and-false, and-true}
use Rattle.obs_case.specs.Flags.{with_meter_inservice}
use Rattle.obs_case.specs.Tables.{Tables}
use Rattle.obs_graph.specs.Graph.{Graph}
use Rattle.obs_matroid.specs.Assignments.{Pair}
use Rattle.obs_matroid.specs.Lists.{In, other_than, without}
use Rattle.obs_matroid.specs.Matroid.{Matroid}
use Rattle.obs_matroid.specs.Values.{first_of, first_with, is_critical, longer, pick, rho_of}
use Rattle.obs_matroid.proofs.Lists.{In-filter_from, clash, filter_out, other_ne, other_self, other_true}
use Rattle.obs_meter.specs.Spanned.{graph_matroid}
use Rattle.obs_meter.specs.Touches.{is_live, live_items, touch_at}
use Rattle.obs_exchange.specs.Critical.{critical_at}
use Rattle.obs_network.specs.Network.{case_branches, case_meters, case_vertex_count}
use Rattle.obs_network.specs.Observable.{case_live_meters, case_rank}
use Rattle.obs_repair.specs.Bounds.{case_critical_meters}
use Rattle.obs_repair.proofs.Metered.{none_touched, same_count, same_graph, same_touch}
use Rattle.obs_network.proofs.OfCase.{length-case_meters}
use Rattle.obs_engine.specs.Trials.{dip_meters, dips_of, is_dip}

-- what passes both of two tests
filter_both : {X : Type 0} (p q both : X → Bool) → ((x : X) → both x ≡ (p x && q x)) → (xs : List X) → filter both xs ≡ filter q (filter p xs)
filter_both p q both is [] = refl
filter_both p q both is (x ∷ xs) =
    let rest = filter_both p q both is xs in
    elim (cases_Bool (p x)) [
      | inl t ↦ rw (is x, t) (ap (λ (ys : List _). cond (q x) (x ∷ ys) ys) rest)
      | inr f ↦ rw (is x, f) rest
    ]

-- the first assignment takes nothing but what its items touch
module _ (g : Matroid) (touch other : ℕ → List ℕ) where
  pick_same : (passes : ℕ → Bool) (given else_given : ℕ → List Pair) (bare : List Pair) → ((e : ℕ) → given e ≡ else_given e) → (es : List ℕ) → pick passes given bare es ≡ pick passes else_given bare es
  pick_same passes given else_given bare same [] = refl
  pick_same passes given else_given bare same (e ∷ es) =
      let rest = pick_same passes given else_given bare same es in
      ap (λ (A : List Pair). cond (passes e) (longer A (pick passes given bare es)) (pick passes given bare es)) (same e)
      ∙ ap (λ (A : List Pair). cond (passes e) (longer (else_given e) A) A) rest

  first_same : (M L : List ℕ) → ((x : ℕ) → In x M → touch x ≡ other x) → first_with g touch M L ≡ first_with g other M L
  unfolding first_with
  first_same [] L same = refl
  first_same (m ∷ M) L same =
      let free : ℕ → Bool = λ e. not (g.spans L e) in
      let rest : (x : ℕ) → In x M → touch x ≡ other x = λ x i. same x (inr i) in
      ap (λ (es : List ℕ). pick free (λ e. (m, e) ∷ first_with g touch M (e ∷ L)) (first_with g touch M L) es) (same m (inl refl))
      ∙ (ap (λ (A : List Pair). pick free (λ e. (m, e) ∷ first_with g touch M (e ∷ L)) A (other m)) (first_same M L rest)
      ∙ pick_same free (λ e. (m, e) ∷ first_with g touch M (e ∷ L)) (λ e. (m, e) ∷ first_with g other M (e ∷ L)) (first_with g other M L)
      (λ e. ap (λ (A : List Pair). (m, e) ∷ A) (first_same M (e ∷ L) rest)) (other m))

  rho_same : (M : List ℕ) → ((x : ℕ) → In x M → touch x ≡ other x) → rho_of g touch M ≡ rho_of g other M
  unfolding rho_of first_of
  rho_same M same = ap (λ (A : List Pair). length A) (first_same M [] same)

not_below_itself : (a b : ℕ) → a ≡ b → nat_lt a b ≡ false
not_below_itself a b e = grind (arith, nat_tests)

module _ (t : Tables) (at : ℕ) where
  abbrev lost : Tables
  lost = with_meter_inservice t at false

  -- another meter is live after the loss where it was before, and the lost one isn't
  live_both : (m : ℕ) → is_live (case_branches t) (case_meters lost) m ≡ (is_live (case_branches t) (case_meters t) m && other_than at m)
  live_both m =
      let was = is_live (case_branches t) (case_meters t) m in
      elim (cases_eq m at) [
        | inl s ↦
            ap (λ (k : ℕ). nat_lt 0 (length (touch_at (case_branches t) (case_meters lost) k))) s
            ∙ (ap (λ (es : List ℕ). nat_lt 0 (length es)) (none_touched t at)
            ∙ sym (ap (λ (b : Bool). was && b) (ap (λ (k : ℕ). other_than at k) s ∙ other_self at) ∙ and-false was))
        | inr n ↦
            ap (λ (es : List ℕ). nat_lt 0 (length es)) (same_touch t at false m n)
            ∙ sym (ap (λ (b : Bool). was && b) (other_true at m n) ∙ and-true was)
      ]

  live_lost : live_items (case_branches t) (case_meters lost) ≡ without at (case_live_meters t)
  live_lost =
      ap (λ (n : ℕ). filter (is_live (case_branches t) (case_meters lost)) (range_with_len 0 n)) (same_count t at false)
      ∙ filter_both (is_live (case_branches t) (case_meters t)) (other_than at) (is_live (case_branches t) (case_meters lost)) live_both (range_with_len 0 (length (case_meters t)))

  abbrev joins : Matroid
  joins = graph_matroid (case_vertex_count t) (case_branches t)

  abbrev touch : ℕ → List ℕ
  touch = touch_at (case_branches t) (case_meters t)

  -- so the rank is that of the others
  rank_lost : case_rank lost ≡ rho_of joins touch (without at (case_live_meters t))
  unfolding case_rank
  rank_lost =
      ap (λ (g : Graph). rho_of (graph_matroid g.vertices g.ends) (touch_at g.ends (case_meters lost)) (live_items g.ends (case_meters lost))) (same_graph t at false)
      ∙ (ap (λ (M : List ℕ). rho_of joins (touch_at (case_branches t) (case_meters lost)) M) live_lost
      ∙ rho_same joins (touch_at (case_branches t) (case_meters lost)) touch (without at (case_live_meters t))
      (λ x i. same_touch t at false x (other_ne at x (In-filter_from (other_than at) x (case_live_meters t) i).1)))

  -- a meter that isn't live isn't missed
  not_missed : is_live (case_branches t) (case_meters t) at ≡ false → case_rank lost ≡ case_rank t
  unfolding case_rank
  not_missed idle =
      rank_lost
      ∙ ap (λ (M : List ℕ). rho_of joins touch M)
      (filter_out at (case_live_meters t) (λ i. clash (In-filter_from (is_live (case_branches t) (case_meters t)) at (range_with_len 0 (length (case_meters t))) i).1 idle))

  critical_lost : nat_lt (case_rank lost) (case_rank t) ≡ is_critical joins touch (case_live_meters t) at
  unfolding is_critical case_rank
  critical_lost = ap (λ (r : ℕ). nat_lt r (case_rank t)) rank_lost

  dip_is : is_dip t at ≡ critical_at (case_vertex_count t) (case_branches t) (case_meters t) at
  dip_is =
      let critical = is_critical joins touch (case_live_meters t) at in
      elim (cases_Bool (is_live (case_branches t) (case_meters t) at)) [
        | inl live ↦ critical_lost ∙ sym (ap (λ (b : Bool). b && critical) live)
        | inr idle ↦ not_below_itself (case_rank lost) (case_rank t) (not_missed idle) ∙ sym (ap (λ (b : Bool). b && critical) idle)
      ]

pub dips_are_critical : (t : Tables) → dip_meters t ≡ case_critical_meters t
unfolding dip_meters case_critical_meters
dips_are_critical t =
    let critical = critical_at (case_vertex_count t) (case_branches t) (case_meters t) in
    filter_agree (is_dip t) critical (dip_is t) (range_with_len 0 (length t.meters)) ∙ ap (λ (n : ℕ). filter critical (range_with_len 0 n)) (sym (length-case_meters t))

pub dips_count_critical : (t : Tables) → dips_of t ≡ length (case_critical_meters t)
dips_count_critical t = ap (λ (xs : List ℕ). length xs) (dips_are_critical t)
