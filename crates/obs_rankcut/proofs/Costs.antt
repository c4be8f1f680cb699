-- Candidates that complete the meters cost at least what layers show; and idle candidates only cost.
use Rattle.std.proofs.Common.{ℕ, ◌≤◌, not, Option, List, ◌++◌, refl, arith, nat_lt}
use Rattle.std.specs.Prelude.{filter}
use Rattle.std.specs.List.{sum_by}
use Rattle.std.proofs.lemmas.Bool.{le-ltb}
use Rattle.std.proofs.lemmas.List.Filters.{sum_by-filter_both}
use Rattle.obs_graph.specs.declared.Ends.{Ends}
use Rattle.obs_graph.specs.Positions.{AreBranches}
use Rattle.obs_matroid.specs.Lists.{In}
use Rattle.obs_matroid.specs.Placement.{IsShown, Layer, RunOn, layers_sum}
use Rattle.obs_matroid.proofs.Lists.{In-filter, In-filter_from}
use Rattle.obs_matroid.proofs.Placement.{layer_bound}
use Rattle.obs_meter.specs.declared.Touch.{Touch}
use Rattle.obs_meter.specs.Spanned.{graph_matroid}
use Rattle.obs_meter.specs.Touches.{is_live, live_items, touch_at}
use Rattle.obs_meter.proofs.Assigned.{rho-to_matroid}
use Rattle.obs_meter.proofs.Instance.{IsMatroid-graph}
use Rattle.obs_meter.proofs.Live.{In-live}
use Rattle.obs_meter.specs.Costs.{Completes, live_candidates, live_meters, price_of}
use Rattle.obs_rankcut.specs.inner.Costs.{DoAsMuch}

pub layers_bound : (n : ℕ) (ends : List (Option Ends)) (touches : List Touch) (meters needed : ℕ) (prices X : List ℕ) (layers : List Layer) → AreBranches n ends → RunOn 0 layers
    → ((l : Layer) → In l layers → IsShown (graph_matroid n ends) (touch_at ends touches) (price_of meters prices) (live_meters ends touches meters) (live_candidates ends touches meters) l)
    → DoAsMuch ends touches meters needed X → layers_sum needed layers ≤ sum_by (price_of meters prices) X
layers_bound n ends touches meters needed prices X layers ok r shown d =
    layer_bound (graph_matroid n ends) (IsMatroid-graph n ends ok) (touch_at ends touches) (price_of meters prices) (live_meters ends touches meters) (live_candidates ends touches meters) X needed layers
    r shown d.candidates (rho-to_matroid n ends touches (live_meters ends touches meters ++ X) needed d.longest)

-- the live ones of candidates that complete do as much, and cost no more
pub live_ones : (ends : List (Option Ends)) (touches : List Touch) (meters needed : ℕ) (X : List ℕ) → Completes ends touches meters needed X
    → DoAsMuch ends touches meters needed (filter (is_live ends touches) X)
live_ones ends touches meters needed X c = record {
  candidates = λ x i.
      let u = In-filter_from (is_live ends touches) x X i in
      In-filter (λ m. not (nat_lt m meters)) x (live_items ends touches) (In-live ends touches x u.1) (rw (le-ltb x meters (c.candidates x u.0)) refl);
  longest = c.reached;
}

pub layers_bound_completing : (n : ℕ) (ends : List (Option Ends)) (touches : List Touch) (meters needed : ℕ) (prices X : List ℕ) (layers : List Layer) → AreBranches n ends → RunOn 0 layers
    → ((l : Layer) → In l layers → IsShown (graph_matroid n ends) (touch_at ends touches) (price_of meters prices) (live_meters ends touches meters) (live_candidates ends touches meters) l)
    → Completes ends touches meters needed X → layers_sum needed layers ≤ sum_by (price_of meters prices) X
layers_bound_completing n ends touches meters needed prices X layers ok r shown c =
    let l = layers_bound n ends touches meters needed prices (filter (is_live ends touches) X) layers ok r shown (live_ones ends touches meters needed X c) in
    let s = sum_by-filter_both (is_live ends touches) (λ x. not (is_live ends touches x)) (λ x. refl) (price_of meters prices) X in
    omega (arith, l, s)
