use Rattle.std.proofs.Common.{◌≡◌, ◌<◌, ℕ, Bool, None, List, length, get_or, sym, ap, ◌∙◌, subst}
use Rattle.std.specs.Prelude.{All}
use Rattle.std.proofs.lemmas.List.{get_or_default}
use Rattle.obs_graph.specs.Graph.{Graph}
use Rattle.obs_matroid.specs.Lists.{In}
use Rattle.obs_matroid.proofs.Contained.{In-from_Contains}
use Rattle.obs_meter.specs.declared.Touch.{Touch}
use Rattle.obs_meter.specs.Held.{Meters}
use Rattle.obs_switch.specs.Groups.{items_with}
use Rattle.obs_network.specs.Network.{Network}
use Rattle.obs_outage.specs.inner.AtVertices.{AreVerticesOf, AtVertices}
use Rattle.obs_outage.specs.inner.Without.{AreTouched, left_if}
use Rattle.obs_outage.proofs.AtVertices.{listed_low, touched_around, touched_nowhere}
use Rattle.obs_outage.proofs.rowless.touch_around.Goals as goal

-- what is touched over the lent graph and meters is touched over those of the network
touched_there : (out : Bool) (e v : ℕ) (g : Graph) (ms : Meters) (x : AtVertices) (list : List ℕ) (before after : List Touch) (n : Network) → g ≡ n.graph → ms ≡ n.meters → list ≡ items_with x.at v
    → AreTouched (left_if g.ends out e) list ms.touches before after → AreTouched (left_if n.graph.ends out e) (items_with x.at v) n.meters.touches before after
touched_there out e v g ms x list before after n is_g is_ms is_list h =
    subst (λ (y : Graph). AreTouched (left_if y.ends out e) (items_with x.at v) n.meters.touches before after) is_g
    (subst (λ (y : Meters). AreTouched (left_if g.ends out e) (items_with x.at v) y.touches before after) is_ms
    (subst (λ xs. AreTouched (left_if g.ends out e) xs ms.touches before after) is_list h))

pub returns-in_default : goal.returns-in_default
returns-in_default c = record {
  touches = touched_nowhere c.args.network.now c.args.at_vertices.now c.requires.at_vertices c.args.out c.args.e c.args.less.now.touches c.requires.one_each c.requires.known
      (get_or_default c.args.network.now.graph.ends c.args.e None c.ends.result c.requires.branch
      ∙ (sym (c.ends.ensures.ends ∙ ap (λ (x : Graph). get_or x.ends c.args.e c.ends.result) c.graph-g.ensures.graph) ∙ c.in_default.is));
}

pub returns-in-Some : goal.returns-in-Some
returns-in-Some c =
    let a = c.args in
    let n = a.network.now in
    let row = get_or_default n.graph.ends a.e None c.ends.result c.requires.branch
    ∙ (sym (c.ends.ensures.ends ∙ ap (λ (x : Graph). get_or x.ends a.e c.ends.result) c.graph-g.ensures.graph) ∙ c.in-Some.is) in
    record {
      touches = touched_around n a.at_vertices.now c.requires.at_vertices a.out a.e a.less.now.touches c.requires.one_each c.requires.known c.in-Some.ends row c.touch_listed.new.less.touches _
          (touched_there a.out a.e c.in-Some.ends.a _ _ a.at_vertices.now _ _ _ n c.graph-g.ensures.graph c.meters-ms.ensures.meters c.list.ensures.meters c.touch_listed.ensures.touched)
          (touched_there a.out a.e c.in-Some.ends.b _ _ a.at_vertices.now _ _ _ n c.graph-g.ensures.graph c.meters-ms.ensures.meters c.list-in-Some.ensures.meters c.touch_listed-in-Some.ensures.touched);
    }

-- the listed meters are among those of the network
low_ones : (ms : Meters) (n : Network) (x : AtVertices) (v : ℕ) (list : List ℕ) → AreVerticesOf n x → ms ≡ n.meters → list ≡ items_with x.at v → All (λ m. m < length ms.touches) list
low_ones ms n x v list of is at k d l =
    subst (λ (y : Meters). get_or list k d < length y.touches) (sym is)
    (listed_low n x of v (get_or list k d) (subst (λ xs. In (get_or list k d) xs) at (In-from_Contains (get_or list k d) list (k, l, get_or_default list k (get_or list k d) d l))))

pub touch_listed-requires-clause-low : goal.touch_listed-requires-clause-low
touch_listed-requires-clause-low c = low_ones c.meters-ms.result.now c.args.network.now c.args.at_vertices.now c.in-Some.ends.a c.list.result.now c.requires.at_vertices c.meters-ms.ensures.meters c.list.ensures.meters

pub touch_listed-requires-in-Some-clause-low : goal.touch_listed-requires-in-Some-clause-low
touch_listed-requires-in-Some-clause-low c = low_ones c.meters-ms.result.now c.args.network.now c.args.at_vertices.now c.in-Some.ends.b c.list-in-Some.result.now c.requires.at_vertices c.meters-ms.ensures.meters c.list-in-Some.ensures.meters
