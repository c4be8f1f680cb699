use Rattle.std.proofs.Common.{◌≡◌, None, List, [], ◌∷◌, Option, map, get_or, set, refl, ap, ◌∙◌}
use Rattle.std.proofs.lemmas.List.{get_or_default, set-get_or, set-set}
use Rattle.obs_graph.specs.declared.Ends.{Ends}
use Rattle.obs_graph.specs.Graph.{Graph}
use Rattle.obs_meter.specs.declared.Touch.{Touch}
use Rattle.obs_outage.proofs.rowless.Without.put_back.Goals as goal

-- what nothing is made of stays
as_they_are : (ts : List Touch) → map (λ t. t) ts ≡ ts
as_they_are [] = refl
as_they_are (t ∷ ts) = ap (λ xs. t ∷ xs) (as_they_are ts)

pub returns : goal.returns
returns c =
    let n = c.args.network.now in
    let e = c.args.e in
    let h = c.requires.without in
    let is = c.set.ensures.whole in
    let there : get_or n.graph.ends e c.ends.result ≡ get_or n.graph.ends e None = get_or_default n.graph.ends e c.ends.result None h.row in
    let at : c.ends.result ≡ get_or n.graph.ends e None =
    c.ends.ensures.ends ∙ ap (λ (x : Graph). get_or x.ends e c.ends.result) c.graph.ensures.graph ∙ there in
    record {
      copy = record {
        vertices = ap (λ (x : Graph). x.vertices) is ∙ h.vertices;
        ends = ap (λ (x : Graph). x.ends) is ∙ ap (λ (xs : List (Option Ends)). set xs e c.ends.result) h.ends ∙ set-set n.graph.ends e None c.ends.result ∙ ap (set n.graph.ends e) at ∙ set-get_or n.graph.ends e None;
        touches = c.touch_around.ensures.touches ∙ as_they_are n.meters.touches;
        at_vertices = h.at_vertices;
      };
    }
