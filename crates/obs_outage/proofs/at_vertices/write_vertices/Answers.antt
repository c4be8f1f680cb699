use Rattle.std.proofs.Common.{◌≡◌, ◌<◌, ◌≤◌, length, map, get_or, sym, ap, ◌∙◌, subst, arith, below_more, get_or-set_same, get_or-set_other}
use Rattle.std.proofs.lemmas.List.{ext_get_or, get_or-map, length-map, length-set}
use Rattle.obs_meter.specs.declared.Touch.TheVariants.{Nothing}
use Rattle.obs_outage.specs.inner.AtVertices.{front_vertex}
use Rattle.obs_outage.proofs.at_vertices.write_vertices.Goals as goal

pub loop-m-init : goal.loop-m-init
loop-m-init c = (c.requires.one_each, λ k l. absurd (omega (arith, l)))

pub loop-m-preserved : goal.loop-m-preserved
loop-m-preserved c =
    let l = c.loop-m in
    let len = l.invariant.0 in
    let test = c.loop-m-test.true in
    let count = c.count-m-end.ensures.count in
    let low : l.m < length l.at = omega (arith, len, test, count) in (
      length-set l.at l.m c.front_vertex.result ∙ len,
      below_more _ _
          (λ k b. subst (λ x. (x ≡ front_vertex c.args.g.now.vertices (get_or c.args.ms.now.touches k Nothing)) × (x ≤ c.args.g.now.vertices)) (sym (get_or-set_other l.at l.m k c.front_vertex.result 0 (omega (arith, b)))) (l.invariant.1 k b))
          (subst (λ x. (x ≡ front_vertex c.args.g.now.vertices (get_or c.args.ms.now.touches l.m Nothing)) × (x ≤ c.args.g.now.vertices)) (sym (get_or-set_same l.at l.m c.front_vertex.result 0 low))
          (c.front_vertex.ensures.vertex ∙ ap (front_vertex c.args.g.now.vertices) c.kind.ensures.kind, c.front_vertex.ensures.low)),
    )

pub returns : goal.returns
returns c =
    let l = c.loop-m in
    let f = front_vertex c.args.g.now.vertices in
    let all = c.args.ms.now.touches in
    let past = c.loop-m-test.false in
    let count = c.count-m-end.ensures.count in
    let len = l.invariant.0 in
    record {
      written = ext_get_or 0 l.at (map f all) (len ∙ sym (length-map all f))
          (λ k b. (l.invariant.1 k (omega (arith, b, past, count, len))).0 ∙ sym (get_or-map f all k Nothing 0 (omega (arith, b, len))));
      low = λ k b. (l.invariant.1 k (omega (arith, b, past, count, len))).1;
    }
