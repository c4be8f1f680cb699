use Rattle.std.proofs.Common.{List, sym, ◌∙◌, subst}
use Rattle.obs_cert.specs.Claims.{Layer}
use Rattle.obs_cert.specs.inner.Given.{layer_said}
use Rattle.obs_cert.proofs.LayerLemmas.{IsLooking, looking_on}
use Rattle.obs_cert.proofs.layers.has_outside_layer.Goals as goal

pub loop-layer-preserved : goal.loop-layer-preserved
loop-layer-preserved c =
    let l = c.loop-layer in
    let t = c.args.present.now in
    looking_on t (layer_said c.in-Some.layer) c.next.new.self c.args.layers l.seen c.see_items-seen.result
    (subst (λ (ls : List Layer). IsLooking t ls c.args.layers l.seen) c.in-Some.ensures.steps l.invariant)
    (rw (sym c.walk_items.ensures.items) c.see_items-seen.ensures.tells)
    (sym c.is_outside.ensures.outside ∙ c.if-is_outside.false)
