use Rattle.std.proofs.Common.{◌∙◌, List, ap, sym, subst}
use Rattle.obs_case.specs.Tables.{Tables}
use Rattle.obs_cert.specs.Claims.{Item}
use Rattle.obs_cert.specs.Numbered.{item_of}
use Rattle.obs_cert.specs.inner.Said.{item_said}
use Rattle.obs_cert.proofs.LayerLemmas.{IsSeeing, seeing_more, seeing_start}
use Rattle.obs_cert.proofs.layers.see_items.Goals as goal

pub loop-item-init : goal.loop-item-init
loop-item-init c = rw c.into_iter-item-iterator.ensures.into_iter_gives (seeing_start c.args.present.now c.args.items c.args.seen)

pub loop-item-preserved : goal.loop-item-preserved
loop-item-preserved c =
    let l = c.loop-item in
    let t = c.args.present.now in
    seeing_more t (item_said c.in-Some.item) c.next.new.self c.args.items c.args.seen l.seen c.see-seen.result
    (subst (λ (is : List Item). IsSeeing t is c.args.items c.args.seen l.seen) c.in-Some.ensures.steps l.invariant)
    (rw (sym (c.item_of.ensures.number ∙ ap (λ (x : Tables). item_of x (item_said c.in-Some.item)) c.case-case.ensures.case)) c.see-seen.ensures.tells)
