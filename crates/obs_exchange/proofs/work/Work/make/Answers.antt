use Rattle.std.proofs.Common.{◌≡◌, false, length, refl, sym, ap, ◌∙◌, arith}
use Rattle.std.proofs.lemmas.List.{length-replicate}
use Rattle.obs_meter.specs.Held.{Meters}
use Rattle.obs_exchange.specs.inner.Noting.{Noted}
use Rattle.obs_exchange.specs.inner.Trail.{Trail}
use Rattle.obs_exchange.proofs.work.Work.make.Goals as goal

pub invariant_of-result : goal.invariant_of-result
invariant_of-result c =
    let marks = ap (λ (t : Trail). length t.marks) c.in_ok-make.ensures.room.blank ∙ length-replicate c.args.most_meters false in
    let noted = ap (λ (n : Noted). length n.flags) c.in_ok-make-2.ensures.made ∙ length-replicate c.args.most_meters false in
    let copied : c.in_ok-make-3.field-0.most ≡ c.args.most_meters = ap (λ (m : Meters). m.most) c.in_ok-make-3.ensures.empty in (
      omega arith,
      omega arith,
      omega (arith, noted, marks),
      omega (arith, copied, marks),
      ap length (c.in_ok-vec.ensures.items_if_clones_equal (λ y e. e)) ∙ length-replicate c.args.most_meters false ∙ sym marks,
    )

pub returns : goal.returns
returns c =
    let made = c.in_ok-make.ensures.room in
    let marks = ap (λ (t : Trail). length t.marks) made.blank ∙ length-replicate c.args.most_meters false in
    let walked = ap (λ (t : Trail). length t.walked) made.blank ∙ length-replicate c.args.most_branches false in
    record { empty = rw (marks, walked, made.room, c.in_ok-make-2.ensures.made, ap (λ (m : Meters). m.touches) c.in_ok-make-3.ensures.empty, c.in_ok-vec.ensures.items_if_clones_equal (λ y e. e)) refl }
