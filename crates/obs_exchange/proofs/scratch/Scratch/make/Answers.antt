use Rattle.std.proofs.Common.{ℕ, List, false, length, ap, ◌∙◌, arith}
use Rattle.std.proofs.lemmas.List.{length-replicate}
use Rattle.obs_exchange.specs.inner.Trail.{Trail}
use Rattle.obs_exchange.proofs.scratch.Scratch.make.Goals as goal

pub invariant_of-result : goal.invariant_of-result
invariant_of-result c =
    let marks = ap (λ (t : Trail). length t.marks) c.in-Ok.ensures.made ∙ length-replicate c.args.most_meters false in
    let stars = ap (λ (s : List ℕ). length s) c.in-Ok-make.ensures.made ∙ length-replicate c.args.most_vertices 0 in
    let tops = c.in-Ok-make-2.ensures.length in
    let path = c.in-Ok-vec.ensures.len in (
      omega (arith, path, marks),
      omega (arith, tops, stars),
    )

pub returns : goal.returns
returns c = record {
  room = record {
    blank = c.in-Ok.ensures.made;
    room = ap (λ (s : List ℕ). length s) c.in-Ok-make.ensures.made ∙ length-replicate c.args.most_vertices 0;
  };
}
