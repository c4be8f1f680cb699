use Rattle.std.proofs.Common.{get_or, subst}
use Rattle.obs_matroid.specs.Lists.{In}
use Rattle.obs_matroid.proofs.Contained.{In-get_or}
use Rattle.obs_exchange.proofs.Walking.{touched_there}
use Rattle.obs_exchange.proofs.free.first_branch.Goals as goal

pub free_place-requires : goal.free_place-requires
free_place-requires c = record {
  present = λ e i. touched_there c.args.over.now.graph.ends c.args.over.now.touches c.args.m e (subst (λ xs. In e xs) c.touched-touched.ensures.touched i);
}

pub returns-in-Some : goal.returns-in-Some
returns-in-Some c = let t = c.touched-touched in let k = c.in-Some in record {
  free = record {
    touched = subst (λ xs. In (get_or t.result.now k.k 0) xs) t.ensures.touched (In-get_or t.result.now k.k 0 k.ensures.place);
    apart = k.ensures.free;
  };
}
