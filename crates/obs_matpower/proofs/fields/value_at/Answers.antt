use Rattle.std.proofs.lemmas.Iterator.Consumers.{YieldsList-from_first, nth_from_yields_List}
use Rattle.obs_matpower.specs.inner.Left.{values_left}
use Rattle.obs_matpower.specs.Rows.{values_of}
use Rattle.obs_matpower.proofs.fields.value_at.Goals as goal

pub returns : goal.returns
returns c = record {
  value =
      nth_from_yields_List c.nth.result c.nth.new.self c.args.index c.nth.ensures.ran (YieldsList-from_first (λ v. v.now) values_left {s = c.values.result} (values_of c.args.row.now) c.values.ensures.values);
}
