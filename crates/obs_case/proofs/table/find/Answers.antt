use Rattle.std.proofs.Common.{arith, ◌∙◌, ◌<◌, length, map, sym, ap}
use Rattle.std.specs.Str.{bytes_eq}
use Rattle.obs_case.specs.Tables.{position_of}
use Rattle.obs_case.proofs.NameLemmas.{has_name-long, position-absent}
use Rattle.obs_case.proofs.RowLemmas.{position-by_name}
use Rattle.obs_case.proofs.table.find.Goals as goal

pub returns-then-name-gt-LONGEST : goal.returns-then-name-gt-LONGEST
returns-then-name-gt-LONGEST g c =
    let names = map g.R.Row.own_name c.args.rows.now.keys in
    let long : 64 < length c.args.name.now = omega arith in
    record { position = sym (position-absent (bytes_eq c.args.name.now) names (has_name-long names c.args.name.now c.requires.named long)) }

pub returns-in-Some : goal.returns-in-Some
returns-in-Some g c = record {
  position = c.in-Some.ensures.index
      ∙ position-by_name g.R.PartialEq.eq g.R.Row.own_name g.met.R.Row.by_name c.named-wanted.result c.args.rows.now.keys
      ∙ ap (position_of (map g.R.Row.own_name c.args.rows.now.keys)) (c.named-wanted.ensures.name ∙ c.new.ensures.bytes);
}

pub returns : goal.returns
returns g c = record {
  position = c.in-None.ensures.index
      ∙ position-by_name g.R.PartialEq.eq g.R.Row.own_name g.met.R.Row.by_name c.named-wanted.result c.args.rows.now.keys
      ∙ ap (position_of (map g.R.Row.own_name c.args.rows.now.keys)) (c.named-wanted.ensures.name ∙ c.new.ensures.bytes);
}
