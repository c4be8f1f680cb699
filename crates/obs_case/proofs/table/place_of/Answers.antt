use Rattle.std.proofs.Common.{◌∙◌, map, sym}
use Rattle.std.specs.Str.{bytes_eq}
use Rattle.std.proofs.lemmas.List.{length-map}
use Rattle.obs_case.proofs.NameLemmas.{missed, place-absent}
use Rattle.obs_case.proofs.table.place_of.Goals as goal

pub returns-in-None : goal.returns-in-None
returns-in-None g c =
    let names = map g.R.Row.own_name c.args.rows.now.keys in
    record {
      place = c.len.ensures.len ∙ (sym (length-map c.args.rows.now.keys g.R.Row.own_name)
          ∙ sym (place-absent (bytes_eq c.args.name.now) names (missed names c.args.name.now c.in-None.ensures.position)));
    }
