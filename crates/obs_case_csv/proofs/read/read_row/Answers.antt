use Rattle.std.proofs.Common.{◌∙◌, [], ap, sym, unwrap_or}
use Rattle.csv.specs.Records.{fields_of}
use Rattle.obs_case_csv.specs.inner.Columns.{fourth_column, own_column, second_column, third_column}
use Rattle.obs_case_csv.specs.Fields.{field_or_0}
use Rattle.obs_case_csv.proofs.FieldLemmas.{field-at, with_fields-ordered}
use Rattle.obs_case_csv.proofs.read.read_row.Goals as goal

pub returns-in-Ok-clause-added : goal.returns-in-Ok-clause-added
returns-in-Ok-clause-added c =
    λ header places.
    let row = fields_of c.args.row.now in
    let table = c.args.table in
    let f = c.in-Some.fields in
    let fields = c.in-Some.ensures in
    c.in-Ok.ensures.added
    ∙ sym (with_fields-ordered header row f.own.now f.second.now f.third.now f.fourth.now f.further.now c.args.case.now table
    (field-at header row (own_column table) c.args.places.now.own f.own.now places.own fields.own)
    (field-at header row (second_column table) c.args.places.now.second f.second.now places.second fields.second)
    (field-at header row (third_column table) c.args.places.now.third f.third.now places.third fields.third)
    (field-at header row (fourth_column table) c.args.places.now.fourth f.fourth.now places.fourth fields.fourth)
    (ap (λ o. unwrap_or o []) (ap (field_or_0 row) (sym places.further) ∙ fields.further)))
