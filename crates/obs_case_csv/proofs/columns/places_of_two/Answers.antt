use Rattle.std.proofs.Common.{◌∙◌, ap}
use Rattle.std.specs.Bool.{then_some}
use Rattle.csv.specs.Records.{fields_of}
use Rattle.obs_case.specs.Tables.{has_name}
use Rattle.obs_case_csv.proofs.SeekLemmas.{position-found}
use Rattle.obs_case_csv.proofs.columns.places_of_two.Goals as goal

pub returns-else-further-clause-further : goal.returns-else-further-clause-further
returns-else-further-clause-further c =
    let fields = fields_of c.args.header.now in
    let column = c.args.further.now in
    c.then_some.ensures
    ∙ ap (λ found. then_some found c.seek-further.result.place) c.seek-further.ensures.found
    ∙ ap (then_some (has_name fields column)) c.seek-further.ensures.place
    ∙ position-found fields column
