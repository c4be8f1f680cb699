use Rattle.std.proofs.Common.{ap, ◌∙◌}
use Rattle.std.specs.Option.{is_some}
use Rattle.std.specs.Str.{bytes_eq}
use Rattle.obs_case.specs.Tables.{candidate_names, meter_names}
use Rattle.obs_case.proofs.NameLemmas.{is_some-position}
use Rattle.obs_cert.proofs.numbers.is_known.Goals as goal

pub returns-in-Meter : goal.returns-in-Meter
returns-in-Meter c = record {
  known = rw c.in-Meter.is (c.is_some.ensures ∙ ap is_some c.find_meter.ensures.position ∙ is_some-position (bytes_eq c.in-Meter.name.now) (meter_names c.args.case.now));
}

pub returns-in-Candidate : goal.returns-in-Candidate
returns-in-Candidate c = record {
  known = rw c.in-Candidate.is (c.is_some-in-Candidate.ensures ∙ ap is_some c.find_candidate.ensures.position ∙ is_some-position (bytes_eq c.in-Candidate.name.now) (candidate_names c.args.case.now));
}
