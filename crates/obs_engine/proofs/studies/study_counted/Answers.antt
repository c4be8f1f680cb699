use Rattle.std.proofs.Common.{ap, sym}
use Rattle.obs_files.specs.declared.words.Study.{Study}
use Rattle.obs_engine.specs.Studies.{study_reply}
use Rattle.obs_engine.proofs.Endings.{replied_as}
use Rattle.obs_engine.proofs.studies.study_counted.Goals as goal

pub returns-in-Outages : goal.returns-in-Outages
returns-in-Outages g c = record { replied = replied_as (ap (λ (s : Study). study_reply s c.args.case) (sym c.in-Outages.is)) c.answer_outages.ensures.replied; summary = c.answer_outages.ensures.summary }

pub returns-in-Pairs : goal.returns-in-Pairs
returns-in-Pairs g c = record { replied = replied_as (ap (λ (s : Study). study_reply s c.args.case) (sym c.in-Pairs.is)) c.answer_pairs.ensures.replied; summary = c.answer_pairs.ensures.summary }

pub returns : goal.returns
returns g c = record { replied = replied_as (ap (λ (s : Study). study_reply s c.args.case) (sym c.in-Stations.is)) c.answer_stations.ensures.replied; summary = c.answer_stations.ensures.summary }
