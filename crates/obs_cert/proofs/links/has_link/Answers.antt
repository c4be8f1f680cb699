use Rattle.std.proofs.Common.{◌∙◌, ap}
use Rattle.obs_meter.specs.Lost.{is_listed}
use Rattle.obs_cert.proofs.LinkLemmas.{found_link}
use Rattle.obs_cert.proofs.links.has_link.Goals as goal

pub returns : goal.returns
returns c = record { listed = c.is_ok.ensures.value ∙ found_link c.args.links.now c.link.result c.binary_search.result c.binary_search.ensures.position c.requires.rising ∙ ap (is_listed c.args.links.now) c.link.ensures.link }
