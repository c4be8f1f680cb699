use Rattle.obs_matroid.proofs.Cheapest.{own_layers_run, own_layers_show, own_lists_grow}
use Rattle.obs_matroid.proofs.laws.own_layers.Goals as goal

pub returns-clause-run : goal.returns-clause-run
returns-clause-run c = own_layers_run

pub returns-clause-show : goal.returns-clause-show
returns-clause-show c = λ g laws touch price M es xs r b n. own_layers_show g laws touch price M es n xs r b

pub returns-clause-lists_grow : goal.returns-clause-lists_grow
returns-clause-lists_grow c = own_lists_grow
