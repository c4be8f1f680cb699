use Rattle.obs_exchange.proofs.Lawful.{closed_tight_at, component_longest_at, component_tight_at}
use Rattle.obs_exchange.proofs.laws.closed_is_tight.Goals as goal

pub returns-clause-whole : goal.returns-clause-whole
returns-clause-whole c = closed_tight_at

pub returns-clause-component : goal.returns-clause-component
returns-clause-component c = λ a g touches S kind of h thawed sum own K. component_tight_at a g touches S h thawed kind of sum own K

pub returns-clause-none_longer : goal.returns-clause-none_longer
returns-clause-none_longer c = λ a g touches S kind of h thawed sum own K B b. component_longest_at a g touches S h thawed kind of sum own K B b
