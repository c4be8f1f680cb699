use Rattle.obs_edit.proofs.FirstTrees.{trees_are_first, trees_are_whole, trees_span, trees_stand_alone}
use Rattle.obs_edit.proofs.laws.trees_are_first.Goals as goal

pub returns-clause-first : goal.returns-clause-first
returns-clause-first c = trees_are_first

pub returns-clause-whole : goal.returns-clause-whole
returns-clause-whole c = trees_are_whole

pub returns-clause-spanning : goal.returns-clause-spanning
returns-clause-spanning c = trees_span

pub returns-clause-alone : goal.returns-clause-alone
returns-clause-alone c = trees_stand_alone
