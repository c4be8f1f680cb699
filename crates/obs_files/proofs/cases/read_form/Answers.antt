use Rattle.std.proofs.Common.{arith}
use Rattle.obs_files.proofs.Contents.{case_taken, topology_taken, trial_taken}
use Rattle.obs_files.proofs.cases.read_form.Goals as goal

pub returns-in-Topology-clause-read : goal.returns-in-Topology-clause-read
returns-in-Topology-clause-read c = λ file told.
    topology_taken c.args.limits c.rows-most.result c.rows-most.ensures.rows c.args.form c.args.contents.now file _ _ _ _ c.read_switching.result c.in-Topology.is c.index-contents-0.is c.index-contents-1.is
    c.deref.ensures.value c.deref-in-Topology.ensures.value c.read_switching.ensures.read c.requires.count told

pub returns-in-Case-clause-read : goal.returns-in-Case-clause-read
returns-in-Case-clause-read c = λ file told.
    case_taken c.args.limits c.args.contents.now file c.read_case.result c.in-Case.from c.rows-most.result c.rows-most.ensures.rows c.args.form c.in-Case.field-0 _ c.in-Case.is (c.candidates_of.ensures.candidates file) (c.read_case.ensures.read file) told

pub returns-in-Trial-clause-read : goal.returns-in-Trial-clause-read
returns-in-Trial-clause-read c = λ file told. trial_taken c.args.limits c.args.form c.in-Trial.rows c.in-Trial.seed file c.generate.result c.in-Trial.is c.generate.ensures.generated

pub read_case-requires-clause-short : goal.read_case-requires-clause-short
read_case-requires-clause-short c = λ k d low. omega (arith, c.requires.short k d low, c.rows-most.ensures.limits.few_bytes)
