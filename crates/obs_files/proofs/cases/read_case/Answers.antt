use Rattle.obs_files.proofs.Contents.{cdf_taken, mat_taken}
use Rattle.obs_files.proofs.cases.read_case.Goals as goal

pub returns-in-Cdf-clause-read : goal.returns-in-Cdf-clause-read
returns-in-Cdf-clause-read c = λ file told.
    cdf_taken c.args.most c.args.contents.now file _ _ _ _ c.index-contents-0-in-Cdf.is c.index-contents-1-in-Cdf.is c.deref-in-Cdf.ensures.value c.deref-in-Cdf-2.ensures.value
    c.args.from _ c.read_cdf_tables.result c.in-Cdf.is c.read_cdf_tables.ensures.read c.requires.count told

pub returns-in-Matpower-clause-read : goal.returns-in-Matpower-clause-read
returns-in-Matpower-clause-read c = λ file told.
    mat_taken c.args.most c.args.contents.now file _ _ _ _ c.index-contents-0-in-Matpower.is c.index-contents-1-in-Matpower.is c.deref-in-Matpower.ensures.value c.deref-in-Matpower-2.ensures.value
    c.args.from _ c.read_matpower_tables.result c.in-Matpower.is c.read_matpower_tables.ensures.read c.requires.count told
