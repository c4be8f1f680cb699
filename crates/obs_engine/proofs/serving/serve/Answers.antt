use Rattle.std.proofs.Common.{inl, inr, sym, ◌∙◌}
use Rattle.obs_notice.proofs.Named.{named_file, named_input}
use Rattle.obs_notice.proofs.Said.{writes_part, writes_whole}
use Rattle.obs_engine.proofs.serving.serve.Goals as goal

pub returns-clause-says : goal.returns-clause-says
returns-clause-says g c = rw (sym c.failed.ensures.word) (record {
  summary = c.run_with_summary-status.result.1;
  summed = c.run_with_summary-status.ensures.summary;
  part = writes_part _ _ c.say-said.result _ c.say-said.ensures.says;
  whole = λ rest has. writes_whole _ _ c.say-said.result _ (c.say-said.ensures.succeeds rest has) c.say-said.ensures.says;
})

pub returns-clause-named : goal.returns-clause-named
returns-clause-named g c = λ e.
    let files = c.run_with_summary-status.new.files in
    elim (c.run_with_summary-status.ensures.ran.read e) [
      | inl failed ↦ named_file files.faults _ files.failed _ _ _ _ _ _ c.requires.fresh failed.file
      | inr failed ↦ named_input files.faults _ files.failed _ _ failed.rose
    ]

pub returns-clause-beneath : goal.returns-clause-beneath
returns-clause-beneath g c = λ no w. c.run_with_summary-status.new.files.noted w (c.run_with_summary-status.ensures.ran.quiet_files no w ∙ c.requires.fresh w)
