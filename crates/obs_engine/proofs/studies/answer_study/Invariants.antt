use Rattle.obs_engine.proofs.studies.answer_study.Given as goal

abbrev pub ghosts-study_counted : goal.ghosts-study_counted
ghosts-study_counted g a = record { name = a.blank.name; parts = a.blank.parts }
