use Rattle.obs_engine.proofs.stays.answer_one.Given as goal

abbrev pub ghosts-answer_counted : goal.ghosts-answer_counted
ghosts-answer_counted g a = record { name = a.blank.name; parts = a.blank.parts }
