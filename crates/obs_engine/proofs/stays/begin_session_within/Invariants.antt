use Rattle.obs_engine.proofs.stays.begin_session_within.Given as goal

abbrev pub ghosts-begin_counted : goal.ghosts-begin_counted
ghosts-begin_counted g a = record { name = a.blank.name; parts = a.blank.parts }
