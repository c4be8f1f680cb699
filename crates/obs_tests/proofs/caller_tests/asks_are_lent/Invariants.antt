use Rattle.obs_tests.proofs.caller_tests.asks_are_lent.Given as goal

abbrev pub ghosts-session_of : goal.ghosts-session_of
ghosts-session_of g a = record { name = a.blank.name; parts = a.blank.parts }
