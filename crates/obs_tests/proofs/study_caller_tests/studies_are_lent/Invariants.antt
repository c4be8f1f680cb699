use Rattle.obs_tests.proofs.study_caller_tests.studies_are_lent.Given as goal

abbrev pub ghosts-studies_of_a_tail : goal.ghosts-studies_of_a_tail
ghosts-studies_of_a_tail g a = record { name = a.blank.name; parts = a.blank.parts }
