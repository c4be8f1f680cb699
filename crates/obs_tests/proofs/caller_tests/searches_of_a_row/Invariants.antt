use Rattle.obs_tests.proofs.caller_tests.searches_of_a_row.Given as goal

abbrev pub ghosts-critical_of_a_row : goal.ghosts-critical_of_a_row
ghosts-critical_of_a_row g a = record { name = a.blank.name; parts = a.blank.parts }

abbrev pub ghosts-islands_of_a_row : goal.ghosts-islands_of_a_row
ghosts-islands_of_a_row g a = record { name = a.blank.name; parts = a.blank.parts }

abbrev pub ghosts-plan_of_a_row : goal.ghosts-plan_of_a_row
ghosts-plan_of_a_row g a = record { name = a.blank.name; parts = a.blank.parts }
