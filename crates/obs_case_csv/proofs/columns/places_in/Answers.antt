use Rattle.obs_case_csv.proofs.columns.places_in.Goals as goal

pub returns-in-Branches-clause-refused : goal.returns-in-Branches-clause-refused
returns-in-Branches-clause-refused c = rw c.in-Branches.is c.places_of_four-in-Branches.ensures.refused

pub returns-in-Meters-clause-refused : goal.returns-in-Meters-clause-refused
returns-in-Meters-clause-refused c = rw c.in-Meters.is c.places_of_four-in-Meters.ensures.refused
