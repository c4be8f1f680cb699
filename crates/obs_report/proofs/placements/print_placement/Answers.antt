use Rattle.obs_report.proofs.placements.print_placement.Goals as goal

pub print_plan-requires-clause-chosen : goal.print_plan-requires-clause-chosen
print_plan-requires-clause-chosen g c = (rw c.in-Cheapest.is at c.requires.within).0

pub print_plan-requires-clause-inside : goal.print_plan-requires-clause-inside
print_plan-requires-clause-inside g c = (rw c.in-Cheapest.is at c.requires.within).1

pub print_plan-requires-clause-counts : goal.print_plan-requires-clause-counts
print_plan-requires-clause-counts g c = (rw c.in-Cheapest.is at c.requires.within).2

pub print_plan-requires-clause-pairs : goal.print_plan-requires-clause-pairs
print_plan-requires-clause-pairs g c = c.requires.pairs

pub print_shortfall-requires : goal.print_shortfall-requires
print_shortfall-requires g c = record { inside = rw c.in-Shortfall.is at c.requires.within }

pub returns-in-Cheapest : goal.returns-in-Cheapest
returns-in-Cheapest g c = record { appends = rw c.in-Cheapest.is c.print_plan.ensures.appends }

pub returns-in-Shortfall : goal.returns-in-Shortfall
returns-in-Shortfall g c = record { appends = rw c.in-Shortfall.is c.print_shortfall.ensures.appends }
