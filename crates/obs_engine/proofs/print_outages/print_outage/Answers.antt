use Rattle.obs_engine.proofs.print_outages.print_outage.Goals as goal

pub returns : goal.returns
returns g c = record { printed = rw (c.branch_name-name.ensures.name, c.verdict_word-verdict.ensures.verdict) at c.print_numbers.ensures.printed }
