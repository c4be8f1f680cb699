use Rattle.obs_engine.proofs.station_reply.print_loss.Goals as goal

pub returns : goal.returns
returns g c = record { printed = rw (c.node_name-name.ensures.name, c.verdict_word-verdict.ensures.verdict) at c.print_numbers.ensures.printed }
