use Rattle.obs_network.proofs.laws.nothing_energised_is_observable.Goals as goal

pub returns : goal.returns
returns c = record { observable = λ t none k l energised. absurd (cc (none k l, energised)) }
