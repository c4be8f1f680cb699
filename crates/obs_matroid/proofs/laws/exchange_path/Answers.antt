use Rattle.obs_matroid.proofs.Exchange.{exchange_path}
use Rattle.obs_matroid.proofs.laws.exchange_path.Goals as goal

pub returns : goal.returns
returns c = record { grows = λ g laws touch M A last back. exchange_path g laws touch M back A last }
