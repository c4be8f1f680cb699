use Rattle.std.proofs.Common.{◌∷◌, ◌++◌}
use Rattle.obs_graph.proofs.IsJoined.{same-from_true, apart-from_false, false-from_apart}
use Rattle.obs_graph.proofs.Exchange.{IsForest-exchange, apart-exchange}
use Rattle.obs_graph.proofs.laws.exchange_in_forest.Goals as goal

pub returns-clause-forest : goal.returns-clause-forest
returns-clause-forest c = λ xs f ys e forest apart. IsForest-exchange xs f ys e forest (apart-from_false (xs ++ ys) e.a e.b apart)

pub returns-clause-apart : goal.returns-clause-apart
returns-clause-apart c = λ xs f ys x e joined apart new.
    false-from_apart (e ∷ (xs ++ ys)) x.a x.b (apart-exchange xs f ys x e (same-from_true (xs ++ f ∷ ys) x.a x.b joined) (apart-from_false (xs ++ ys) x.a x.b apart) (apart-from_false (xs ++ f ∷ ys) e.a e.b new))
