use Rattle.obs_islands.proofs.Firsts.{first_in, first_same}
use Rattle.obs_islands.proofs.laws.first_of_island.Goals as goal

pub returns : goal.returns
returns c = record {
  first = λ n ends touches v S ok l h t. first_in n ends touches ok v l S h t;
  same = λ n ends touches u v ok lu lv. first_same n ends touches ok u v lu lv;
}
