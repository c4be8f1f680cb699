use Rattle.std.proofs.Common.{sym, ap, ◌∙◌, inl, inr}
use Rattle.obs_graph.specs.Positions.{branches_at}
use Rattle.obs_network.specs.Network.{case_rows}
use Rattle.obs_cert.proofs.hubs.is_repeated.Goals as goal

pub returns-clause-listed : goal.returns-clause-listed
returns-clause-listed c = λ u i. elim (c.add.ensures.added u i) [
  | inl old ↦ inl old
  | inr e ↦ inr (c.in-Some.ensures.star ∙ ap (branches_at (case_rows c.args.present.now)) (sym e))
]
