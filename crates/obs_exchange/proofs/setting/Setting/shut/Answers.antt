use Rattle.std.proofs.Common.{ℕ, refl, sym, subst, ap, ◌∙◌}
use Rattle.obs_graph.specs.Joined.{IsForest}
use Rattle.obs_graph.specs.Positions.{present}
use Rattle.obs_forest.specs.inner.Cycle.{AreWays}
use Rattle.obs_forest.specs.Forest.{Forest}
use Rattle.obs_exchange.specs.inner.Setting.{IsSound}
use Rattle.obs_exchange.proofs.Shut.{IsSound-shut}
use Rattle.obs_exchange.proofs.setting.Setting.shut.Goals as goal
use Rattle.obs_exchange.proofs.setting.Setting.shut.Goals.{After-ways-ways}

sound : (c : After-ways-ways) → IsSound (record {
  graph = c.args.graph.now;
  touches = c.args.meters.now.touches;
  assignment = c.args.assignment.now;
  sources = c.args.sources;
  ups = c.ways-ways.result.ups.now;
  depths = c.ways-ways.result.depths.now;
  room = c.args.room;
})
sound c =
    let f = c.forest.ensures.forest in
    let w = c.ways-ways.ensures in
    let a = c.args.assignment.now in
    let vertices = ap (λ (x : Forest). x.vertices) f ∙ sym c.requires.stands.forest.vertices in
    record {
      branches = c.vertices.ensures.branches;
      in_range = c.requires.in_range;
      whole = c.forest.ensures.whole;
      stands = c.requires.stands;
      sources_low = c.requires.low;
      ups_len = w.ups ∙ vertices;
      depths_len = w.depths ∙ vertices;
      forest = subst (λ (x : Forest). IsForest (present x.held)) f w.forest;
      ways =
          subst (λ (n : ℕ). AreWays n a.forest.held c.ways-ways.result.ups.now c.ways-ways.result.depths.now) (sym c.requires.stands.forest.vertices)
          (subst (λ (x : Forest). AreWays x.vertices x.held c.ways-ways.result.ups.now c.ways-ways.result.depths.now) f w.ways);
    }

pub invariant_of-result : goal.invariant_of-result
invariant_of-result c = IsSound-shut _ c.args.shut.now (sound c)

pub returns : goal.returns
returns c = record { over = record { graph = refl; touches = refl; assignment = refl; sources = refl; room = refl; sound = IsSound-shut _ c.args.shut.now (sound c) } }
