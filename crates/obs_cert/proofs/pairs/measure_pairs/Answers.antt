use Rattle.std.proofs.Common.{◌≡◌, ℕ, length, not, eqb, arith, sym, ap, ◌∙◌, subst, take, []}
use Rattle.std.proofs.lemmas.List.{length-map}
use Rattle.obs_matroid.specs.Assignments.{branches}
use Rattle.obs_case.specs.Tables.{Tables}
use Rattle.obs_cert.specs.inner.Joins.{AreJoined, onto}
use Rattle.obs_cert.specs.Numbered.{pair_of, pairs_of}
use Rattle.obs_cert.proofs.CaseLemmas.{case_rank, noted_few, vertices_fit}
use Rattle.obs_cert.proofs.pairs.measure_pairs.Goals as goal
use Rattle.obs_cert.proofs.pairs.measure_pairs.Goals.{After-join_pairs-count}
use Rattle.obs_cert.specs.Flaws.{rank_of_branches}

pub join_pairs-count-requires : goal.join_pairs-count-requires
join_pairs-count-requires c =
    let f = c.requires.free in
    record {
      free = record {
        vertices = vertices_fit c.args.present.now c.network-network.result.now c.graph.result.now (length c.args.ups.now) c.network-network.ensures.network c.graph.ensures.graph f.vertices;
        few = f.few;
        room = f.room;
        clear = f.clear;
      };
    }

joined : (c : After-join_pairs-count)
    → AreJoined (onto c.graph.result.now.ends (branches (pairs_of c.args.present.now c.args.pairs)) []) c.join_pairs-count.new.ups (take c.join_pairs-count.result.0 c.join_pairs-count.new.moved)
joined c =
    let j = c.join_pairs-count in
    subst (λ (t : Tables). AreJoined (onto c.graph.result.now.ends (branches (pairs_of t c.args.pairs)) []) j.new.ups (take j.result.0 j.new.moved)) c.case-case.ensures.case j.ensures.joined

pub overflow_cast-result : goal.overflow_cast-result
overflow_cast-result c =
    let j = c.join_pairs-count in
    let few = noted_few c.graph.result.now.ends (branches (pairs_of c.args.present.now c.args.pairs)) j.new.ups j.new.moved j.result.0 j.ensures.count (joined (goal.at.overflow_cast-result c).After-join_pairs-count) in
    omega (arith, few, c.requires.free.few, j.auto.ups)

is_rank : (c : After-join_pairs-count) → c.join_pairs-count.result.0 ≡ rank_of_branches c.args.present.now (branches (pairs_of c.args.present.now c.args.pairs))
is_rank c =
    let j = c.join_pairs-count in
    case_rank c.args.present.now c.network-network.result.now c.graph.result.now (branches (pairs_of c.args.present.now c.args.pairs)) j.new.ups j.new.moved j.result.0
    c.case-case.ensures.valid c.network-network.ensures.network c.graph.ensures.graph (omega (arith, c.requires.free.vertices, j.auto.ups)) j.ensures.count (joined c)

pub returns-clause-rank : goal.returns-clause-rank
returns-clause-rank c = is_rank (goal.at.returns-clause-rank c).After-join_pairs-count

pub returns-clause-cycle : goal.returns-clause-cycle
returns-clause-cycle c =
    let r = is_rank (goal.at.returns-clause-cycle c).After-join_pairs-count in
    c.join_pairs-count.ensures.cycle ∙ ap (λ (k : ℕ). not (eqb k (length c.args.pairs))) r
    ∙ ap (λ (k : ℕ). not (eqb (rank_of_branches c.args.present.now (branches (pairs_of c.args.present.now c.args.pairs))) k)) (sym (length-map c.args.pairs (pair_of c.args.present.now)))
