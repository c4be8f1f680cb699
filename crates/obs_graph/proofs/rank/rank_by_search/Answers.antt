use Rattle.std.proofs.Common.{◌≡◌, ◌∙◌, ℕ, List, not, eqb, get_or, take, length, ap, arith}
use Rattle.std.proofs.lemmas.List.{length-take-le}
use Rattle.obs_graph.specs.Joined.{count_below}
use Rattle.obs_graph.proofs.Marked.{rank_of_rooted}
use Rattle.obs_graph.proofs.rank.rank_by_search.Goals as goal

pub returns-clause-rank : goal.returns-clause-rank
returns-clause-rank c =
    let F : List ℕ → ℕ = λ xs. count_below (λ v. not (eqb (get_or xs v 0) v)) (length xs) in
    let n = c.args.g.now.vertices in
    let piece = c.reach_all.new.search.piece in
    let same : take c.vertices-vertices.result c.pieces.result.now ≡ take n piece = ap (λ m. take m c.pieces.result.now) c.vertices-vertices.ensures.value ∙ ap (take n) c.pieces.ensures.pieces in
    c.count_moved.ensures.count ∙ (ap F same ∙ rank_of_rooted n c.hold_marked.new.held _ c.reach_all.new.search c.hold_marked.ensures.present c.reach_all.ensures.rooted)

pub hold_marked-requires-clause-same : goal.hold_marked-requires-clause-same
hold_marked-requires-clause-same c = length-take-le c.positions.result c.args.held.now (omega (arith, c.positions.ensures.count, c.requires.branches)) ∙ c.positions.ensures.count

pub reach_all-requires-clause-part : goal.reach_all-requires-clause-part
reach_all-requires-clause-part c = c.hold_marked.ensures.part

pub reach_all-requires-clause-positions : goal.reach_all-requires-clause-positions
reach_all-requires-clause-positions c = c.hold_marked.auto.held ∙ (length-take-le c.positions.result c.args.held.now (omega (arith, c.positions.ensures.count, c.requires.branches)) ∙ c.positions.ensures.count)

pub returns-clause-room : goal.returns-clause-room
returns-clause-room c = c.reach_all.ensures.room
