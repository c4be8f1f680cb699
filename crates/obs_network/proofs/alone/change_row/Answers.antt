use Rattle.std.proofs.Common.{◌≡◌, ◌∙◌, ◌<◌, ℕ, Option, List, set, take, ap, length}
use Rattle.std.proofs.Math.Seq.{take-set-lt}
use Rattle.std.proofs.lemmas.List.{length-set}
use Rattle.obs_graph.specs.declared.Ends.{Ends}
use Rattle.obs_graph.specs.Graph.{Graph}
use Rattle.obs_network.proofs.alone.change_row.Goals as goal

-- the first of what is kept are the branches, with this one changed
changed : (at : ℕ) (ends : Option Ends) (kept branches : List (Option Ends)) → at < length branches → take (length branches) kept ≡ branches
    → take (length (set branches at ends)) (set kept at ends) ≡ set branches at ends
changed at ends kept branches low is =
    ap (λ n. take n (set kept at ends)) (length-set branches at ends) ∙ take-set-lt (length branches) kept at ends low ∙ ap (λ l. set l at ends) is

pub returns-clause-kept : goal.returns-clause-kept
returns-clause-kept c =
    rw (ap (λ (g : Graph). g.ends) c.set.ensures.whole) (changed c.args.at c.args.ends c.args.kept.now c.args.graph.now.ends c.requires.row c.requires.kept)
