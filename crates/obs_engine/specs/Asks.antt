-- The text and the status of each ask of a case.
use Rattle.std.specs.Prelude.{ℕ, ◌==◌, Bool, true, false, List, [], ◌∷◌, ◌++◌, if◌then◌else◌}
use Rattle.std.specs.List.{flat_map, range_with_len}
use Rattle.obs_case.specs.Tables.{Tables}
use Rattle.obs_placement.specs.Placed.{Placed}
use Rattle.obs_placement.specs.Placed.Placed.{cheapest, shortfall}
use Rattle.obs_network.specs.Network.{case_component_count, case_need, case_needed, network_of}
use Rattle.obs_network.specs.Observable.{case_rank, is_energised_component}
use Rattle.obs_report.specs.Counts.{counts_text}
use Rattle.obs_report.specs.Islands.{islands_text}
use Rattle.obs_report.specs.Lines.{last_line}
use Rattle.obs_report.specs.Meters.{bound_text, critical_text}
use Rattle.obs_report.specs.Placements.{placement_text}
use Rattle.obs_report.specs.Trees.{tree_text}
use Rattle.obs_script.specs.declared.command.Ask.{Ask}
use Rattle.obs_script.specs.declared.command.Ask.TheVariants.{Status as StatusAsk, Tree, Bound, Islands as IslandsAsk, Critical as CriticalAsk, Report, Place, Cert}
use Rattle.obs_repair.specs.Bounds.{bound_meters, bound_outside, bound_rank, case_critical_meters, component_rank}
use Rattle.obs_edit.specs.Answers.{case_first_pairs, case_islands}
use Rattle.obs_edit.specs.Planned.{case_placed_pairs, case_placement}
use Rattle.obs_engine.specs.declared.blocks.Block.{Block}
use Rattle.obs_engine.specs.declared.blocks.Block.TheVariants.{Counts, Trees, Bounds, Claims, Islands, Critical, Placement}
use Rattle.obs_files.specs.declared.status.Status.{Status}
use Rattle.obs_files.specs.declared.status.Status.TheVariants.{Done, Short}
use Rattle.obs_engine.specs.Replies.{Reply}

-- the tree of an observable component: the pairs of the first assignment that lie in it
unfoldable pub tree_claim : Tables → ℕ → List ℕ
tree_claim t c = tree_text t c (case_first_pairs t)

-- the bound of a component that isn't observable
unfoldable pub bound_claim : Tables → ℕ → List ℕ
bound_claim t c = bound_text t c (bound_meters t c) (bound_rank t c) (bound_outside t c)

-- a text where a test is met, else nothing
abbrev pub text_if : Bool → List ℕ → List ℕ
text_if b text = if b then text else []

-- the claim on a component: its tree where it has all pairs that it needs, where trees are asked for, and else its bound, where
-- bounds are; nothing on a component that isn't energised
unfoldable pub component_claim : Bool → Bool → Tables → ℕ → List ℕ
component_claim trees bounds t c =
    if is_energised_component t c
    then (if component_rank t c == case_need t c then text_if trees (tree_claim t c) else text_if bounds (bound_claim t c))
    else []

-- the claims on all components, in their order
unfoldable pub claims_text : Bool → Bool → Tables → List ℕ
claims_text trees bounds t = flat_map (component_claim trees bounds t) (range_with_len 0 (case_component_count t))

-- a part of an answer: the counts and the verdict; the trees, the bounds or both; a line for each energised bus with the first bus of
-- its island; a line for each critical meter; the placement with its pairs
unfoldable pub block_text : Block → Tables → List ℕ
block_text Counts t = counts_text (network_of t) (case_rank t)
block_text Trees t = claims_text true false t
block_text Bounds t = claims_text false true t
block_text Claims t = claims_text true true t
block_text Islands t = islands_text t (case_islands t)
block_text Critical t = critical_text t (case_critical_meters t)
block_text Placement t = placement_text t (case_placement t) (case_placed_pairs t)

-- the parts of the answer to each ask
abbrev pub blocks_of : Ask → List Block
blocks_of StatusAsk = Counts ∷ []
blocks_of Tree = Trees ∷ []
blocks_of Bound = Bounds ∷ []
blocks_of IslandsAsk = Islands ∷ []
blocks_of CriticalAsk = Critical ∷ []
blocks_of Report = Counts ∷ Claims ∷ Islands ∷ Critical ∷ []
blocks_of Place = Placement ∷ []
blocks_of Cert = Claims ∷ []

-- some parts, one after the other
abbrev pub blocks_text : List Block → Tables → List ℕ
blocks_text blocks t = flat_map (λ block. block_text block t) blocks

-- the text of an ask: its parts and the last line
abbrev pub ask_text : Ask → Tables → List ℕ
ask_text ask t = blocks_text (blocks_of ask) t ++ last_line

-- whether a case has as many pairs as it needs
unfoldable pub report_status : Tables → Status
report_status t = if case_rank t == case_needed t then Done else Short

-- whether there is a plan
abbrev pub placed_status : Placed → Status
placed_status (cheapest plan) = Done
placed_status (shortfall lack) = Short

-- the status of an answer: that of a placement says whether there is a plan, and each other one whether the case is observable
abbrev pub ask_status : Ask → Tables → Status
ask_status Place t = placed_status (case_placement t)
ask_status ask t = report_status t

-- the answer to an ask
abbrev pub ask_reply : Ask → Tables → Reply
ask_reply ask t = record { status = ask_status ask t; text = ask_text ask t }
