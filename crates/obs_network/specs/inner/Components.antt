-- When two buses are of one component, and which components are energised.
use Rattle.std.specs.Prelude.{ℕ, Bool, List}
use Rattle.obs_graph.specs.declared.Ends.{Ends}
use Rattle.obs_graph.specs.Joined.{Chain}
use Rattle.obs_case.specs.declared.rows.Node.{Node}
use Rattle.obs_network.specs.Components.{marked_nodes, is_marked, is_source}

-- two buses are in one component: a chain of live branches leads from the one to the other, or they are equal
abbrev pub AreOneComponent : List Ends → ℕ → ℕ → Type 0
AreOneComponent live b c = Chain live b c

-- the nodes that are fed from outside
abbrev pub source_nodes : List Node → List ℕ
source_nodes nodes = marked_nodes is_source nodes

-- whether a component is energised: one of its nodes is a source
abbrev pub is_energised : List ℕ → List ℕ → List Node → ℕ → Bool
is_energised components buses nodes c = is_marked is_source components buses nodes c
