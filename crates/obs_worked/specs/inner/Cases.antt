-- The cases on which the definitions are evaluated. Each is small enough to be worked out by hand.
use Rattle.std.specs.Prelude.{true, false, List, [], ◌∷◌}
use Rattle.obs_case.specs.Tables.{Tables, usual_rows}
use Rattle.obs_case.specs.declared.rows.Candidate.{Candidate}
use Rattle.obs_case.specs.declared.rows.Kind.TheVariants.{Flow, Injection, Zero, Angle}
use Rattle.obs_worked.specs.inner.Rows.{absolute_node, branch, branch_out, candidate, meter, node, switch}

-- the same tables with these candidates
abbrev pub offering : List Candidate → Tables → Tables
offering candidates t = record t { candidates = candidates }

-- four nodes, of which switches join the last three, in an order of their own; the last switch has one node at both ends
abbrev pub three_joined : Tables
three_joined = record {
  nodes = node "z" false ∷ node "m" false ∷ node "a" false ∷ node "k" false ∷ [];
  switches = switch "S1" 2 1 true ∷ switch "S2" 3 2 true ∷ switch "S3" 0 0 true ∷ [];
  branches = [];
  meters = [];
  candidates = [];
  most = usual_rows;
}

-- three nodes, between the last two of which the switch is open
abbrev pub one_open : Tables
one_open = record {
  nodes = node "a" false ∷ node "b" false ∷ node "c" false ∷ [];
  switches = switch "S1" 0 1 true ∷ switch "S2" 1 2 false ∷ [];
  branches = [];
  meters = [];
  candidates = [];
  most = usual_rows;
}

-- three nodes of one bus, which three switches in a ring join
abbrev pub ring : Tables
ring = record {
  nodes = node "a" true ∷ node "b" false ∷ node "c" false ∷ [];
  switches = switch "S1" 0 1 true ∷ switch "S2" 1 2 true ∷ switch "S3" 2 0 true ∷ [];
  branches = [];
  meters = [];
  candidates = [];
  most = usual_rows;
}

-- two components of two buses, of which the first has a source; the last branch is out of service
abbrev pub two_parts : Tables
two_parts = record {
  nodes = node "a" true ∷ node "b" false ∷ node "c" false ∷ node "d" false ∷ [];
  switches = [];
  branches = branch "L1" 0 1 ∷ branch "L2" 2 3 ∷ branch_out "L3" 0 1 ∷ [];
  meters = [];
  candidates = [];
  most = usual_rows;
}

-- the same where a switch makes one bus of the second component, so that its branch isn't live
abbrev pub one_part_shut : Tables
one_part_shut = record two_parts { switches = switch "S1" 2 3 true ∷ [] }

-- the two components again: two injections and a zero in the first, of which two stand at one bus, and two idle ones in the second
abbrev pub crowded_parts : Tables
crowded_parts = record two_parts {
  meters = meter "ia" Injection 0 ∷ meter "za" Zero 0 ∷ meter "ib" Injection 1 ∷ meter "ic" Injection 2 ∷ meter "jc" Injection 2 ∷ [];
}

-- two buses without a source
abbrev pub without_source : Tables
without_source = record {
  nodes = node "a" false ∷ node "b" false ∷ [];
  switches = [];
  branches = branch "L1" 0 1 ∷ [];
  meters = meter "f1" Flow 0 ∷ [];
  candidates = [];
  most = usual_rows;
}

-- one bus alone
abbrev pub one_bus : Tables
one_bus = record { nodes = node "a" true ∷ []; switches = []; branches = []; meters = []; candidates = []; most = usual_rows }

-- a row of four buses: two flows measure its first branch, and an injection stands at its second bus
abbrev pub row_of_four : Tables
row_of_four = record {
  nodes = node "a" true ∷ node "b" false ∷ node "c" false ∷ node "d" false ∷ [];
  switches = [];
  branches = branch "L1" 0 1 ∷ branch "L2" 1 2 ∷ branch "L3" 2 3 ∷ [];
  meters = meter "f1" Flow 0 ∷ meter "f2" Flow 0 ∷ meter "ib" Injection 1 ∷ [];
  candidates = [];
  most = usual_rows;
}

-- the same with three candidates, of which the second is bought
abbrev pub row_offered : Tables
row_offered = offering (candidate "p1" Flow 1 0 ∷ candidate "p2" Injection 2 3 ∷ candidate "p3" Flow 2 5 ∷ []) row_of_four

-- the same with the first candidate alone, which doesn't suffice
abbrev pub row_lacking : Tables
row_lacking = offering (candidate "p1" Flow 1 0 ∷ []) row_of_four

-- the same with a candidate that costs nothing
abbrev pub row_given : Tables
row_given = offering (candidate "p1" Flow 2 0 ∷ []) row_of_four

-- a triangle whose injection stands before its flow, so that the lowest branch isn't free to the injection
abbrev pub triangle : Tables
triangle = record {
  nodes = node "a" true ∷ node "b" false ∷ node "c" false ∷ [];
  switches = [];
  branches = branch "L1" 0 1 ∷ branch "L2" 1 2 ∷ branch "L3" 2 0 ∷ [];
  meters = meter "ia" Injection 0 ∷ meter "f1" Flow 0 ∷ [];
  candidates = [];
  most = usual_rows;
}

-- two parallel branches, each with a flow
abbrev pub parallel : Tables
parallel = record {
  nodes = node "a" true ∷ node "b" false ∷ [];
  switches = [];
  branches = branch "L1" 0 1 ∷ branch "L2" 0 1 ∷ [];
  meters = meter "f1" Flow 0 ∷ meter "f2" Flow 1 ∷ [];
  candidates = [];
  most = usual_rows;
}

-- a star whose hub has the one injection
abbrev pub star : Tables
star = record {
  nodes = node "h" true ∷ node "x" false ∷ node "y" false ∷ node "z" false ∷ [];
  switches = [];
  branches = branch "L1" 0 1 ∷ branch "L2" 0 2 ∷ branch "L3" 0 3 ∷ [];
  meters = meter "ih" Injection 0 ∷ [];
  candidates = [];
  most = usual_rows;
}

-- a row of five buses with two injections, each of which touches branches that lead out of any smaller set that it would span
abbrev pub row_of_five : Tables
row_of_five = record {
  nodes = node "a" true ∷ node "b" false ∷ node "c" false ∷ node "d" false ∷ node "e" false ∷ [];
  switches = [];
  branches = branch "L1" 0 1 ∷ branch "L2" 1 2 ∷ branch "L3" 2 3 ∷ branch "L4" 3 4 ∷ [];
  meters = meter "ib" Injection 1 ∷ meter "ic" Injection 2 ∷ [];
  candidates = [];
  most = usual_rows;
}

-- an absolute bus and another, with a flow between them and an angle meter
abbrev pub absolute_pair : Tables
absolute_pair = record {
  nodes = absolute_node "a" true ∷ node "b" false ∷ [];
  switches = [];
  branches = branch "L1" 0 1 ∷ [];
  meters = meter "f1" Flow 0 ∷ meter "g1" Angle 1 ∷ [];
  candidates = [];
  most = usual_rows;
}

-- the same without the angle meter, which can be bought at either bus
abbrev pub absolute_offered : Tables
absolute_offered = record absolute_pair {
  meters = meter "f1" Flow 0 ∷ [];
  candidates = candidate "c1" Angle 0 7 ∷ candidate "c2" Angle 1 4 ∷ [];
}

-- a component that isn't absolute, whose angle items are idle, and an absolute bus alone; a zero and an angle meter stand first
abbrev pub behind_meters : Tables
behind_meters = record {
  nodes = node "a" true ∷ node "b" false ∷ absolute_node "c" true ∷ [];
  switches = [];
  branches = branch "L1" 0 1 ∷ [];
  meters = meter "m1" Zero 2 ∷ meter "m2" Angle 0 ∷ [];
  candidates = candidate "c1" Angle 0 0 ∷ candidate "c2" Flow 0 5 ∷ candidate "c3" Angle 2 6 ∷ [];
  most = usual_rows;
}

-- two angle meters at one bus, and a flow
abbrev pub two_angles : Tables
two_angles = record absolute_pair { meters = meter "g1" Angle 0 ∷ meter "g2" Angle 0 ∷ meter "f1" Flow 0 ∷ [] }

-- three buses in a row with an angle meter at each end
abbrev pub angles_apart : Tables
angles_apart = record {
  nodes = absolute_node "a" true ∷ node "b" false ∷ node "c" false ∷ [];
  switches = [];
  branches = branch "L1" 0 1 ∷ branch "L2" 1 2 ∷ [];
  meters = meter "g1" Angle 0 ∷ meter "g2" Angle 2 ∷ [];
  candidates = [];
  most = usual_rows;
}

-- a row of three buses with two flows at each branch
abbrev pub two_classes : Tables
two_classes = record {
  nodes = node "a" true ∷ node "b" false ∷ node "c" false ∷ [];
  switches = [];
  branches = branch "L1" 0 1 ∷ branch "L2" 1 2 ∷ [];
  meters = meter "f1" Flow 0 ∷ meter "f2" Flow 1 ∷ meter "g1" Flow 0 ∷ meter "g2" Flow 1 ∷ [];
  candidates = [];
  most = usual_rows;
}

-- three flows at one branch: any two of them can be lost
abbrev pub three_flows : Tables
three_flows = record {
  nodes = node "a" true ∷ node "b" false ∷ [];
  switches = [];
  branches = branch "L1" 0 1 ∷ [];
  meters = meter "f1" Flow 0 ∷ meter "f2" Flow 0 ∷ meter "f3" Flow 0 ∷ [];
  candidates = [];
  most = usual_rows;
}

-- two buses that an open switch makes one station
abbrev pub open_station : Tables
open_station = record {
  nodes = node "a" true ∷ node "b" false ∷ [];
  switches = switch "S1" 0 1 false ∷ [];
  branches = branch "L1" 0 1 ∷ [];
  meters = meter "f1" Flow 0 ∷ meter "ib" Injection 1 ∷ [];
  candidates = [];
  most = usual_rows;
}

-- two parallel branches that lead from either side, each with a flow
abbrev pub either_way : Tables
either_way = record parallel { branches = branch "L1" 0 1 ∷ branch "L2" 1 0 ∷ [] }
