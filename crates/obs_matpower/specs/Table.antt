-- Where a file has a table.
use Rattle.std.specs.Prelude.{ℕ, ◌+◌, Bool, not, List, drop, Option, None, Some, if◌then◌else◌}
use Rattle.std.specs.List.{after_first, concat, list_any, position_or_len}
use Rattle.obs_text.specs.Lines.{ended_lines}
use Rattle.obs_matpower.specs.declared.fault.MatFault.{MatFault}
use Rattle.obs_matpower.specs.declared.fault.MatFault.TheVariants.{NoBusTable, BusTableOpen, NoBranchTable, BranchTableOpen}
use Rattle.obs_matpower.specs.declared.part.MatTable.{MatTable}
use Rattle.obs_matpower.specs.declared.part.MatTable.TheVariants.{Bus, Branch}
use Rattle.obs_matpower.specs.Lines.{closes, is_opening, opens}

-- the lines from the first that passes a test on
abbrev pub from_first : (List ℕ → Bool) → List (List ℕ) → List (List ℕ)
from_first p lines = drop (position_or_len p lines) lines

-- whether a line opens the table
abbrev pub is_there : MatTable → List ℕ → Bool
is_there table bytes = list_any (opens table) (ended_lines bytes)

-- all that follows the `[` of a table in a file
abbrev pub after_opening : MatTable → List ℕ → List ℕ
after_opening table bytes = after_first is_opening (concat (from_first (opens table) (ended_lines bytes)))

-- whether a `]` that is in no comment follows the start of the table
abbrev pub is_ended : MatTable → List ℕ → Bool
is_ended table bytes = list_any closes (ended_lines (after_opening table bytes))

-- the number, from 1, of the line with the `[`, or 0 where there is none
abbrev pub line_of : MatTable → List ℕ → ℕ
line_of table bytes = if is_there table bytes then position_or_len (opens table) (ended_lines bytes) + 1 else 0

-- the fault of a table that isn't there, and of one that isn't ended
abbrev pub missing : MatTable → MatFault
missing Bus = NoBusTable
missing Branch = NoBranchTable

abbrev pub left_open : MatTable → MatFault
left_open Bus = BusTableOpen
left_open Branch = BranchTableOpen

-- the fault with which a table ends
abbrev pub end_of : MatTable → List ℕ → Option MatFault
end_of table bytes =
    if not (is_there table bytes) then Some (missing table)
    else if not (is_ended table bytes) then Some (left_open table)
    else None
