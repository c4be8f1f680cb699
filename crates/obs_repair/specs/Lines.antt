-- What a line means for a case, or why it is refused.
use Rattle.std.specs.Prelude.{ℕ, ◌&&◌, Bool, true, false, not, codes, List, Option, None, Some, Result, Ok, Err, if◌then◌else◌}
use Rattle.obs_case.specs.Tables.{Tables, branch_names, meter_names, position_of, switch_names}
use Rattle.obs_script.specs.declared.command.Ask.{Ask}
use Rattle.obs_script.specs.declared.command.Ask.TheVariants.{Status, Tree, Bound, Islands, Critical, Report, Place, Cert}
use Rattle.obs_script.specs.declared.fault.LineFault.{LineFault}
use Rattle.obs_script.specs.declared.fault.LineFault.TheVariants as line
use Rattle.obs_script.specs.Commands.{Said, asks, closes, command_of, loses, opens, regains, restores, trips}
use Rattle.obs_repair.specs.declared.edit.Edit.{Edit}
use Rattle.obs_repair.specs.declared.edit.Edit.TheVariants.{Switch, Branch, Meter}
use Rattle.obs_repair.specs.declared.edit.Meant.{Meant}
use Rattle.obs_repair.specs.declared.edit.Meant.TheVariants.{Edits, Asks}
use Rattle.obs_repair.specs.declared.edit.Refusal.{Refusal}
use Rattle.obs_repair.specs.declared.edit.Refusal.TheVariants.{UnknownCommand, LineTooLong, BadName, WordMissing, UnknownSwitch, UnknownBranch, UnknownMeter, NoCandidates}

-- the refusal of a line that is no command
abbrev pub refusal_of : LineFault → Refusal
refusal_of line.UnknownCommand = UnknownCommand
refusal_of line.LineTooLong = LineTooLong
refusal_of line.BadName = BadName
refusal_of line.WordMissing = WordMissing

-- the edit of the row at a position, where the table has the name
abbrev pub edit_at : Option ℕ → (ℕ → Edit) → Refusal → Result Meant Refusal
edit_at None edit unknown = Err unknown
edit_at (Some at) edit unknown = Ok (Edits (edit at))

-- whether an ask is for a placement
abbrev pub is_place : Ask → Bool
is_place Status = false
is_place Tree = false
is_place Bound = false
is_place Islands = false
is_place Critical = false
is_place Report = false
is_place Place = true
is_place Cert = false

-- what is said means for a case: a name means its row, and a placement needs candidates
abbrev pub meaning_of : Tables → Bool → Said → Result Meant Refusal
meaning_of t offered (opens name) = edit_at (position_of (switch_names t) name) (λ at. Switch at false) UnknownSwitch
meaning_of t offered (closes name) = edit_at (position_of (switch_names t) name) (λ at. Switch at true) UnknownSwitch
meaning_of t offered (trips name) = edit_at (position_of (branch_names t) name) (λ at. Branch at false) UnknownBranch
meaning_of t offered (restores name) = edit_at (position_of (branch_names t) name) (λ at. Branch at true) UnknownBranch
meaning_of t offered (loses name) = edit_at (position_of (meter_names t) name) (λ at. Meter at false) UnknownMeter
meaning_of t offered (regains name) = edit_at (position_of (meter_names t) name) (λ at. Meter at true) UnknownMeter
meaning_of t offered (asks ask) = if is_place ask && not offered then Err NoCandidates else Ok (Asks ask)

-- the same of a command, or of what is none
abbrev pub meant_by : Tables → Bool → Result Said LineFault → Result Meant Refusal
meant_by t offered (Err fault) = Err (refusal_of fault)
meant_by t offered (Ok said) = meaning_of t offered said

-- what a line means for a case, with candidates or without
abbrev pub meant_of : Tables → Bool → List ℕ → Result Meant Refusal
meant_of t offered line = meant_by t offered (command_of line)

-- a refusal's number
abbrev pub refusal_code : Refusal → ℕ
refusal_code UnknownCommand = 1
refusal_code LineTooLong = 2
refusal_code BadName = 3
refusal_code WordMissing = 4
refusal_code UnknownSwitch = 5
refusal_code UnknownBranch = 6
refusal_code UnknownMeter = 7
refusal_code NoCandidates = 8

-- a refusal's name in bytes
abbrev pub refusal_name : Refusal → List ℕ
refusal_name UnknownCommand = codes "UnknownCommand"
refusal_name LineTooLong = codes "LineTooLong"
refusal_name BadName = codes "BadName"
refusal_name WordMissing = codes "WordMissing"
refusal_name UnknownSwitch = codes "UnknownSwitch"
refusal_name UnknownBranch = codes "UnknownBranch"
refusal_name UnknownMeter = codes "UnknownMeter"
refusal_name NoCandidates = codes "NoCandidates"
