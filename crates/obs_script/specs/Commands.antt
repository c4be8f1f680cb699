-- The command that a session line is, or why it is none.
use Rattle.std.specs.Prelude.{ℕ, not, nat_lt, List, length, codes, Option, None, Some, Result, Ok, Err, if◌then◌else◌}
use Rattle.std.specs.List.{after_first, before_first, list_any}
use Rattle.std.specs.Str.{bytes_eq}
use Rattle.obs_text.specs.Columns.{is_blank}
use Rattle.obs_text.specs.Names.{is_name}
use Rattle.obs_script.specs.declared.command.Ask.{Ask}
use Rattle.obs_script.specs.declared.command.Ask.TheVariants.{Status, Tree, Bound, Islands, Critical, Report, Place, Cert}
use Rattle.obs_script.specs.declared.fault.LineFault.{LineFault}
use Rattle.obs_script.specs.declared.fault.LineFault.TheVariants.{UnknownCommand, LineTooLong, BadName, WordMissing}

-- what a line says: that the row of this name is switched, taken out of service or put in, or an ask
pub data Said : Type 0 where
  opens closes trips restores loses regains : List ℕ → Said
  asks : Ask → Said

-- the most bytes of a line
abbrev pub most_bytes : ℕ
most_bytes = 256

-- the ask that a line is, if it is exactly one of the eight
abbrev pub ask_of : List ℕ → Option Ask
ask_of line =
    if bytes_eq line (codes "status") then Some Status
    else if bytes_eq line (codes "tree") then Some Tree
    else if bytes_eq line (codes "bound") then Some Bound
    else if bytes_eq line (codes "islands") then Some Islands
    else if bytes_eq line (codes "critical") then Some Critical
    else if bytes_eq line (codes "report") then Some Report
    else if bytes_eq line (codes "place") then Some Place
    else if bytes_eq line (codes "cert") then Some Cert
    else None

-- the command word: what stands before the first blank, or the whole line where there is none
abbrev pub command_word : List ℕ → List ℕ
command_word line = before_first is_blank line

-- an edit's name: what follows the first blank, further blanks included
abbrev pub name_in : List ℕ → List ℕ
name_in line = after_first is_blank line

-- the edit of a name, if the word is one of the six
abbrev pub edit_of : List ℕ → List ℕ → Option Said
edit_of word name =
    if bytes_eq word (codes "open") then Some (opens name)
    else if bytes_eq word (codes "close") then Some (closes name)
    else if bytes_eq word (codes "trip") then Some (trips name)
    else if bytes_eq word (codes "restore") then Some (restores name)
    else if bytes_eq word (codes "lose") then Some (loses name)
    else if bytes_eq word (codes "regain") then Some (regains name)
    else None

-- an edit needs a blank after its word, and then a name
abbrev pub named : List ℕ → Said → Result Said LineFault
named line edit =
    if not (list_any is_blank line) then Err WordMissing
    else if not (is_name (name_in line)) then Err BadName
    else Ok edit

-- a line is an ask or else an edit; one that is neither is unknown
abbrev pub ask_or_edit : List ℕ → Option Ask → Option Said → Result Said LineFault
ask_or_edit line (Some ask) edit = Ok (asks ask)
ask_or_edit line None None = Err UnknownCommand
ask_or_edit line None (Some edit) = named line edit

-- what a line says, or the first reason why it says nothing
abbrev pub command_of : List ℕ → Result Said LineFault
command_of line =
    if nat_lt most_bytes (length line) then Err LineTooLong
    else ask_or_edit line (ask_of line) (edit_of (command_word line) (name_in line))
