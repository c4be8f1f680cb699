-- The words of a command, and the text that says it.
use Rattle.std.specs.Prelude.{ℕ, List, ◌∷◌, ◌++◌, codes, Option, None, Some}
use Rattle.obs_script.specs.declared.command.Ask.{Ask}
use Rattle.obs_script.specs.declared.command.Ask.TheVariants.{Status, Tree, Bound, Islands, Critical, Report, Place, Cert}
use Rattle.obs_script.specs.declared.command.Command.{Command}
use Rattle.obs_script.specs.declared.command.Command.TheVariants.{OpenSwitch, CloseSwitch, TripBranch, RestoreBranch, LoseMeter, RegainMeter, Asked}
use Rattle.obs_script.specs.Commands.{Said}
use Rattle.obs_script.specs.Commands.Said.{opens, closes, trips, restores, loses, regains, asks}

-- what a command says
abbrev pub said_of : Command → Said
said_of (OpenSwitch name) = opens name.now
said_of (CloseSwitch name) = closes name.now
said_of (TripBranch name) = trips name.now
said_of (RestoreBranch name) = restores name.now
said_of (LoseMeter name) = loses name.now
said_of (RegainMeter name) = regains name.now
said_of (Asked ask) = asks ask

-- the word of an ask
abbrev pub ask_word : Ask → List ℕ
ask_word Status = codes "status"
ask_word Tree = codes "tree"
ask_word Bound = codes "bound"
ask_word Islands = codes "islands"
ask_word Critical = codes "critical"
ask_word Report = codes "report"
ask_word Place = codes "place"
ask_word Cert = codes "cert"

-- the word of what is said
abbrev pub word_of : Said → List ℕ
word_of (opens name) = codes "open"
word_of (closes name) = codes "close"
word_of (trips name) = codes "trip"
word_of (restores name) = codes "restore"
word_of (loses name) = codes "lose"
word_of (regains name) = codes "regain"
word_of (asks ask) = ask_word ask

-- the name of the row that is edited, of an edit
abbrev pub edited_name : Said → Option (List ℕ)
edited_name (opens name) = Some name
edited_name (closes name) = Some name
edited_name (trips name) = Some name
edited_name (restores name) = Some name
edited_name (loses name) = Some name
edited_name (regains name) = Some name
edited_name (asks ask) = None

abbrev pub word_and_name : List ℕ → Option (List ℕ) → List ℕ
word_and_name word None = word
word_and_name word (Some name) = word ++ 0x20 ∷ name

-- the text that says it: an ask's word, or an edit's word, a blank and the name
abbrev pub text_of : Said → List ℕ
text_of said = word_and_name (word_of said) (edited_name said)
