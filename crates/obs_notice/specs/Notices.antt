-- What is said on standard error: where no answer was given or not the whole one, what happened and what to do, and beside a whole one
-- what its case has that is easily missed.
use Rattle.std.specs.Prelude.{ℕ, ◌+◌, ◌/◌, ◌%◌, ◌<◌, ◌==◌, ◌&&◌, ◌||◌, nat_lt, decimal, length, if◌then◌else◌, List, [], ◌∷◌, ◌++◌, codes, Option, None, Some, position, slice_index_or}
use Rattle.obs_files.specs.Limits.{Limits}
use Rattle.obs_files.specs.declared.status.Status.{Status}
use Rattle.obs_files.specs.declared.status.Status.TheVariants.{Done, Short, Usage, InputFault, ReadFault, WriteFault, NoMemory, SessionTooLong}
use Rattle.obs_io.specs.Causes.{Rose}
use Rattle.obs_notice.specs.declared.summary.Summary.{Summary}

-- the first word whose count of failed reads isn't 0
abbrev pub failed_word : List ℕ → Option ℕ
failed_word counts = position (λ count. nat_lt 0 count) counts

-- the code of a digit of base 16
abbrev pub digit_code : ℕ → ℕ
digit_code value = if nat_lt value 10 then 48 + value else 87 + value

-- a byte of a name as it is said: a control byte and a backslash as \xNN
abbrev pub byte_said : ℕ → List ℕ
byte_said byte =
    if nat_lt byte 32 || (byte == 92) || (byte == 127)
    then 92 ∷ 120 ∷ digit_code (byte / 16) ∷ digit_code (byte % 16) ∷ []
    else byte ∷ []

-- a name as it is said
abbrev pub name_said : List ℕ → List ℕ
name_said [] = []
name_said (byte ∷ name) = byte_said byte ++ name_said name

-- a digit of a number with so many digits behind it: a comma follows where these are three, six and so on
abbrev pub comma_said : ℕ → ℕ → List ℕ
comma_said behind digit = if nat_lt 0 behind && (behind % 3 == 0) then digit ∷ codes "," else digit ∷ []

-- the digits of a number as it is said, with commas
abbrev pub digits_said : List ℕ → List ℕ
digits_said [] = []
digits_said (digit ∷ digits) = comma_said (length digits) digit ++ digits_said digits

-- of a session's input that has more bytes than are taken
abbrev pub too_long_notice : Limits → List ℕ
too_long_notice limits =
    codes "obs: the session's input has more than " ++ (digits_said (decimal limits.bytes)
    ++ codes " bytes. Only the lines that ended within these were answered.\nobs: begin a new session for the rest, and repeat the edits that are to hold there.\n")

-- of a read that failed: the file, or the input where no file is named
abbrev pub read_notice : List (List ℕ) → Option ℕ → List ℕ
read_notice words None = codes "obs: the standard input could not be read. The lines that had ended before were answered.\n"
read_notice words (Some word) =
    codes "obs: this file could not be read: " ++ (name_said (slice_index_or words word [])
    ++ codes "\nobs: is it spelt right, and may you read it? It must be a plain file, no folder or pipe: it is opened more than once.\n")

-- that so many of so many buses are energised
abbrev pub part_notice : ℕ → ℕ → List ℕ
part_notice energised buses =
    (codes "obs: buses that are energised: " ++ (digits_said (decimal energised) ++ codes " of "))
    ++ (digits_said (decimal buses) ++ codes ". The others are left out.\n")

-- of the energised buses: that there is none, or how many there are, where that isn't all
abbrev pub energised_notice : ℕ → ℕ → List ℕ
energised_notice energised buses =
    if energised == 0
    then codes "obs: no bus is energised, since no node is a source. So there is nothing to observe.\n"
    else (if energised == buses then [] else part_notice energised buses)

-- of the buses at which more than one live injection or zero stands: how many there are, where there are some
abbrev pub crowded_notice : ℕ → List ℕ
crowded_notice crowded =
    if crowded == 0
    then []
    else codes "obs: buses at which more than one live injection or zero stands: " ++ (digits_said (decimal crowded)
    ++ codes ". An estimator has one equation at each.\n")

-- of the summary of a case, where there is one
abbrev pub summary_notice : Option Summary → List ℕ
summary_notice None = []
summary_notice (Some s) = energised_notice s.energised s.buses ++ crowded_notice s.crowded

-- all that is said of a run within these limits and with this status, where a read of the file of this word failed. Of a whole answer
-- that is what the summary of the case says
abbrev pub notice : Limits → List (List ℕ) → Status → Option ℕ → Option Summary → List ℕ
notice limits words Done failed summary = summary_notice summary
notice limits words Short failed summary = summary_notice summary
notice limits words Usage failed summary =
    codes "obs: these words are none of: topology N S, report FORM, place FORM CAND, session FORM, verify FORM CERT, trial N SEED,\nobs: outages FORM, pairs FORM, stations FORM.\n"
    ++ codes "obs: FORM is: tables N S B M, or cdf C M, or matpower C M; session and verify also take FORM with CAND. Names of files are UTF-8.\n"
notice limits words InputFault failed summary =
    codes "obs: a file has a fault. The line on standard output has its part, row, code and name; docs/GUIDE.md has likely causes.\n"
    ++ codes "obs: of a table row 0 is the header and row k line k + 1 of a spreadsheet, empty lines not counted; of other files it is the line.\n"
notice limits words ReadFault failed summary = read_notice words failed
notice limits words WriteFault failed summary =
    codes "obs: the answer could not be written whole: at most a front of it was. Is the disk full, or did the reader stop, as head does?\n"
notice limits words NoMemory failed summary =
    codes "obs: there was no memory, and nothing was written. Allow more (see ulimit -v), or give a smaller case.\n"
notice limits words SessionTooLong failed summary = too_long_notice limits

-- the word is one of whose file a read failed, by how often that is so of each word; where there is none, a read of the input failed
abbrev pub NamesFailure : (ℕ → ℕ) → ℕ → ℕ → Option ℕ → Type 0
NamesFailure failures before now (Some word) = 0 < failures word
NamesFailure failures before now None = Rose before now
