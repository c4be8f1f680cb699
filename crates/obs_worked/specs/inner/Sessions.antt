-- The answers to the lines of sessions over worked cases.
use Rattle.std.specs.Prelude.{false, [], ◌∷◌}
use Rattle.obs_files.specs.declared.status.Status.TheVariants.{Done, Short}
use Rattle.obs_files.specs.Limits.{usual_limits}
use Rattle.obs_engine.specs.Sessions.{session_reply}
use Rattle.obs_worked.specs.inner.Cases.{ring, row_of_four}
use Rattle.obs_worked.specs.inner.Reports.{IsPrinted}
use Rattle.obs_worked.specs.inner.Rows.{typed}

-- a switch of a ring is opened and nothing is parted, and then a second one; each time the counts are asked for
abbrev pub SwitchesAreOpened : Type 0
SwitchesAreOpened = IsPrinted (session_reply usual_limits.bytes false ring (typed ("open S3" ∷ "status" ∷ "open S1" ∷ "status" ∷ []))) Done (
    "ok 0 0"
    ∷ "count buses 1" ∷ "count energised 1" ∷ "count branches 0" ∷ "count meters 0" ∷ "count needed 0" ∷ "count rank 0" ∷ "verdict observable" ∷ "end"
    ∷ "ok 0 0"
    ∷ "count buses 2" ∷ "count energised 1" ∷ "count branches 0" ∷ "count meters 0" ∷ "count needed 0" ∷ "count rank 0" ∷ "verdict observable" ∷ "end"
    ∷ [])

-- a meter is lost and a branch tripped; the answers are those of the case after both
abbrev pub LossesAreAnswered : Type 0
LossesAreAnswered = IsPrinted (session_reply usual_limits.bytes false row_of_four (typed ("lose f2" ∷ "trip L3" ∷ "tree" ∷ "islands" ∷ "critical" ∷ []))) Done (
    "ok 2 3" ∷ "ok 2 2"
    ∷ "tree a" ∷ "pair meter f1 L1" ∷ "pair meter ib L2" ∷ "end"
    ∷ "island a a" ∷ "island a b" ∷ "island a c" ∷ "end"
    ∷ "critical f1" ∷ "critical ib" ∷ "end" ∷ [])

-- each refusal; an empty line and a remark have no answer
abbrev pub LinesAreRefused : Type 0
LinesAreRefused = IsPrinted
    (session_reply usual_limits.bytes false row_of_four (typed ("place" ∷ "trip" ∷ "trip " ∷ "report x" ∷ "trip L9" ∷ "lose z" ∷ "open S9" ∷ "" ∷ "# note" ∷ []))) Short (
    "refused 8 NoCandidates" ∷ "refused 4 WordMissing" ∷ "refused 3 BadName" ∷ "refused 1 UnknownCommand" ∷ "refused 6 UnknownBranch"
    ∷ "refused 7 UnknownMeter" ∷ "refused 5 UnknownSwitch" ∷ [])
