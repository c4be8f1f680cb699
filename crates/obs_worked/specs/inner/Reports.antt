-- What is printed of worked cases, byte by byte, and with which status.
use Prim.Native.String.{String}
use Rattle.std.specs.Prelude.{◌≡◌, List, [], ◌∷◌, Some}
use Rattle.obs_files.specs.declared.status.Status.{Status}
use Rattle.obs_files.specs.declared.status.Status.TheVariants.{Done, Short}
use Rattle.obs_notice.specs.Notices.{summary_notice}
use Rattle.obs_script.specs.declared.command.Ask.TheVariants.{Report, Place}
use Rattle.obs_engine.specs.Asks.{ask_reply}
use Rattle.obs_engine.specs.Replies.{Reply}
use Rattle.obs_engine.specs.Summaries.{summary_of}
use Rattle.obs_engine.specs.Topology.{topology_reply}
use Rattle.obs_engine.specs.Trials.{trial_reply}
use Rattle.obs_trial.specs.Trial.{trial_of}
use Rattle.obs_worked.specs.inner.Cases.{absolute_offered, absolute_pair, behind_meters, crowded_parts, one_bus, one_open, parallel, row_given, row_lacking, row_of_four, row_offered, star, three_joined, triangle, without_source}
use Rattle.obs_worked.specs.inner.Rows.{printed, typed}

-- a reply of these lines, with this status
abbrev pub IsPrinted : Reply → Status → List String → Type 0
IsPrinted reply status lines = reply ≡ record { status = status; text = printed lines }

-- what is said of a case beside its answer
abbrev pub SummariesAreSaid : Type 0
SummariesAreSaid =
    (summary_of crowded_parts ≡ record { buses = 4; energised = 2; crowded = 1 }) × (summary_of without_source ≡ record { buses = 2; energised = 0; crowded = 0 })
    × (summary_of row_of_four ≡ record { buses = 4; energised = 4; crowded = 0 })
    × (summary_notice (Some (summary_of crowded_parts)) ≡ typed (
    "obs: buses that are energised: 2 of 4. The others are left out."
    ∷ "obs: buses at which more than one live injection or zero stands: 1. An estimator has one equation at each." ∷ []))
    × (summary_notice (Some (summary_of without_source)) ≡ typed ("obs: no bus is energised, since no node is a source. So there is nothing to observe." ∷ []))
    × (summary_notice (Some (summary_of row_of_four)) ≡ [])

-- the nodes with their buses
abbrev pub NodesArePrinted : Type 0
NodesArePrinted =
    IsPrinted (topology_reply three_joined) Done ("node z z" ∷ "node m m" ∷ "node a m" ∷ "node k m" ∷ "count buses 2" ∷ "end" ∷ [])
    × IsPrinted (topology_reply one_open) Done ("node a a" ∷ "node b a" ∷ "node c c" ∷ "count buses 2" ∷ "end" ∷ [])

-- a case that falls short: the bound of its component, and its islands
abbrev pub RowOfFourIsReported : Type 0
RowOfFourIsReported = IsPrinted (ask_reply Report row_of_four) Short (
    "count buses 4" ∷ "count energised 4" ∷ "count branches 3" ∷ "count meters 3" ∷ "count needed 3" ∷ "count rank 2" ∷ "verdict short"
    ∷ "bound a 1 1" ∷ "inside meter f1" ∷ "inside meter f2"
    ∷ "island a a" ∷ "island a b" ∷ "island a c" ∷ "island d d" ∷ "critical ib" ∷ "end" ∷ [])

-- an observable case: its tree
abbrev pub TriangleIsReported : Type 0
TriangleIsReported = IsPrinted (ask_reply Report triangle) Done (
    "count buses 3" ∷ "count energised 3" ∷ "count branches 3" ∷ "count meters 2" ∷ "count needed 2" ∷ "count rank 2" ∷ "verdict observable"
    ∷ "tree a" ∷ "pair meter ia L3" ∷ "pair meter f1 L1"
    ∷ "island a a" ∷ "island a b" ∷ "island a c" ∷ "critical ia" ∷ "critical f1" ∷ "end" ∷ [])

-- of two parallel branches the first is in the tree, and no meter is critical
abbrev pub ParallelIsReported : Type 0
ParallelIsReported = IsPrinted (ask_reply Report parallel) Done (
    "count buses 2" ∷ "count energised 2" ∷ "count branches 2" ∷ "count meters 2" ∷ "count needed 1" ∷ "count rank 1" ∷ "verdict observable"
    ∷ "tree a" ∷ "pair meter f1 L1" ∷ "island a a" ∷ "island a b" ∷ "end" ∷ [])

-- a star whose injection has one pair
abbrev pub StarIsReported : Type 0
StarIsReported = IsPrinted (ask_reply Report star) Short (
    "count buses 4" ∷ "count energised 4" ∷ "count branches 3" ∷ "count meters 1" ∷ "count needed 3" ∷ "count rank 1" ∷ "verdict short"
    ∷ "bound h 0 1" ∷ "island h h" ∷ "island x x" ∷ "island y y" ∷ "island z z" ∷ "critical ih" ∷ "end" ∷ [])

-- without a source nothing is needed, and nothing is said of the parts
abbrev pub WithoutSourceIsReported : Type 0
WithoutSourceIsReported = IsPrinted (ask_reply Report without_source) Done (
    "count buses 2" ∷ "count energised 0" ∷ "count branches 0" ∷ "count meters 0" ∷ "count needed 0" ∷ "count rank 0" ∷ "verdict observable"
    ∷ "end" ∷ [])

-- one bus has a tree without a pair
abbrev pub OneBusIsReported : Type 0
OneBusIsReported = IsPrinted (ask_reply Report one_bus) Done (
    "count buses 1" ∷ "count energised 1" ∷ "count branches 0" ∷ "count meters 0" ∷ "count needed 0" ∷ "count rank 0" ∷ "verdict observable"
    ∷ "tree a" ∷ "island a a" ∷ "end" ∷ [])

-- an absolute component, whose tree has an angle branch
abbrev pub AbsolutePairIsReported : Type 0
AbsolutePairIsReported = IsPrinted (ask_reply Report absolute_pair) Done (
    "count buses 2" ∷ "count energised 2" ∷ "count branches 1" ∷ "count meters 2" ∷ "count needed 2" ∷ "count rank 2" ∷ "verdict observable"
    ∷ "tree a" ∷ "pair meter f1 L1" ∷ "pair meter g1 angle" ∷ "island a a" ∷ "island a b" ∷ "critical f1" ∷ "critical g1" ∷ "end" ∷ [])

-- the cheapest candidate that completes the meters, and the layer that shows it
abbrev pub PlanIsPrinted : Type 0
PlanIsPrinted = IsPrinted (ask_reply Place row_offered) Done (
    "cost 3" ∷ "chosen p2" ∷ "pair meter f1 L1" ∷ "pair meter ib L2" ∷ "pair candidate p2 L3"
    ∷ "layer 0 3 2 0" ∷ "inside meter f1" ∷ "inside meter f2" ∷ "inside meter ib" ∷ "inside candidate p1" ∷ "end" ∷ [])

-- a candidate that costs nothing makes no layer
abbrev pub GivenIsPrinted : Type 0
GivenIsPrinted = IsPrinted (ask_reply Place row_given) Done (
    "cost 0" ∷ "chosen p1" ∷ "pair meter f1 L1" ∷ "pair meter ib L2" ∷ "pair candidate p1 L3" ∷ "end" ∷ [])

-- of two angle meters the cheaper one
abbrev pub AngleIsBought : Type 0
AngleIsBought = IsPrinted (ask_reply Place absolute_offered) Done (
    "cost 4" ∷ "chosen c2" ∷ "pair meter f1 L1" ∷ "pair candidate c2 angle" ∷ "layer 0 4 0 1" ∷ "end" ∷ [])

-- two candidates are needed and two layers; an idle candidate costs nothing and isn't chosen
abbrev pub TwoLayersArePrinted : Type 0
TwoLayersArePrinted = IsPrinted (ask_reply Place behind_meters) Done (
    "cost 11" ∷ "chosen c2" ∷ "chosen c3" ∷ "pair candidate c2 L1" ∷ "pair candidate c3 angle" ∷ "layer 0 5 0 0" ∷ "layer 5 6 0 1" ∷ "end" ∷ [])

-- why no candidates complete the meters
abbrev pub ShortfallIsPrinted : Type 0
ShortfallIsPrinted = IsPrinted (ask_reply Place row_lacking) Short (
    "shortfall 2 0" ∷ "inside meter f1" ∷ "inside meter f2" ∷ "inside meter ib" ∷ "inside candidate p1" ∷ "end" ∷ [])

-- a generated case of one node, and one of two rows, where its edits took as many searches as they were
abbrev pub TrialsArePrinted : Type 0
TrialsArePrinted =
    IsPrinted (trial_reply 1 0 (trial_of 1 0) 0) Done (
    "trial 1 0" ∷ "count buses 1" ∷ "count energised 1" ∷ "count branches 0" ∷ "count meters 0" ∷ "count needed 0" ∷ "count rank 0"
    ∷ "verdict observable" ∷ "islands 1" ∷ "dips 0" ∷ "edits 0" ∷ "searches 0" ∷ "end" ∷ [])
    × IsPrinted (trial_reply 2 1 (trial_of 2 1) 8) Done (
    "trial 2 1" ∷ "count buses 4" ∷ "count energised 4" ∷ "count branches 4" ∷ "count meters 4" ∷ "count needed 3" ∷ "count rank 3"
    ∷ "verdict observable" ∷ "islands 1" ∷ "dips 0" ∷ "edits 8" ∷ "searches 8" ∷ "end" ∷ [])
