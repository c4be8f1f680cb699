-- What is answered to certificates on worked cases: that all hold, or the first flaw.
use Prim.Native.String.{String}
use Rattle.std.specs.Prelude.{List, [], ◌∷◌}
use Rattle.obs_case.specs.Tables.{Tables}
use Rattle.obs_files.specs.declared.status.Status.{Status}
use Rattle.obs_files.specs.declared.status.Status.TheVariants.{Done, Short, InputFault}
use Rattle.obs_engine.specs.Verify.{verify_reply}
use Rattle.obs_worked.specs.inner.Cases.{absolute_offered, absolute_pair, row_of_four, row_offered, triangle, two_angles, two_parts}
use Rattle.obs_worked.specs.inner.Reports.{IsPrinted}
use Rattle.obs_worked.specs.inner.Rows.{printed}

-- a certificate of these lines is answered by this line
abbrev pub IsVerified : Tables → List String → Status → String → Type 0
IsVerified t lines status answer = IsPrinted (verify_reply t (printed lines)) status (answer ∷ [])

-- a tree, a bound and a plan that hold
abbrev pub ClaimsHold : Type 0
ClaimsHold =
    IsVerified absolute_pair ("tree a" ∷ "pair meter f1 L1" ∷ "pair meter g1 angle" ∷ "end" ∷ []) Done "valid 1"
    × IsVerified row_of_four ("bound a 1 1" ∷ "inside meter f1" ∷ "inside meter f2" ∷ "end" ∷ []) Done "valid 1"
    × IsVerified row_of_four ("end" ∷ []) Done "valid 0"

-- a name isn't in its table: the branch of the flow isn't one of the angle meter
abbrev pub HasUnknownName : Type 0
HasUnknownName =
    IsVerified absolute_pair ("tree a" ∷ "pair meter f1 L1" ∷ "pair meter g1 L1" ∷ "end" ∷ []) Short "flaw 1 1 UnknownName"

-- a component has no source
abbrev pub IsNoComponent : Type 0
IsNoComponent = IsVerified two_parts ("tree c" ∷ "end" ∷ []) Short "flaw 1 2 NotComponent"

-- a candidate is no meter of a component
abbrev pub IsNotInside : Type 0
IsNotInside =
    IsVerified absolute_offered ("tree a" ∷ "pair meter f1 L1" ∷ "pair candidate c2 angle" ∷ "end" ∷ []) Short "flaw 1 3 NotInside"

-- a flow touches its own branch alone
abbrev pub IsNotTouched : Type 0
IsNotTouched = IsVerified row_of_four ("tree a" ∷ "pair meter f1 L2" ∷ "end" ∷ []) Short "flaw 1 4 NotTouched"

-- a meter is listed twice
abbrev pub StandsTwice : Type 0
StandsTwice = IsVerified row_of_four ("bound a 1 1" ∷ "inside meter f1" ∷ "inside meter f1" ∷ "end" ∷ []) Short "flaw 1 5 Twice"

-- two angle branches at one bus are a cycle
abbrev pub HasCycle : Type 0
HasCycle = IsVerified two_angles ("tree a" ∷ "pair meter g1 angle" ∷ "pair meter g2 angle" ∷ "end" ∷ []) Short "flaw 1 6 Cycle"

-- a tree has too few pairs
abbrev pub HasWrongLength : Type 0
HasWrongLength = IsVerified absolute_pair ("tree a" ∷ "pair meter f1 L1" ∷ "end" ∷ []) Short "flaw 1 7 WrongLength"

-- the two numbers of a bound suffice after all
abbrev pub IsNotBelow : Type 0
IsNotBelow = IsVerified triangle ("bound a 2 0" ∷ "inside meter ia" ∷ "inside meter f1" ∷ "end" ∷ []) Short "flaw 1 10 NotBelow"

-- the lines of a plan of the offered row: its cost and its layer
abbrev pub plan_lines : String → String → List String
plan_lines cost layer =
    cost ∷ "chosen p2" ∷ "pair meter f1 L1" ∷ "pair meter ib L2" ∷ "pair candidate p2 L3"
    ∷ layer ∷ "inside meter f1" ∷ "inside meter f2" ∷ "inside meter ib" ∷ "inside candidate p1" ∷ "end" ∷ []

-- the plan holds; with another rank, other prices or another cost it doesn't
abbrev pub PlansAreChecked : Type 0
PlansAreChecked =
    IsVerified row_offered (plan_lines "cost 3" "layer 0 3 2 0") Done "valid 1"
    × IsVerified row_offered (plan_lines "cost 3" "layer 0 3 1 0") Short "flaw 1 8 WrongRank"
    × IsVerified row_offered (plan_lines "cost 3" "layer 1 3 2 0") Short "flaw 1 11 WrongLayers"
    × IsVerified row_offered (plan_lines "cost 2" "layer 0 3 2 0") Short "flaw 1 12 WrongCost"

-- a candidate that is cheaper than the layer's end stands outside its list
abbrev pub HasWrongOutside : Type 0
HasWrongOutside =
    IsVerified absolute_offered ("cost 7" ∷ "chosen c1" ∷ "pair meter f1 L1" ∷ "pair candidate c1 angle" ∷ "layer 0 7 0 1" ∷ "end" ∷ [])
    Short "flaw 1 9 WrongOutside"

-- a certificate ends with a line of its own
abbrev pub EndIsMissing : Type 0
EndIsMissing =
    IsVerified row_of_four ("bound a 1 1" ∷ "inside meter f1" ∷ "inside meter f2" ∷ []) InputFault "fault certificate 0 3 NoEnd"
