-- What is stated of whole calls: from the words and the bytes of files to the printed bytes and the status.
use Prim.Native.String.{String}
use Rattle.std.specs.Prelude.{◌≡◌, List, [], ◌∷◌, codes, map, slice_index_or}
use Rattle.obs_files.specs.declared.status.Status.{Status}
use Rattle.obs_files.specs.declared.status.Status.TheVariants.{Done, Short, Usage, InputFault, SessionTooLong}
use Rattle.obs_files.specs.Limits.{Limits, large_limits, limits_of, usual_limits}
use Rattle.obs_files.specs.Words.{form_of}
use Rattle.obs_engine.specs.Replies.{Reply}
use Rattle.obs_engine.specs.Stated.{IsStated, Told}
use Rattle.obs_worked.specs.inner.Rows.{printed, typed}

-- these limits, the lines of the file of each word, by its position, and those of the input
abbrev pub told_of : Limits → List (List String) → List String → Told
told_of limits files input = record { limits = limits; file = λ w. typed (slice_index_or files w []); input = typed input }

-- with these limits no other reply is stated to these words, files and input than this one
abbrev pub IsReplyWithin : Limits → List String → List (List String) → List String → Reply → Type 0
IsReplyWithin limits words files input wanted =
    (reply : Reply) → IsStated (form_of (map codes words)) (told_of limits files input) reply → reply ≡ wanted

-- the same with the limits that hold where none are given
abbrev pub IsReply : List String → List (List String) → List String → Reply → Type 0
IsReply words files input wanted = IsReplyWithin usual_limits words files input wanted

-- a reply of these lines
abbrev pub reply_of : Status → List String → Reply
reply_of status lines = record { status = status; text = printed lines }

-- the tables of a row of four buses behind two words, with a table of nodes
abbrev pub row_files : List String → List (List String)
row_files nodes =
    [] ∷ [] ∷ nodes ∷ ("switch,from,to,closed" ∷ []) ∷ ("branch,from,to,inservice" ∷ "L1,a,b,1" ∷ "L2,b,c,1" ∷ "L3,c,d,1" ∷ [])
    ∷ ("meter,kind,at,inservice" ∷ "f1,flow,L1,1" ∷ "f2,flow,L1,1" ∷ "ib,injection,b,1" ∷ []) ∷ []

-- two nodes that a switch joins, by an order of columns of their own
abbrev pub TopologyIsAnswered : Type 0
TopologyIsAnswered = IsReply ("topology" ∷ "n" ∷ "s" ∷ [])
    ([] ∷ ("source,node" ∷ "1,a" ∷ "0,b" ∷ "0,c" ∷ []) ∷ ("switch,from,to,closed" ∷ "S1,a,b,1" ∷ "S2,b,c,0" ∷ []) ∷ []) []
    (reply_of Done ("node a a" ∷ "node b a" ∷ "node c c" ∷ "count buses 2" ∷ "end" ∷ []))

-- the report of a row of four buses
abbrev pub ReportIsAnswered : Type 0
ReportIsAnswered = IsReply ("report" ∷ "tables" ∷ "n" ∷ "s" ∷ "b" ∷ "m" ∷ [])
    (row_files ("node,source" ∷ "a,1" ∷ "b,0" ∷ "c,0" ∷ "d,0" ∷ [])) []
    (reply_of Short (
    "count buses 4" ∷ "count energised 4" ∷ "count branches 3" ∷ "count meters 3" ∷ "count needed 3" ∷ "count rank 2" ∷ "verdict short"
    ∷ "bound a 1 1" ∷ "inside meter f1" ∷ "inside meter f2"
    ∷ "island a a" ∷ "island a b" ∷ "island a c" ∷ "island d d" ∷ "critical ib" ∷ "end" ∷ []))

-- a session of the same case
abbrev pub SessionIsAnswered : Type 0
SessionIsAnswered = IsReply ("session" ∷ "tables" ∷ "n" ∷ "s" ∷ "b" ∷ "m" ∷ [])
    (row_files ("node,source" ∷ "a,1" ∷ "b,0" ∷ "c,0" ∷ "d,0" ∷ [])) ("trip L1" ∷ "restore L1" ∷ [])
    (reply_of Short ("ok 0 0" ∷ "ok 2 3" ∷ []))

-- a fault of a table in the place of an answer
abbrev pub FaultIsAnswered : Type 0
FaultIsAnswered = IsReply ("report" ∷ "tables" ∷ "n" ∷ "s" ∷ "b" ∷ "m" ∷ [])
    (row_files ("node,source" ∷ "a,1" ∷ "b,0" ∷ "c,2" ∷ "d,0" ∷ [])) []
    (reply_of InputFault ("fault nodes 3 6 BadFlag" ∷ []))

-- two buses of which the first is fed, with a branch between them and a flow: the report by the names that the file's numbers give
abbrev pub two_buses : Reply
two_buses = reply_of Done (
    "count buses 2" ∷ "count energised 2" ∷ "count branches 1" ∷ "count meters 1" ∷ "count needed 1" ∷ "count rank 1" ∷ "verdict observable"
    ∷ "tree 1" ∷ "pair meter F1 L1" ∷ "island 1 1" ∷ "island 1 2" ∷ "critical F1" ∷ "end" ∷ [])

-- a file behind two words, and a table with one flow
abbrev pub file_and_flow : List String → List (List String)
file_and_flow lines = [] ∷ [] ∷ lines ∷ ("meter,kind,at,inservice" ∷ "F1,flow,L1,1" ∷ []) ∷ []

-- a file in the IEEE format whose second bus has this line
abbrev pub cdf_lines : String → List String
cdf_lines bus =
    "a title" ∷ "BUS DATA FOLLOWS" ∷ "   1 Bus 1     HV  1  1  3" ∷ bus ∷ "-999"
    ∷ "BRANCH DATA FOLLOWS" ∷ "   1    2  1  1 1 0" ∷ "-999" ∷ "END OF DATA" ∷ []

-- the report of it, and the fault where the second bus has the number of the first
abbrev pub CdfIsAnswered : Type 0
CdfIsAnswered =
    IsReply ("report" ∷ "cdf" ∷ "c" ∷ "m" ∷ []) (file_and_flow (cdf_lines "   2 Bus 2     HV  1  1  0")) [] two_buses
    × IsReply ("report" ∷ "cdf" ∷ "c" ∷ "m" ∷ []) (file_and_flow (cdf_lines "   1 Bus 2     HV  1  1  0")) []
    (reply_of InputFault ("fault cdf 4 7 BusTwice" ∷ []))

-- a file of MATPOWER whose buses have this line, and whose second branch is out of service
abbrev pub mat_lines : String → List String
mat_lines buses =
    "function mpc = two" ∷ "mpc.bus = [" ∷ buses ∷ "];"
    ∷ "mpc.branch = [" ∷ " 1, 2, 0, 0, 0, 0, 0, 0, 0, 0, 1" ∷ " 2 1 0 0 0 0 0 0 0 0 0.; % out of service" ∷ "];" ∷ []

-- the report of it, and the fault where a bus has no type
abbrev pub MatIsAnswered : Type 0
MatIsAnswered =
    IsReply ("report" ∷ "matpower" ∷ "c" ∷ "m" ∷ []) (file_and_flow (mat_lines " 1 3 0; 2 1 0; % two buses")) [] two_buses
    × IsReply ("report" ∷ "matpower" ∷ "c" ∷ "m" ∷ []) (file_and_flow (mat_lines " 1 5 0; 2 1 0;")) []
    (reply_of InputFault ("fault matpower 3 6 BadType" ∷ []))

-- the usage line
abbrev pub usage : Reply
usage = record {
  status = Usage;
  text = typed (
      "usage: obs topology N S | report FORM | place FORM CAND | session FORM | verify FORM CERT | trial N SEED | outages FORM | pairs FORM | stations FORM"
      ∷ []);
}

-- words that have no form: a file is missing, and a trial has no rows
abbrev pub UsageIsAnswered : Type 0
UsageIsAnswered =
    IsReply ("report" ∷ "tables" ∷ "n" ∷ []) [] [] usage
    × IsReply ("trial" ∷ "0" ∷ "5" ∷ []) [] [] usage

-- the limits that hold where none are given, and the largest
abbrev pub LimitsAreGiven : Type 0
LimitsAreGiven = (usual_limits ≡ limits_of 20000 16777216) × (large_limits ≡ limits_of 1000000 1073741824)

-- the files of two words that have three nodes and two switches, and the reply to them
abbrev pub three_nodes : List (List String)
three_nodes = [] ∷ ("node,source" ∷ "a,1" ∷ "b,0" ∷ "c,0" ∷ []) ∷ ("switch,from,to,closed" ∷ "S1,a,b,1" ∷ "S2,b,c,0" ∷ []) ∷ []

abbrev pub three_named : Reply
three_named = reply_of Done ("node a a" ∷ "node b a" ∷ "node c c" ∷ "count buses 2" ∷ "end" ∷ [])

-- so many rows are well in a table, and one more is too many
abbrev pub RowsAreLimited : Type 0
RowsAreLimited =
    IsReplyWithin (limits_of 3 100) ("topology" ∷ "n" ∷ "s" ∷ []) three_nodes [] three_named
    × IsReplyWithin (limits_of 2 100) ("topology" ∷ "n" ∷ "s" ∷ []) three_nodes [] (reply_of InputFault ("fault nodes 3 12 TooMany" ∷ []))
    × IsReplyWithin (limits_of 1 1000) ("report" ∷ "cdf" ∷ "c" ∷ "m" ∷ []) (file_and_flow (cdf_lines "   2 Bus 2     HV  1  1  0")) []
    (reply_of InputFault ("fault cdf 4 9 TooMany" ∷ []))
    × IsReplyWithin (limits_of 1 1000) ("report" ∷ "matpower" ∷ "c" ∷ "m" ∷ []) (file_and_flow (mat_lines " 1 3 0; 2 1 0;")) []
    (reply_of InputFault ("fault matpower 3 9 TooMany" ∷ []))

-- a file of so many bytes is well, and one of a byte more is too long, whatever its rows are. The longer file has 40 bytes
abbrev pub FilesAreLimited : Type 0
FilesAreLimited =
    IsReplyWithin (limits_of 3 40) ("topology" ∷ "n" ∷ "s" ∷ []) three_nodes [] three_named
    × IsReplyWithin (limits_of 3 39) ("topology" ∷ "n" ∷ "s" ∷ []) three_nodes [] (reply_of InputFault ("fault switches 0 14 TooLong" ∷ []))

-- a session of the row of four buses over this input, where the longest file has 67 bytes, which is the limit
abbrev pub IsSessionOfRow : List String → Reply → Type 0
IsSessionOfRow input wanted =
    IsReplyWithin (limits_of 4 67) ("session" ∷ "tables" ∷ "n" ∷ "s" ∷ "b" ∷ "m" ∷ [])
    (row_files ("node,source" ∷ "a,1" ∷ "b,0" ∷ "c,0" ∷ "d,0" ∷ [])) input wanted

-- an input of so many bytes is answered whole, and of one of a byte more each line that ends within them
abbrev pub InputsAreLimited : Type 0
InputsAreLimited =
    IsSessionOfRow ("trip L1" ∷ "# a remark of as many bytes as are left for a line" ∷ "trip L2" ∷ []) (reply_of Done ("ok 0 0" ∷ "ok 0 0" ∷ []))
    × IsSessionOfRow ("trip L1" ∷ "# a remark of as many bytes as are left for a line." ∷ "trip L2" ∷ []) (reply_of SessionTooLong ("ok 0 0" ∷ []))
