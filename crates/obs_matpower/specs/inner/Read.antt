-- What a MATPOWER file is under the usual limit, and how reading it may end.
use Rattle.std.specs.Prelude.{◌≡◌, ℕ, List, Option, Result, Err}
use Rattle.obs_case.specs.Tables.{Tables, usual_rows}
use Rattle.obs_matpower.specs.declared.fault.MatEnd.{MatEnd}
use Rattle.obs_matpower.specs.declared.fault.MatEnd.TheVariants.{Mat, Table, NoMemory}
use Rattle.obs_matpower.specs.declared.fault.MatFault.{MatFault}
use Rattle.obs_matpower.specs.Read.{mat_within, case_within}

-- the nodes and branches that a file's bytes are, or its first fault, under the usual limit
abbrev pub mat_of : List ℕ → Result Tables MatFault
mat_of bytes = mat_within usual_rows bytes

-- the case that the bytes are, or the first fault, under the usual limit
abbrev pub case_in : List ℕ → List ℕ → Option (List ℕ) → Result Tables MatEnd
case_in matpower meters candidates = case_within usual_rows matpower meters candidates

-- an answer that ends the reading: want of memory, or this fault
abbrev pub EndsCase : Result Tables MatEnd → MatEnd → Type 0
EndsCase stated (Mat fault) = stated ≡ Err (Mat fault)
EndsCase stated (Table fault) = stated ≡ Err (Table fault)
EndsCase stated NoMemory = Unit {0}
