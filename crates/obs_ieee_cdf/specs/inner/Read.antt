-- The case of a file of the IEEE format under the usual limit, and how reading it may end.
use Rattle.std.specs.Prelude.{◌≡◌, List, ℕ, Option, Result, Err}
use Rattle.obs_case.specs.Tables.{Tables, usual_rows}
use Rattle.obs_ieee_cdf.specs.declared.fault.CdfEnd.{CdfEnd}
use Rattle.obs_ieee_cdf.specs.declared.fault.CdfEnd.TheVariants.{Cdf, Table, NoMemory}
use Rattle.obs_ieee_cdf.specs.Read.{case_within}

-- the case that the bytes are, or the first fault, under the usual limit
abbrev pub case_in : List ℕ → List ℕ → Option (List ℕ) → Result Tables CdfEnd
case_in cdf meters candidates = case_within usual_rows cdf meters candidates

-- an answer that ends the reading: want of memory, or this fault
abbrev pub EndsCase : Result Tables CdfEnd → CdfEnd → Type 0
EndsCase stated (Cdf fault) = stated ≡ Err (Cdf fault)
EndsCase stated (Table fault) = stated ≡ Err (Table fault)
EndsCase stated NoMemory = Unit {0}
