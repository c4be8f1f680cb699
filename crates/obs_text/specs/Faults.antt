-- What is said of a fault of some input.
use Rattle.std.specs.Prelude.{ℕ, List, codes}

-- a fault: the part of the input that has it, the row or line, which is 0 where it is none, and the fault's number and name
pub record Fault : Type 0 where
  pub part : List ℕ
  pub place : ℕ
  pub code : ℕ
  pub name : List ℕ

-- a file that has more bytes than a file may have
abbrev pub too_long : List ℕ → Fault
too_long part = record { part = part; place = 0; code = 14; name = codes "TooLong" }
