-- The values of a row that are read.
use Rattle.std.specs.Prelude.{ℕ, ◌-◌, ◌==◌, ◌||◌, ◌&&◌, Bool, true, false, nat_le, nat_lt, List, length, Option, None, Some, if◌then◌else◌}
use Rattle.std.specs.List.{after_first, before_first, list_all, slice_get}
use Rattle.std.specs.Option.{option_and_then}
use Rattle.obs_text.specs.Numbers.{whole_of}
use Rattle.obs_matpower.specs.declared.fields.BusType.{BusType}
use Rattle.obs_matpower.specs.declared.fields.BusType.TheVariants.{Load, Source, Isolated}
use Rattle.obs_matpower.specs.Rows.{values_of}

abbrev pub is_point : ℕ → Bool
is_point byte = byte == 0x2E

abbrev pub is_zero : ℕ → Bool
is_zero byte = byte == 0x30

-- a whole value: 1 to 9 digits, after which a point and any number of zeros may stand
abbrev pub number_of : List ℕ → Option ℕ
number_of value =
    if nat_le (length (before_first is_point value)) 9 && list_all is_zero (after_first is_point value)
    then whole_of (before_first is_point value) else None

-- the type of a bus that a number from 1 to 4 says
abbrev pub type_numbered : ℕ → Option BusType
type_numbered n =
    if n == 1 then Some Load
    else if n == 2 || n == 3 then Some Source
    else if n == 4 then Some Isolated
    else None

-- the status that 0 or 1 says: out of service, or in service
abbrev pub status_numbered : ℕ → Option Bool
status_numbered n = if n == 0 then Some false else if n == 1 then Some true else None

-- whether a row has fewer values than this
abbrev pub is_short : ℕ → List ℕ → Bool
is_short columns row = nat_lt (length (values_of row)) columns

-- what a whole value in a column, counted from 1, says
abbrev pub number_in : ℕ → List ℕ → Option ℕ
number_in column row = option_and_then number_of (slice_get (values_of row) (column - 1))

abbrev pub type_in : ℕ → List ℕ → Option BusType
type_in column row = option_and_then type_numbered (number_in column row)

abbrev pub status_in : ℕ → List ℕ → Option Bool
status_in column row = option_and_then status_numbered (number_in column row)

-- a bus of type 2 or 3 has a source, and one of type 4 is isolated
abbrev pub is_source : BusType → Bool
is_source Load = false
is_source Source = true
is_source Isolated = false

abbrev pub is_isolated : BusType → Bool
is_isolated Load = false
is_isolated Source = false
is_isolated Isolated = true
