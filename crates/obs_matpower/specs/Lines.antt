-- What stands in a line of a file.
use Rattle.std.specs.Prelude.{ℕ, ◌==◌, ◌||◌, Bool, nat_eq, List, length, drop, codes, Option, None, Some, is_some, if◌then◌else◌}
use Rattle.std.specs.List.{before_first, list_any, prefix_len, starts_with}
use Rattle.std.specs.Option.{option_and_then}
use Rattle.obs_text.specs.Lines.{content}
use Rattle.obs_matpower.specs.declared.part.MatTable.{MatTable}
use Rattle.obs_matpower.specs.declared.part.MatTable.TheVariants.{Bus, Branch}

-- the bytes with which a comment, a table and the end of a table begin, and the one that ends a row within a line
abbrev pub is_percent : ℕ → Bool
is_percent byte = byte == 0x25

abbrev pub is_opening : ℕ → Bool
is_opening byte = byte == 0x5B

abbrev pub is_closing : ℕ → Bool
is_closing byte = byte == 0x5D

abbrev pub is_semicolon : ℕ → Bool
is_semicolon byte = byte == 0x3B

-- a blank or a tab
abbrev pub is_gap : ℕ → Bool
is_gap byte = byte == 0x20 || byte == 0x09

-- the bytes from the first that is no blank or tab on
abbrev pub without_gaps : List ℕ → List ℕ
without_gaps bytes = drop (prefix_len is_gap bytes) bytes

-- a line's content up to its comment
abbrev pub without_comment : List ℕ → List ℕ
without_comment line = before_first is_percent line

-- what follows a text in bytes that have it after blanks and tabs
abbrev pub past : List ℕ → List ℕ → Option (List ℕ)
past text bytes =
    if starts_with nat_eq (without_gaps bytes) text then Some (drop (length text) (without_gaps bytes)) else None

-- the name that a table is assigned to
abbrev pub table_name : MatTable → List ℕ
table_name Bus = codes "mpc.bus"
table_name Branch = codes "mpc.branch"

-- whether a line without its comment has the table's name, `=` and `[`, in this order, with nothing but blanks and tabs before each
abbrev pub has_opening : MatTable → List ℕ → Bool
has_opening table code = is_some (option_and_then (past (codes "[")) (option_and_then (past (codes "=")) (past (table_name table) code)))

-- whether a line of a file opens the table
abbrev pub opens : MatTable → List ℕ → Bool
opens table line = has_opening table (without_comment (content line))

-- whether a line has a `]` that is in no comment
abbrev pub closes : List ℕ → Bool
closes line = list_any is_closing (without_comment (content line))
