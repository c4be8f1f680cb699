-- What a reader of a table's bytes gives next.
use Rattle.std.specs.Prelude.{ℕ, ◌≡◌, Bool, true, false, List, [], ◌∷◌, Some, ⊤}
use Rattle.std.specs.Borrow.{Bor}
use Rattle.csv.specs.Reading.{Ready, default_config, is_flexible, reader_config, reader_state, reader_trim, records_from, source_of}
use Rattle.csv.specs.declared.error.ErrorKind.{ErrorKind}
use Rattle.csv.specs.declared.error.ErrorKind.TheVariants as kind
use Rattle.csv.specs.declared.reader.Reader.{Reader}
use Rattle.csv.specs.declared.reader.Trim.TheVariants as trim
use Rattle.obs_case_csv.specs.Fields.{Record}

-- a reader of bytes
abbrev pub BytesReader : Type 0
BytesReader = Reader (Bor (List ℕ))

-- the reader gives these records next, of whatever lengths, if no more than a number of them are asked for
pub record Gives (reader : BytesReader) (most : ℕ) (rows : List Record) : Type 0 where
  pub untrimmed : reader_trim reader ≡ trim.None
  pub ready : Ready reader
  pub flexible : is_flexible reader ≡ true
  pub config : reader_config reader ≡ default_config
  pub unread : List ℕ
  pub source : source_of (λ s. Some s.now) reader ≡ Some unread
  pub rows_are : rows ≡ records_from default_config most (reader_state reader) unread

-- the first of these records was read, or there was none
abbrev pub ReadsFirst : Bool → BytesReader → ℕ → Record → List Record → Type 0
ReadsFirst true reader most row rows = (rest : List Record) × (rows ≡ row ∷ rest) × Gives reader most rest
ReadsFirst false reader most row rows = rows ≡ []

-- what no bytes and no lengths cause: want of memory, or a failure of what is read from
abbrev pub IsFromOutside : ErrorKind → Type 0
IsFromOutside (kind.Io e) = ⊤
IsFromOutside kind.OutOfMemory = ⊤
IsFromOutside (kind.UnequalLengths pos expected len) = ⊥
IsFromOutside (kind.Utf8 pos err) = ⊥
IsFromOutside (kind.Serialize why) = ⊥
IsFromOutside (kind.Deserialize pos err) = ⊥
