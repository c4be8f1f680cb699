-- The records that come one by one are those of the text.
use Rattle.std.proofs.Common.{inl, ◌∙◌, ◌+◌, arith, subst, Bool, false, Bor, ℕ, ◌≡◌, ap, refl, sym, List, [], ◌∷◌, Option, None, Some, true, zero, suc, Result, Ok, Err, IfErr, IfOk, OnOk}
use Rattle.std.proofs.lemmas.Bool.{false≢true}
use Rattle.csv.specs.Machine.{Read, next_record}
use Rattle.csv.proofs.ReadFacts.{rows-end}
use Rattle.csv.specs.Reading.{ExplainsRead, NextIs, Ready, error_kind, is_flexible, reader_trim, ReadRecord, default_config, reader_state, took_first, ReadsNext, pending_of, records_from, records_next, source_of}
use Rattle.csv.specs.declared.parser.Config.{Config}
use Rattle.csv.specs.declared.parser.State.{State}
use Rattle.csv.specs.declared.reader.Reader.{Reader}
use Rattle.csv.specs.declared.error.Error.{Error}
use Rattle.csv.specs.declared.error.ErrorKind.{ErrorKind}
use Rattle.csv.specs.declared.reader.Trim.TheVariants as trim
use Rattle.csv.specs.declared.error.ErrorKind.TheVariants as kind
use Rattle.obs_case_csv.specs.Fields.{Record}
use Rattle.obs_case_csv.specs.Read.{most_records}
use Rattle.obs_case_csv.specs.inner.Records.{BytesReader, Gives, IsFromOutside, ReadsFirst}

-- a record that was read is the first of those that are left
record_read : (cfg : Config) (s s2 : State) (y : List ℕ) (f : List (List ℕ)) (left : Option (List ℕ)) (k : ℕ)
    → ReadsNext cfg s (Some y) left true f s2 → (z : List ℕ) × (left ≡ Some z) × (records_from cfg (suc k) s y ≡ f ∷ records_from cfg k s2 z)
unfolding records_from
record_read cfg s s2 y f None k h = absurd h
record_read cfg s s2 y f (Some z) k h = by (next_record cfg s [] [] y) h
  where
    by : (o : Option Read) → NextIs o true f s2 z → (x : List ℕ) × (Some z ≡ Some x) × (records_next (records_from cfg k) o ≡ f ∷ records_from cfg k s2 x)
    by None n = absurd (false≢true (sym n))
    by (Some p) n = (z, refl, rw (n.1, n.2, n.3) refl)

pub records_more : {R : Type 0} (rem : R → Option (List ℕ)) (a b : Reader R) (f : List (List ℕ)) (cfg : Config) (y : List ℕ) (k : ℕ)
    → a.config ≡ cfg → source_of rem a ≡ Some y → ReadRecord rem a b true f
    → (z : List ℕ) × (source_of rem b ≡ Some z) × (records_from cfg (suc k) a.state y ≡ f ∷ records_from cfg k b.state z)
records_more rem a b f cfg y k ec ex r =
    let g = record_read cfg a.state b.state y f (pending_of (rem b.rdr) b) k (rw (ec, ex) at r.0) in
    (g.0, rw r.1 g.1, g.2)

-- at the end of the text there is none
pub records_end : (cfg : Config) (s : State) (y : List ℕ) (k : ℕ) → next_record cfg s [] [] y ≡ None → records_from cfg k s y ≡ []
unfolding records_from
records_end cfg s y zero h = refl
records_end cfg s y (suc k) h = ap (records_next (records_from cfg k)) h

-- what a read gives is the first of the records that are left
pub gives_first : (a b : BytesReader) (found : Bool) (row : Record) (most : ℕ) (rows : List Record) → ReadRecord (λ s. Some s.now) a b found row → took_first b ≡ true
    → is_flexible b ≡ is_flexible a → Gives a (suc most) rows → ReadsFirst found b most row rows
gives_first a b true row most rows read first flexible h =
    let more = records_more (λ (s : Bor (List ℕ)). Some s.now) a b row default_config h.unread most h.config h.source read in (
      records_from default_config most b.state more.0,
      h.rows_are ∙ more.2,
      record { untrimmed = read.3 ∙ h.untrimmed; ready = inl first; flexible = flexible ∙ h.flexible; config = read.2 ∙ h.config; unread = more.0; source = more.1; rows_are = refl },
    )
gives_first a b false row most rows read first flexible h =
    let last = rows-end (λ (s : Bor (List ℕ)). Some s.now) a b row default_config h.unread h.config h.source read in
    h.rows_are ∙ records_end default_config a.state h.unread (suc most) last

-- a header is asked for first
pub gives-header : (reader : BytesReader) (most : ℕ) (rows : List Record) → Gives reader (most_records most) rows → Gives reader (suc (most + 1)) rows
gives-header reader most rows h = let turn : most_records most ≡ suc (most + 1) = omega arith in subst (λ n. Gives reader n rows) turn h

-- where none is asked for there is none
pub gives-none : (reader : BytesReader) (most : ℕ) (rows : List Record) → most ≡ 0 → Gives reader most rows → rows ≡ []
unfolding records_from
gives-none reader most rows e h = h.rows_are ∙ ap (λ n. records_from default_config n (reader_state reader) h.unread) e

-- a reader of bytes of whatever lengths refuses none for its length or its bytes
pub refusal : (a b : BytesReader) (why : ErrorKind) → is_flexible a ≡ true → ExplainsRead (λ (s : Bor (List ℕ)). Some s.now) a b false why → IsFromOutside why
refusal a b (kind.Io e) flexible is = tt
refusal a b kind.OutOfMemory flexible is = tt
refusal a b (kind.UnequalLengths pos expected len) flexible is = absurd (false≢true (sym is.0 ∙ flexible))
refusal a b (kind.Utf8 pos err) flexible is = absurd (false≢true is.0)
refusal a b (kind.Serialize why) flexible is = absurd is
refusal a b (kind.Deserialize pos err) flexible is = absurd is

-- the same of what a read answers
module _ (a b : BytesReader) where
  pub refusals : {T : Type 0} (r : Result T Error) → IfErr r (λ e. Ready a → ExplainsRead (λ (s : Bor (List ℕ)). Some s.now) a b false (error_kind e))
      → IfErr r (λ e. (most : ℕ) (rows : List Record) → Gives a most rows → IsFromOutside (error_kind e))
  refusals (Ok x) why = tt
  refusals (Err e) why = λ most rows gives. refusal a b (error_kind e) gives.flexible (why gives.ready)

  pub reads_first : (r : Result Bool Error) (row : Record) → IfOk r (λ found. (reader_trim a ≡ trim.None) → Ready a → ReadRecord (λ (s : Bor (List ℕ)). Some s.now) a b found row)
      → ((reader_trim a ≡ trim.None) → OnOk r (took_first b ≡ true)) → OnOk r (is_flexible b ≡ is_flexible a)
      → IfOk r (λ found. (most : ℕ) (rows : List Record) → Gives a (suc most) rows → ReadsFirst found b most row rows)
  reads_first (Ok found) row reads ready flexible =
      λ most rows gives. gives_first a b found row most rows (reads gives.untrimmed gives.ready) (ready gives.untrimmed) flexible gives
  reads_first (Err e) row reads ready flexible = tt
