-- Rows that are read one after the other, and the fault that ends the reading.
use Rattle.std.proofs.Common.{◌≡◌, ℕ, suc, ◌+◌, ◌<◌, ◌≤◌, List, [], ◌∷◌, ◌++◌, length, Result, Ok, Err, MatchResult, refl, sym, ap, ◌∙◌, subst, append_assoc, append-nil, length-append, arith}
use Rattle.obs_bus_branch.specs.Rows.{on_ok, read_rows}
use Rattle.obs_bus_branch.specs.inner.Rows.{AreRows, HasRowFault}

-- one row more
one_longer : {R : Type 0} (earlier : List R) (r : R) → length (earlier ++ r ∷ []) + 1 ≡ suc (length earlier + 1)
one_longer earlier r = omega (arith, length-append earlier (r ∷ []))

-- there are as many of them as rows
pub same_length : {R : Type 0} (Is : ℕ → List ℕ → R → Type 0) (k : ℕ) (rows : List (ℕ × List ℕ)) (rs : List R) → AreRows Is k rows rs → length rs ≡ length rows
same_length Is k [] [] are = refl
same_length Is k [] (r ∷ rs) are = absurd are
same_length Is k (row ∷ rows) [] are = absurd are
same_length Is k (row ∷ rows) (r ∷ rs) are = ap suc (same_length Is (suc k) rows rs are.1)

module _ {R F : Type 0} (read : List R → ℕ → List ℕ → Result R F) where
  -- rows that are read are good where each one keeps them so
  module _ (Good : List R → Type 0) (keeps : (earlier : List R) (at : ℕ) (row : List ℕ) → Good earlier → (r : R) → read earlier at row ≡ Ok r → Good (earlier ++ r ∷ [])) where
    pub read_rows-good : (earlier : List R) (rows : List (ℕ × List ℕ)) (all : List R) → Good earlier → read_rows read earlier rows ≡ Ok all → Good all
    read_rows-good earlier [] all good is = subst Good (let same : Ok earlier ≡ Ok all = is in cc) good
    read_rows-good earlier (row ∷ rows) all good is =
        by (read earlier row.0 row.1) refl is (λ r e h. read_rows-good (earlier ++ r ∷ []) rows all (keeps earlier row.0 row.1 good r e) h)
      where
        by : (x : Result R F) → read earlier row.0 row.1 ≡ x → on_ok x (λ r. read_rows read (earlier ++ r ∷ []) rows) ≡ Ok all →
            ((r : R) → read earlier row.0 row.1 ≡ Ok r → read_rows read (earlier ++ r ∷ []) rows ≡ Ok all → Good all) → Good all
        by (Ok r) e h next = next r e h
        by (Err fault) e h next = cc

  -- no more rows are read than there is room for
  pub read_rows-few : (most : ℕ) → ((earlier : List R) (at : ℕ) (row : List ℕ) (r : R) → read earlier at row ≡ Ok r → length earlier < most)
      → (rows : List (ℕ × List ℕ)) (all : List R) → read_rows read [] rows ≡ Ok all → length all ≤ most
  read_rows-few most few rows all is =
      read_rows-good (λ done. length done ≤ most) (λ earlier at row room r e. omega (arith, few earlier at row r e, length-append earlier (r ∷ []))) [] rows all (omega arith) is

  module _ (Is : ℕ → List ℕ → R → Type 0) where
    -- rows that are read are what `Is` says of their places, where each one is that when it is read
    module _ (is : (earlier : List R) (at : ℕ) (row : List ℕ) (r : R) → read earlier at row ≡ Ok r → Is (length earlier + 1) row r) where
      -- the rows that are read stand after the earlier ones
      abbrev Reads : List R → List (ℕ × List ℕ) → List R → Type 0
      Reads earlier rows all = (new : List R) × (all ≡ earlier ++ new) × AreRows Is (length earlier + 1) rows new

      reads : (earlier : List R) (rows : List (ℕ × List ℕ)) (all : List R) → read_rows read earlier rows ≡ Ok all → Reads earlier rows all
      reads earlier [] all e = ([], (let same : Ok earlier ≡ Ok all = e in let s : earlier ≡ all = cc in sym s ∙ sym (append-nil earlier)), tt)
      reads earlier (row ∷ rows) all e = by (read earlier row.0 row.1) refl e (λ r h. reads (earlier ++ r ∷ []) rows all h)
        where
          by : (x : Result R F) → read earlier row.0 row.1 ≡ x → on_ok x (λ r. read_rows read (earlier ++ r ∷ []) rows) ≡ Ok all
              → ((r : R) → read_rows read (earlier ++ r ∷ []) rows ≡ Ok all → Reads (earlier ++ r ∷ []) rows all) → Reads earlier (row ∷ rows) all
          by (Ok r) h f next =
              let others = next r f in (
                r ∷ others.0,
                others.1 ∙ append_assoc earlier (r ∷ []) others.0,
                (is earlier row.0 row.1 r h, subst (λ k. AreRows Is k rows others.0) (one_longer earlier r) others.2),
              )
          by (Err fault) h f next = cc

      pub read_rows-are : (rows : List (ℕ × List ℕ)) (all : List R) → read_rows read [] rows ≡ Ok all → AreRows Is 1 rows all
      read_rows-are rows all e = (let part = reads [] rows all e in subst (AreRows Is 1 rows) (sym part.1) part.2)

    -- rows that are what `Is` says of their places are read, where each one is read after those before it
    module _ (all : List R) (one : (earlier : List R) (at : ℕ) (row : List ℕ) (r : R) (later : List R) → all ≡ earlier ++ r ∷ later → Is (length earlier + 1) row r → read earlier at row ≡ Ok r) where
      read_from : (earlier : List R) (rows : List (ℕ × List ℕ)) (new : List R) → all ≡ earlier ++ new → AreRows Is (length earlier + 1) rows new → read_rows read earlier rows ≡ Ok all
      read_from earlier [] [] same are = ap (λ x. Ok x) (sym (same ∙ append-nil earlier))
      read_from earlier [] (r ∷ new) same are = absurd are
      read_from earlier (row ∷ rows) [] same are = absurd are
      read_from earlier (row ∷ rows) (r ∷ new) same are =
          ap (λ x. on_ok x (λ y. read_rows read (earlier ++ y ∷ []) rows)) (one earlier row.0 row.1 r new same are.0)
          ∙ read_from (earlier ++ r ∷ []) rows new (same ∙ sym (append_assoc earlier (r ∷ []) new)) (subst (λ k. AreRows Is k rows new) (sym (one_longer earlier r)) are.1)

      pub are-read_rows : (rows : List (ℕ × List ℕ)) → AreRows Is 1 rows all → read_rows read [] rows ≡ Ok all
      are-read_rows rows are = read_from [] rows all refl are

  -- rows that follow others are read after them
  rows_split : (earlier : List R) (xs ys : List (ℕ × List ℕ)) → read_rows read earlier (xs ++ ys) ≡ on_ok (read_rows read earlier xs) (λ rows. read_rows read rows ys)
  rows_split earlier [] ys = refl
  rows_split earlier (x ∷ xs) ys = by (read earlier x.0 x.1) (λ row. rows_split (earlier ++ row ∷ []) xs ys)
    where
      by : (r : Result R F)
          → ((row : R) → read_rows read (earlier ++ row ∷ []) (xs ++ ys) ≡ on_ok (read_rows read (earlier ++ row ∷ []) xs) (λ rows. read_rows read rows ys))
          → on_ok r (λ row. read_rows read (earlier ++ row ∷ []) (xs ++ ys)) ≡ on_ok (on_ok r (λ row. read_rows read (earlier ++ row ∷ []) xs)) (λ rows. read_rows read rows ys)
      by (Ok row) next = next row
      by (Err fault) next = refl

  -- the row at which the reading stops
  abbrev pub Stops : List R → List (ℕ × List ℕ) → F → Type 0
  Stops earlier rows fault = HasRowFault (λ before done. read_rows read earlier before ≡ Ok done) (λ done at row f. read done at row ≡ Err f) rows fault

  -- a reading that ends with a fault stops at a row
  pub stops : (earlier : List R) (rows : List (ℕ × List ℕ)) (fault : F) → read_rows read earlier rows ≡ Err fault → Stops earlier rows fault
  stops earlier [] fault is = cc
  stops earlier (x ∷ xs) fault is = by (read earlier x.0 x.1) refl is (λ r h. stops (earlier ++ r ∷ []) xs fault h)
    where
      by : (r : Result R F) → read earlier x.0 x.1 ≡ r → on_ok r (λ y. read_rows read (earlier ++ y ∷ []) xs) ≡ Err fault
          → ((y : R) → read_rows read (earlier ++ y ∷ []) xs ≡ Err fault → Stops (earlier ++ y ∷ []) xs fault) → Stops earlier (x ∷ xs) fault
      by (Ok y) e h next =
          let s = next y h in record {
            before = x ∷ s.before;
            at = s.at;
            row = s.row;
            after = s.after;
            rows_are = ap (λ t. x ∷ t) s.rows_are;
            done = s.done;
            done_are = ap (λ r. on_ok r (λ first. read_rows read (earlier ++ first ∷ []) s.before)) e ∙ s.done_are;
            has = s.has;
          }
      by (Err f) e h next =
          let same : f ≡ fault = cc in
          record { before = []; at = x.0; row = x.1; after = xs; rows_are = refl; done = earlier; done_are = refl; has = e ∙ ap (λ g. Err g) same }

  -- the row at which the reading stops has the fault, given what the rows before it are
  pub has_fault : (Are : List (ℕ × List ℕ) → List R → Type 0) (Has : List R → ℕ → List ℕ → F → Type 0) {rows : List (ℕ × List ℕ)} {fault : F} (s : Stops [] rows fault)
      → Are s.before s.done → Has s.done s.at s.row fault → HasRowFault Are Has rows fault
  has_fault Are Has s are has =
      record { before = s.before; at = s.at; row = s.row; after = s.after; rows_are = s.rows_are; done = s.done; done_are = are; has = has }

-- what is read ends with a fault that isn't after another
abbrev pub Met : {A F : Type 0} → (F → F → Type 0) → Result A F → F → Type 0
Met {F = F} NotAfter read other = (fault : F) × (read ≡ Err fault) × NotAfter fault other

module _ {F : Type 0} (NotAfter : F → F → Type 0) where
  -- a fault ends whatever comes after
  pub ends : {A B : Type 0} (r : Result A F) (next : A → Result B F) (other : F) → Met NotAfter r other → Met NotAfter (on_ok r next) other
  ends r next other met = (met.0, ap (λ x. on_ok x next) met.1, met.2)

  -- a fault of a row is met by the reading, where the row meets it and the rows before it are read
  pub row_met : {R : Type 0} {Are : List (ℕ × List ℕ) → List R → Type 0} {Has : List R → ℕ → List ℕ → F → Type 0} {rows : List (ℕ × List ℕ)} {other : F} (read : List R → ℕ → List ℕ → Result R F)
      (h : HasRowFault Are Has rows other) → read_rows read [] h.before ≡ Ok h.done → Met NotAfter (read h.done h.at h.row) other → Met NotAfter (read_rows read [] rows) other
  row_met read h read_before met = (
    met.0,
    ap (read_rows read []) h.rows_are ∙ rows_split read [] h.before ((h.at, h.row) ∷ h.after)
        ∙ ap (λ r. on_ok r (λ first. read_rows read first ((h.at, h.row) ∷ h.after))) read_before
        ∙ ap (λ r. on_ok r (λ y. read_rows read (h.done ++ y ∷ []) h.after)) met.1,
    met.2,
  )

  -- a fault that is met is the first, where it is one and each other is met or one that isn't after it
  pub first_met : {A : Type 0} (IsFault : F → Type 0) (r : Result A F) → ((fault : F) → r ≡ Err fault → IsFault fault) → ((other : F) → IsFault other → Met NotAfter r other)
      → MatchResult r (λ x. (fault : F) → IsFault fault → ⊥) (λ fault. IsFault fault × ((other : F) → IsFault other → NotAfter fault other))
  first_met IsFault (Ok x) is met = λ fault has. (let both : Ok x ≡ Err (met fault has).0 = (met fault has).1 in cc)
  first_met IsFault (Err fault) is met = (
    is fault refl,
    λ other has. (let m = met other has in let both : Err fault ≡ Err m.0 = m.1 in let same : m.0 ≡ fault = cc in subst (λ f. NotAfter f other) same m.2),
  )

module _ {R F S : Type 0} (read : List R → ℕ → List ℕ → Result R F) (held : List R → S) (Good : List R → Type 0) (all : List (ℕ × List ℕ)) where
  -- the rows so far are held, and the rows that are left decide the rest
  pub record Read (state : S) (left : List (ℕ × List ℕ)) (rows : List R) : Type 0 where
    pub good : Good rows
    pub is_held : state ≡ held rows
    pub stated : read_rows read [] all ≡ read_rows read rows left

  abbrev pub ReadSoFar : S → List (ℕ × List ℕ) → Type 0
  ReadSoFar state left = (rows : List R) × Read state left rows

  -- no row is read yet
  pub read_none : (state : S) (left : List (ℕ × List ℕ)) → Good [] → state ≡ held [] → left ≡ all → ReadSoFar state left
  read_none state left good empty is = ([], record { good = good; is_held = empty; stated = ap (read_rows read []) (sym is) })

  -- one row more is read
  pub read_one : (state : S) (left rest : List (ℕ × List ℕ)) (at : ℕ) (row : List ℕ) (so_far : ReadSoFar state left) → left ≡ (at, row) ∷ rest → (after : S)
      → ((r : R) → read so_far.0 at row ≡ Ok r → Good (so_far.0 ++ r ∷ [])) → (r : R) × (read so_far.0 at row ≡ Ok r) × (after ≡ held (so_far.0 ++ r ∷ [])) → ReadSoFar after rest
  read_one state left rest at row so_far is after keeps (r, is_r, holds) = (
    so_far.0 ++ r ∷ [],
    record {
      good = keeps r is_r;
      is_held = holds;
      stated = so_far.1.stated ∙ ap (read_rows read so_far.0) is ∙ ap (λ x. on_ok x (λ y. read_rows read (so_far.0 ++ y ∷ []) rest)) is_r;
    },
  )
