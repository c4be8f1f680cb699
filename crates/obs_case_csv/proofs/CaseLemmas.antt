-- The rows of one table: what a reading without a fault gives, and what a table's rows are read as.
use Rattle.std.proofs.Common.{ℕ, ◌≡◌, ◌∙◌, ◌<◌, ◌≤◌, ap, refl, sym, subst, List, [], ◌∷◌, ◌++◌, length, true, false, arith, None, map, nat_eq, append_assoc, ◌||◌}
use Rattle.std.proofs.lemmas.Bool.{and_parts, eqb-false, ne_eqb, or_parts}
use Rattle.std.proofs.lemmas.List.Folds.{list_all-append, list_any-append}
use Rattle.std.specs.List.{list_all}
use Rattle.std.specs.Str.{bytes_eq}
use Rattle.std.proofs.lemmas.List.{append-nil, length-append, map-append}
use Rattle.obs_text.specs.Names.{is_name}
use Rattle.obs_case.specs.Tables.{IsNamed, Tables, are_different, has_name}
use Rattle.obs_case.proofs.NameLemmas.{bytes_eq-back, different-parts, named-none, named-push}
use Rattle.obs_case_csv.specs.declared.faults.Table.{Table}
use Rattle.obs_case_csv.specs.Fields.{Record}
use Rattle.obs_case_csv.specs.IsCase.{AreRows, EachIs}
use Rattle.obs_case_csv.specs.Read.{fault_in, fault_of_records, first_fault, rows_before, rows_in, rows_of_records, table_records}
use Rattle.obs_case_csv.specs.Rows.{names_in, row_fault, with_record}
use Rattle.obs_case_csv.proofs.ReadLemmas.{first_fault-end, first_fault-next, header-none, row_fault-none, rows_before-end, rows_before-next, with_header}
use Rattle.obs_case_csv.proofs.ReadingLemmas.{row_fault-parts}

-- a table of a case: its rows, and what is known of one record
pub record IsTable {R : Type 0} (table : Table) (own : R → List ℕ) (get : Tables → List R) (put : Tables → List R → Tables) (is : Tables → Record → Record → R → Type 0)
    (made : Record → Tables → Record → R) : Type 0 where
  pub names : (t : Tables) → names_in table t ≡ map own (get t)
  pub added : (header : Record) (t : Tables) (row : Record) → with_record table header t row ≡ put t (get t ++ made header t row ∷ [])
  pub get_put : (t : Tables) (xs : List R) → get (put t xs) ≡ xs
  pub put_put : (t : Tables) (xs ys : List R) → put (put t xs) ys ≡ put t ys
  pub same_most : (t : Tables) (xs : List R) → (put t xs).most ≡ t.most
  pub put_get : (t : Tables) → put t (get t) ≡ t
  pub is_put : (t : Tables) (xs : List R) (header row : Record) (x : R) → is (put t xs) header row x → is t header row x
  pub put_is : (t : Tables) (xs : List R) (header row : Record) (x : R) → is t header row x → is (put t xs) header row x
  pub reads : (header : Record) (t : Tables) (row : Record) → row_fault table header t row ≡ None
      → is t header row (made header t row) × (is_name (own (made header t row)) ≡ true) × (has_name (map own (get t)) (own (made header t row)) ≡ false)
  pub fits : (header : Record) (t : Tables) (row : Record) (x : R) → nat_eq (length (map own (get t))) t.most ≡ false → is t header row x → is_name (own x) ≡ true
      → has_name (map own (get t)) (own x) ≡ false → (row_fault table header t row ≡ None) × (made header t row ≡ x)

pub each-map : {R : Type 0} (P Q : Record → R → Type 0) → ((row : Record) (x : R) → P row x → Q row x) → (rows : List Record) (xs : List R) → EachIs P rows xs → EachIs Q rows xs
unfolding EachIs
each-map P Q f [] [] h = tt
each-map P Q f [] (x ∷ xs) h = absurd h
each-map P Q f (row ∷ rows) [] h = absurd h
each-map P Q f (row ∷ rows) (x ∷ xs) h = (f row x h.0, each-map P Q f rows xs h.1)

each-none : {R : Type 0} (P : Record → R → Type 0) → EachIs P [] []
unfolding EachIs
each-none P = tt

each-one : {R : Type 0} (P : Record → R → Type 0) (row : Record) (x : R) (rows : List Record) (xs : List R) → P row x → EachIs P rows xs → EachIs P (row ∷ rows) (x ∷ xs)
unfolding EachIs
each-one P row x rows xs here rest = (here, rest)

-- room for one name more
below_most : (most : ℕ) (names : List (List ℕ)) → length names ≤ most → nat_eq (length names) most ≡ false → length names < most
below_most most names few full = let other : length names ≡ most → ⊥ = eqb-false (length names) most full in omega arith

-- what is known of a name among others
different-split : (names : List (List ℕ)) (name : List ℕ) (rest : List (List ℕ)) → are_different (names ++ name ∷ rest) ≡ true → has_name names name ≡ false
different-split [] name rest h = refl
different-split (x ∷ names) name rest h =
    let parts = different-parts x (names ++ name ∷ rest) h in
    let absent : (has_name names x || has_name (name ∷ rest) x) ≡ false = sym (list_any-append (bytes_eq x) names (name ∷ rest)) ∙ parts.0 in
    let other = or_parts (bytes_eq x name) (has_name rest x) (or_parts (has_name names x) (has_name (name ∷ rest) x) absent).1 in
    rw (bytes_eq-back x name other.0) (different-split names name rest parts.1)

named-split : (most : ℕ) (names : List (List ℕ)) (name : List ℕ) (rest : List (List ℕ)) → IsNamed most (names ++ name ∷ rest)
    → (is_name name ≡ true) × (has_name names name ≡ false) × (nat_eq (length names) most ≡ false)
named-split most names name rest h =
    let all = and_parts (list_all is_name names) (list_all is_name (name ∷ rest)) (sym (list_all-append is_name names (name ∷ rest)) ∙ h.named) in
    let good = and_parts (is_name name) (list_all is_name rest) all.1 in
    let fewer : length names ≡ most → ⊥ = λ e. omega (arith, h.few, length-append names (name ∷ rest), e) in
    (good.0, different-split names name rest h.different, ne_eqb (length names) most fewer)

module _ {R : Type 0} (table : Table) (own : R → List ℕ) (get : Tables → List R) (put : Tables → List R → Tables) (is : Tables → Record → Record → R → Type 0)
    (made : Record → Tables → Record → R) (h : IsTable table own get put is made) where
  regroup : (t : Tables) (x : R) (xs : List R) → get (put t (get t ++ x ∷ [])) ++ xs ≡ get t ++ x ∷ xs
  regroup t x xs = ap (λ l. l ++ xs) (h.get_put t (get t ++ x ∷ [])) ∙ append_assoc (get t) (x ∷ []) xs

  -- rows without a fault are read
  pub forward : (header : Record) (rows : List Record) (t : Tables) → first_fault table header t rows ≡ None → IsNamed t.most (map own (get t))
      → (xs : List R) × (rows_before table header t rows ≡ put t (get t ++ xs)) × EachIs (is t header) rows xs × IsNamed t.most (map own (get t ++ xs))
  forward header [] t e named = (
    [],
    rows_before-end table header t ∙ sym (h.put_get t) ∙ ap (put t) (sym (append-nil (get t))),
    each-none (is t header),
    subst (λ l. IsNamed t.most (map own l)) (sym (append-nil (get t))) named,
  )
  forward header (row ∷ rows) t e named =
      let fine = row_fault-none table header t row rows e in
      let x = made header t row in
      let u = put t (get t ++ x ∷ []) in
      let reads = h.reads header t row fine in
      let room = ap (λ names. nat_eq (length names) t.most) (sym (h.names t)) ∙ (row_fault-parts table header t row fine).0 in
      let later = ap (λ v. first_fault table header v rows) (sym (h.added header t row)) ∙ sym (first_fault-next table header t row rows fine) ∙ e in
      let pushed = named-push (map own (get t)) (own x) named reads.1 reads.2 (below_most t.most (map own (get t)) named.few room) in
      let names : map own (get u) ≡ map own (get t) ++ own x ∷ [] = ap (map own) (h.get_put t (get t ++ x ∷ [])) ∙ map-append own (get t) (x ∷ []) in
      let rest = forward header rows u later (subst (λ m. IsNamed m (map own (get u))) (sym (h.same_most t (get t ++ x ∷ []))) (subst (IsNamed t.most) (sym names) pushed)) in (
        x ∷ rest.0,
        rows_before-next table header t row rows fine ∙ ap (λ v. rows_before table header v rows) (h.added header t row) ∙ rest.1 ∙ h.put_put t (get t ++ x ∷ []) (get u ++ rest.0)
            ∙ ap (put t) (regroup t x rest.0),
        each-one (is t header) row x rows rest.0 reads.0 (each-map (is u header) (is t header) (λ r y i. h.is_put t (get t ++ x ∷ []) header r y i) rows rest.0 rest.2),
        subst (λ l. IsNamed t.most (map own l)) (regroup t x rest.0) (subst (λ m. IsNamed m (map own (get u ++ rest.0))) (h.same_most t (get t ++ x ∷ [])) rest.3),
      )

  -- the rows of a table have no fault
  pub backward : (header : Record) (rows : List Record) (xs : List R) (t : Tables) → EachIs (is t header) rows xs → IsNamed t.most (map own (get t ++ xs))
      → (first_fault table header t rows ≡ None) × (rows_before table header t rows ≡ put t (get t ++ xs))
  unfolding EachIs
  backward header [] [] t each named = (first_fault-end table header t, rows_before-end table header t ∙ sym (h.put_get t) ∙ ap (put t) (sym (append-nil (get t))))
  backward header [] (x ∷ xs) t each named = absurd each
  backward header (row ∷ rows) [] t each named = absurd each
  backward header (row ∷ rows) (x ∷ xs) t each named =
      let u = put t (get t ++ x ∷ []) in
      let split = named-split t.most (map own (get t)) (own x) (map own xs) (subst (IsNamed t.most) (map-append own (get t) (x ∷ xs)) named) in
      let fits = h.fits header t row x split.2 each.0 split.0 split.1 in
      let next : with_record table header t row ≡ u = h.added header t row ∙ ap (λ y. put t (get t ++ y ∷ [])) fits.1 in
      let rest =
      backward header rows xs u (each-map (is t header) (is u header) (λ r y i. h.put_is t (get t ++ x ∷ []) header r y i) rows xs each.1)
      (subst (λ m. IsNamed m (map own (get u ++ xs))) (sym (h.same_most t (get t ++ x ∷ []))) (subst (λ l. IsNamed t.most (map own l)) (sym (regroup t x xs)) named)) in (
        first_fault-next table header t row rows fits.0 ∙ ap (λ v. first_fault table header v rows) next ∙ rest.0,
        rows_before-next table header t row rows fits.0 ∙ ap (λ v. rows_before table header v rows) next ∙ rest.1 ∙ h.put_put t (get t ++ x ∷ []) (get u ++ xs) ∙ ap (put t) (regroup t x xs),
      )

  -- a table's bytes without a fault are its rows
  pub table-forward : (t : Tables) (bytes : List ℕ) → get t ≡ [] → fault_in table t bytes ≡ None
      → (xs : List R) × (rows_in table t bytes ≡ put t xs) × AreRows t.most (is t) table bytes xs × IsNamed t.most (map own xs)
  table-forward t bytes empty e = by (table_records t.most bytes) refl e
    where
      by : (records : List Record) → table_records t.most bytes ≡ records → fault_of_records table t records ≡ None
          → (xs : List R) × (rows_in table t bytes ≡ put t xs) × AreRows t.most (is t) table bytes xs × IsNamed t.most (map own xs)
      by [] at e = cc
      by (header ∷ rows) at e =
          let fine = header-none table t header rows e in
          let read = forward header rows t fine.1 (subst (λ l. IsNamed t.most (map own l)) (sym empty) named-none) in (
            read.0,
            ap (rows_of_records table t) at ∙ (with_header table t header rows fine.0).1 ∙ read.1 ∙ ap (λ l. put t (l ++ read.0)) empty,
            record { header = header; records = rows; records_are = at; columns = fine.0; each = read.2 },
            subst (λ l. IsNamed t.most (map own (l ++ read.0))) empty read.3,
          )

  pub table-backward : (t : Tables) (bytes : List ℕ) (xs : List R) → get t ≡ [] → AreRows t.most (is t) table bytes xs → IsNamed t.most (map own xs)
      → (fault_in table t bytes ≡ None) × (rows_in table t bytes ≡ put t xs)
  table-backward t bytes xs empty are named =
      let read = backward are.header are.records xs t are.each (subst (λ l. IsNamed t.most (map own (l ++ xs))) (sym empty) named) in (
        ap (fault_of_records table t) are.records_are ∙ (with_header table t are.header are.records are.columns).0 ∙ read.0,
        ap (rows_of_records table t) are.records_are ∙ (with_header table t are.header are.records are.columns).1 ∙ read.1 ∙ ap (λ l. put t (l ++ xs)) empty,
      )
