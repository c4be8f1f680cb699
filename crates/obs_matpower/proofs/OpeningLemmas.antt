-- What opens a table: its name, `=` and `[`, with nothing but blanks and tabs before each.
use Rattle.std.proofs.Common.{◌≡◌, ℕ, ◌+◌, ◌==◌, subst, Bool, true, false, ◌||◌, cond, nat_eq, List, [], ◌∷◌, ◌++◌, length, take, drop, codes, is_some, Option, Some, None, refl, sym, ap, ◌∙◌, append_assoc, inl, inr}
use Rattle.std.proofs.Math.Numerals.{one-add}
use Rattle.std.proofs.Math.Bool.{or-true}
use Rattle.std.proofs.Math.Seq.{drop-append_seam}
use Rattle.std.proofs.lemmas.Bool.{and_parts, cases_Bool, eqb-true, false≢true, or_cases}
use Rattle.std.proofs.lemmas.Bool.Decides.{Decides-eqb}
use Rattle.std.proofs.lemmas.List.{take-append-drop}
use Rattle.std.proofs.lemmas.List.Folds.{list_any-append}
use Rattle.std.proofs.lemmas.Slice.Eq.{starts_is}
use Rattle.std.specs.List.{before_first, list_all, list_any, position_or_len, prefix_len, starts_with}
use Rattle.std.specs.Option.{option_and_then}
use Rattle.obs_text.specs.Lines.{content}
use Rattle.obs_matpower.specs.declared.part.MatTable.{MatTable}
use Rattle.obs_matpower.specs.declared.part.MatTable.TheVariants.{Bus, Branch}
use Rattle.obs_matpower.specs.inner.Laws.{AreGaps, IsAssignedTo, IsOpening, OpeningsAreAssignments}
use Rattle.obs_matpower.specs.Lines.{has_opening, is_gap, is_opening, opens, past, table_name, without_comment, without_gaps}
use Rattle.obs_matpower.proofs.WholeLemmas.{first-code, in_line}

-- ---- bytes that pass a test, up to the first that doesn't

module _ (p : ℕ → Bool) where
  passed : (xs : List ℕ) → list_all p (take (prefix_len p xs) xs) ≡ true
  passed [] = refl
  passed (x ∷ xs) =
      elim (cases_Bool (p x)) [
        | inl e ↦ rw (e, one-add (prefix_len p xs)) (rw e (passed xs))
        | inr e ↦ rw e refl
      ]

  passed_over : (front : List ℕ) (x : ℕ) (rest : List ℕ) → list_all p front ≡ true → p x ≡ false → prefix_len p (front ++ x ∷ rest) ≡ length front
  passed_over [] x rest are other = rw other refl
  passed_over (b ∷ front) x rest are other =
      let both = and_parts (p b) (list_all p front) are in
      rw both.0 (ap (λ n. 1 + n) (passed_over front x rest both.1 other) ∙ one-add (length front))

  -- what stands before the first that passes
  pub before_it : (front : List ℕ) (x : ℕ) (rest : List ℕ) → list_any p front ≡ false → p x ≡ true → before_first p (front ++ x ∷ rest) ≡ front
  before_it [] x rest none is = rw is refl
  before_it (b ∷ front) x rest none is =
      elim (cases_Bool (p b)) [
        | inl e ↦ (let t : (p b || list_any p front) ≡ false = none in let u : (true || list_any p front) ≡ false = rw e at t in absurd (false≢true (sym u)))
        | inr e ↦
            let t : (p b || list_any p front) ≡ false = none in
            rw (e, one-add (position_or_len p (front ++ x ∷ rest))) (ap (λ l. b ∷ l) (before_it front x rest (rw e at t) is))
      ]

-- ---- a text behind blanks and tabs

past_is : (text bytes rest : List ℕ) → past text bytes ≡ Some rest → (gaps : List ℕ) × AreGaps gaps × (bytes ≡ gaps ++ (text ++ rest))
past_is text bytes rest is = by (starts_with nat_eq (without_gaps bytes) text) refl is
  where
    by : (b : Bool) → starts_with nat_eq (without_gaps bytes) text ≡ b → cond b (Some (drop (length text) (without_gaps bytes))) None ≡ Some rest →
        (gaps : List ℕ) × AreGaps gaps × (bytes ≡ gaps ++ (text ++ rest))
    by true begins e =
        let gaps = take (prefix_len is_gap bytes) bytes in
        let same : drop (length text) (without_gaps bytes) ≡ rest = cc in
        let there : without_gaps bytes ≡ text ++ drop (length text) (without_gaps bytes) = (starts_is Decides-eqb (without_gaps bytes) text _ refl).0 begins in (
          gaps,
          passed is_gap bytes,
          sym (take-append-drop (prefix_len is_gap bytes) bytes) ∙ ap (λ l. gaps ++ l) (there ∙ ap (λ l. text ++ l) same),
        )
    by false begins e = cc

past_from : (byte : ℕ) (more gaps rest : List ℕ) → is_gap byte ≡ false → AreGaps gaps → past (byte ∷ more) (gaps ++ ((byte ∷ more) ++ rest)) ≡ Some rest
past_from byte more gaps rest other are =
    let text : List ℕ = byte ∷ more in
    let bytes = gaps ++ (text ++ rest) in
    let behind : without_gaps bytes ≡ text ++ rest = ap (λ n. drop n bytes) (passed_over is_gap gaps byte (more ++ rest) are other) ∙ drop-append_seam gaps (text ++ rest) in
    let begins : starts_with nat_eq (text ++ rest) text ≡ true = (starts_is Decides-eqb (text ++ rest) text _ refl).1 rest refl in
    ap (λ l. cond (starts_with nat_eq l text) (Some (drop (length text) l)) None) behind
    ∙ ap (λ b. cond b (Some (drop (length text) (text ++ rest))) None) begins
    ∙ ap Some (drop-append_seam text rest)

-- ---- openings

opening_is : (table : MatTable) (code : List ℕ) → has_opening table code ≡ true → IsOpening table code
opening_is table code is = at_name (past (table_name table) code) refl is
  where
    at_bracket : (named assigned : List ℕ) → past (table_name table) code ≡ Some named → past (codes "=") named ≡ Some assigned →
        (o : Option (List ℕ)) → past (codes "[") assigned ≡ o → is_some o ≡ true → IsOpening table code
    at_bracket named assigned n a None e h = absurd (false≢true h)
    at_bracket named assigned n a (Some rest) e h =
        let first = past_is (table_name table) code named n in
        let between = past_is (codes "=") named assigned a in
        let last = past_is (codes "[") assigned rest e in
        let name = table_name table in
        let front = first.0 ++ (name ++ (between.0 ++ 0x3D ∷ last.0)) in (
          front,
          rest,
          (first.0, between.0, last.0, first.1, between.1, last.1, refl),
          first.2 ∙ ap (λ l. first.0 ++ (name ++ l)) (between.2 ∙ ap (λ l. between.0 ++ 0x3D ∷ l) last.2)
              ∙ joined_up first.0 name between.0 last.0 rest,
        )
      where
        joined_up : (a n b c rest : List ℕ) → a ++ (n ++ (b ++ 0x3D ∷ (c ++ 0x5B ∷ rest))) ≡ (a ++ (n ++ (b ++ 0x3D ∷ c))) ++ 0x5B ∷ rest
        joined_up a n b c rest =
            let back : List ℕ = 0x5B ∷ rest in
            let value = b ++ 0x3D ∷ c in
            sym (append_assoc a (n ++ value) back ∙ ap (λ l. a ++ l) (append_assoc n value back ∙ ap (λ l. n ++ l) (append_assoc b (0x3D ∷ c) back)))

    at_equals : (named : List ℕ) → past (table_name table) code ≡ Some named →
        (o : Option (List ℕ)) → past (codes "=") named ≡ o → is_some (option_and_then (past (codes "[")) o) ≡ true → IsOpening table code
    at_equals named n None e h = absurd (false≢true h)
    at_equals named n (Some assigned) e h = at_bracket named assigned n e (past (codes "[") assigned) refl h

    at_name : (o : Option (List ℕ)) → past (table_name table) code ≡ o → is_some (option_and_then (past (codes "[")) (option_and_then (past (codes "=")) o)) ≡ true → IsOpening table code
    at_name None e h = absurd (false≢true h)
    at_name (Some named) e h = at_equals named e (past (codes "=") named) refl h

named_first : (table : MatTable) (gaps rest : List ℕ) → AreGaps gaps → past (table_name table) (gaps ++ (table_name table ++ rest)) ≡ Some rest
named_first Bus gaps rest are = past_from 0x6D (codes "pc.bus") gaps rest refl are
named_first Branch gaps rest are = past_from 0x6D (codes "pc.branch") gaps rest refl are

opening_from : (table : MatTable) (code : List ℕ) → IsOpening table code → has_opening table code ≡ true
opening_from table code (front, rest, (first, between, last, f, b, l, is), whole) =
    let name = table_name table in
    let named = between ++ 0x3D ∷ (last ++ 0x5B ∷ rest) in
    let shape : code ≡ first ++ (name ++ named) =
    whole ∙ ap (λ t. t ++ 0x5B ∷ rest) is ∙ append_assoc first (name ++ (between ++ 0x3D ∷ last)) (0x5B ∷ rest)
    ∙ ap (λ t. first ++ t) (append_assoc name (between ++ 0x3D ∷ last) (0x5B ∷ rest) ∙ ap (λ t. name ++ t) (append_assoc between (0x3D ∷ last) (0x5B ∷ rest))) in
    ap (λ t. has_opening table t) shape
    ∙ ap (λ o. is_some (option_and_then (past (codes "[")) (option_and_then (past (codes "=")) o))) (named_first table first named f)
    ∙ ap (λ o. is_some (option_and_then (past (codes "[")) o)) (past_from 0x3D [] between (last ++ 0x5B ∷ rest) refl b)
    ∙ ap is_some (past_from 0x5B [] last rest refl l)

pub OpeningsAreAssignments-holds : OpeningsAreAssignments
OpeningsAreAssignments-holds table line = (opening_is table (without_comment (content line)), opening_from table (without_comment (content line)))

-- ---- no `[` stands in what comes before it

other : (b : ℕ) → is_gap b ≡ true → is_opening b ≡ false
other b is =
    elim (or_cases (b == 0x20) (b == 0x09) is) [
      | inl e ↦ subst (λ t. is_opening t ≡ false) (sym (eqb-true b 0x20 e)) refl
      | inr e ↦ subst (λ t. is_opening t ≡ false) (sym (eqb-true b 0x09 e)) refl
    ]

none_in_gaps : (gaps : List ℕ) → AreGaps gaps → list_any is_opening gaps ≡ false
none_in_gaps [] are = refl
none_in_gaps (b ∷ gaps) are =
    let both = and_parts (is_gap b) (list_all is_gap gaps) are in
    let first : is_opening b ≡ false = other b both.0 in
    rw first (none_in_gaps gaps both.1)

none_in_name : (table : MatTable) → list_any is_opening (table_name table) ≡ false
none_in_name Bus = refl
none_in_name Branch = refl

none_in_both : (xs ys : List ℕ) → list_any is_opening xs ≡ false → list_any is_opening ys ≡ false → list_any is_opening (xs ++ ys) ≡ false
none_in_both xs ys x y = list_any-append is_opening xs ys ∙ rw (x, y) refl

none_in : (table : MatTable) (front : List ℕ) → IsAssignedTo table front → list_any is_opening front ≡ false
none_in table front (first, between, last, f, b, l, is) =
    let value : List ℕ = 0x3D ∷ last in
    ap (list_any is_opening) is
    ∙ none_in_both first (table_name table ++ (between ++ value)) (none_in_gaps first f)
    (none_in_both (table_name table) (between ++ value) (none_in_name table) (none_in_both between value (none_in_gaps between b) (none_in_gaps last l)))

-- the `[` of a line that opens a table is its first one, and an assignment stands before it
pub opened : (table : MatTable) (line : List ℕ) → opens table line ≡ true → (list_any is_opening line ≡ true) × IsAssignedTo table (before_first is_opening line)
opened table line is =
    let code = without_comment (content line) in
    let opening = opening_is table code is in
    let front = opening.0 in
    let some : list_any is_opening code ≡ true =
    ap (list_any is_opening) opening.3 ∙ list_any-append is_opening front (0x5B ∷ opening.1) ∙ or-true (list_any is_opening front) in
    let there : before_first is_opening line ≡ front =
    first-code is_opening line some ∙ ap (before_first is_opening) opening.3 ∙ before_it is_opening front 0x5B opening.1 (none_in table front opening.2) refl in
    (in_line is_opening line some, subst (IsAssignedTo table) (sym there) opening.2)
