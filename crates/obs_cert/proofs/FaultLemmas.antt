-- The first fault of bytes, by the lines before it.
use Rattle.std.proofs.Common.{◌≡◌, ℕ, ◌+◌, true, false, List, [], ◌∷◌, ◌++◌, length, map, Option, Some, None, Result, Ok, Err, refl, sym, ap, ◌∙◌, subst, inl, inr, append_assoc, append-nil, length-append, arith}
use Rattle.std.proofs.lemmas.Bool.{cases_Bool}
use Rattle.std.proofs.lemmas.List.{map-append}
use Rattle.obs_text.specs.Lines.{lines_of}
use Rattle.obs_cert.specs.declared.fault.CertCode.{CertCode}
use Rattle.obs_cert.specs.declared.fault.CertCode.TheVariants.{BadLine, OutOfPlace, NoEnd, AfterEnd}
use Rattle.obs_cert.specs.declared.fault.CertFault.{CertFault}
use Rattle.obs_cert.specs.declared.place.Place.{Place}
use Rattle.obs_cert.specs.declared.place.Place.TheVariants.{Start}
use Rattle.obs_cert.specs.inner.Certificate.{IsFirstFault, IsFront, IsWhole, IsWrong}
use Rattle.obs_cert.specs.inner.Laws.{FirstFaultIsMet}
use Rattle.obs_cert.specs.Places.{formed, in_place, is_over, place_after, step}
use Rattle.obs_cert.specs.Read.{claims_in, onto_lines, read_from, then_read}
use Rattle.obs_cert.specs.Words.{Line, claim_line, end_line}
use Rattle.obs_cert.proofs.LawLemmas.{step-ok}
use Rattle.obs_cert.proofs.OrderLemmas.{InOrder, OnSome, claims_in_order, parts_in_order}
use Rattle.obs_matroid.proofs.Lists.{clash}

-- an answer has one fault
same_code : (x y : CertCode) (r : Result (Line × Place) CertCode) → r ≡ Err x → r ≡ Err y → x ≡ y
same_code x y r a b = (let both : Err x ≡ Err y = sym a ∙ b in cc)

same_fault : (x y : CertFault) (r : Result (List Line) CertFault) → r ≡ Err x → r ≡ Err y → x ≡ y
same_fault x y r a b = (let both : Err x ≡ Err y = sym a ∙ b in cc)

abbrev fault_of : ℕ → CertCode → CertFault
fault_of at code = record { line = at; code = code }

-- lines lead from the start to a place: what follows them is in order exactly where it is from there on
record Reached (front : List Line) (place : Place) : Type 0 where
  pub to : (rest : List Line) → InOrder place rest → InOrder Start (front ++ rest)
  pub from : (rest : List Line) → InOrder Start (front ++ rest) → InOrder place rest

no_lines : Reached [] Start
no_lines = record { to = λ rest order. order; from = λ rest order. order }

one_line : (front : List Line) (place next : Place) (line : Line) → Reached front place → is_over place ≡ false → place_after place line ≡ Some next → Reached (front ++ line ∷ []) next
one_line front place next line reached going is = record {
  to = λ rest order.
      subst (InOrder Start) (sym (append_assoc front (line ∷ []) rest))
      (reached.to (line ∷ rest) (going, subst (λ o. OnSome o (λ n. InOrder n rest)) (sym is) order));
  from = λ rest order.
      let here = reached.from (line ∷ rest) (subst (InOrder Start) (append_assoc front (line ∷ []) rest) order) in
      subst (λ o. OnSome o (λ n. InOrder n rest)) is here.1;
}

-- lines in order from the start are those of claims
whole : (lines : List Line) → InOrder Start lines → IsWhole lines
whole lines order = let are = parts_in_order lines Start refl order in (are.0, are.1.stand)

module _ (front : List Line) (place : Place) (reached : Reached front place) where
  front_over : is_over place ≡ true → IsWhole front
  front_over over = whole front (subst (InOrder Start) (append-nil front) (reached.to [] over))

  front_going : is_over place ≡ false → IsFront front
  front_going going = let all = whole (front ++ end_line ∷ []) (reached.to (end_line ∷ []) (going, refl)) in (all.0, end_line ∷ [], all.1)

  front_begins : IsFront front
  front_begins =
      elim (cases_Bool (is_over place)) [
        | inl over ↦ (let all = front_over over in (all.0, [], append-nil front ∙ all.1))
        | inr going ↦ front_going going
      ]

  not_whole : is_over place ≡ false → ¬ IsWhole front
  not_whole going all =
      let order = subst (InOrder Start) (sym all.1) (claims_in_order all.0 Start refl) in
      clash (reached.from [] (subst (InOrder Start) (sym (append-nil front)) order)) going

  not_front : (line : Line) → place_after place line ≡ None → ¬ IsFront (front ++ line ∷ [])
  not_front line is begins =
      let order = subst (InOrder Start) (sym begins.2 ∙ append_assoc front (line ∷ []) begins.1) (claims_in_order begins.0 Start refl) in
      let here = reached.from (line ∷ begins.1) order in
      subst (λ o. OnSome o (λ n. InOrder n begins.1)) is here.1

  out_of_place : (bytes : List ℕ) (line : Line) (o : Option Place) (code : CertCode) → is_over place ≡ false → claim_line bytes ≡ Some line → place_after place line ≡ o → in_place line o ≡ Err code → IsWrong code front bytes
  out_of_place bytes line (Some next) code going form is wrong = cc
  out_of_place bytes line None code going form is wrong =
      let e : OutOfPlace ≡ code = same_code OutOfPlace code (in_place line None) refl wrong in subst (λ c. IsWrong c front bytes) e (not_whole going, line, form, not_front line is)

  badly_formed : (bytes : List ℕ) (o : Option Line) (code : CertCode) → is_over place ≡ false → claim_line bytes ≡ o → formed place o ≡ Err code → IsWrong code front bytes
  badly_formed bytes None code going form wrong = let e : BadLine ≡ code = same_code BadLine code (formed place None) refl wrong in subst (λ c. IsWrong c front bytes) e (not_whole going, form)
  badly_formed bytes (Some line) code going form wrong = out_of_place bytes line (place_after place line) code going form refl wrong

  wrong_at : (bytes : List ℕ) (code : CertCode) → step place bytes ≡ Err code → IsWrong code front bytes
  wrong_at bytes code is =
      elim (cases_Bool (is_over place)) [
        | inl over ↦
            let e : AfterEnd ≡ code = same_code AfterEnd code (Err AfterEnd) refl (rw over at is) in
            subst (λ c. IsWrong c front bytes) e (front_over over)
        | inr going ↦ badly_formed bytes (claim_line bytes) code going refl (rw going at is)
      ]

onto_lines-err : (line : Line) (r : Result (List Line) CertFault) (fault : CertFault) → onto_lines line r ≡ Err fault → r ≡ Err fault
onto_lines-err line (Ok rest) fault is = cc
onto_lines-err line (Err other) fault is = is

met : (rest : List (List ℕ)) (place : Place) (at : ℕ) (earlier : List (List ℕ)) (front : List Line) (fault : CertFault) → at ≡ length earlier + 1 → map claim_line earlier ≡ map Some front → Reached front place
    → read_from place at rest ≡ Err fault → IsFirstFault (earlier ++ rest) fault
met [] place at earlier front fault number forms reached is =
    elim (cases_Bool (is_over place)) [
      | inl over ↦ (let t = rw over at is in cc)
      | inr going ↦
          let e : fault_of 0 NoEnd ≡ fault = same_fault (fault_of 0 NoEnd) fault (Err (fault_of 0 NoEnd)) refl (rw going at is) in
          subst (IsFirstFault (earlier ++ [])) e
          (inr (front, record { forms = ap (map claim_line) (append-nil earlier) ∙ forms; begins = front_begins front place reached }, not_whole front place reached going, refl))
    ]
met (bytes ∷ rest) place at earlier front fault number forms reached is =
    by (step place bytes) refl is
    (λ line next read h. (
    let one = step-ok place bytes line next read in
    subst (λ lines. IsFirstFault lines fault) (append_assoc earlier (bytes ∷ []) rest)
    (met rest next (at + 1) (earlier ++ bytes ∷ []) (front ++ line ∷ []) fault
    (omega (arith, number, length-append earlier (bytes ∷ [])))
    (map-append claim_line earlier (bytes ∷ []) ∙ ap (λ r. r ++ claim_line bytes ∷ []) forms ∙ ap (λ o. map Some front ++ o ∷ []) one.form ∙ sym (map-append (λ l. Some l) front (line ∷ [])))
    (one_line front place next line reached one.going one.placed) h)
    ))
  where
    by : (r : Result (Line × Place) CertCode) → step place bytes ≡ r → then_read at r (λ next. read_from next (at + 1) rest) ≡ Err fault →
        ((line : Line) (next : Place) → step place bytes ≡ Ok (line, next) → read_from next (at + 1) rest ≡ Err fault → IsFirstFault (earlier ++ bytes ∷ rest) fault) → IsFirstFault (earlier ++ bytes ∷ rest) fault
    by (Ok (line, next)) read h later = later line next read (onto_lines-err line (read_from next (at + 1) rest) fault h)
    by (Err code) read h later =
        let e : fault_of at code ≡ fault = same_fault (fault_of at code) fault (Err (fault_of at code)) refl h in
        subst (IsFirstFault (earlier ++ bytes ∷ rest)) e
        (inl (earlier, bytes, rest, refl, number, front, record { forms = forms; begins = front_begins front place reached }, wrong_at front place reached bytes code read))

read-fault : (r : Result (List Line) CertFault) (fault : CertFault) → claims_in r ≡ Err fault → r ≡ Err fault
read-fault (Ok lines) fault is = cc
read-fault (Err other) fault is = (let same : other ≡ fault = cc in ap (λ (f : CertFault). Err f) same)

pub FirstFaultIsMet-holds : FirstFaultIsMet
FirstFaultIsMet-holds bytes fault is = met (lines_of bytes) Start 1 [] [] fault refl refl no_lines (read-fault (read_from Start 1 (lines_of bytes)) fault is)
