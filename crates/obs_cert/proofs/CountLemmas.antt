-- Counting the claims while the lines are read.
use mir.Val.{bool_byte}
use Rattle.std.proofs.Common.{◌≡◌, ℕ, suc, ◌+◌, ◌≤◌, Bool, true, false, cond, List, [], ◌∷◌, length, Result, Ok, Err, refl, sym, ap, ◌∙◌, inl, inr, add-zero, add-one, arith}
use Rattle.std.proofs.lemmas.Bool.{cases_Bool}
use Rattle.obs_text.specs.Lines.{lines_of}
use Rattle.obs_cert.specs.declared.fault.CertCode.{CertCode}
use Rattle.obs_cert.specs.declared.fault.CertCode.TheVariants.{NoEnd}
use Rattle.obs_cert.specs.declared.fault.CertFault.{CertFault}
use Rattle.obs_cert.specs.declared.place.Place.{Place}
use Rattle.obs_cert.specs.declared.place.Place.TheVariants.{Start}
use Rattle.obs_cert.specs.Places.{is_over, step}
use Rattle.obs_cert.specs.inner.Places.{is_start}
use Rattle.obs_cert.specs.Read.{claims_in, claims_of, onto_lines, parts_of, read_from, then_read}
use Rattle.obs_cert.specs.inner.Read.{HasClaims}
use Rattle.obs_cert.specs.Words.{Line, tree_line, bound_line, cost_line, shortfall_line, pair_line, chosen_line, layer_line, inside_line, end_line}

-- one for a line that starts a claim
abbrev pub one : Line → ℕ
one line = cond (is_start line) 1 0

abbrev pub starts_in : List Line → ℕ
starts_in [] = 0
starts_in (line ∷ lines) = starts_in lines + one line

-- how many claims start in lines, counted on from n
abbrev pub counted : ℕ → Result (List Line) CertFault → Result ℕ CertFault
counted n (Ok lines) = Ok (n + starts_in lines)
counted n (Err fault) = Err fault

-- a truth as a number
pub byte-one : (b : Bool) → bool_byte b ≡ cond b 1 0
byte-one true = refl
byte-one false = refl

pub at-most-one : (line : Line) → one line ≤ 1
at-most-one line = elim (cases_Bool (is_start line)) [ inl e ↦ rw e (omega arith) | inr e ↦ rw e (omega arith) ]

counted-onto : (n : ℕ) (line : Line) (r : Result (List Line) CertFault) → counted n (onto_lines line r) ≡ counted (n + one line) r
counted-onto n line (Ok lines) = ap (λ (k : ℕ). Ok k) (omega arith)
counted-onto n line (Err fault) = refl

-- each line that starts a claim is one
length-claims : (lines : List Line) → length (parts_of lines).claims ≡ starts_in lines
length-claims [] = refl
length-claims (tree_line component ∷ lines) = ap suc (length-claims lines) ∙ sym (add-one (starts_in lines))
length-claims (bound_line component rank outside ∷ lines) = ap suc (length-claims lines) ∙ sym (add-one (starts_in lines))
length-claims (cost_line number ∷ lines) = ap suc (length-claims lines) ∙ sym (add-one (starts_in lines))
length-claims (shortfall_line rank outside ∷ lines) = ap suc (length-claims lines) ∙ sym (add-one (starts_in lines))
length-claims (pair_line pair ∷ lines) = length-claims lines ∙ sym (add-zero (starts_in lines))
length-claims (chosen_line name ∷ lines) = length-claims lines ∙ sym (add-zero (starts_in lines))
length-claims (layer_line from to rank outside ∷ lines) = length-claims lines ∙ sym (add-zero (starts_in lines))
length-claims (inside_line item ∷ lines) = length-claims lines ∙ sym (add-zero (starts_in lines))
length-claims (end_line ∷ lines) = length-claims lines ∙ sym (add-zero (starts_in lines))

-- what a count says of the claims
has_claims : (r : Result (List Line) CertFault) (n : ℕ) → counted 0 r ≡ Ok n → (lines : List Line) × (r ≡ Ok lines) × (length (parts_of lines).claims ≡ n)
has_claims (Ok lines) n is = (lines, refl, (let same : 0 + starts_in lines ≡ n = cc in omega (arith, same, length-claims lines)))
has_claims (Err fault) n is = cc

-- the claims so far, and the lines that are left decide the rest
pub record Counted (bytes : List ℕ) (place : Place) (at claims : ℕ) (left : List ℕ) : Type 0 where
  pub stated : counted 0 (read_from Start 1 (lines_of bytes)) ≡ counted claims (read_from place (at + 1) (lines_of left))
  pub room : at + length (lines_of left) ≡ length (lines_of bytes)
  pub few : claims ≤ at

pub counted_none : (bytes left : List ℕ) → left ≡ bytes → Counted bytes Start 0 0 left
counted_none bytes left all = rw all (record { stated = refl; room = omega arith; few = omega arith })

refused_by : (r : Result (List Line) CertFault) (n : ℕ) (fault : CertFault) → counted n r ≡ Err fault → r ≡ Err fault
refused_by (Ok lines) n fault is = cc
refused_by (Err other) n fault is = cc

module _ (bytes : List ℕ) (place : Place) (at claims : ℕ) (left line rest : List ℕ) (so_far : Counted bytes place at claims left) (is : lines_of left ≡ line ∷ lines_of rest) where
  pub room_for_one : at + 1 ≤ length (lines_of bytes)
  room_for_one = omega (arith, so_far.room, ap length is)

  stated_here : counted 0 (read_from Start 1 (lines_of bytes)) ≡ counted claims (then_read (at + 1) (step place line) (λ next. read_from next (at + 1 + 1) (lines_of rest)))
  stated_here = so_far.stated ∙ ap (λ lines. counted claims (read_from place (at + 1) lines)) is

  pub count_one : (said : Line) (next : Place) (after : ℕ) → step place line ≡ Ok (said, next) → after ≡ claims + one said → after ≤ at + 1 → Counted bytes next (at + 1) after rest
  count_one said next after read more few = record {
    stated = stated_here ∙ ap (λ r. counted claims (then_read (at + 1) r (λ next. read_from next (at + 1 + 1) (lines_of rest)))) read
        ∙ counted-onto claims said (read_from next (at + 1 + 1) (lines_of rest))
        ∙ ap (λ n. counted n (read_from next (at + 1 + 1) (lines_of rest))) (sym more);
    room = omega (arith, so_far.room, ap length is);
    few = few;
  }

  pub refused_here : (code : CertCode) → step place line ≡ Err code → claims_of bytes ≡ Err (record { line = at + 1; code = code })
  refused_here code bad =
      ap claims_in (
      refused_by (read_from Start 1 (lines_of bytes)) 0 (record { line = at + 1; code = code })
      (stated_here ∙ ap (λ r. counted claims (then_read (at + 1) r (λ next. read_from next (at + 1 + 1) (lines_of rest)))) bad)
      )

module _ (bytes : List ℕ) (place : Place) (at claims : ℕ) (left : List ℕ) (so_far : Counted bytes place at claims left) (none : lines_of left ≡ []) where
  at_end : counted 0 (read_from Start 1 (lines_of bytes)) ≡ counted claims (cond (is_over place) (Ok []) (Err (record { line = 0; code = NoEnd })))
  at_end = so_far.stated ∙ ap (λ lines. counted claims (read_from place (at + 1) lines)) none

  pub all_counted : is_over place ≡ true → HasClaims bytes claims
  all_counted over =
      let found = has_claims (read_from Start 1 (lines_of bytes)) claims
      (at_end ∙ ap (λ b. counted claims (cond b (Ok []) (Err (record { line = 0; code = NoEnd })))) over ∙ ap (λ (n : ℕ). Ok n) (add-zero claims)) in
      ((parts_of found.0).claims, ap claims_in found.1, found.2)

  pub refused_end : is_over place ≡ false → claims_of bytes ≡ Err (record { line = 0; code = NoEnd })
  refused_end over =
      ap claims_in (
      refused_by (read_from Start 1 (lines_of bytes)) 0 (record { line = 0; code = NoEnd })
      (at_end ∙ ap (λ b. counted claims (cond b (Ok []) (Err (record { line = 0; code = NoEnd })))) over)
      )
