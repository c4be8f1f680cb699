-- Texts that are printed piece by piece.
use Rattle.std.proofs.Common.{ℕ, ◌≡◌, ◌∙◌, ◌+◌, ap, sym, refl, subst, List, [], ◌++◌, length, arith, Option, Some, None, Result, Ok, Err, append_assoc, append-nil, length-append}
use Rattle.std.specs.Prelude.{IsOk, OnErr}
use Rattle.obs_io.specs.Bytes.{Wrote, WrotePart, and_then}
use Rattle.obs_io.specs.inner.Bytes.{Writes}
use Rattle.obs_io.specs.Causes.{Rose, HasCause}
use Rattle.obs_io.specs.declared.outside.Failed.{Failed}
use Rattle.obs_report.specs.inner.Printed.{AppendsAt, Buffered, HoldsSince, LeavesRoom, PrintsAt, empty_buffer}

pub and_then_none : (a : Option (List ℕ)) → and_then a [] ≡ a
and_then_none None = refl
and_then_none (Some x) = ap Some (append-nil x)

wrote_then : (a b d : Option (List ℕ)) (one two : List ℕ) → Wrote a b one → Wrote b d two → Wrote a d (one ++ two)
wrote_then None b d one two w v = rw w at v
wrote_then (Some x) b d one two w v = rw w at v ∙ ap Some (append_assoc x one two)

-- a front of a text is a front of a longer one
part_longer : (a b : Option (List ℕ)) (text more : List ℕ) → WrotePart a b text → WrotePart a b (text ++ more)
part_longer a b text more (part, rest, whole, wrote) = (part, rest ++ more, ap (λ t. t ++ more) whole ∙ append_assoc part rest more, wrote)

-- a front that comes behind what was written
part_behind : (a b d : Option (List ℕ)) (sent text : List ℕ) → Wrote a b sent → WrotePart b d text → WrotePart a d (sent ++ text)
part_behind a b d sent text w (part, rest, whole, wrote) = (sent ++ part, rest, ap (λ t. sent ++ t) whole ∙ sym (append_assoc sent part rest), wrote_then a b d sent part w wrote)

-- what is held is sent
pub held_sent : {T E : Type 0} (a b d : Option (List ℕ)) (held : List ℕ) (x : T) (r : Result T E) (front : List ℕ) → HoldsSince {E = E} a b held (Ok x) front → Writes b d r held → HoldsSince a d [] r front
held_sent a b d held x (Ok y) front (sent, whole, wrote) writes = (sent ++ held, whole ∙ sym (append-nil (sent ++ held)), wrote_then a b d sent held wrote writes)
held_sent a b d held x (Err e) front (sent, whole, wrote) writes = subst (WrotePart a d) (sym whole) (part_behind a b d sent held wrote writes)

-- bytes are sent at once, where none is held
pub held_passed : {T E : Type 0} (a b d : Option (List ℕ)) (held : List ℕ) (x : T) (r : Result T E) (front bytes : List ℕ) → held ≡ [] → HoldsSince {E = E} a b held (Ok x) front → Writes b d r bytes → HoldsSince a d held r (front ++ bytes)
held_passed a b d held x (Ok y) front bytes none (sent, whole, wrote) writes =
    let is : front ≡ sent = whole ∙ (ap (λ t. sent ++ t) none ∙ append-nil sent) in
    (sent ++ bytes, ap (λ t. t ++ bytes) is ∙ (sym (append-nil (sent ++ bytes)) ∙ ap (λ t. (sent ++ bytes) ++ t) (sym none)), wrote_then a b d sent bytes wrote writes)
held_passed a b d held x (Err e) front bytes none (sent, whole, wrote) writes =
    let is : front ≡ sent = whole ∙ (ap (λ t. sent ++ t) none ∙ append-nil sent) in
    subst (λ t. WrotePart a d (t ++ bytes)) (sym is) (part_behind a b d sent bytes wrote writes)

-- nothing is printed
pub nothing_printed : {T E : Type 0} {a : Option (List ℕ)} {h : List ℕ} {f : ℕ} {p : ℕ → Type 0} (r : Result T E) → PrintsAt a a h h f f p p r r []
nothing_printed {T = T} {E = E} {a = a} {h = h} {f = f} {p = p} r = record {
  written = λ start front held. subst (HoldsSince start a h r) (sym (append-nil front)) held;
  later = omega arith;
  cause = cause r;
  quiet = λ ok. (ok, refl);
  room = λ ok rest has. (ok, subst p (omega arith) has);
}
  where
    cause : (r : Result T E) → IsOk r → OnErr r (Rose f f)
    cause (Ok x) ok = tt
    cause (Err e) ok = absurd cc

-- one piece and then another
pub then_printed : {T E : Type 0} {a b d : Option (List ℕ)} {h i j : List ℕ} {f k l : ℕ} {p q o : ℕ → Type 0} {r s t : Result T E} {one two : List ℕ}
    → PrintsAt a b h i f k p q r s one → PrintsAt b d i j k l q o s t two → PrintsAt a d h j f l p o r t (one ++ two)
then_printed {T = T} {E = E} {a = a} {b = b} {d = d} {h = h} {i = i} {j = j} {f = f} {k = k} {l = l} {p = p} {q = q} {o = o} {r = r} {s = s} {t = t} {one = one} {two = two} u v = record {
  written = λ start front held. rw (← append_assoc front one two) (v.written start (front ++ one) (u.written start front held));
  later = omega (arith, u.later, v.later);
  cause = causes r s t u.cause v.cause;
  quiet = λ ok.
      let last = v.quiet ok in
      let first = u.quiet last.0 in
      (first.0, last.1 ∙ first.1);
  room = λ ok rest has.
      let first = u.room ok (length two + rest) (subst p (omega (arith, length-append one two)) has) in
      v.room first.0 rest first.1;
}
  where
    causes : (r s t : Result T E) → (IsOk r → OnErr s (Rose f k)) → (IsOk s → OnErr t (Rose k l)) → IsOk r → OnErr t (Rose f l)
    causes r s (Ok y) one two ok = tt
    causes r (Ok x) (Err e) one two ok = omega (arith, u.later, two refl)
    causes r (Err d) (Err e) one two ok = omega (arith, v.later, one ok)

-- what is held is sent, and nothing is printed behind it
pub sent_printed : {T E : Type 0} (x : T) {a b : Option (List ℕ)} {held : List ℕ} {f k : ℕ} {p q : ℕ → Type 0} {r : Result T E}
    → Writes a b r held → HasCause f k r → (IsOk r → k ≡ f) → LeavesRoom p q r held → PrintsAt {E = E} a b held [] f k p q (Ok x) r []
sent_printed {E = E} x {a = a} {b = b} {held = held} {p = p} {q = q} {r = r} writes cause quiet fits = record {
  written = λ start front h. subst (HoldsSince start b [] r) (sym (append-nil front)) (held_sent start a b held x r front h writes);
  later = cause.later;
  cause = λ ok. cause.failed;
  quiet = λ ok. (refl, quiet ok);
  room = λ ok rest has.
      let found = fits rest (subst p (omega arith) has) in
      (found.0, subst q (omega arith) found.1);
}

-- bytes are sent at once
pub passed_printed : {T E : Type 0} (x : T) {a b : Option (List ℕ)} {held bytes : List ℕ} {f k : ℕ} {p q : ℕ → Type 0} {r : Result T E}
    → held ≡ [] → Writes a b r bytes → HasCause f k r → (IsOk r → k ≡ f) → LeavesRoom p q r bytes → PrintsAt {E = E} a b held held f k p q (Ok x) r bytes
passed_printed {E = E} x {a = a} {b = b} {held = held} {bytes = bytes} {p = p} {q = q} {r = r} none writes cause quiet fits = record {
  written = λ start front h. held_passed start a b held x r front bytes none h writes;
  later = cause.later;
  cause = λ ok. cause.failed;
  quiet = λ ok. (refl, quiet ok);
  room = λ ok rest has.
      let found = fits rest (subst p (omega (arith, ap length none)) has) in
      (found.0, subst q (omega (arith, ap length none)) found.1);
}

-- bytes are held
pub stored_printed : {T E : Type 0} (x : T) {a : Option (List ℕ)} {held bytes : List ℕ} {f : ℕ} {p : ℕ → Type 0}
    → PrintsAt {U = T} {E = E} {F = E} a a held (held ++ bytes) f f p p (Ok x) (Ok x) bytes
stored_printed {E = E} x {a = a} {held = held} {bytes = bytes} {p = p} = record {
  written = λ start front (sent, whole, wrote). (sent, ap (λ t. t ++ bytes) whole ∙ append_assoc sent held bytes, wrote);
  later = omega arith;
  cause = λ ok. tt;
  quiet = λ ok. (refl, refl);
  room = λ ok rest has. (refl, subst p (omega (arith, length-append held bytes)) has);
}

-- nothing is printed behind a failure
pub failed_printed : {T E : Type 0} (e : E) {a : Option (List ℕ)} {held bytes : List ℕ} {f : ℕ} {p : ℕ → Type 0}
    → PrintsAt {T = T} {U = T} {E = E} {F = E} a a held held f f p p (Err e) (Err e) bytes
failed_printed {T = T} {E = E} e {a = a} {held = held} {bytes = bytes} {p = p} = record {
  written = λ start front part. part_longer start a front bytes part;
  later = omega arith;
  cause = λ ok. absurd (no ok);
  quiet = λ ok. absurd (no ok);
  room = λ ok rest has. absurd (no ok);
}
  where
    no : IsOk {T = T} {E = E} (Err e) → ⊥
    no ok = absurd cc

-- a piece behind pieces
pub then_line : {T E : Type 0} {a b d : Option (List ℕ)} {h i j : List ℕ} {f k l : ℕ} {p q o : ℕ → Type 0} {r s t : Result T E} {one two text : List ℕ}
    → PrintsAt a b h i f k p q r s one → PrintsAt b d i j k l q o s t two → one ++ two ≡ text → PrintsAt a d h j f l p o r t text
then_line {a = a} {d = d} {h = h} {j = j} {f = f} {l = l} {p = p} {o = o} {r = r} {t = t} u v same = subst (λ text. PrintsAt a d h j f l p o r t text) same (then_printed u v)

-- the whole text, from a start at which nothing was held to an end at which nothing is
pub writes_whole : {T E : Type 0} (x : T) {a b : Option (List ℕ)} {f k : ℕ} {p q : ℕ → Type 0} {r : Result T E} {text : List ℕ} → PrintsAt {E = E} a b [] [] f k p q (Ok x) r text → Writes a b r text
writes_whole {T = T} {E = E} x {a = a} {b = b} {r = r} {text = text} u = by r (u.written a [] ([], refl, sym (and_then_none a)))
  where
    by : (s : Result T E) → HoldsSince a b [] s ([] ++ text) → Writes a b s text
    by (Ok y) (sent, whole, wrote) = subst (λ t. Wrote a b t) (sym (append-nil sent) ∙ sym whole) wrote
    by (Err e) part = part

pub cause_whole : {T E : Type 0} (x : T) {a b : Option (List ℕ)} {f k : ℕ} {p q : ℕ → Type 0} {r : Result T E} {text : List ℕ} → PrintsAt {E = E} a b [] [] f k p q (Ok x) r text → HasCause f k r
cause_whole x u = record { later = u.later; failed = u.cause refl }

pub quiet_whole : {T E : Type 0} (x : T) {a b : Option (List ℕ)} {f k : ℕ} {p q : ℕ → Type 0} {r : Result T E} {text : List ℕ} → PrintsAt {E = E} a b [] [] f k p q (Ok x) r text → IsOk r → k ≡ f
quiet_whole x u ok = (u.quiet ok).1

pub fits_whole : {T E : Type 0} (x : T) {a b : Option (List ℕ)} {f k : ℕ} {p q : ℕ → Type 0} {r : Result T E} {text : List ℕ} → PrintsAt {E = E} a b [] [] f k p q (Ok x) r text → LeavesRoom p q r text
fits_whole x {p = p} {q = q} {text = text} u = λ rest has.
    let found = u.room refl rest (subst p (omega arith) has) in
    (found.0, subst q (omega arith) found.1)

-- a call of its own, that began with nothing held and ended with all sent
pub finished : {a b d : Option (List ℕ)} {x y : Buffered} {f k l : ℕ} {p q o : ℕ → Type 0} {t : Result (Unit {0}) Failed} {text : List ℕ}
    → x ≡ empty_buffer → PrintsAt a b x.held y.held f k p q x.outcome y.outcome text → PrintsAt b d y.held [] k l q o y.outcome t [] → AppendsAt a d f l p o t text
finished {a = a} {b = b} {y = y} {f = f} {k = k} {p = p} {q = q} {text = text} fresh u v =
    let one = subst (λ (x : Buffered). PrintsAt a b x.held y.held f k p q x.outcome y.outcome text) fresh u in
    let whole = then_line one v (append-nil text) in
    record { writes = writes_whole tt whole; cause = cause_whole tt whole; quiet = quiet_whole tt whole; fits = fits_whole tt whole }

-- one call and then another
pub then_call : {T E : Type 0} {x : T} {a b d : Option (List ℕ)} {f k l : ℕ} {p q o : ℕ → Type 0} {r : Result T E} {one two : List ℕ}
    → AppendsAt {E = E} a b f k p q (Ok x) one → AppendsAt b d k l q o r two → AppendsAt a d f l p o r (one ++ two)
then_call {T = T} {E = E} {x = x} {a = a} {b = b} {d = d} {f = f} {k = k} {l = l} {p = p} {q = q} {o = o} {r = r} {one = one} {two = two} u v = record {
  writes = by r v.writes;
  cause = record { later = omega (arith, u.cause.later, v.cause.later); failed = causes r v.cause };
  quiet = λ ok. v.quiet ok ∙ u.quiet refl;
  fits = λ rest has.
      let first = u.fits (length two + rest) (subst p (omega (arith, length-append one two)) has) in
      v.fits rest first.1;
}
  where
    by : (s : Result T E) → Writes b d s two → Writes a d s (one ++ two)
    by (Ok y) wrote = wrote_then a b d one two u.writes wrote
    by (Err e) part = part_behind a b d one two u.writes part

    causes : (s : Result T E) → HasCause k l s → OnErr s (Rose f l)
    causes (Ok y) cause = tt
    causes (Err e) cause = omega (arith, u.cause.later, cause.failed)

-- a call that failed has a front of a longer text too
pub failed_call : {T E : Type 0} {e : E} {a b : Option (List ℕ)} {f k : ℕ} {p q : ℕ → Type 0} {one : List ℕ} (two : List ℕ)
    → AppendsAt {T = T} a b f k p q (Err e) one → AppendsAt {T = T} a b f k p q (Err e) (one ++ two)
failed_call {T = T} {E = E} {e = e} {a = a} {b = b} {p = p} {one = one} two u = record {
  writes = part_longer a b one two u.writes;
  cause = u.cause;
  quiet = λ ok. absurd (no ok);
  fits = λ rest has. absurd (no (u.fits (length two + rest) (subst p (omega (arith, length-append one two)) has)).0);
}
  where
    no : IsOk {T = T} {E = E} (Err e) → ⊥
    no ok = absurd cc
