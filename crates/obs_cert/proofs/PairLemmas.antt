-- The branches of pairs while they are joined.
use Rattle.std.proofs.Common.{◌≡◌, ℕ, ◌+◌, ◌<◌, ◌≤◌, Bool, true, false, not, eqb, Option, inl, inr, List, [], ◌∷◌, length, refl, sym, ap, ◌∙◌, arith}
use Rattle.std.proofs.lemmas.Bool.{cases_Bool, eq-eqb, ne_eqb}
use Rattle.obs_graph.specs.declared.Ends.{Ends}
use Rattle.obs_matroid.proofs.Lists.{clash}
use Rattle.obs_cert.proofs.JoinLemmas.{IsJoining, joining_none}

-- as many were seen as joined something, or more
pub record IsPairing (ends : List (Option Ends)) (left all ups0 moved0 ups moved : List ℕ) (count : ℕ) (cycle : Bool) : Type 0 where
  pub joining : IsJoining ends left all ups0 moved0 0 ups moved count
  pub seen : ℕ
  pub split : seen + length left ≡ length all
  pub none : cycle ≡ false → count ≡ seen
  pub some : cycle ≡ true → count < seen

pub pairing_none : (ends : List (Option Ends)) (all ups moved : List ℕ) → IsPairing ends all all ups moved ups moved 0 false
pairing_none ends all ups moved = record {
  joining = joining_none ends all ups moved 0 (omega arith);
  seen = 0;
  split = omega arith;
  none = λ _. refl;
  some = λ e. absurd (clash e refl);
}

module _ (ends : List (Option Ends)) (p : ℕ) (left all ups0 moved0 ups moved : List ℕ) (count : ℕ) (cycle : Bool) (so_far : IsPairing ends (p ∷ left) all ups0 moved0 ups moved count cycle) where
  le : count ≤ so_far.seen
  le = elim (cases_Bool cycle) [ inl t ↦ (let a = so_far.some t in omega (arith, a)) | inr f ↦ (let a = so_far.none f in omega (arith, a)) ]

  -- a branch that joined something, and one that didn't
  pub pairing_grows : (ups2 moved2 : List ℕ) → IsJoining ends left all ups0 moved0 0 ups2 moved2 (count + 1) → IsPairing ends left all ups0 moved0 ups2 moved2 (count + 1) cycle
  pairing_grows ups2 moved2 i = record {
    joining = i;
    seen = so_far.seen + 1;
    split = (let s = so_far.split in omega (arith, s));
    none = λ e. (let a = so_far.none e in omega (arith, a));
    some = λ e. (let a = so_far.some e in omega (arith, a));
  }

  pub pairing_stays : (ups2 moved2 : List ℕ) → IsJoining ends left all ups0 moved0 0 ups2 moved2 count → IsPairing ends left all ups0 moved0 ups2 moved2 count true
  pairing_stays ups2 moved2 i = record {
    joining = i;
    seen = so_far.seen + 1;
    split = (let s = so_far.split in omega (arith, s));
    none = λ e. absurd (clash refl e);
    some = λ e. (let a = le in omega (arith, a));
  }

pub pairing_cycle : (ends : List (Option Ends)) (all ups0 moved0 ups moved : List ℕ) (count : ℕ) (cycle : Bool) → IsPairing ends [] all ups0 moved0 ups moved count cycle → cycle ≡ not (eqb count (length all))
pairing_cycle ends all ups0 moved0 ups moved count cycle p =
    let s = p.split in
    elim (cases_Bool cycle) [
      | inl t ↦ t ∙ sym (ap not (ne_eqb count (length all) (λ e. let a = p.some t in omega (arith, a, s, e))))
      | inr f ↦ f ∙ sym (ap not (eq-eqb count (length all) (let a = p.none f in omega (arith, a, s))))
    ]
