-- The parts of a graph's vertices in a flat list, where a position is taken out or put in.
use Rattle.std.proofs.Common.{◌≡◌, ℕ, zero, suc, ◌+◌, ◌-◌, ◌*◌, ◌<◌, ◌≤◌, true, eqb, ltb, ⊎_elim, Option, Some, None, List, ◌∷◌, ◌++◌, length, get_or, map, set, take, drop, refl, sym, ap, ◌∙◌, arith}
use Rattle.std.specs.Prelude.{All}
use Rattle.std.specs.List.{count_by, insert, remove, slice_range}
use Rattle.std.proofs.Math.Seq.{take-add}
use Rattle.std.proofs.lemmas.Bool.{cases_eq, eq-eqb, ne_eqb, or_right, or_left, or_from}
use Rattle.std.proofs.lemmas.List.{length-append, length-set, set-get_or}
use Rattle.obs_graph.specs.declared.Ends.{Ends}
use Rattle.obs_graph.specs.Positions.{AreBranches, branches_at, has_end}
use Rattle.obs_graph.specs.inner.Positions.{AreParts, AreStarts, part_start}
use Rattle.obs_graph.specs.inner.Placing.{place_of, total_of}
use Rattle.obs_graph.proofs.Present.{branch_at}
use Rattle.obs_graph.proofs.FlatParts.{length-positions_from, part_start-le, sum_below-agree}
use Rattle.obs_graph.proofs.LaidParts.{CanPut, CanTake, IsLaid, IsLaid-agree, can_put, can_take, changed, changed-at, changed-other, changed_total, laid_part, laid_put, laid_take, parts_below, start_of}
use Rattle.obs_graph.proofs.SetPositions.{before_low, behind_high, branches_at-set, from_high, positions_before, positions_behind, positions_with, positions_without}

-- the parts of the branches begin where their ends are counted
part_begin : (bs : List (Option Ends)) (v : ℕ) → start_of (branches_at bs) v ≡ part_start bs v
part_begin bs v = sum_below-agree (λ w. length (branches_at bs w)) (λ w. count_by (has_end w) bs) v (λ w l. length-positions_from (has_end w) 0 bs)

module _ (n : ℕ) (bs : List (Option Ends)) (starts at : List ℕ) where
  stand_below : AreParts n bs at → (m : ℕ) → m ≤ n → take (part_start bs m) at ≡ parts_below (branches_at bs) m
  stand_below parts zero l = refl
  stand_below parts (suc m) l =
      let size = count_by (has_end m) bs in
      let from = part_start bs m in
      let e : size ≡ part_start bs (suc m) - from = omega arith in
      take-add from size at ∙ (ap (λ t. t ++ take size (drop from at)) (stand_below parts m (omega arith)) ∙ ap (λ t. parts_below (branches_at bs) m ++ t) (ap (λ k. take k (drop from at)) e ∙ parts m (omega arith)))

  pub laid_from : length starts ≡ suc n → AreStarts (length starts) bs starts → AreParts n bs at → part_start bs n ≤ length at → IsLaid n (branches_at bs) starts at
  laid_from size begin parts room =
      record {
        size = size;
        begin = λ v l. begin v (omega arith) ∙ sym (part_begin bs v);
        items = ap (λ k. take k at) (part_begin bs n) ∙ stand_below parts n (omega arith);
        room = omega (arith, part_begin bs n);
      }

  module _ (f : IsLaid n (branches_at bs) starts at) where
    pub laid_starts : AreStarts (length starts) bs starts
    laid_starts v l = f.begin v (omega (arith, f.size)) ∙ part_begin bs v

    pub laid_parts : AreParts n bs at
    laid_parts v l =
        let from = laid_starts v (omega (arith, f.size)) in
        let to = laid_starts (suc v) (omega (arith, f.size)) in
        ap (λ k. slice_range at k (part_start bs (suc v))) (sym from) ∙ (ap (λ k. slice_range at (get_or starts v 0) k) (sym to) ∙ laid_part n (branches_at bs) starts at f v l)

-- the positions in the part of v before e, and behind it
abbrev low_of : List (Option Ends) → ℕ → ℕ → List ℕ
low_of bs e v = positions_before (has_end v) e bs

abbrev high_of : List (Option Ends) → ℕ → ℕ → List ℕ
high_of bs e v = positions_behind (has_end v) e bs

-- the parts where the branch at e is taken out at its first end, and where it is put in there
abbrev pub half_out : List (Option Ends) → ℕ → Ends → ℕ → List ℕ
half_out bs e x = changed x.a (low_of bs e x.a ++ high_of bs e x.a) (branches_at bs)

abbrev pub half_in : List (Option Ends) → ℕ → Ends → ℕ → List ℕ
half_in bs e x = changed x.a (low_of bs e x.a ++ e ∷ high_of bs e x.a) (branches_at (set bs e None))

-- a branch of the list, at e
pub record IsBranchAt (n : ℕ) (bs : List (Option Ends)) (e : ℕ) (x : Ends) : Type 0 where
  pub here : e < length bs
  pub is : get_or bs e None ≡ Some x
  pub a_low : x.a < n
  pub b_low : x.b < n
  pub apart : x.a ≡ x.b → ⊥

pub branch_there : (n : ℕ) (bs : List (Option Ends)) (e : ℕ) (x : Ends) → AreBranches n bs → e < length bs → get_or bs e None ≡ Some x → IsBranchAt n bs e x
branch_there n bs e x all here is = let b = branch_at n bs e x all here is in record { here = here; is = is; a_low = b.0; b_low = b.1; apart = b.2 }

module _ (n : ℕ) (bs : List (Option Ends)) (e : ℕ) (x : Ends) (b : IsBranchAt n bs e x) where
  abbrev low : ℕ → List ℕ
  low v = low_of bs e v

  abbrev high : ℕ → List ℕ
  high v = high_of bs e v

  abbrev taken : ℕ → List ℕ
  taken = half_out bs e x

  abbrev put : ℕ → List ℕ
  put = half_in bs e x

  front : (v : ℕ) → All (λ p. ltb p e ≡ true) (low v)
  front v = before_low (has_end v) e bs (let l = b.here in omega arith)

  -- the branch stands in the part of each of its ends, and in no part where it is absent
  there : (v : ℕ) → has_end v (Some x) ≡ true → branches_at bs v ≡ low v ++ e ∷ high v
  there v t = ap (λ l. branches_at l v) (sym (set-get_or bs e None) ∙ ap (set bs e) b.is) ∙ positions_with (has_end v) e bs (Some x) b.here t

  gone : (v : ℕ) → branches_at (set bs e None) v ≡ low v ++ high v
  gone v = positions_without (has_end v) e bs None b.here refl

  elsewhere : (v : ℕ) → (v ≡ x.a → ⊥) → (v ≡ x.b → ⊥) → branches_at (set bs e None) v ≡ branches_at bs v
  elsewhere v not_a not_b = branches_at-set bs e None v (ap (has_end v) b.is ∙ or_from (eqb x.a v) (eqb x.b v) (ne_eqb x.a v (λ s. not_a (sym s))) (ne_eqb x.b v (λ s. not_b (sym s)))) refl

  at_a : branches_at bs x.a ≡ low x.a ++ e ∷ high x.a
  at_a = there x.a (or_left (eqb x.a x.a) (eqb x.b x.a) (eq-eqb x.a x.a refl))

  at_b : branches_at bs x.b ≡ low x.b ++ e ∷ high x.b
  at_b = there x.b (or_right (eqb x.a x.b) (eqb x.b x.b) (eq-eqb x.b x.b refl))

  -- the parts of both ends become those of other branches
  both_changed : (old new : ℕ → List ℕ) (as_a as_b : List ℕ) → new x.a ≡ as_a → new x.b ≡ as_b → ((v : ℕ) → (v ≡ x.a → ⊥) → (v ≡ x.b → ⊥) → old v ≡ new v) → (v : ℕ) → changed x.b as_b (changed x.a as_a old) v ≡ new v
  both_changed old new as_a as_b is_a is_b same v =
      ⊎_elim
      (λ (here : v ≡ x.b). changed-at x.b as_b (changed x.a as_a old) v here ∙ (sym is_b ∙ ap new (sym here)))
      (λ (not_b : v ≡ x.b → ⊥).
      changed-other x.b as_b (changed x.a as_a old) v not_b ∙
      ⊎_elim
      (λ (here : v ≡ x.a). changed-at x.a as_a old v here ∙ (sym is_a ∙ ap new (sym here)))
      (λ (not_a : v ≡ x.a → ⊥). changed-other x.a as_a old v not_a ∙ same v not_a not_b)
      (cases_eq v x.a))
      (cases_eq v x.b)

  all_out : (v : ℕ) → changed x.b (low x.b ++ high x.b) taken v ≡ branches_at (set bs e None) v
  all_out = both_changed (branches_at bs) (branches_at (set bs e None)) (low x.a ++ high x.a) (low x.b ++ high x.b) (gone x.a) (gone x.b) (λ v not_a not_b. sym (elsewhere v not_a not_b))

  all_in : (v : ℕ) → changed x.b (low x.b ++ e ∷ high x.b) put v ≡ branches_at bs v
  all_in = both_changed (branches_at (set bs e None)) (branches_at bs) (low x.a ++ e ∷ high x.a) (low x.b ++ e ∷ high x.b) at_a at_b elsewhere

  out_b : taken x.b ≡ low x.b ++ e ∷ high x.b
  out_b = changed-other x.a (low x.a ++ high x.a) (branches_at bs) x.b (λ s. b.apart (sym s)) ∙ at_b

  in_b : put x.b ≡ low x.b ++ high x.b
  in_b = changed-other x.a (low x.a ++ e ∷ high x.a) (branches_at (set bs e None)) x.b (λ s. b.apart (sym s)) ∙ gone x.b

  -- with both puts the last part ends where it does for all branches
  in_total : start_of (changed x.b (low x.b ++ e ∷ high x.b) put) n ≡ part_start bs n
  in_total = sum_below-agree (λ w. length (changed x.b (low x.b ++ e ∷ high x.b) put w)) (λ w. length (branches_at bs w)) n (λ w lw. ap length (all_in w)) ∙ part_begin bs n

  half_total : start_of put n ≤ part_start bs n
  half_total = omega (arith, in_total, changed_total put n x.b b.b_low (low x.b ++ e ∷ high x.b), ap length in_b, length-append (low x.b) (high x.b), length-append (low x.b) (e ∷ high x.b))

  module _ (starts at : List ℕ) (room : 2 * length bs ≤ length at) where
    full_room : part_start bs n ≤ length at
    full_room = omega (arith, part_start-le bs n, room)

    -- all branches, and those without the one at e
    pub laid_all : n ≡ length starts - 1 → AreStarts (length starts) bs starts → AreParts n bs at → IsLaid n (branches_at bs) starts at
    laid_all size begin parts = laid_from n bs starts at (omega (arith, size, b.a_low)) begin parts full_room

    pub laid_absent : n ≡ length starts - 1 → AreStarts (length starts) (set bs e None) starts → AreParts n (set bs e None) at → IsLaid n (branches_at (set bs e None)) starts at
    laid_absent size begin parts =
        laid_from n (set bs e None) starts at (omega (arith, size, b.a_low)) begin parts (omega (arith, part_start-le (set bs e None) n, length-set bs e None, room))

    pub can_take_first : IsLaid n (branches_at bs) starts at → CanTake starts at x.a e
    can_take_first f = can_take n (branches_at bs) starts at f x.a b.a_low e (low x.a) (high x.a) at_a (front x.a) (from_high (has_end x.a) e bs)

    pub can_take_second : IsLaid n taken starts at → CanTake starts at x.b e
    can_take_second f = can_take n taken starts at f x.b b.b_low e (low x.b) (high x.b) out_b (front x.b) (from_high (has_end x.b) e bs)

    pub can_put_first : IsLaid n (branches_at (set bs e None)) starts at → CanPut starts at x.a e
    can_put_first f = can_put n (branches_at (set bs e None)) starts at f x.a b.a_low e (low x.a) (high x.a) (gone x.a) (front x.a) (behind_high (has_end x.a) e bs) (omega (arith, half_total, full_room))

    pub can_put_second : IsLaid n put starts at → CanPut starts at x.b e
    can_put_second f = can_put n put starts at f x.b b.b_low e (low x.b) (high x.b) in_b (front x.b) (behind_high (has_end x.b) e bs) (omega (arith, in_total, full_room))

    module _ (starts' at' : List ℕ) (long : length at' ≡ length at) where
      abbrev Lowered : ℕ → Type 0
      Lowered v = starts' ≡ take (suc v) starts ++ map (λ k. k - 1) (drop (suc v) starts)

      abbrev Raised : ℕ → Type 0
      Raised v = starts' ≡ take (suc v) starts ++ map (λ k. k + 1) (drop (suc v) starts)

      abbrev Removed : ℕ → Type 0
      Removed v = take (total_of starts - 1) at' ≡ remove (take (total_of starts) at) (place_of starts at v e)

      abbrev Inserted : ℕ → Type 0
      Inserted v = take (suc (total_of starts)) at' ≡ insert (take (total_of starts) at) (place_of starts at v e) e

      pub take_first : IsLaid n (branches_at bs) starts at → Lowered x.a → Removed x.a → IsLaid n taken starts' at'
      take_first f lowered removed = laid_take n (branches_at bs) starts at f x.a b.a_low e (low x.a) (high x.a) at_a (front x.a) (from_high (has_end x.a) e bs) starts' at' long lowered removed

      pub take_second : IsLaid n taken starts at → Lowered x.b → Removed x.b → IsLaid n (branches_at (set bs e None)) starts' at'
      take_second f lowered removed =
          IsLaid-agree n (changed x.b (low x.b ++ high x.b) taken) (branches_at (set bs e None)) starts' at' (λ v lv. all_out v)
          (laid_take n taken starts at f x.b b.b_low e (low x.b) (high x.b) out_b (front x.b) (from_high (has_end x.b) e bs) starts' at' long lowered removed)

      pub put_first : IsLaid n (branches_at (set bs e None)) starts at → Raised x.a → Inserted x.a → IsLaid n put starts' at'
      put_first f raised inserted =
          laid_put n (branches_at (set bs e None)) starts at f x.a b.a_low e (low x.a) (high x.a) (gone x.a) (front x.a) (behind_high (has_end x.a) e bs) starts' at' (omega (arith, long, half_total, full_room)) raised inserted

      pub put_second : IsLaid n put starts at → Raised x.b → Inserted x.b → IsLaid n (branches_at bs) starts' at'
      put_second f raised inserted =
          IsLaid-agree n (changed x.b (low x.b ++ e ∷ high x.b) put) (branches_at bs) starts' at' (λ v lv. all_in v)
          (laid_put n put starts at f x.b b.b_low e (low x.b) (high x.b) in_b (front x.b) (behind_high (has_end x.b) e bs) starts' at' (omega (arith, long, in_total, full_room)) raised inserted)
