-- The arrays of a graph.
use Rattle.std.proofs.Common.{◌≡◌, ◌≢◌, ℕ, suc, ◌-◌, ◌*◌, ◌^◌, ◌<◌, ◌≤◌, Option, IfSome, List, [], ◌++◌, length, get_or, set, take, drop, refl, sym, ap, ◌∙◌, subst, arith}
use Rattle.std.proofs.Math.Seq.{take-set-lt}
use Rattle.std.proofs.lemmas.List.{length-set, length-take, drop_all, append-nil, take_all}
use Rattle.std.proofs.lemmas.List.Elements.{All-set}
use Rattle.obs_graph.specs.declared.Ends.{Ends}
use Rattle.obs_graph.specs.Positions.{AreBranches}
use Rattle.obs_graph.specs.inner.Positions.{AreParts, AreStarts, part_start}
use Rattle.obs_graph.specs.inner.Graph.{IsStored}
use Rattle.obs_graph.proofs.FlatParts.{part_start-le}

-- a part ends within the array
pub part_room : (vertices positions : ℕ) (ends : List (Option Ends)) (itself starts at : List ℕ) → IsStored vertices positions ends itself starts at → (v : ℕ) → v < vertices → get_or starts (suc v) 0 ≤ length at
part_room vertices positions ends itself starts at s v l =
    let below = s.below in
    let room = s.room in
    omega (arith, s.starts_is (suc v) (omega arith), part_start-le (take positions ends) (suc v), length-take positions ends)

nothing_starts : (v : ℕ) → part_start [] v ≡ 0
nothing_starts v = omega (arith, part_start-le [] v)

-- a graph with no vertex
pub IsStored-none : (ends : List (Option Ends)) (itself starts at : List ℕ) → length ends < 2 ^ 32 → 0 < length starts → length itself ≡ length ends → 2 * length ends ≤ length at → ((k : ℕ) → k < length ends → get_or itself k 0 ≡ k) → ((v : ℕ) → v < length starts → get_or starts v 0 ≡ 0) → IsStored 0 0 ends itself starts at
IsStored-none ends itself starts at few below len room own zeros =
    record {
      few = few;
      held = omega arith;
      below = below;
      branches = λ k d l. absurd (omega arith);
      itself_len = len;
      itself_is = own;
      room = room;
      starts_is = λ v l. zeros v l ∙ sym (nothing_starts v);
      parts = λ v l. rw (nothing_starts v) refl;
    }

-- a graph where one position has other ends
pub IsStored-set : (vertices positions : ℕ) (ends new : List (Option Ends)) (itself starts at starts' at' : List ℕ) → IsStored vertices positions ends itself starts at
    → (e : ℕ) (after : Option Ends) → e < positions → IfSome after (λ x. (x.a < vertices) × (x.b < vertices) × (x.a ≢ x.b)) → new ≡ set ends e after → length starts' ≡ length starts → length at' ≡ length at
    → AreStarts (length starts) (take positions new) starts' → AreParts (length starts - 1) (take positions new) at' → IsStored vertices positions new itself starts' at'
IsStored-set vertices positions ends new itself starts at starts' at' s e after low is_in is starts_len at_len begin parts =
    let size : length new ≡ length ends = ap length is ∙ length-set ends e after in
    let rows : take positions new ≡ set (take positions ends) e after = ap (take positions) is ∙ take-set-lt positions ends e after low in
    let In : Option Ends → Type 0 = λ o. IfSome o (λ x. (x.a < vertices) × (x.b < vertices) × (x.a ≢ x.b)) in
    record {
      few = omega (arith, size, s.few);
      held = omega (arith, size, s.held);
      below = omega (arith, starts_len, s.below);
      branches = subst (λ bs. AreBranches vertices bs) (sym rows) (All-set In (take positions ends) e after is_in s.branches);
      itself_len = s.itself_len ∙ sym size;
      itself_is = λ k l. s.itself_is k (omega (arith, size));
      room = omega (arith, size, at_len, s.room);
      starts_is = λ v l. begin v (omega (arith, starts_len));
      parts = λ v l. parts v (omega (arith, starts_len));
    }

-- a graph whose arrays were written anew
pub IsStored-filled : (vertices positions n : ℕ) (ends branches new : List (Option Ends)) (itself starts at starts' at' : List ℕ) → IsStored vertices positions ends itself starts at
    → n ≤ length starts - 1 → length branches ≤ length ends → AreBranches n branches → length new ≡ length ends → length starts' ≡ length starts → length at' ≡ length at
    → take (length branches) new ≡ branches → AreStarts (length starts) branches starts' → AreParts (length starts) branches at' → IsStored n (length branches) new itself starts' at'
IsStored-filled vertices positions n ends branches new itself starts at starts' at' s low held good size starts_len at_len rows begin parts =
    record {
      few = omega (arith, size, s.few);
      held = omega (arith, size, held);
      below = omega (arith, starts_len, s.below, low);
      branches = subst (λ bs. AreBranches n bs) (sym rows) good;
      itself_len = s.itself_len ∙ sym size;
      itself_is = λ k l. s.itself_is k (omega (arith, size));
      room = omega (arith, size, at_len, s.room);
      starts_is = subst (λ bs. AreStarts (length starts') bs starts') (sym rows) (λ v l. begin v (omega (arith, starts_len)));
      parts = subst (λ bs. AreParts (length starts' - 1) bs at') (sym rows) (λ v l. parts v (omega (arith, starts_len)));
    }

-- a whole slice of a `Vec` that was written through
pub written_back : {X : Type 0} (n : ℕ) (new items : List X) → length new ≡ length items → n ≡ length items → take n (new ++ drop (length new) items) ≡ new
written_back n new items same len =
    ap (λ t. take n (new ++ t)) (drop_all (length new) items (omega arith)) ∙ (ap (take n) (append-nil new) ∙ take_all n new (omega arith))
