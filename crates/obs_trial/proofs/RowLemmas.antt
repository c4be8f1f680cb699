-- The rows of a case that is being generated.
use Rattle.std.proofs.Common.{◌≡◌, ℕ, zero, suc, ◌+◌, ◌*◌, ◌%◌, ◌<◌, eqb, inl, inr, subst, List, [], ◌∷◌, ◌++◌, length, map, refl, sym, ap, ◌∙◌, arith, add-zero, add-one}
use Rattle.std.proofs.lemmas.Bool.{cases_Bool}
use Rattle.std.proofs.lemmas.Grind.{flat_map-append}
use Rattle.std.proofs.lemmas.List.{append-nil, append_assoc, length-append, length-map, map-append}
use Rattle.std.proofs.lemmas.List.FromFn.{length-enumerate_from}
use Rattle.std.specs.List.{enumerate_from, flat_map, range_with_len}
use Rattle.obs_case.specs.Adds.{with_branch, with_meter}
use Rattle.obs_case.specs.Tables.{Tables, branch_names}
use Rattle.obs_case.specs.declared.rows.Branch.{Branch}
use Rattle.obs_case.specs.declared.rows.Kind.{Kind}
use Rattle.obs_case.specs.declared.rows.Node.{Node}
use Rattle.obs_trial.specs.Draws.{draw_at, drawn, next_state, state_after}
use Rattle.obs_trial.specs.inner.Named.{HasPlaces, IsSoFar}
use Rattle.obs_trial.specs.Trial.{branch_at, branch_name, ends_at, ends_of_first, kind_drawn, meter_at, meter_row, node_at, node_name, place_drawn, to_below, to_right, trial_with}

-- one number more
pub range-more : (a n : ℕ) → range_with_len a (suc n) ≡ range_with_len a n ++ (a + n) ∷ []
range-more a zero = ap (λ m. m ∷ []) (sym (add-zero a))
range-more a (suc n) = ap (λ ms. a ∷ ms) (range-more (a + 1) n ∙ ap (λ m. range_with_len (a + 1) n ++ m ∷ []) (omega arith))

-- one item more, with its number
enumerate-more : {X : Type 0} (a : ℕ) (xs : List X) (x : X) → enumerate_from a (xs ++ x ∷ []) ≡ enumerate_from a xs ++ (a + length xs, x) ∷ []
enumerate-more a [] x = ap (λ m. (m, x) ∷ []) (sym (add-zero a))
enumerate-more {X} a (y ∷ xs) x =
    ap (λ ms. (a, y) ∷ ms) (enumerate-more (a + 1) xs x ∙ ap (λ m. enumerate_from (a + 1) xs ++ (m, x) ∷ []) (omega arith))

-- the names of nodes and of branches are their numbers
pub names_of_nodes : (numbers : List ℕ) → map (λ (row : Node). row.name) (map node_at numbers) ≡ map node_name numbers
names_of_nodes [] = refl
names_of_nodes (i ∷ numbers) = ap (λ names. node_name i ∷ names) (names_of_nodes numbers)

pub names_of_branches : (a : ℕ) (ends : List (ℕ × ℕ)) → map (λ (row : Branch). row.name) (map branch_at (enumerate_from a ends)) ≡ map branch_name (range_with_len a (length ends))
names_of_branches a [] = refl
names_of_branches a (e ∷ ends) = ap (λ names. branch_name a ∷ names) (names_of_branches (a + 1) ends)

module _ (n seed : ℕ) (ends : List (ℕ × ℕ)) where
  pub length-branches : length (trial_with n seed ends).branches ≡ length ends
  length-branches = length-map (enumerate_from 0 ends) branch_at ∙ length-enumerate_from 0 ends

  module _ (e : ℕ × ℕ) where
    pub branches-more : (trial_with n seed (ends ++ e ∷ [])).branches ≡ (trial_with n seed ends).branches ++ branch_at (length ends, e) ∷ []
    branches-more =
        ap (map branch_at) (enumerate-more 0 ends e ∙ ap (λ m. enumerate_from 0 ends ++ (m, e) ∷ []) (omega arith))
        ∙ map-append branch_at (enumerate_from 0 ends) ((length ends, e) ∷ [])

    pub meters-more : (trial_with n seed (ends ++ e ∷ [])).meters ≡ (trial_with n seed ends).meters ++ meter_at seed (length ends, e) ∷ []
    meters-more =
        ap (map (meter_at seed)) (enumerate-more 0 ends e ∙ ap (λ m. enumerate_from 0 ends ++ (m, e) ∷ []) (omega arith))
        ∙ map-append (meter_at seed) (enumerate_from 0 ends) ((length ends, e) ∷ [])

    -- a branch more and then its meter
    pub one_more : (old mid new : Tables) (k : ℕ) → k ≡ length ends → old ≡ trial_with n seed ends → mid ≡ with_branch old (branch_at (k, e)) → new ≡ with_meter mid (meter_at seed (k, e)) → new ≡ trial_with n seed (ends ++ e ∷ [])
    one_more old mid new k count is branch meter =
        meter
        ∙ ap (λ t. with_meter t (meter_at seed (k, e))) (branch ∙ ap (λ t. with_branch t (branch_at (k, e))) is)
        ∙ ap (λ m. with_meter (with_branch (trial_with n seed ends) (branch_at (m, e))) (meter_at seed (m, e))) count
        ∙ ap (λ bs. record (trial_with n seed ends) { branches = bs; meters = (trial_with n seed ends).meters ++ meter_at seed (length ends, e) ∷ [] }) (sym branches-more)
        ∙ ap (λ ms. record (trial_with n seed ends) { branches = (trial_with n seed (ends ++ e ∷ [])).branches; meters = ms }) (sym meters-more)

    pub has_branches : branch_names (with_branch (trial_with n seed ends) (branch_at (length ends, e))) ≡ map branch_name (range_with_len 0 (length (ends ++ e ∷ [])))
    has_branches = ap (map (λ (row : Branch). row.name)) (sym branches-more) ∙ names_of_branches 0 (ends ++ e ∷ [])

    -- after a branch was added there is a place for its meter
    placed : (draw : ℕ) → e.0 < n * n → e.1 < n * n →
        (count : ℕ) × HasPlaces (with_branch (trial_with n seed ends) (branch_at (length ends, e))) (kind_drawn draw) count × (place_drawn draw (length ends) e < count)
    placed draw from to =
        elim (cases_Bool (eqb (draw % 3) 0)) [
          | inl flow ↦ rw flow (length (ends ++ e ∷ []), has_branches, omega (arith, length-append ends (e ∷ [])))
          | inr other ↦ elim (cases_Bool (eqb (draw % 3) 1)) [
            | inl first ↦ rw (other, first) (n * n, names_of_nodes (range_with_len 0 (n * n)), from)
            | inr second ↦ rw (other, second) (n * n, names_of_nodes (range_with_len 0 (n * n)), to)
          ]
        ]

    -- a branch and its meter more
    pub linked : (old mid new : Tables) (k state after : ℕ) (kind : Kind) (place : ℕ) → k ≡ length ends → IsSoFar n seed ends old state → e.0 < n * n → e.1 < n * n →
        mid ≡ with_branch old (branch_at (k, e)) → after ≡ next_state state → kind ≡ kind_drawn (drawn after) → place ≡ place_drawn (drawn after) k e →
        ((count : ℕ) → HasPlaces mid kind count → place < count → new ≡ with_meter mid (meter_row k kind place)) → IsSoFar n seed (ends ++ e ∷ []) new after
    linked old mid new k state after kind place count so_far from to branch next is_kind is_place meter =
        let is_after : after ≡ state_after seed (suc (length ends)) = next ∙ ap next_state so_far.drawn in
        let after_k : after ≡ state_after seed (suc k) = is_after ∙ ap (λ m. state_after seed (suc m)) (sym count) in
        let is_mid : mid ≡ with_branch (trial_with n seed ends) (branch_at (length ends, e)) =
        branch ∙ ap (λ t. with_branch t (branch_at (k, e))) so_far.tables ∙ ap (λ m. with_branch (trial_with n seed ends) (branch_at (m, e))) count in
        let there = placed (drawn after) from to in
        let has : HasPlaces mid kind there.0 =
        subst (λ t. HasPlaces t kind there.0) (sym is_mid) (subst (λ q. HasPlaces (with_branch (trial_with n seed ends) (branch_at (length ends, e))) q there.0) (sym is_kind) there.1) in
        let inside : place < there.0 = subst (λ q. q < there.0) (sym (is_place ∙ ap (λ m. place_drawn (drawn after) m e) count)) there.2 in
        let is_meter : meter_row k kind place ≡ meter_at seed (k, e) =
        ap (λ q. meter_row k q place) (is_kind ∙ ap (λ s. kind_drawn (drawn s)) after_k)
        ∙ ap (λ q. meter_row k (kind_drawn (draw_at seed k)) q) (is_place ∙ ap (λ s. place_drawn (drawn s) k e) after_k) in
        record {
          tables = one_more old mid new k count so_far.tables branch (meter there.0 has inside ∙ ap (λ row. with_meter mid row) is_meter);
          drawn = is_after ∙ ap (state_after seed) (let one : suc (length ends) ≡ length (ends ++ e ∷ []) = omega (arith, length-append ends (e ∷ [])) in one);
        }

-- the branches of one node more
pub ends-more : (n i : ℕ) → ends_of_first n (i + 1) ≡ (ends_of_first n i ++ to_right n i) ++ to_below n i
ends-more n i =
    ap (λ m. ends_of_first n m) (add-one i)
    ∙ ap (flat_map (ends_at n)) (range-more 0 i ∙ ap (λ m. range_with_len 0 i ++ m ∷ []) (omega arith))
    ∙ flat_map-append (ends_at n) (range_with_len 0 i) (i ∷ [])
    ∙ ap (λ es. ends_of_first n i ++ es) (append-nil (ends_at n i))
    ∙ sym (append_assoc (ends_of_first n i) (to_right n i) (to_below n i))
