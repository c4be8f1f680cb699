use Rattle.std.proofs.Common.{◌≡◌, ℕ, Option, Some, None, List, [], ◌∷◌, get_or, ap, sym, subst, zero, suc, ◌≤◌, true, arith}
use Rattle.std.specs.List.{cons_option}
use Rattle.std.specs.Prelude.{is_some}
use Rattle.obs_graph.specs.declared.Ends.{Ends}
use Rattle.obs_graph.specs.Graph.{Graph}
use Rattle.obs_graph.specs.Joined.{IsForest}
use Rattle.obs_graph.specs.Positions.{IsForestAt}
use Rattle.obs_graph.proofs.Forests.{IsForest-from_Grows}
use Rattle.obs_tests.proofs.caller_tests.a_forest_holds_its_branches.Goals as goal

one_branch : (bs : List (Option Ends)) (p : ℕ) (e : Ends) → get_or bs p None ≡ Some e → (e.a ≡ e.b → ⊥) → IsForestAt bs (p ∷ [])
one_branch bs p e there apart =
    record {
      present = λ k d l. at k d l;
      forest = subst (λ o. IsForest (cons_option o [])) (sym there) (IsForest-from_Grows (e ∷ []) (apart, tt));
    }
  where
    at : (k d : ℕ) → suc k ≤ 1 → is_some (get_or bs (get_or (p ∷ []) k d) None) ≡ true
    at zero d l = ap is_some there
    at (suc k) d l = absurd (omega arith)

pub refill-requires-2-clause-forest : goal.refill-requires-2-clause-forest
refill-requires-2-clause-forest g c = one_branch _ 1 _ (ap (λ (s : Graph). get_or s.ends 1 None) c.refill.ensures.whole) (λ e. omega arith)
