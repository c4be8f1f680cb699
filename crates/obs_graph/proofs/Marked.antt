-- The marked branches, and their rank by a search.
use Rattle.std.proofs.Common.{◌≡◌, ℕ, suc, ◌<◌, Bool, true, false, cond, not, eqb, Option, Some, None, List, [], ◌∷◌, length, get_or, take, refl, sym, ap, ◌∙◌, arith}
use Rattle.std.specs.List.{cons_option}
use Rattle.std.proofs.lemmas.List.{get_or-take, length-take-le}
use Rattle.obs_graph.specs.declared.Ends.{Ends}
use Rattle.obs_graph.specs.Joined.{count_below, rank}
use Rattle.obs_graph.proofs.Counts.{count_below-agree}
use Rattle.obs_graph.proofs.Ranks.{is_moved, rank_is}
use Rattle.obs_graph.specs.Positions.{present}
use Rattle.obs_graph.specs.inner.Positions.{marked_ends}
use Rattle.obs_graph.specs.inner.Search.{State, IsRooted, IsPart}
use Rattle.obs_graph.proofs.Present.{some_is_in}

abbrev pub kept_at : List (Option Ends) → List Bool → ℕ → Option Ends
kept_at bs ms k = cond (get_or ms k false) (get_or bs k None) None

pub present-marked : (bs : List (Option Ends)) (ms : List Bool) (hs : List (Option Ends)) → length ms ≡ length bs → length hs ≡ length bs → ((k : ℕ) → k < length bs → get_or hs k None ≡ kept_at bs ms k) → present hs ≡ marked_ends bs ms
present-marked [] ms [] lm lh is = refl
present-marked [] ms (h ∷ hs) lm lh is = absurd (omega arith)
present-marked (b ∷ bs) [] hs lm lh is = absurd (omega arith)
present-marked (b ∷ bs) (m ∷ ms) [] lm lh is = absurd (omega arith)
present-marked (b ∷ bs) (m ∷ ms) (h ∷ hs) lm lh is =
    let rest : present hs ≡ marked_ends bs ms = present-marked bs ms hs (omega arith) (omega arith) (λ k l. is (suc k) (omega arith)) in
    let here : h ≡ cond m b None = is 0 (omega arith) in
    ap (λ o. cons_option o (present hs)) here ∙ (one m b (present hs) ∙ ap (λ t. cond m (cons_option b t) t) rest)
  where
    one : (m : Bool) (b : Option Ends) (es : List Ends) → cons_option (cond m b None) es ≡ cond m (cons_option b es) es
    one true b es = refl
    one false b es = refl

kept_part : (m : Bool) (b : Option Ends) (e : Ends) → cond m b None ≡ Some e → b ≡ Some e
kept_part true b e is = is
kept_part false b e is = absurd cc

pub part-marked : (bs : List (Option Ends)) (ms : List Bool) (hs : List (Option Ends)) → length hs ≡ length bs → ((k : ℕ) → k < length bs → get_or hs k None ≡ kept_at bs ms k) → IsPart hs bs
part-marked bs ms hs lh is p e at =
    let low : p < length hs = some_is_in hs p e at in
    kept_part (get_or ms p false) (get_or bs p None) e (sym (is p (omega arith)) ∙ at)

-- the vertices that are not the first of their piece are as many as the rank
pub rank_of_rooted : (n : ℕ) (hs : List (Option Ends)) (es : List Ends) (s : State) → present hs ≡ es → IsRooted n hs s → count_below (λ v. not (eqb (get_or (take n s.piece) v 0) v)) (length (take n s.piece)) ≡ rank n es
rank_of_rooted n hs es s is i =
    ap (count_below (λ v. not (eqb (get_or (take n s.piece) v 0) v))) (length-take-le n s.piece i.pieces)
    ∙ (count_below-agree (λ v. not (eqb (get_or (take n s.piece) v 0) v)) (is_moved (present hs)) n
    (λ v l. ap (λ t. not (eqb t v)) (get_or-take n s.piece v 0 l ∙ i.first v l))
    ∙ (sym (rank_is n (present hs)) ∙ ap (rank n) is))
