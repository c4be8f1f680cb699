-- Pairs that stand still: whose meters touch their branches.
use Rattle.std.proofs.Common.{inl, inr, ◌≡◌, Bool, true, Option, None, List, [], ◌∷◌, refl, sym, ap, subst}
use Rattle.std.specs.Prelude.{IsSome, filter, slice_index_or}
use Rattle.obs_graph.specs.declared.Ends.{Ends}
use Rattle.obs_matroid.specs.Lists.{In}
use Rattle.obs_matroid.specs.Assignments.{Pair, branches}
use Rattle.obs_matroid.proofs.Contained.{All-from_In}
use Rattle.obs_matroid.proofs.Pairs.{In-branches_from}
use Rattle.obs_meter.specs.declared.Touch.{Touch}
use Rattle.obs_meter.specs.declared.Touch.TheVariants.{Nothing}
use Rattle.obs_meter.specs.Touches.{touch_at}
use Rattle.obs_meter.proofs.Touched.{any-from_In, touched-present}
use Rattle.obs_assign.specs.inner.Still.{is_still, still}
use Rattle.obs_network.specs.inner.Edited.{ArePresent}

-- the branches that meters of the pairs touch are present
pub present-touched : (ends : List (Option Ends)) (touches : List Touch) (A : List Pair) → ((p : Pair) → In p A → In p.1 (touch_at ends touches p.0)) → ArePresent ends (branches A)
present-touched ends touches A touched = All-from_In (λ p. IsSome (slice_index_or ends p None)) (branches A)
    (λ e i.
    let q = In-branches_from A e i in
    subst (λ x. IsSome (slice_index_or ends x None)) (sym q.2) (touched-present ends (slice_index_or touches q.0.0 Nothing) q.0.1 (touched q.0 q.1)))

all_pass : (f : Pair → Bool) (A : List Pair) → ((p : Pair) → In p A → f p ≡ true) → filter f A ≡ A
all_pass f [] pass = refl
all_pass f (p ∷ A) pass =
    let here : f p ≡ true = pass p (inl refl) in
    rw here (ap (λ l. p ∷ l) (all_pass f A (λ q i. pass q (inr i))))

-- where each meter touches its branch all pairs stand still
pub still_all : (ends : List (Option Ends)) (touches : List Touch) (A : List Pair) → ((p : Pair) → In p A → In p.1 (touch_at ends touches p.0)) → still ends touches A ≡ A
still_all ends touches A touched = all_pass (is_still ends touches) A (λ p i. any-from_In (touch_at ends touches p.0) p.1 (touched p i))
