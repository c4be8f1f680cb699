-- A placement as it is made with a session, and as it is found.
use Rattle.std.proofs.Common.{◌≡◌, ◌∙◌, Bool, false, refl, sym, subst}
use Rattle.obs_case.specs.Tables.{Tables}
use Rattle.obs_matroid.proofs.Lists.{clash}
use Rattle.obs_assign.specs.inner.Assignment.{StandsOver, pairs}
use Rattle.obs_network.specs.Network.{case_offered, network_of}
use Rattle.obs_edit.specs.Planned.{case_placed_pairs, case_placement}
use Rattle.obs_edit.specs.inner.Planned.{Planning, new_planning}
use Rattle.obs_edit.specs.inner.Sessions.{IsPlacing}

-- as it is made, where none is at hand
placing_made : (t : Tables) (offered at_hand : Bool) → at_hand ≡ false → IsPlacing t offered at_hand (new_planning offered t)
placing_made t offered at_hand none = record {
  prices = refl;
  sizes = λ some. rw some refl;
  placed = λ some. clash some none;
  pairs = λ some. clash some none;
  stands = λ some. clash some none;
}

pub placing_begun : (t : Tables) (offered at_hand : Bool) (p : Planning) → at_hand ≡ false → p ≡ new_planning offered t → IsPlacing t offered at_hand p
placing_begun t offered at_hand p none made = subst (λ (x : Planning). IsPlacing t offered at_hand x) (sym made) (placing_made t offered at_hand none)

-- as it is found over the network of a case, in the arrays of another
pub placing_found : (t : Tables) (old new : Planning) (offered at_hand : Bool) → IsPlacing t offered at_hand old
    → new.placed ≡ case_placement t → pairs new.pairs ≡ case_placed_pairs t → StandsOver new.pairs (network_of t).graph (case_offered t)
    → new.prices ≡ old.prices → new.sizes ≡ old.sizes → (now : Bool) → IsPlacing t offered now new
placing_found t old new offered at_hand was placed paired stands prices sizes now = record {
  prices = prices ∙ was.prices;
  sizes = λ some. sizes ∙ was.sizes some;
  placed = λ _. placed;
  pairs = λ _. paired;
  stands = λ _. stands;
}
