-- What a session keeps after an edit.
use Rattle.std.proofs.Common.{◌≡◌, ℕ, ◌+◌, ◌*◌, Bool, false, List, sym, ap, ◌∙◌}
use Rattle.std.proofs.lemmas.Bool.{false≢true}
use Rattle.obs_case.specs.Tables.{Tables, prices_of}
use Rattle.obs_assign.specs.Assignment.{Assignment}
use Rattle.obs_assign.proofs.Slotted.{none_some}
use Rattle.obs_critical.specs.inner.Listed.{CriticalWork}
use Rattle.obs_islands.specs.inner.IslandWork.{IslandWork}
use Rattle.obs_network.specs.Network.{Network, Rows, rows_of}
use Rattle.obs_network.specs.inner.Network.{case_position_count}
use Rattle.obs_meter.specs.inner.Sizes.{Sizes}
use Rattle.obs_repair.specs.declared.edit.Edit.{Edit}
use Rattle.obs_edit.specs.declared.hand.AtHand.{AtHand}
use Rattle.obs_repair.specs.Edits.{edited}
use Rattle.obs_repair.specs.inner.Parts.{BoundsWhereKnown, Parts}
use Rattle.obs_edit.specs.inner.Edits.{nothing_at_hand}
use Rattle.obs_edit.specs.inner.Planned.{Planning, offered_room}
use Rattle.obs_edit.specs.inner.Sessions.{AreAnswers, BoundOf, HasRoomToAnswer, IsPlacing}
use Rattle.obs_repair.proofs.Sets.{sizes-edited}
use Rattle.obs_repair.proofs.Flagged.{positions-edited, rows-edited, same_candidates}

offered_sizes_of : Rows → ℕ → Sizes
offered_sizes_of r positions = record { meters = r.meters + r.candidates; branches = positions; vertices = 2 * r.nodes }

offered_sizes-edited : (t : Tables) (e : Edit) → offered_room t ≡ offered_room (edited t e)
unfolding offered_sizes_of
offered_sizes-edited t e = ap (λ r. offered_sizes_of r (case_position_count t)) (sym (rows-edited t e)) ∙ ap (offered_sizes_of (rows_of (edited t e))) (sym (positions-edited t e))

pub answer_room-edited : (t : Tables) (e : Edit) (flags : List Bool) (listing : CriticalWork) (found : IslandWork) (list : List ℕ) (listed : ℕ)
    → HasRoomToAnswer t flags listing found list listed → HasRoomToAnswer (edited t e) flags listing found list listed
answer_room-edited t e flags listing found list listed r =
    let meters = ap (λ (x : Rows). x.meters) (sym (rows-edited t e)) in
    record {
      flags_len = r.flags_len ∙ meters;
      listing_room = r.listing_room ∙ meters;
      islands_room = r.islands_room ∙ sizes-edited t e;
      list_len = r.list_len ∙ meters;
      within = r.within;
    }

-- where parts aren't known they bound nothing
pub bounds-unknown : (n : Network) (p : Parts) (most : ℕ) → p.known ≡ false → BoundsWhereKnown n p most
bounds-unknown n p most none is = absurd (false≢true (sym none ∙ is))

-- where nothing is said to be at hand there is nothing to say
pub no_answers : (t : Tables) (a : Assignment) (flags : List Bool) (listing : CriticalWork) (found : IslandWork) (measured : BoundOf) (hand : AtHand) → hand ≡ nothing_at_hand
    → AreAnswers t a flags listing found measured hand
no_answers t a flags listing found measured hand none = record {
  first = λ h. absurd (false≢true (sym (ap (λ (x : AtHand). x.first) none) ∙ h));
  marks = λ h. absurd (false≢true (sym (ap (λ (x : AtHand). x.critical) none) ∙ h));
  critical = λ h. absurd (false≢true (sym (ap (λ (x : AtHand). x.critical) none) ∙ h));
  islands = λ h. absurd (false≢true (sym (ap (λ (x : AtHand). x.islands) none) ∙ h));
  bound = λ c h. absurd (none_some c (sym (ap (λ (x : AtHand). x.bound) none) ∙ h));
}

-- a placement after an edit, where none is at hand
pub placing-edited : (t after : Tables) (e : Edit) (offered before now : Bool) (p : Planning) → after ≡ edited t e → now ≡ false → IsPlacing t offered before p → IsPlacing after offered now p
placing-edited t after e offered before now p same none was = record {
  prices = was.prices ∙ sym (ap (λ (x : Tables). prices_of x.candidates) same ∙ ap prices_of (same_candidates t e));
  sizes = λ some. was.sizes some ∙ (offered_sizes-edited t e ∙ ap offered_room (sym same));
  placed = λ y. absurd (false≢true (sym none ∙ y));
  pairs = λ y. absurd (false≢true (sym none ∙ y));
  stands = λ y. absurd (false≢true (sym none ∙ y));
}
