-- Meters that are lost for a while, and then touch again what they touched.
use Rattle.std.proofs.Common.{◌≡◌, ℕ, Bool, true, false, not, ◌&&◌, List, length, refl, sym, ap, ◌∙◌, subst}
use Rattle.obs_graph.specs.Graph.{Graph}
use Rattle.obs_graph.specs.Positions.{AreBranches}
use Rattle.obs_matroid.proofs.Lists.{IsDistinct-filter}
use Rattle.obs_meter.specs.declared.Touch.{Touch}
use Rattle.obs_meter.specs.Assignments.{rho_at}
use Rattle.obs_meter.specs.Held.{Meters}
use Rattle.obs_meter.specs.Lost.{is_listed, losing}
use Rattle.obs_meter.specs.inner.Lost.{left_of}
use Rattle.obs_meter.specs.inner.Sizes.{HasRoomFor}
use Rattle.obs_meter.specs.Touches.{live_items}
use Rattle.obs_meter.specs.inner.Touches.{AreInRange}
use Rattle.obs_meter.proofs.Assigned.{live_items-distinct, rho_at-is, rho_at-unique}
use Rattle.obs_meter.proofs.Lost.{in_range-losing, length-losing, losing-none, room-losing}
use Rattle.obs_assign.specs.Assignment.{Assignment}
use Rattle.obs_assign.specs.inner.Assignment.{pairs}
use Rattle.obs_exchange.specs.inner.Found.{Work}
use Rattle.obs_exchange.specs.inner.Longest.{IsLongest, IsMost}
use Rattle.obs_exchange.proofs.Losing.{most-left, most-longest, rho-live_left}
use Rattle.obs_station.specs.declared.grouping.Grouping.{Grouping}
use Rattle.obs_station.specs.declared.room.Room.{Room}
use Rattle.obs_station.specs.inner.Going.{MayLoseStation}

-- what the meters touch once some are lost
pub left_is : (list : List ℕ) (before after : Meters) (touches : List Touch) → before.touches ≡ touches → after ≡ record before { touches = losing (is_listed list) before.touches }
    → after.touches ≡ losing (is_listed list) touches
left_is list before after touches e is = ap (λ (x : Meters). x.touches) is ∙ ap (losing (is_listed list)) e

-- and once they are regained
pub left_again : (list : List ℕ) (before after last : Meters) (touches : List Touch) → before.touches ≡ touches → after ≡ record before { touches = losing (is_listed list) before.touches }
    → last ≡ record after { touches = losing (λ k. is_listed list k && not (is_listed list k)) touches } → last ≡ before
left_again list before after last touches e is back =
    let all : losing (λ k. is_listed list k && not (is_listed list k)) touches ≡ before.touches =
    losing-none (λ k. is_listed list k && not (is_listed list k)) touches (λ k l. none (is_listed list k)) ∙ sym e in
    back ∙ (ap (λ (t : List Touch). record after { touches = t }) all ∙ ap (λ (x : Meters). record x { touches = before.touches }) is)
  where
    none : (b : Bool) → (b && not b) ≡ false
    none true = refl
    none false = refl

-- what a search over what is left asks, where some meters are lost, up to so many pairs
pub record MayRegrow (y : Grouping) (left : List Touch) (w : Work) (long : ℕ) : Type 0 where
  pub in_range : AreInRange y.graph.now left
  pub room : HasRoomFor w.sizes y.graph.now left
  pub count : length left ≡ length y.meters.now.touches
  pub most : IsMost y.graph.now.ends left long

pub may_regrow : {y : Grouping} {a : Assignment} {r : Room} {most : ℕ} (list : List ℕ) (left : List Touch) → left ≡ losing (is_listed list) y.meters.now.touches → most ≡ length (pairs a) → MayLoseStation y a r
    → MayRegrow y left r.exchange most
may_regrow {y = y} {a = a} {r = r} {most = most} list left is many h =
    let g = y.graph.now in
    let touches = y.meters.now.touches in
    let lost = is_listed list in
    subst (λ (t : List Touch). MayRegrow y t r.exchange most) (sym is) (record {
      in_range = in_range-losing lost touches g h.paired.grouped.in_range;
      room = room-losing lost touches r.exchange.sizes g h.room;
      count = length-losing lost touches;
      most = most-left lost g.ends touches most (subst (λ (n : ℕ). IsMost g.ends touches n) (sym many) (most-longest g touches a h.paired.longest));
    })

-- the length of a longest assignment without the listed meters
pub rank_left : (g : Graph) (touches : List Touch) (list : List ℕ) (a : Assignment) → AreBranches g.vertices g.ends → IsLongest g (losing (is_listed list) touches) a
    → length (pairs a) ≡ rho_at g.vertices g.ends touches (left_of (is_listed list) (live_items g.ends touches))
rank_left g touches list a ok h =
    let M = left_of (is_listed list) (live_items g.ends touches) in
    rho_at-unique g.ends touches M (length (pairs a)) (rho_at g.vertices g.ends touches M) (rho-live_left (is_listed list) g.ends touches (length (pairs a)) h.longest)
    (rho_at-is g.vertices g.ends touches M ok (IsDistinct-filter (λ m. not (is_listed list m)) (live_items g.ends touches) (live_items-distinct g.ends touches)))
