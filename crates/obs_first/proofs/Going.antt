-- One step of deciding after the other.
use Rattle.std.proofs.Common.{◌≡◌, ◌≢◌, ℕ, ◌<◌, ◌≤◌, ◌&&◌, true, false, None, List, length, set, refl, sym, ap, ◌∙◌, subst}
use Rattle.obs_graph.specs.Graph.{Graph}
use Rattle.obs_meter.specs.declared.Touch.{Touch}
use Rattle.obs_meter.specs.declared.Touch.TheVariants.{Nothing}
use Rattle.obs_assign.specs.Assignment.{Assignment}
use Rattle.obs_assign.specs.inner.Assignment.{HasRoomOf, IsWhole, StandsOver, branch_at, has_flag, is_frozen, pairs}
use Rattle.obs_exchange.specs.declared.Sources.TheVariants.{All}
use Rattle.obs_exchange.specs.inner.Found.{HasClosed, Work}
use Rattle.obs_exchange.specs.inner.Noting.{AreNoted, Noted}
use Rattle.obs_exchange.proofs.Lengthening.{rooms}
use Rattle.obs_first.specs.inner.Deciding.{GoesOn, IsMoved, IsPrepared, IsReady, KeepsFrozen, MayTake}
use Rattle.obs_first.proofs.Beside.{IsPrepared-dropped, IsPrepared-narrowed, IsPrepared-on}
use Rattle.obs_first.proofs.Changed.{dropped_frozen, dropped_keeps}
use Rattle.obs_first.proofs.Frozen.{KeepsFrozen-on}

-- two steps, of which the first froze nothing
pub GoesOn-on : (g : Graph) (touches : List Touch) (a b c : Assignment) (u v w : Work) (long : ℕ) → IsMoved g touches a b u v long → GoesOn g touches b c v w long → GoesOn g touches a c u w long
GoesOn-on g touches a b c u v w long h k = record {
  ready = k.ready;
  keeps = KeepsFrozen-on a b c h.frozen h.goes_on.keeps k.keeps;
  same_room = rooms a b c h.goes_on.same_room k.same_room;
  same_sizes = k.same_sizes ∙ h.goes_on.same_sizes;
}

pub IsMoved-on : (g : Graph) (touches : List Touch) (a b c : Assignment) (u v w : Work) (long : ℕ) → IsMoved g touches a b u v long → IsMoved g touches b c v w long → IsMoved g touches a c u w long
IsMoved-on g touches a b c u v w long h k = record { goes_on = GoesOn-on g touches a b c u v w long h k.goes_on; frozen = k.frozen ∙ h.frozen }

-- no step
pub GoesOn-none : (g : Graph) (touches : List Touch) (a : Assignment) (w : Work) (long : ℕ) → IsReady g touches a w long → GoesOn g touches a a w w long
GoesOn-none g touches a w long h = record { ready = h; keeps = λ x f. refl; same_room = record { meters = refl; vertices = refl; branches = refl }; same_sizes = refl }

pub IsMoved-none : (g : Graph) (touches : List Touch) (a : Assignment) (w : Work) (long : ℕ) → IsReady g touches a w long → IsMoved g touches a a w w long
IsMoved-none g touches a w long h = record { goes_on = GoesOn-none g touches a w long h; frozen = refl }

-- pairs that a search moved, and that it left
module _ (g : Graph) (touches : List Touch) (a b : Assignment) (v w : Work) (sizes : w.sizes ≡ v.sizes) (copied : w.touches ≡ v.touches) (loose : w.loose ≡ v.loose) where
  pub IsMoved-searched : StandsOver b g touches → IsWhole b → HasRoomOf a b → KeepsFrozen a b → b.frozen ≡ a.frozen → AreNoted g.ends touches All b w.noted → (long : ℕ) → IsReady g touches a v long
      → IsMoved g touches a b v w long
  IsMoved-searched stands whole room keeps frozen noted long h = record {
    goes_on = record {
      ready = record {
        branches = h.branches;
        in_range = h.in_range;
        stands = stands;
        whole = whole;
        prepared = IsPrepared-on g touches a b v w long sizes copied loose noted keeps h.prepared frozen;
      };
      keeps = keeps;
      same_room = room;
      same_sizes = sizes;
    };
    frozen = frozen;
  }

  pub IsMoved-left : b ≡ a → w.noted ≡ v.noted → (long : ℕ) → IsReady g touches a v long → IsMoved g touches a b v w long
  IsMoved-left same noted long h =
      let back = sym same in
      IsMoved-searched (subst (λ (x : Assignment). StandsOver x g touches) back h.stands) (subst (λ (x : Assignment). IsWhole x) back h.whole)
      (subst (λ (x : Assignment). HasRoomOf a x) back (record { meters = refl; vertices = refl; branches = refl })) (λ x f. ap (λ (d : Assignment). branch_at d x) same) (ap (λ (d : Assignment). d.frozen) same)
      (subst (λ (x : Assignment). AreNoted g.ends touches All x w.noted) back (subst (λ (n : Noted). AreNoted g.ends touches All a n) (sym noted) h.prepared.noted)) long h

-- a thawed meter lost its pair, and is noted
pub IsMoved-dropped : (g : Graph) (touches : List Touch) (a b : Assignment) (v w : Work) (m long : ℕ) → b.slots ≡ set a.slots m None → b.frozen ≡ set a.frozen m false → is_frozen a m ≡ false
    → w ≡ record v { noted = record v.noted { flags = set v.noted.flags m true } } → m < length v.noted.flags → StandsOver b g touches → IsWhole b → HasRoomOf a b → IsReady g touches a v long
    → IsMoved g touches a b v w long
IsMoved-dropped g touches a b v w m long slots flags thawed note low stands whole room h = record {
  goes_on = record {
    ready = record {
      branches = h.branches;
      in_range = h.in_range;
      stands = stands;
      whole = whole;
      prepared = IsPrepared-dropped g touches a b v w m long slots flags thawed note low h.prepared;
    };
    keeps = dropped_keeps a b m slots thawed;
    same_room = room;
    same_sizes = ap (λ (x : Work). x.sizes) note;
  };
  frozen = dropped_frozen a b m slots thawed flags;
}

-- the search then found nothing, and what it reached is kept
pub IsMoved-narrowed : (g : Graph) (touches : List Touch) (a b c : Assignment) (u w v : Work) (m long : ℕ) → MayTake g touches a u m long → branch_at a m ≢ None → b.slots ≡ set a.slots m None
    → b.frozen ≡ a.frozen → length (pairs a) ≤ long → c ≡ b → v ≡ record w { loose = v.loose } → HasClosed g.ends (set touches m Nothing) All c c w.reached
    → ((k : ℕ) → k < length w.reached → has_flag v.loose k ≡ (has_flag w.loose k && has_flag w.reached k)) → IsMoved g touches a c u w long → IsMoved g touches a c u v long
IsMoved-narrowed g touches a b c u w v m long may paired slots frozen few all same closed narrowed h =
    let k = h.goes_on in
    let r = may.ready in
    record {
      goes_on = record {
        ready = record {
          branches = r.branches;
          in_range = r.in_range;
          stands = k.ready.stands;
          whole = k.ready.whole;
          prepared = subst (λ (x : Assignment). IsPrepared g touches x v long) (sym all)
              (IsPrepared-narrowed g touches a b w v m long may.low r.branches r.whole r.stands paired may.thawed slots frozen few same
              (subst (λ (x : Assignment). HasClosed g.ends (set touches m Nothing) All x x w.reached) all closed) narrowed (subst (λ (x : Assignment). IsPrepared g touches x w long) all k.ready.prepared));
        };
        keeps = k.keeps;
        same_room = k.same_room;
        same_sizes = ap (λ (x : Work). x.sizes) same ∙ k.same_sizes;
      };
      frozen = h.frozen;
    }
