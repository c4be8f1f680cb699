use Rattle.std.proofs.Common.{◌≡◌, ℕ, ◌<◌, ◌∙◌, Bool, true, false, List, length, set, sym, ap, subst, inl, arith, get_or-set_other}
use Rattle.obs_assign.specs.Assignment.{Assignment}
use Rattle.obs_assign.specs.inner.Assignment.{HasRoomOf, IsWhole, StandsOver, branch_at, has_flag, is_frozen}
use Rattle.obs_assign.specs.inner.Spare.{IsSpare}
use Rattle.obs_assign.proofs.Afterwards.{pin_kept, pin_taken}
use Rattle.obs_exchange.specs.declared.Sources.TheVariants.{All}
use Rattle.obs_exchange.specs.inner.Found.{Work}
use Rattle.obs_exchange.specs.inner.Noting.{AreNoted, Noted}
use Rattle.obs_exchange.proofs.Lengthening.{rooms}
use Rattle.obs_exchange.proofs.Walking.{touched_there}
use Rattle.obs_matroid.proofs.Lists.{clash}
use Rattle.obs_first.specs.inner.Deciding.{AreEnoughFor, GoesOn, HasRefused, IsUnderWay}
use Rattle.obs_first.proofs.Aside.{HasRefused-kept, pinned_long}
use Rattle.obs_first.proofs.Beside.{IsPrepared-more}
use Rattle.obs_first.proofs.Frozen.{frozen_same}
use Rattle.obs_first.proofs.Taking.{AreNoted-pinned, HasRefused-joined}
use Rattle.obs_first.proofs.trying.take_branch.Goals as goal

pub returns-then-not-makes_way : goal.returns-then-not-makes_way
returns-then-not-makes_way g c = record { taken = c.if-not-makes_way.ensures.way; goes_on = c.makes_way.ensures.moved.goes_on }

pub spare-requires : goal.spare-requires
spare-requires g c =
    let s = c.makes_way.ensures.moved.goes_on.ready.stands in
    let meters = s.meters in
    let low = c.requires.may.low in
    record {
      stands = s.forest;
      m = omega (arith, meters, low);
      present = touched_there c.args.over.now.graph.now.ends c.args.over.now.meters.now.touches c.args.m c.args.e c.requires.touched;
    }

pub returns-in_default : goal.returns-in_default
returns-in_default g c =
    let graph = c.args.over.now.graph.now in
    let touches = c.args.over.now.meters.now.touches in
    let a = c.args.a.now in
    let b = c.makes_way.new.a in
    let h = c.makes_way.ensures.moved in
    let keeps = h.goes_on.keeps in
    let thawed = frozen_same a b h.frozen c.args.m ∙ c.requires.may.thawed in
    let r = HasRefused-joined graph touches h.goes_on.ready.branches b c.args.m c.args.e thawed c.args.rank (λ p. cc (c.in_default.ensures.may.1 p)) in
    let same = sym c.spare.ensures.same in
    record {
      taken = subst (λ (d : Assignment). HasRefused graph.ends touches a d c.args.m c.args.e c.args.rank × IsUnderWay graph.ends touches d c.args.m c.args.rank) same (
        HasRefused-kept graph.ends touches a b c.args.m c.args.e c.args.rank h.frozen keeps r,
        inl c.if-not-makes_way.ensures.way.enough,
      );
      goes_on = subst (λ (d : Assignment). GoesOn graph touches a d c.args.work.now c.makes_way.new.work c.args.rank) same h.goes_on;
    }

pub pin_for-requires : goal.pin_for-requires
pin_for-requires g c =
    let graph = c.args.over.now.graph.now in
    let touches = c.args.over.now.meters.now.touches in
    let h = c.makes_way.ensures.moved in
    let s = h.goes_on.ready.stands in
    let meters = s.meters in
    let low = c.requires.may.low in
    let m = c.args.m in
    let same = sym c.spare.ensures.same in
    record {
      stands = subst (λ (d : Assignment). StandsOver d graph touches) same s;
      m = subst (λ (d : Assignment). m < length d.slots) same (omega (arith, meters, low));
      touched = c.requires.touched;
      thawed = subst (λ (d : Assignment). is_frozen d m ≡ false) same (frozen_same c.args.a.now c.makes_way.new.a h.frozen m ∙ c.requires.may.thawed);
      spare = subst (λ (d : Assignment). IsSpare graph.ends d.slots d.frozen m c.args.e c.in-Some.x) same c.in-Some.ensures.spare;
    }

pub returns : goal.returns
returns g c =
    let graph = c.args.over.now.graph.now in
    let ends = graph.ends in
    let touches = c.args.over.now.meters.now.touches in
    let a = c.args.a.now in
    let b = c.makes_way.new.a in
    let s = c.spare.new.self in
    let d = c.pin_for.new.self in
    let v = c.makes_way.new.work in
    let w = c.note_near.new.self in
    let m = c.args.m in
    let e = c.args.e in
    let x = c.in-Some.x in
    let h = c.makes_way.ensures.moved in
    let k = h.goes_on in
    let p = c.pin_for.ensures.pinned in
    let same = c.spare.ensures.same in
    let back = sym same in
    let meters = k.ready.stands.meters in
    let below = c.requires.may.low in
    let low : m < length s.slots = subst (λ (d : Assignment). m < length d.slots) back (omega (arith, meters, below)) in
    let thawed : is_frozen b m ≡ false = frozen_same a b h.frozen m ∙ c.requires.may.thawed in
    let there : (y : ℕ) → is_frozen b y ≡ true → is_frozen s y ≡ true = λ y f. ap (λ (d : Assignment). is_frozen d y) same ∙ f in
    let other : (y : ℕ) → is_frozen b y ≡ true → y ≡ m → ⊥ = λ y f q. clash f (ap (is_frozen b) q ∙ thawed) in
    let kept : (y : ℕ) → is_frozen b y ≡ true → branch_at d y ≡ branch_at b y = λ y f. pin_kept s ends m e x d.slots p low y (other y f) (λ q. clash (there y f) (ap (is_frozen s) q ∙ p.thawed)) ∙ ap (λ (d : Assignment). branch_at d y) same in
    let first = c.note.ensures.noted in
    let second = c.note_near.ensures.same ∙ c.note-2.ensures.noted in
    let sizes : w.sizes ≡ v.sizes = ap (λ (v : Work). v.sizes) second ∙ ap (λ (v : Work). v.sizes) first in
    let flags = ap (λ (v : Work). v.noted) second ∙ ap (λ (k : Noted). record k { flags = set k.flags m false }) (ap (λ (v : Work). v.noted) first) in
    let noted = AreNoted-pinned ends touches s d m e x v.noted low p c.note.ensures.low (subst (λ (d : Assignment). AreNoted ends touches All d v.noted) back k.ready.prepared.noted) in
    record {
      taken = record {
        has = pin_taken s ends m e x d.slots p low;
        frozen = c.pin_for.ensures.frozen ∙ (ap (λ (d : Assignment). set d.frozen m true) same ∙ ap (λ f. set f m true) h.frozen);
        long_enough = pinned_long graph touches s d k.ready.branches (subst (λ (d : Assignment). IsWhole d) back k.ready.whole) (subst (λ (d : Assignment). StandsOver d graph touches) back k.ready.stands) m e x c.args.rank low
            c.requires.touched (subst (λ (d : Assignment). is_frozen d m ≡ false) back thawed) (subst (λ (d : Assignment). IsSpare ends d.slots d.frozen m e x) back c.in-Some.ensures.spare)
            (subst (λ (d : Assignment). AreEnoughFor d m e c.args.rank) back c.if-not-makes_way.ensures.way) p;
      };
      goes_on = record {
        ready = record {
          branches = k.ready.branches;
          in_range = k.ready.in_range;
          stands = c.pin_for.ensures.stands;
          whole = c.pin_for.ensures.whole;
          prepared = IsPrepared-more graph touches b d v w c.args.rank sizes (ap (λ (v : Work). v.touches) second ∙ ap (λ (v : Work). v.touches) first) (ap (λ (v : Work). v.loose) second ∙ ap (λ (v : Work). v.loose) first)
              (subst (λ (k : Noted). AreNoted ends touches All d k) (sym flags) noted) kept k.ready.prepared
              (λ y f. ap (λ (l : List Bool). has_flag l y) c.pin_for.ensures.frozen ∙ (get_or-set_other s.frozen m y true false (other y f) ∙ there y f));
        };
        keeps = λ y f. kept y (frozen_same a b h.frozen y ∙ f) ∙ k.keeps y f;
        same_room = rooms a b d k.same_room (subst (λ (x : Assignment). HasRoomOf x d) same c.pin_for.ensures.same_room);
        same_sizes = sizes ∙ k.same_sizes;
      };
    }

pub note-requires : goal.note-requires
note-requires g c =
    let same = ap (λ (d : Assignment). length d.slots) c.spare.ensures.same in
    let k = c.makes_way.ensures.moved.goes_on.ready in
    record { m = omega (arith, c.pin_for.ensures.pinned.low, same, k.stands.meters, k.prepared.room.meters) }

pub note-requires-2 : goal.note-requires-2
note-requires-2 g c =
    let sizes = ap (λ (v : Work). v.sizes.meters) c.note.ensures.noted in
    record { m = omega (arith, c.requires.may.low, sizes, c.makes_way.ensures.moved.goes_on.ready.prepared.room.meters) }

pub note_near-requires : goal.note_near-requires
note_near-requires g c =
    let same = ap (λ (d : Assignment). length d.slots) c.spare.ensures.same in
    let k = c.makes_way.ensures.moved.goes_on.ready in
    record { m = omega (arith, c.pin_for.ensures.pinned.low, same, k.stands.meters); in_range = k.in_range }
