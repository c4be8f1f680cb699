use Rattle.std.proofs.Common.{[], ◌++◌, ◌∙◌, List, refl, ap, arith, sym, subst}
use Rattle.std.specs.List.{flat_map}
use Rattle.obs_case.specs.Tables.{Tables}
use Rattle.obs_network.specs.Network.{case_branches}
use Rattle.obs_cert.specs.inner.Contractions.{contracted_ends}
use Rattle.obs_cert.specs.Claims.{Item}
use Rattle.obs_cert.specs.Numbered.{item_of, items_of}
use Rattle.obs_cert.specs.inner.Said.{item_said}
use Rattle.obs_cert.specs.Scopes.{item_touches}
use Rattle.obs_cert.proofs.JoinLemmas.{IsJoining, joining_end, joining_none, joining_some}
use Rattle.obs_cert.proofs.lists.join_items.Goals as goal

pub loop-item-init : goal.loop-item-init
loop-item-init c =
    rw c.into_iter-item-iterator.ensures.into_iter_gives (
      joining_none (contracted_ends c.args.contraction (case_branches c.args.present.now)) (flat_map (item_touches c.args.present.now) (items_of c.args.present.now c.args.items)) c.args.ups.now c.args.moved.now c.args.count c.requires.ways.fits,
      c.requires.hubs,
      refl,
    )

pub join_item-count-requires : goal.join_item-count-requires
join_item-count-requires c =
    let i = c.loop-item.invariant.0 in
    let q = i.joined c.requires.ways.joined.0 c.requires.ways.joined.1 in
    record {
      contraction = c.requires.contraction;
      ways = record { joined = (q.0, q.1); room = omega (arith, i.ups_len, i.moved_len, c.requires.ways.room); fits = i.fits };
      vertices = omega (arith, i.ups_len, c.requires.vertices);
      hubs = c.loop-item.invariant.1;
      hub_room = let e = c.loop-item.invariant.2 in omega (arith, i.ups_len, e, c.requires.hub_room);
    }

pub loop-item-preserved : goal.loop-item-preserved
loop-item-preserved c =
    let l = c.loop-item in
    let case = c.args.present.now in
    let ends = (contracted_ends c.args.contraction (case_branches c.args.present.now)) in
    let m = item_of case (item_said c.in-Some.item) in
    let all = flat_map (item_touches case) (items_of case c.args.items) in
    let left = flat_map (item_touches case) (items_of case c.next.new.self) in
    let i : IsJoining ends (item_touches case m ++ left) all c.args.ups.now c.args.moved.now c.args.count l.ups l.moved l.count =
    subst (λ (is : List Item). IsJoining ends (flat_map (item_touches case) (items_of case is)) all c.args.ups.now c.args.moved.now c.args.count l.ups l.moved l.count) c.in-Some.ensures.steps l.invariant.0 in (
      joining_some ends (item_touches case m) left all c.args.ups.now c.args.moved.now c.args.count l.ups l.moved l.count
          c.join_item-count.new.ups c.join_item-count.new.moved c.join_item-count.result i
          c.join_item-count.ensures.count c.join_item-count.auto.ups c.join_item-count.auto.moved
          (rw (sym (c.item_of.ensures.number ∙ ap (λ (t : Tables). item_of t (item_said c.in-Some.item)) c.case-case.ensures.case)) c.join_item-count.ensures.joined),
      c.join_item-count.ensures.hubs,
      c.join_item-count.ensures.hub_room ∙ l.invariant.2,
    )

pub returns : goal.returns
returns c =
    let l = c.loop-item in
    let case = c.args.present.now in
    let ends = (contracted_ends c.args.contraction (case_branches c.args.present.now)) in
    let all = flat_map (item_touches case) (items_of case c.args.items) in
    let i : IsJoining ends [] all c.args.ups.now c.args.moved.now c.args.count l.ups l.moved l.count =
    subst (λ (is : List Item). IsJoining ends (flat_map (item_touches case) (items_of case is)) all c.args.ups.now c.args.moved.now c.args.count l.ups l.moved l.count) c.in-None.ensures.steps l.invariant.0 in
    record { joined = joining_end ends all c.args.ups.now c.args.moved.now c.args.count l.ups l.moved l.count i; count = i.fits; hubs = l.invariant.1; hub_room = l.invariant.2; valid = c.case-case.ensures.valid }
