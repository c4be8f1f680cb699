use Rattle.std.proofs.Common.{sym, subst, arith}
use Rattle.obs_assign.specs.Assignment.{Assignment}
use Rattle.obs_assign.specs.inner.Assignment.{StandsOver}
use Rattle.obs_network.specs.Network.{Network, network_of}
use Rattle.obs_network.specs.Observable.{case_rank}
use Rattle.obs_network.proofs.OfCase.{case_branches-are}
use Rattle.obs_repair.specs.declared.edit.Edit.{Edit}
use Rattle.obs_repair.specs.inner.Repairing.{AreLeft, IsBack, IsBefore, IsSaidAlone}
use Rattle.obs_repair.specs.inner.Parts.{BoundsWhereKnown}
use Rattle.obs_repair.proofs.OfNetwork.{rank_of_longest}
use Rattle.obs_repair.proofs.Flagged.{valid_now}
use Rattle.obs_repair.proofs.CameBack.{is_back}
use Rattle.obs_repair.proofs.GivenUp.{kept-left, stands-alone}
use Rattle.obs_repair.proofs.MostPairs.{bound_now, no_search_bare, one_search}
use Rattle.obs_repair.proofs.Limited.{most-least}
use Rattle.obs_repair.proofs.PartRoom.{bound_before, place_after, place_before, positions_after, room_after, room_before}
use Rattle.obs_repair.proofs.Repaired.{IsRepaired-by}
use Rattle.obs_repair.proofs.repairing.repair.Goals as goal

pub invariant_of-present : goal.invariant_of-present
invariant_of-present g c = (c.follow-alone.ensures.network, valid_now c.args.case.now c.requires.before.before c.args.edit c.requires.before.same c.requires.before.valid)

pub keep_standing-requires-clause-alone : goal.keep_standing-requires-clause-alone
keep_standing-requires-clause-alone g c =
    let h = c.requires.before in
    stands-alone c.args.case.now c.args.edit c.args.network.now c.args.a.now h c.give_up-joined.new.a c.give_up-joined.ensures.left
    (valid_now c.args.case.now c.requires.before.before c.args.edit c.requires.before.same c.requires.before.valid) c.give_up-joined.ensures.whole
    (subst (λ (x : Network). StandsOver c.give_up-joined.new.a x.graph x.meters.touches) h.network c.give_up-joined.ensures.stands)
    c.follow-alone.result c.follow-alone.new.network c.follow-alone.ensures.network c.follow-alone.ensures.alone

pub is_between-between-requires : goal.is_between-between-requires
is_between-between-requires g c =
    let h = c.requires.before in record {
      place = place_before c.args.case.now c.args.edit c.args.network.now c.args.a.now h c.args.parts.now c.requires.parts_room;
      room = room_before c.args.case.now c.args.edit c.args.network.now c.args.a.now h c.args.parts.now c.requires.parts_room;
    }

pub limit-bound-requires : goal.limit-bound-requires
limit-bound-requires g c =
    let h = c.requires.before in
    let t = c.args.case.now in
    let said = subst (λ (x : Network). IsSaidAlone c.args.edit c.follow-alone.result c.args.network.now x) c.follow-alone.ensures.network c.follow-alone.ensures.alone in
    record {
      before = λ known. bound_before t c.args.edit c.args.network.now c.args.a.now h c.args.parts.now c.requires.parts_room (valid_now c.args.case.now c.requires.before.before c.args.edit c.requires.before.same c.requires.before.valid)
          c.follow-alone.result c.is_between-between.result c.length-had.result said c.is_between-between.ensures.between c.length-had.ensures.length (c.requires.bounded known);
      place = place_after t c.args.edit c.args.network.now c.args.a.now h c.args.parts.now c.requires.parts_room;
      room = room_after t c.args.edit c.args.network.now c.args.a.now h c.args.parts.now c.requires.parts_room;
    }

pub grow-grown-requires-clause-most : goal.grow-grown-requires-clause-most
grow-grown-requires-clause-most g c =
    let t = c.args.case.now in
    let valid = valid_now t c.requires.before.before c.args.edit c.requires.before.same c.requires.before.valid in
    most-least (network_of t) c.args.parts.now.first c.most_pairs-most.result c.least.result c.limit-bound.result (case_branches-are t valid)
    (bound_now t c.args.edit c.args.network.now c.args.a.now c.requires.before valid c.follow-alone.result c.follow-alone.new.network c.follow-alone.ensures.network c.follow-alone.ensures.alone
    c.length-had.result c.needed.result c.most_pairs-most.result c.length-had.ensures.length c.needed.ensures.needed c.most_pairs-most.ensures.most)
    c.limit-bound.ensures.limit c.least.ensures.one

pub grow-grown-requires-clause-back : goal.grow-grown-requires-clause-back
grow-grown-requires-clause-back g c m is =
    let t = c.args.case.now in
    let b = c.give_up-joined.new.a in
    let k = c.keep_standing.ensures in
    let surely = subst (λ (x : Edit). IsSaidAlone x c.follow-alone.result c.args.network.now c.follow-alone.new.network) is c.follow-alone.ensures.alone in
    let stands = subst (λ (x : Assignment). StandsOver x (network_of t).graph (network_of t).meters.touches) (k.same surely) k.stands in
    let back = is_back t (valid_now c.args.case.now c.requires.before.before c.args.edit c.requires.before.same c.requires.before.valid) c.args.network.now c.args.a.now m (subst (λ (x : Edit). IsBefore t x c.args.network.now c.args.a.now) is c.requires.before)
    b (subst (λ (x : Edit). AreLeft x c.args.a.now b) is c.give_up-joined.ensures.left) stands in
    subst (λ (x : Assignment). IsBack (network_of t).graph (network_of t).meters.touches m x) (sym (k.same surely)) back

pub returns-clause-repaired : goal.returns-clause-repaired
returns-clause-repaired g c =
    IsRepaired-by c.args.case.now c.args.a.now c.keep_standing.new.a c.grow-grown.new.a c.grow-grown.result.searches
    (kept-left c.args.case.now c.args.edit c.args.network.now c.args.a.now c.requires.before c.give_up-joined.new.a c.give_up-joined.ensures.left c.keep_standing.new.a c.keep_standing.ensures.kept) c.grow-grown.ensures.lengthened

pub returns-clause-meter : goal.returns-clause-meter
returns-clause-meter g c =
    one_search c.args.edit c.args.a.now c.give_up-joined.new.a c.give_up-joined.ensures.left c.keep_standing.new.a c.grow-grown.new.a c.grow-grown.result.searches c.length-had.result c.needed.result c.most_pairs-most.result
    c.follow-alone.result c.keep_standing.ensures.same c.length-had.ensures.length c.most_pairs-most.ensures.most (let some = c.grow-grown.ensures.bound in let few = c.least.ensures.within in omega (arith, some, few)) c.grow-grown.ensures.lengthened
    (λ at inservice is. subst (λ (x : Edit). IsSaidAlone x c.follow-alone.result c.args.network.now c.follow-alone.new.network) is c.follow-alone.ensures.alone)

pub returns-clause-without_pair : goal.returns-clause-without_pair
returns-clause-without_pair g c at is none =
    no_search_bare c.args.edit c.args.a.now c.give_up-joined.new.a c.give_up-joined.ensures.left c.keep_standing.new.a c.grow-grown.new.a c.grow-grown.result.searches c.length-had.result c.needed.result c.most_pairs-most.result
    c.follow-alone.result c.keep_standing.ensures.same c.length-had.ensures.length c.most_pairs-most.ensures.most (let some = c.grow-grown.ensures.bound in let few = c.least.ensures.within in omega (arith, some, few)) c.grow-grown.ensures.lengthened
    at is (subst (λ (x : Edit). IsSaidAlone x c.follow-alone.result c.args.network.now c.follow-alone.new.network) is c.follow-alone.ensures.alone) none

pub settle-requires-clause-room : goal.settle-requires-clause-room
settle-requires-clause-room g c =
    room_after c.args.case.now c.args.edit c.args.network.now c.args.a.now c.requires.before c.args.parts.now c.requires.parts_room

pub settle-requires-clause-positions : goal.settle-requires-clause-positions
settle-requires-clause-positions g c =
    positions_after c.args.case.now c.args.edit c.args.network.now c.args.a.now c.requires.before c.args.parts.now c.requires.parts_room

pub returns-clause-bounded : goal.returns-clause-bounded
returns-clause-bounded g c =
    subst (λ (x : Network). BoundsWhereKnown x c.settle.new.parts (case_rank c.args.case.now)) (sym c.follow-alone.ensures.network)
    (subst (λ k. BoundsWhereKnown (network_of c.args.case.now) c.settle.new.parts k) (rank_of_longest c.args.case.now (valid_now c.args.case.now c.requires.before.before c.args.edit c.requires.before.same c.requires.before.valid) c.grow-grown.new.a c.grow-grown.ensures.longest) c.settle.ensures.bounded)
