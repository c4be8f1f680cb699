use Rattle.std.proofs.Common.{◌≡◌, ◌≤◌, ℕ, false, true, List, Option, Bool, length, refl, sym, ap, ◌∙◌, subst, arith}
use Rattle.obs_graph.specs.declared.Ends.{Ends}
use Rattle.obs_graph.specs.Graph.{Graph}
use Rattle.obs_graph.proofs.Stored.{written_back}
use Rattle.obs_case.specs.declared.rows.Branch.{Branch}
use Rattle.obs_matroid.specs.Lists.{In}
use Rattle.obs_meter.specs.Held.{Meters}
use Rattle.obs_meter.specs.Touches.{live_items, touch_at}
use Rattle.obs_meter.specs.inner.Touches.{AreInRange}
use Rattle.obs_assign.specs.Assignment.{Assignment}
use Rattle.obs_assign.specs.inner.Assignment.{has_flag}
use Rattle.obs_exchange.specs.declared.Sources.TheVariants.{All}
use Rattle.obs_exchange.specs.Critical.{IsCriticalAt}
use Rattle.obs_exchange.specs.inner.Found.{HasClosed}
use Rattle.obs_network.specs.Network.{Network}
use Rattle.obs_network.proofs.OfCase.{length-case_branches, few_branches}
use Rattle.obs_kept.specs.inner.Kept.{AreLongest, AreLongestOver}
use Rattle.obs_kept.proofs.OfNetwork.{branches_network, room_network}
use Rattle.obs_outage.specs.inner.Sparing.{Spared}
use Rattle.obs_outage.proofs.Costing.{closed_there, costly_network, longest_there}
use Rattle.obs_outage.proofs.Fitting.{back_length, vertices_there}
use Rattle.obs_outage.proofs.Needed.{critical_outside}
use Rattle.obs_outage.proofs.SparedBy.{flags_spared}
use Rattle.obs_outage.proofs.spared.Spared.find.Goals as goal

pub flag_rows-requires-clause-rows : goal.flag_rows-requires-clause-rows
flag_rows-requires-clause-rows g c =
    let one = c.refill_touched.ensures.one_each in
    let graph = ap (λ (x : Graph). length x.ends) c.graph-g.ensures.graph in
    let network = ap (λ (x : Network). length x.graph.ends) c.requires.network in
    let rows = ap (λ (xs : List Branch). length xs) c.branches.ensures.rows in
    let many = length-case_branches c.args.case.now in
    omega (arith, one, graph, network, rows, many)

pub flag_costly-requires-clause-longest : goal.flag_costly-requires-clause-longest
flag_costly-requires-clause-longest g c =
    longest_there c.args.kept.now.network c.graph-g.result.now c.meters-ms.result.now c.graph-g.ensures.graph c.meters-ms.ensures.meters (branches_network c.args.kept.now.network c.args.case.now c.requires.network c.graph-g.result.now c.graph-g.ensures.graph c.meters-ms.result.now c.meters-ms.ensures.meters c.branches.ensures.valid) c.args.kept.now.pairs c.close.new.a
    c.close.ensures.same (subst (λ (x : Network). AreLongestOver x c.args.kept.now.pairs) (sym c.requires.network) c.requires.longest)

pub flag_costly-requires-clause-closed : goal.flag_costly-requires-clause-closed
flag_costly-requires-clause-closed g c =
    let graph = c.graph-g.result.now in
    let touches = c.meters-ms.result.now.touches in
    let closed = subst (λ (xs : List Bool). HasClosed graph.ends touches All c.close.new.a c.close.new.a xs) (sym c.reached-reached.ensures.reached) c.close.ensures.closed in
    closed_there c.args.kept.now.network graph c.meters-ms.result.now c.graph-g.ensures.graph c.meters-ms.ensures.meters (branches_network c.args.kept.now.network c.args.case.now c.requires.network c.graph-g.result.now c.graph-g.ensures.graph c.meters-ms.result.now c.meters-ms.ensures.meters c.branches.ensures.valid) c.args.kept.now.pairs c.close.new.a
    c.close.ensures.same (subst (λ (x : Network). AreLongestOver x c.args.kept.now.pairs) (sym c.requires.network) c.requires.longest) c.reached-reached.result.now closed

pub flag_costly-requires-clause-rows : goal.flag_costly-requires-clause-rows
flag_costly-requires-clause-rows g c =
    let graph = ap (λ (x : Graph). length x.ends) c.graph-g.ensures.graph in
    let network = ap (λ (x : Network). length x.graph.ends) c.requires.network in
    let rows = ap (λ (xs : List Branch). length xs) c.branches.ensures.rows in
    let many = length-case_branches c.args.case.now in
    omega (arith, graph, network, rows, many)

pub close-requires-clause-longest : goal.close-requires-clause-longest
close-requires-clause-longest g c =
    longest_there c.args.kept.now.network c.graph-g.result.now c.meters-ms.result.now c.graph-g.ensures.graph c.meters-ms.ensures.meters (branches_network c.args.kept.now.network c.args.case.now c.requires.network c.graph-g.result.now c.graph-g.ensures.graph c.meters-ms.result.now c.meters-ms.ensures.meters c.branches.ensures.valid) c.args.kept.now.pairs c.args.kept.now.pairs
    refl (subst (λ (x : Network). AreLongestOver x c.args.kept.now.pairs) (sym c.requires.network) c.requires.longest)

pub close-requires-clause-in_range : goal.close-requires-clause-in_range
close-requires-clause-in_range g c = subst (λ (x : Graph). AreInRange x c.meters-ms.result.now.touches) (sym c.graph-g.ensures.graph) c.meters-ms.ensures.in_range

pub close-requires-clause-room : goal.close-requires-clause-room
close-requires-clause-room g c =
    let k = c.args.kept.now in
    room_network k.network c.args.case.now c.requires.network c.graph-g.result.now c.graph-g.ensures.graph c.meters-ms.result.now c.meters-ms.ensures.meters k.pairs k.work c.requires.room

pub refill_touched-requires-clause-in_range : goal.refill_touched-requires-clause-in_range
refill_touched-requires-clause-in_range g c = subst (λ (x : Graph). AreInRange x c.meters-ms.result.now.touches) (sym c.graph-g.ensures.graph) c.meters-ms.ensures.in_range

pub refill_touched-requires-clause-marks : goal.refill_touched-requires-clause-marks
refill_touched-requires-clause-marks g c = ap (λ (xs : List Bool). length xs) c.reached.ensures.reached ∙ c.close.ensures.closed.flags

pub refill_touched-requires-clause-fronts : goal.refill_touched-requires-clause-fronts
refill_touched-requires-clause-fronts g c =
    let fronts = ap (λ (xs : List ℕ). length xs) c.deref_mut.ensures.value ∙ ap (λ (s : Spared). s.most_vertices) c.self.view_is ∙ c.requires.flags.vertices in
    subst (λ (k : ℕ). c.graph-g.result.now.vertices ≤ k) (sym fronts) (vertices_there c.args.kept.now.network c.args.case.now c.requires.network c.graph-g.result.now c.graph-g.ensures.graph)

pub refill_touched-requires-clause-one_each : goal.refill_touched-requires-clause-one_each
refill_touched-requires-clause-one_each g c =
    ap (λ (xs : List (Option Ends)). length xs) c.deref_mut-2.ensures.value ∙ c.self.invariant.part ∙ ap (λ (s : Spared). length s.flags) c.self.view_is ∙ c.requires.flags.branches
    ∙ ap (λ (x : Graph). length x.ends) (sym c.graph-g.ensures.graph)

pub refill_touched-requires-clause-vertices : goal.refill_touched-requires-clause-vertices
refill_touched-requires-clause-vertices g c =
    let most = c.self.invariant.vertices ∙ ap (λ (s : Spared). s.most_vertices) c.self.view_is ∙ c.requires.flags.vertices in
    subst (λ (k : ℕ). c.graph-g.result.now.vertices ≤ k) (sym most) (vertices_there c.args.kept.now.network c.args.case.now c.requires.network c.graph-g.result.now c.graph-g.ensures.graph)

pub refill_touched-requires-clause-branches : goal.refill_touched-requires-clause-branches
refill_touched-requires-clause-branches g c =
    let most = c.self.invariant.branches ∙ ap (λ (s : Spared). length s.flags) c.self.view_is ∙ c.requires.flags.branches ∙ ap (λ (x : Graph). length x.ends) (sym c.graph-g.ensures.graph) in
    omega (arith, most)

pub flag_rows-requires-clause-one_each : goal.flag_rows-requires-clause-one_each
flag_rows-requires-clause-one_each g c =
    let ends = c.refill_touched.ensures.one_each ∙ ap (λ (x : Graph). length x.ends) (c.graph-g.ensures.graph ∙ ap (λ (x : Network). x.graph) c.requires.network) in
    ends ∙ c.requires.longest.stands.forest.positions ∙ ap (λ (a : Assignment). length a.forest.held) (sym c.close.ensures.same)

pub flag_rows-requires-clause-flags : goal.flag_rows-requires-clause-flags
flag_rows-requires-clause-flags g c =
    let ends = c.refill_touched.ensures.one_each ∙ ap (λ (x : Graph). length x.ends) c.graph-g.ensures.graph in
    ap (λ (xs : List Bool). length xs) c.deref_mut-3.ensures.value ∙ ap (λ (s : Spared). length s.flags) c.self.view_is ∙ c.requires.flags.branches ∙ sym ends

pub flag_rows-requires-clause-room : goal.flag_rows-requires-clause-room
flag_rows-requires-clause-room g c =
    let there = vertices_there c.args.kept.now.network c.args.case.now c.requires.network c.graph-g.result.now c.graph-g.ensures.graph in
    let most = c.requires.sides in
    let same = c.refill_touched.ensures.vertices in
    omega (arith, there, most, same)

pub flag_costly-requires-clause-marks : goal.flag_costly-requires-clause-marks
flag_costly-requires-clause-marks g c = ap (λ (xs : List Bool). length xs) c.reached-reached.ensures.reached ∙ c.close.ensures.closed.flags

pub flag_costly-requires-clause-flags : goal.flag_costly-requires-clause-flags
flag_costly-requires-clause-flags g c =
    ap (λ (xs : List Bool). length xs) c.deref_mut-4.ensures.value ∙ ap (λ (s : Spared). length s.costly) c.self.view_is ∙ c.requires.flags.costly
    ∙ ap (λ (x : Graph). length x.ends) (sym c.graph-g.ensures.graph)

pub returns-clause-network : goal.returns-clause-network
returns-clause-network g c = refl

pub returns-clause-longest : goal.returns-clause-longest
returns-clause-longest g c = subst (λ (a : Assignment). AreLongest c.args.case.now a) (sym c.close.ensures.same) c.requires.longest

pub returns-clause-room : goal.returns-clause-room
returns-clause-room g c =
    let same = c.close.ensures.same in
    let room = c.requires.room in
    record {
      pair_meters = ap (λ (a : Assignment). a.most_meters) same ∙ room.pair_meters;
      pair_branches = ap (λ (a : Assignment). a.forest.most_branches) same ∙ room.pair_branches;
      pair_vertices = ap (λ (a : Assignment). a.forest.most_vertices) same ∙ room.pair_vertices;
      work = c.close.ensures.same_sizes ∙ room.work;
    }

pub returns-clause-sides : goal.returns-clause-sides
returns-clause-sides g c = c.flag_rows.ensures.room

pub invariant_of-self : goal.invariant_of-self
invariant_of-self g c =
    let ins = c.self.inside in
    let flags = back_length ins.flags.len c.flag_rows.new.flags ins.flags.items (c.flag_rows.auto.flags ∙ ap length c.deref_mut-3.ensures.value) ins.flags.ok.0 in
    let part = back_length ins.part.len c.refill_touched.new.part ins.part.items (c.refill_touched.auto.part ∙ ap length c.deref_mut-2.ensures.value) ins.part.ok.0 in
    let fronts = back_length ins.fronts.len c.refill_touched.new.fronts ins.fronts.items (c.refill_touched.auto.fronts ∙ ap length c.deref_mut.ensures.value) ins.fronts.ok.0 in
    record {
      part = part ∙ c.self.invariant.part ∙ sym flags;
      branches = c.refill_touched.ensures.most_branches ∙ c.self.invariant.branches ∙ sym flags;
      vertices = c.refill_touched.ensures.most_vertices ∙ c.self.invariant.vertices ∙ sym fronts;
    }

pub overflow_cast-rows : goal.overflow_cast-rows
overflow_cast-rows g c = omega (arith, ap (λ (xs : List Branch). length xs) c.branches.ensures.rows, few_branches c.args.case.now c.branches.ensures.valid)

pub returns-clause-told : goal.returns-clause-told
returns-clause-told g c =
    let n = c.args.kept.now.network in
    let graph = c.graph-g.result.now in
    let ms = c.meters-ms.result.now in
    let gg = c.graph-g.ensures.graph in
    let mm = c.meters-ms.ensures.meters in
    let a = c.args.kept.now.pairs in
    let b = c.close.new.a in
    let reached = c.reached.result.now in
    let ins = c.self.inside in
    let ok = branches_network n c.args.case.now c.requires.network graph gg ms mm c.branches.ensures.valid in
    let here = subst (λ (x : Network). AreLongestOver x a) (sym c.requires.network) c.requires.longest in
    let closed = subst (λ (xs : List Bool). HasClosed graph.ends ms.touches All b b xs) (sym c.reached.ensures.reached) c.close.ensures.closed in
    let part = c.refill_touched.new.touched.ends in
    let touched = c.refill_touched.ensures.touched in
    let flags_len = c.flag_rows.auto.flags ∙ ap length c.deref_mut-3.ensures.value in
    let costly_len = c.flag_costly.auto.flags ∙ ap length c.deref_mut-4.ensures.value in
    let flags_back = written_back ins.flags.len c.flag_rows.new.flags ins.flags.items flags_len ins.flags.ok.0 in
    let costly_back = written_back ins.costly.len c.flag_costly.new.flags ins.costly.items costly_len ins.costly.ok.0 in
    let fronts = back_length ins.fronts.len c.refill_touched.new.fronts ins.fronts.items (c.refill_touched.auto.fronts ∙ ap length c.deref_mut.ensures.value) ins.fronts.ok.0 in
    record {
      flags = record {
        branches = back_length ins.flags.len c.flag_rows.new.flags ins.flags.items flags_len ins.flags.ok.0 ∙ ap (λ (s : Spared). length s.flags) c.self.view_is ∙ c.requires.flags.branches;
        costly = back_length ins.costly.len c.flag_costly.new.flags ins.costly.items costly_len ins.costly.ok.0 ∙ ap (λ (s : Spared). length s.costly) c.self.view_is ∙ c.requires.flags.costly;
        vertices = fronts ∙ ap (λ (s : Spared). s.most_vertices) c.self.view_is ∙ c.requires.flags.vertices;
      };
      spared = λ e f.
          flags_spared n graph ms gg mm ok a b c.close.ensures.same here reached closed part touched c.flag_rows.new.flags c.flag_rows.ensures.missed e
          (subst (λ (xs : List Bool). has_flag xs e ≡ true) flags_back f);
      costly = λ e f.
          costly_network n graph ms gg mm ok a b c.close.ensures.same here c.flag_costly.new.flags c.flag_costly.ensures.costly e
          (subst (λ (xs : List Bool). has_flag xs e ≡ true) costly_back f);
      settled = λ e m low unspared uncostly i.
          let rows = ap (λ (xs : List Branch). length xs) c.branches.ensures.rows in
          let many = ap (λ (x : Network). x.rows.branches) c.requires.network in
          let none = c.flag_costly.ensures.rest e (omega (arith, low, rows, many)) (subst (λ (xs : List Bool). has_flag xs e ≡ false) (sym c.deref.ensures.value) unspared)
          (subst (λ (xs : List Bool). has_flag xs e ≡ false) costly_back uncostly) in
          let there = subst (λ (x : Graph). In e (touch_at x.ends ms.touches m)) (sym gg) (subst (λ (x : Meters). In e (touch_at n.graph.ends x.touches m)) (sym mm) i) in
          let critical = critical_outside graph ms.touches b (longest_there n graph ms gg mm ok a b c.close.ensures.same here) reached
          (closed_there n graph ms gg mm ok a b c.close.ensures.same here reached closed) part touched c.refill_touched.ensures.whole e none m there in
          subst (λ (x : Meters). IsCriticalAt n.graph.ends x.touches (live_items n.graph.ends x.touches) m) mm
          (subst (λ (x : Graph). IsCriticalAt x.ends ms.touches (live_items x.ends ms.touches) m) gg critical);
    }
