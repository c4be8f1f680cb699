use Rattle.std.proofs.Common.{◌≡◌, ℕ, List, length, take, sym, ap, ◌∙◌, arith}
use Rattle.obs_graph.specs.inner.Graph.{Room}
use Rattle.obs_graph.proofs.Stored.{written_back}
use Rattle.obs_rankcut.specs.inner.Bounds.{CutWork}
use Rattle.obs_rankcut.proofs.work.measure.Goals as goal

pub count_in-counted-requires : goal.count_in-counted-requires
count_in-counted-requires c =
    let r = c.requires in
    let is = c.work.view_is in
    let i = c.work.invariant in
    let meters = ap (λ (w : CutWork). w.sizes.meters) is in
    let branches = ap (λ (w : CutWork). w.sizes.branches) is in
    let vertices = ap (λ (w : CutWork). w.sizes.vertices) is in
    record {
      can = record { in_range = r.in_range; marks = r.marks; scope = r.scope; list = omega (arith, r.room.meters, meters, ap length c.deref_mut.ensures.value) };
      room = record {
        flags = omega (arith, r.room.branches, branches, ap length c.deref_mut-2.ensures.value);
        fronts = omega (arith, r.room.vertices, vertices, ap length c.deref_mut-3.ensures.value);
        branches = omega (arith, r.room.branches, branches, i.branches);
        vertices = omega (arith, r.room.vertices, vertices, i.vertices);
      };
    }

pub returns-clause-inside : goal.returns-clause-inside
returns-clause-inside c =
    let back = written_back c.work.inside.list.len c.count_in-counted.new.list c.work.inside.list.items (c.count_in-counted.auto.list ∙ ap length c.deref_mut.ensures.value) c.work.inside.list.ok.0 in
    ap (λ (xs : List ℕ). take c.count_in-counted.result.count xs) back ∙ c.count_in-counted.ensures.counted.inside

pub returns-clause-rank : goal.returns-clause-rank
returns-clause-rank c = c.count_in-counted.ensures.rank

pub returns-clause-outside : goal.returns-clause-outside
returns-clause-outside c = c.count_in-counted.ensures.counted.outside

pub invariant_of-work : goal.invariant_of-work
invariant_of-work c =
    let ins = c.work.inside in
    let k = c.count_in-counted in
    let list : length k.new.list ≡ length ins.list.items = k.auto.list ∙ ap length c.deref_mut.ensures.value in
    let flags : length k.new.flags ≡ length ins.flags.items = k.auto.flags ∙ ap length c.deref_mut-2.ensures.value in
    let fronts : length k.new.fronts ≡ length ins.fronts.items = k.auto.fronts ∙ ap length c.deref_mut-3.ensures.value in
    let before = ap (λ (w : CutWork). w.sizes.meters) c.work.view_is in
    rw (written_back ins.list.len k.new.list ins.list.items list ins.list.ok.0, written_back ins.flags.len k.new.flags ins.flags.items flags ins.flags.ok.0, written_back ins.fronts.len k.new.fronts ins.fronts.items fronts ins.fronts.ok.0) (record {
      count = omega (arith, k.ensures.counted.bound, c.requires.room.meters, before, list);
      branches = ap (λ (r : Room). r.most_branches) k.ensures.work ∙ (c.work.invariant.branches ∙ sym flags);
      vertices = ap (λ (r : Room). r.most_vertices) k.ensures.work ∙ (c.work.invariant.vertices ∙ sym fronts);
    })
