use Rattle.std.proofs.Common.{◌≤◌, ℕ, List, length, take, sym, subst, arith}
use Rattle.obs_network.specs.Network.{case_branches, case_vertex_count}
use Rattle.obs_cert.specs.inner.Contractions.{contracted_ends}
use Rattle.obs_cert.specs.inner.Hubs.{AreSpanned}
use Rattle.obs_cert.specs.Scopes.{item_touches}
use Rattle.obs_cert.proofs.HubLemmas.{hubs_more, hubs_same, joined_again}
use Rattle.obs_cert.proofs.lists.join_item.Goals as goal

pub returns-then-is_repeated-clause-joined : goal.returns-then-is_repeated-clause-joined
returns-then-is_repeated-clause-joined c = λ es j.
    let t = c.args.present.now in
    let r = c.is_repeated.ensures.repeated c.if-is_repeated.true in
    let ends = contracted_ends c.args.contraction (case_branches t) in
    joined_again ends (item_touches t c.args.m) es c.args.ups.now (take c.args.count c.args.moved.now)
    (subst (λ (qs : List ℕ). AreSpanned ends qs es) (sym r.1) (c.requires.hubs r.0 r.2 es j.firsts)) j

pub returns-then-is_repeated-clause-hubs : goal.returns-then-is_repeated-clause-hubs
returns-then-is_repeated-clause-hubs c =
    let t = c.args.present.now in
    let r = c.is_repeated.ensures.repeated c.if-is_repeated.true in
    hubs_same t c.args.contraction (item_touches t c.args.m) c.args.hubs.now.list c.is_repeated.new.hubs.list r.0 c.args.ups.now r.1 r.2 c.requires.hubs c.is_repeated.ensures.listed

pub returns-clause-hubs : goal.returns-clause-hubs
returns-clause-hubs c =
    let t = c.args.present.now in
    let q = c.requires.ways.joined in
    let j = c.join_touched in
    let vertices : case_vertex_count t ≤ length c.args.ups.now = c.requires.vertices in
    hubs_more t c.args.contraction c.is_repeated.ensures.valid c.requires.contraction (item_touches t c.args.m) c.args.hubs.now.list c.is_repeated.new.hubs.list q.0 c.args.ups.now
    j.new.ups (take j.result j.new.moved) (omega (arith, vertices, j.auto.ups)) c.requires.hubs q.1.firsts (j.ensures.joined q.0 q.1) c.is_repeated.ensures.listed
