use Rattle.std.proofs.Common.{◌≡◌, ◌∙◌, Option, None, List, length, get_or, ap, arith}
use Rattle.obs_graph.specs.declared.Ends.{Ends}
use Rattle.obs_graph.specs.Graph.{Graph}
use Rattle.obs_network.specs.Network.{case_branches}
use Rattle.obs_network.proofs.OfCase.{few_branches}
use Rattle.obs_cert.specs.inner.Links.{link_at, link_of}
use Rattle.obs_cert.proofs.KeyLemmas.{written_all, written_more, written_none}
use Rattle.obs_cert.proofs.links.write_links.Goals as goal

pub loop-e-init : goal.loop-e-init
loop-e-init c = let t = c.args.present.now in written_none (link_at t) (length t.branches) c.args.links.now c.requires.room

pub overflow_cast-e : goal.overflow_cast-e
overflow_cast-e c = let f = few_branches c.args.present.now c.graph-graph.ensures.valid in omega (arith, f, c.loop-e-test.true, c.loop-e.auto.links, c.requires.room)

pub loop-e-preserved : goal.loop-e-preserved
loop-e-preserved c =
    let t = c.args.present.now in
    let e = c.loop-e.e in
    let ends : c.graph-graph.result.now.ends ≡ case_branches t = ap (λ (g : Graph). g.ends) c.graph-graph.ensures.graph in
    written_more (link_at t) (length t.branches) e c.link_of.result c.loop-e.links (omega (arith, c.loop-e-test.true, c.loop-e.auto.links, c.requires.room))
    (c.link_of.ensures.link ∙ ap link_of (c.ends_of.ensures.ends ∙ ap (λ (es : List (Option Ends)). get_or es e None) ends)) c.loop-e.invariant

pub returns : goal.returns
returns c =
    let t = c.args.present.now in
    record { links = written_all (link_at t) (length t.branches) c.loop-e.e c.loop-e.links (omega (arith, c.loop-e-test.false, c.requires.room)) c.loop-e.invariant }
