use Rattle.std.proofs.Common.{◌≡◌, ℕ, ◌≤◌, length, take, sym, ap, ◌∙◌, subst, List, arith}
use Rattle.obs_graph.proofs.Stored.{written_back}
use Rattle.obs_network.specs.Network.{Network}
use Rattle.obs_outage.specs.inner.Outages.{Outages}
use Rattle.obs_outage.specs.inner.Feeds.{HasFeedRoom}
use Rattle.obs_outage.specs.declared.outages.Outage.{Outage}
use Rattle.obs_outage.proofs.Readied.{longest_of}
use Rattle.obs_outage.proofs.outages.Outages.find_list.Goals as goal

pub returns : goal.returns
returns g c =
    let listed = c.list_outages-self-inside.ensures in
    let entries = c.list_outages-self-inside.new.entries in
    let here = c.self.inside.entries in
    let same : length entries ≡ length here.items = c.list_outages-self-inside.auto.entries ∙ ap length c.deref_mut.ensures.value in
    let back = written_back here.len entries here.items same here.ok.0 in
    record {
      list = ap (λ (xs : List Outage). take c.list_outages-self-inside.result xs) back ∙ listed.listed;
      case = listed.case;
      network = listed.basis.network ∙ sym c.requires.network;
      longest = longest_of c.args.case.now c.list_outages-self-inside.new.basis listed.basis;
    }

pub find_bridges-requires-clause-basis : goal.find_bridges-requires-clause-basis
find_bridges-requires-clause-basis g c = c.self.invariant.basis

pub find_bridges-requires-clause-network : goal.find_bridges-requires-clause-network
find_bridges-requires-clause-network g c = ap (λ (o : Outages). o.network) c.self.view_is ∙ c.requires.network

pub find_bridges-requires-clause-feeds : goal.find_bridges-requires-clause-feeds
find_bridges-requires-clause-feeds g c = c.self.invariant.feeds

pub list_outages-self-inside-requires-clause-basis : goal.list_outages-self-inside-requires-clause-basis
list_outages-self-inside-requires-clause-basis g c = c.find_bridges.ensures.basis

pub list_outages-self-inside-requires-clause-entries : goal.list_outages-self-inside-requires-clause-entries
list_outages-self-inside-requires-clause-entries g c =
    let there = ap (λ (o : Outages). o.network) c.self.view_is ∙ c.requires.network in
    let many : length c.deref_mut.result.now ≡ length c.args.case.now.branches =
    ap (λ (xs : List Outage). length xs) c.deref_mut.ensures.value ∙ c.self.invariant.entries ∙ ap (λ (x : Network). x.rows.branches) there in
    omega (arith, many)

pub invariant_of-self : goal.invariant_of-self
invariant_of-self g c =
    let after = c.list_outages-self-inside.ensures in
    let inv = c.self.invariant in
    let back = ap (λ (o : Outages). o.network) c.self.view_is ∙ c.requires.network ∙ sym after.basis.network in
    let entries = c.list_outages-self-inside.new.entries in
    let here = c.self.inside.entries in
    let same : length entries ≡ length here.items = c.list_outages-self-inside.auto.entries ∙ ap length c.deref_mut.ensures.value in
    let written = written_back here.len entries here.items same here.ok.0 in
    record {
      basis = after.basis.basis;
      feeds = subst (λ (k : ℕ). HasFeedRoom k c.list_outages-self-inside.new.basis.feeds) (sym (ap (λ (x : Network). x.rows.nodes) after.basis.network)) after.basis.feeds.room;
      entries = ap (λ (xs : List Outage). length xs) written ∙ same ∙ inv.entries ∙ ap (λ (x : Network). x.rows.branches) back;
      listed = subst (λ (xs : List Outage). c.list_outages-self-inside.result ≤ length xs) (sym written) after.bound;
    }
