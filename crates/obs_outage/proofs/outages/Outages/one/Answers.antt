use Rattle.std.proofs.Common.{◌≡◌, ℕ, sym, ap, ◌∙◌, subst}
use Rattle.obs_assign.specs.Assignment.{Assignment}
use Rattle.obs_network.specs.Network.{Network}
use Rattle.obs_kept.specs.declared.kept.Kept.{Kept}
use Rattle.obs_outage.specs.inner.Outages.{AllStand, Outages}
use Rattle.obs_outage.specs.inner.Feeds.{HasFeedRoom}
use Rattle.obs_outage.proofs.Readied.{longest_of}
use Rattle.obs_outage.proofs.outages.Outages.one.Goals as goal

pub find_bridges-requires-clause-basis : goal.find_bridges-requires-clause-basis
find_bridges-requires-clause-basis g c = c.self.invariant.basis

pub find_bridges-requires-clause-network : goal.find_bridges-requires-clause-network
find_bridges-requires-clause-network g c = ap (λ (o : Outages). o.network) c.self.view_is ∙ c.requires.network

pub find_bridges-requires-clause-feeds : goal.find_bridges-requires-clause-feeds
find_bridges-requires-clause-feeds g c = c.self.invariant.feeds

pub entry_of-requires-clause-basis : goal.entry_of-requires-clause-basis
entry_of-requires-clause-basis g c = c.find_bridges.ensures.basis

pub entry_of-requires-clause-row : goal.entry_of-requires-clause-row
entry_of-requires-clause-row g c = c.requires.row

pub invariant_of-self : goal.invariant_of-self
invariant_of-self g c =
    let after = c.entry_of.ensures in
    let inv = c.self.invariant in
    let back = ap (λ (o : Outages). o.network) c.self.view_is ∙ c.requires.network ∙ sym after.basis.network in
    record {
      basis = after.basis.basis;
      feeds = subst (λ (k : ℕ). HasFeedRoom k c.entry_of.new.basis.feeds) (sym (ap (λ (x : Network). x.rows.nodes) after.basis.network)) after.basis.feeds.room;
      entries = inv.entries ∙ ap (λ (x : Network). x.rows.branches) back;
      listed = inv.listed;
    }

pub returns : goal.returns
returns g c =
    let after = c.entry_of.ensures in
    record {
      entry = after.entry;
      quiet = subst (λ (a : Assignment). AllStand c.args.case.now a c.args.e → (c.entry_of.new.steps ≡ c.args.steps.now) × (c.entry_of.new.basis.kept.pairs.turns ≡ a.turns))
          (ap (λ (k : Kept). k.pairs) c.find_bridges.ensures.kept ∙ ap (λ (o : Outages). o.pairs) c.self.view_is) after.quiet;
      case = after.case;
      network = after.basis.network ∙ sym c.requires.network;
      longest = longest_of c.args.case.now c.entry_of.new.basis after.basis;
      found = ap (λ (o : Outages). o.found) c.self.view_is;
    }
