use Rattle.std.proofs.Common.{ℕ, List, length, refl, sym, ap, ◌∙◌, subst, arith}
use Rattle.obs_graph.specs.Positions.{AreBranches}
use Rattle.obs_network.proofs.OfCase.{case_branches-are, few_branches, length-case_branches}
use Rattle.obs_case.specs.declared.rows.Branch.{Branch}
use Rattle.obs_meter.specs.inner.Sizes.{HasRoomFor}
use Rattle.obs_kept.specs.inner.Kept.{AreLongestOver}
use Rattle.obs_kept.proofs.OfNetwork.{room_network}
use Rattle.obs_network.specs.Network.{Network}
use Rattle.obs_outage.specs.inner.Feeds.{HasFeedRoom}
use Rattle.obs_outage.specs.inner.Sparing.{HasFlags}
use Rattle.obs_outage.proofs.outages.Outages.make.Goals as goal

pub invariant_of-result : goal.invariant_of-result
invariant_of-result g c =
    let net = c.find.ensures.network ∙ c.in_ok-kept.ensures.network in
    let nodes = ap (λ (x : Network). x.rows.nodes) net in
    let rows = ap (λ (xs : List Branch). length xs) c.branches.ensures.rows in
    record {
      basis = record {
        ready = record {
          longest = subst (λ (x : Network). AreLongestOver x c.find.new.kept.pairs) (sym net) c.find.ensures.longest;
          room = c.find.ensures.room;
          copy = c.in_ok-without.ensures.copy;
          fits = subst (λ s. HasRoomFor s c.find.new.kept.network.graph c.find.new.kept.network.meters.touches) c.find.ensures.room.work
              (room_network c.find.new.kept.network c.args.case.now net c.find.new.kept.network.graph refl c.find.new.kept.network.meters refl c.find.new.kept.pairs c.find.new.kept.work c.find.ensures.room);
          branches = subst (λ (x : Network). AreBranches x.graph.vertices x.graph.ends) (sym net) (case_branches-are c.args.case.now c.branches.ensures.valid);
          rows = (let many = ap (λ (x : Network). x.rows.branches) net in let all = ap (λ (x : Network). length x.graph.ends) net in omega (arith, many, all, length-case_branches c.args.case.now));
          told = c.find.ensures.told;
        };
        sides = c.find.ensures.sides ∙ c.in_ok-sides.ensures.room ∙ c.vertex_room.ensures.room ∙ sym (ap (λ (x : Network). x.graph.most_vertices) net);
        vertices = c.in_ok-bridges.ensures.vertices ∙ c.vertex_room-2.ensures.room ∙ sym (ap (λ (x : Network). x.graph.most_vertices) net);
        branches = (let many = ap (λ (x : Network). x.rows.branches) net in let froms = c.in_ok-bridges.ensures.rows in omega (arith, many, froms, rows));
      };
      feeds = subst (λ (k : ℕ). HasFeedRoom k c.in_ok-feeds.feeds) (sym nodes) c.in_ok-feeds.ensures.room;
      entries = (let many = ap (λ (x : Network). x.rows.branches) net in let len = c.in_ok-entries.ensures.len in omega (arith, many, len, rows));
      listed = omega arith;
    }

pub overflow_cast-rows : goal.overflow_cast-rows
overflow_cast-rows g c = omega (arith, ap (λ (xs : List Branch). length xs) c.branches.ensures.rows, few_branches c.args.case.now c.branches.ensures.valid)

pub find-requires-clause-network : goal.find-requires-clause-network
find-requires-clause-network g c = c.in_ok-kept.ensures.network

pub find-requires-clause-longest : goal.find-requires-clause-longest
find-requires-clause-longest g c = c.in_ok-kept.ensures.longest

pub find-requires-clause-room : goal.find-requires-clause-room
find-requires-clause-room g c = c.in_ok-kept.ensures.room

pub find-requires-clause-flags : goal.find-requires-clause-flags
find-requires-clause-flags g c = subst (λ (x : Network). HasFlags x c.in_ok-spared.spared) (sym c.in_ok-kept.ensures.network) c.in_ok-spared.ensures.room

pub find-requires-clause-sides : goal.find-requires-clause-sides
find-requires-clause-sides g c = c.in_ok-sides.ensures.room ∙ c.vertex_room.ensures.room ∙ sym (ap (λ (x : Network). x.graph.most_vertices) c.in_ok-kept.ensures.network)

pub returns : goal.returns
returns g c = record { network = c.find.ensures.network ∙ c.in_ok-kept.ensures.network; longest = c.find.ensures.longest; none_found = refl }
