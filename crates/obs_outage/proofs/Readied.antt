-- What is ready for one outage is ready for the next.
use Rattle.std.proofs.Common.{◌≡◌, ◌≤◌, length, sym, ap, ◌∙◌, subst}
use Rattle.obs_graph.specs.Positions.{AreBranches}
use Rattle.obs_case.specs.Tables.{Tables}
use Rattle.obs_meter.specs.inner.Sizes.{HasRoomFor}
use Rattle.obs_network.specs.Network.{Network}
use Rattle.obs_network.specs.inner.Sides.{Sides}
use Rattle.obs_kept.specs.inner.Kept.{AreLongest, AreLongestOver, HasRoomOver, network_sizes}
use Rattle.obs_kept.specs.declared.kept.Kept.{Kept}
use Rattle.obs_outage.specs.inner.Ready.{IsBasisOf, IsReady}
use Rattle.obs_outage.specs.inner.Sparing.{Spared}
use Rattle.obs_outage.specs.inner.Told.{AreTold}
use Rattle.obs_outage.specs.inner.Without.{IsCopy}
use Rattle.obs_outage.specs.declared.basis.Basis.{Basis}
use Rattle.obs_outage.specs.declared.rowless.Without.{Without}

-- with other longest pairs over the network
pub ready_again : (k : Kept) (w : Without) (s : Spared) → IsReady k w s → (k1 : Kept) (w1 : Without) → k1.network ≡ k.network → AreLongestOver k.network k1.pairs → HasRoomOver k.network k1.pairs k1.work → IsCopy k.network w1 → IsReady k1 w1 s
ready_again k w s h k1 w1 same longest room copy = record {
  longest = subst (λ (x : Network). AreLongestOver x k1.pairs) (sym same) longest;
  room = subst (λ (x : Network). HasRoomOver x k1.pairs k1.work) (sym same) room;
  copy = subst (λ (x : Network). IsCopy x w1) (sym same) copy;
  fits = subst (λ (x : Network). HasRoomFor (network_sizes x) x.graph x.meters.touches) (sym same) h.fits;
  branches = subst (λ (x : Network). AreBranches x.graph.vertices x.graph.ends) (sym same) h.branches;
  rows = subst (λ (x : Network). x.rows.branches ≤ length x.graph.ends) (sym same) h.rows;
  told = subst (λ (x : Network). AreTold x s) (sym same) h.told;
}

module _ (t : Tables) (b : Basis) (h : IsBasisOf t b) where
  pub longest_of : AreLongest t b.kept.pairs
  longest_of = subst (λ (x : Network). AreLongestOver x b.kept.pairs) h.network h.basis.ready.longest

  -- the pairs, the network to leave a row out of, and the walks are others
  pub basis_again : (k1 : Kept) (w1 : Without) (s1 : Sides) → IsReady k1 w1 b.spared → k1.network ≡ b.kept.network → s1.most_vertices ≡ b.sides.most_vertices
      → IsBasisOf t (record { kept = k1; without = w1; sides = s1; spared = b.spared; feeds = b.feeds; bridges = b.bridges })
  basis_again k1 w1 s1 ready same sides = record {
    basis = record {
      ready = ready;
      sides = sides ∙ h.basis.sides ∙ ap (λ (x : Network). x.graph.most_vertices) (sym same);
      vertices = h.basis.vertices ∙ ap (λ (x : Network). x.graph.most_vertices) (sym same);
      branches = h.basis.branches ∙ ap (λ (x : Network). x.rows.branches) (sym same);
    };
    network = same ∙ h.network;
    feeds = h.feeds;
    bridges = h.bridges;
  }
