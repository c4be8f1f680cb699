-- Between two rounds.
use Rattle.std.proofs.Common.{◌≡◌, ℕ, ◌<◌, List, length, get_or, refl, ap, ◌∙◌, inl, inr, Bool, true, false, Option}
use Rattle.std.specs.List.{list_any}
use Rattle.std.proofs.lemmas.List.{length-map}
use Rattle.obs_graph.specs.declared.Ends.{Ends}
use Rattle.obs_graph.specs.Graph.{Graph}
use Rattle.obs_graph.specs.Positions.{AreBranches}
use Rattle.obs_matroid.specs.Lists.{In}
use Rattle.obs_meter.specs.declared.Touch.{Touch}
use Rattle.obs_meter.specs.declared.Touch.TheVariants.{Nothing}
use Rattle.obs_meter.specs.Touches.{live_items}
use Rattle.obs_meter.specs.inner.Touches.{AreInRange}
use Rattle.obs_assign.specs.Assignment.{Assignment}
use Rattle.obs_exchange.specs.inner.Longest.{IsLongest}
use Rattle.obs_islands.specs.Firsts.{islands_of}
use Rattle.obs_islands.specs.inner.GivenUp.{GivesUp}
use Rattle.obs_islands.specs.inner.Left.{AreLeft}
use Rattle.obs_islands.specs.inner.Rounds.{AreFirsts, is_crossing, kept, remaining, straddles}
use Rattle.obs_islands.proofs.Crossing.{fewer_hubs, hubs, kept_cases, remaining_at, remaining_in_range}
use Rattle.obs_islands.proofs.Discarding.{round_holds, round_islands, round_spares}
use Rattle.obs_islands.proofs.Over.{IsClosedOver, closed_exists}
use Rattle.obs_islands.proofs.Remaining.{HoldsAll, IsUsedOf, forest_left}

-- of the items ts those of us are still used: they have all that lie inside a spanned set, and all of each closed set
pub record IsSettling (g : Graph) (ts us : List Touch) (a : Assignment) : Type 0 where
  pub in_range : AreInRange g us
  pub one_each : length us ≡ length ts
  pub used : IsUsedOf ts us
  pub holds : HoldsAll g ts us
  pub spares : (S : ℕ → Bool) → IsClosedOver g ts a S → (m : ℕ) → In m (live_items g.ends ts) → S m ≡ true → In m (live_items g.ends us)

-- the pieces of the pairs that are left are named
pub record IsNamed (g : Graph) (us : List Touch) (a : Assignment) (firsts : List ℕ) : Type 0 where
  pub held : List (Option Ends)
  pub left : AreLeft g.ends us a held
  pub named : AreFirsts g.vertices held firsts

-- at first all items are used
pub Settling-begun : (g : Graph) (ts : List Touch) (a : Assignment) → AreInRange g ts → IsSettling g ts ts a
Settling-begun g ts a in_range = record {
  in_range = in_range;
  one_each = refl;
  used = λ m. inl refl;
  holds = λ T spanned m i inside. i;
  spares = λ S c m i t. i;
}

-- and the forest has their pieces
pub Named-begun : (g : Graph) (ts : List Touch) (a : Assignment) (firsts : List ℕ) → IsLongest g ts a → AreFirsts g.vertices a.forest.held firsts → IsNamed g ts a firsts
Named-begun g ts a firsts h named = record { held = a.forest.held; left = forest_left g ts a h; named = named }

still_used : (ts us : List Touch) (ends : List (Option Ends)) (lowest : ℕ → ℕ) → IsUsedOf ts us → IsUsedOf ts (remaining ends lowest us)
still_used ts us ends lowest used m = elim (kept_cases ends lowest (get_or us m Nothing)) [
  | inr k ↦ inr (remaining_at ends lowest us m ∙ k)
  | inl k ↦ elim (used m) [ inl e ↦ inl (remaining_at ends lowest us m ∙ (k ∙ e)) | inr e ↦ inr (remaining_at ends lowest us m ∙ (k ∙ e)) ]
]

module _ (g : Graph) (ts : List Touch) (a : Assignment) (ok : AreBranches g.vertices g.ends) (h : IsLongest g ts a) (us : List Touch) (s : IsSettling g ts us a)
    (firsts : List ℕ) (n : IsNamed g us a firsts) (lowest : ℕ → ℕ) (gives_up : GivesUp g.ends us a (is_crossing g.ends firsts) lowest) where
  pub Settling-next : (vs : List Touch) → vs ≡ remaining g.ends lowest us → IsSettling g ts vs a
  Settling-next vs remains =
      let c = closed_exists g ts a ok h in
      record {
        in_range = rw remains (remaining_in_range g lowest us s.in_range);
        one_each = ap (λ (ys : List Touch). length ys) remains ∙ (length-map us (kept g.ends lowest) ∙ s.one_each);
        used = rw remains (still_used ts us g.ends lowest s.used);
        holds = rw remains (round_holds g ts a ok h us s.used s.holds c.0 c.1 (s.spares c.0 c.1) n.held n.left firsts n.named lowest gives_up);
        spares = rw remains (λ S d. round_spares g ts a ok h us s.used s.holds S d (s.spares S d) n.held n.left firsts n.named lowest gives_up);
      }

  -- where an item straddles, fewer hubs remain
  pub Settling-smaller : (vs : List Touch) → vs ≡ remaining g.ends lowest us → list_any (straddles g.ends lowest) us ≡ true → hubs vs < hubs us
  Settling-smaller vs remains t = rw remains (fewer_hubs g.ends lowest us t)

  -- where none does, the pieces are the islands
  pub Settling-ended : list_any (straddles g.ends lowest) us ≡ false → firsts ≡ islands_of g.vertices g.ends ts
  Settling-ended none = let c = closed_exists g ts a ok h in round_islands g ts a ok h us s.used s.holds c.0 c.1 (s.spares c.0 c.1) n.held n.left firsts n.named lowest gives_up none
