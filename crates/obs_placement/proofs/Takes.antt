-- One item is taken: by a search that grows, by one that ends closed, or without a search.
use Rattle.std.proofs.Common.{◌≡◌, ℕ, ◌<◌, Bool, true, false, None, List, ◌∷◌, length, set, refl, sym, ◌∙◌, inl, arith, subst, length-set}
use Rattle.obs_graph.specs.Graph.{Graph}
use Rattle.obs_graph.specs.Positions.{AreBranches}
use Rattle.obs_matroid.specs.Lists.{In}
use Rattle.obs_meter.specs.declared.Touch.{Touch}
use Rattle.obs_meter.specs.Touches.{is_live, touch_at}
use Rattle.obs_assign.specs.Assignment.{Assignment}
use Rattle.obs_assign.specs.inner.Assignment.{IsWhole, StandsOver, branch_at, has_flag}
use Rattle.obs_exchange.specs.declared.Sources.TheVariants.{One}
use Rattle.obs_exchange.specs.inner.Found.{AreListed, HasClosed, HasGrown}
use Rattle.obs_placement.specs.declared.offer.Offer.{Offer}
use Rattle.obs_placement.specs.inner.Holding.{IsTakenNow, IsToTake, IsTouchedByKnown, Known, StandsBeside, Taking}
use Rattle.obs_placement.specs.inner.Offer.{earlier_in, is_chosen_in, price_in}
use Rattle.obs_placement.specs.inner.Taking.{AreAdded, AreHeld, AreKept, is_known}
use Rattle.obs_placement.proofs.Flagged.{AreAdded-marked, AreFrontsOfKnown-more, AreTouchedByKnown-more, StandsWithKnown-more, bounded_after, kept_marked, still_known}
use Rattle.obs_placement.proofs.Stepped.{bare_source, chosen_by, earlier-live, earlier-out, grown_held, grown_raising, grown_taken, held_slots, joined_added, joined_at, joined_not_raising, passed_at, passed_not_raising, taken_slots}

module _ (o : Offer) (ok : AreBranches o.graph.now.vertices o.graph.now.ends) (c price : ℕ) (before : Taking) (h : IsToTake o c price before) where
  abbrev G : Graph
  G = o.graph.now

  abbrev T : List Touch
  T = o.items.now.touches

  abbrev N : List ℕ
  N = earlier_in o c

  abbrev a : Assignment
  a = before.pairs

  abbrev since : List ℕ
  since = before.known.since

  lives : (x : ℕ) → In x N → is_live G.ends T x ≡ true
  lives = earlier-live G.ends T (price_in o) c

  out : In c N → ⊥
  out = earlier-out G.ends T (price_in o) c

  pub takes_source : (c < length a.slots) × (branch_at a c ≡ None)
  takes_source =
      let l = h.before.beside.standing.stands.meters in
      let low = h.low in
      (omega (arith, l, low), bare_source a G T ok since h.before.beside.standing N c h.before.taken lives out h.live)

  -- a source grew
  module _ (after : Taking) (known : after.known ≡ before.known) (m : ℕ) (whole : IsWhole after.pairs) (stands : StandsOver after.pairs G T) (grown : HasGrown G.ends T (One c) a after.pairs m) where
    chosen : true ≡ is_chosen_in o c
    chosen = chosen_by G T (price_in o) c true h.live (grown_raising a G T ok since h.before.beside.standing N c h.before.taken lives out h.live after.pairs m whole stands grown)

    pub takes_grown : IsTakenNow o c price before after true
    takes_grown = subst (λ (k : Known). IsTakenNow o c price before (record { known = k; pairs = after.pairs; sizes = after.sizes }) true) (sym known) (record {
      taken = record {
        taken = grown_taken a G T ok since h.before.beside.standing N c h.before.taken lives out h.live after.pairs m whole stands grown;
        held = grown_held a G T ok since h.before.beside.standing N c h.before.taken lives out h.live after.pairs m whole stands grown (price_in o) h.before.held (sym chosen);
        bounded = h.before.bounded;
        beside = record {
          count = h.before.beside.count;
          standing = record {
            stands = stands;
            whole = whole;
            frozen = λ x f. h.before.beside.standing.frozen x (subst (λ (flags : List Bool). has_flag flags x ≡ true) grown.frozen f);
          };
          flags = h.before.beside.flags;
        };
      };
      chosen = chosen;
      added = λ x. inl refl;
    })

  -- the search ended closed, and what it reached is known now
  module _ (b : Assignment) (reached : List Bool) (listed : List ℕ) (closed : HasClosed G.ends T (One c) a b reached) (lists : AreListed reached listed)
      (after : Taking) (kept : AreKept listed price since after.known.since) (slots : after.pairs.slots ≡ b.slots) (beside : StandsBeside o after.pairs after.known) where
    added : AreAdded price since after.known.since
    added = AreAdded-marked (has_flag reached) price since after.known.since (kept_marked reached listed price since after.known.since lists kept)

    pub takes_closed : IsTakenNow o c price before after false
    takes_closed = record {
      taken = record {
        taken = taken_slots G T (c ∷ N) after.known.since b after.pairs slots
            (passed_at a b G T ok since h.before.beside.standing (price_in o) c price after.known.since reached h.live h.cheap h.before.bounded h.before.taken closed
            (kept_marked reached listed price since after.known.since lists kept));
        held = held_slots G T (price_in o) b after.pairs slots (subst (λ (x : Assignment). AreHeld G T (price_in o) x) (sym closed.same) h.before.held);
        bounded = bounded_after price since after.known.since h.cheap added h.before.bounded;
        beside = beside;
      };
      chosen = chosen_by G T (price_in o) c false h.live
          (passed_not_raising a G T ok since h.before.beside.standing N c h.before.taken lives out h.live (has_flag reached) closed.least);
      added = added;
    }

  -- known items touch all that it touches, and only it is known now
  module _ (joins : (e : ℕ) → In e (touch_at G.ends T c) → IsTouchedByKnown G.ends T since e) where
    abbrev more : List ℕ
    more = set since c price

    low : c < length since
    low = let n = h.before.beside.count in let l = h.low in omega (arith, n, l)

    added_one : AreAdded price since more
    added_one = joined_added a G T (price_in o) c price since low h.before.bounded h.before.taken

    still : (m : ℕ) → is_known since m ≡ true → is_known more m ≡ true
    still = still_known price since more h.cheap added_one

    pub takes_joined : (after : Taking) (k : Known) → after.pairs ≡ a → k ≡ before.known → after.known ≡ record k { since = set k.since c price } → IsTakenNow o c price before after false
    takes_joined after k pairs same known = rw (known, same, pairs) (record {
      taken = record {
        taken = joined_at a G T ok since h.before.beside.standing (price_in o) c price h.live h.cheap low h.before.taken joins;
        held = h.before.held;
        bounded = bounded_after price since more h.cheap added_one h.before.bounded;
        beside = record {
          count = length-set since c price ∙ h.before.beside.count;
          standing = StandsWithKnown-more G T since more still a h.before.beside.standing;
          flags = record {
            touched = AreTouchedByKnown-more G T since more still before.known.touched h.before.beside.flags.touched;
            fronts = AreFrontsOfKnown-more G T since more still before.known.fronts h.before.beside.flags.fronts;
          };
        };
      };
      chosen = chosen_by G T (price_in o) c false h.live (joined_not_raising a G T ok since h.before.beside.standing N c h.before.taken lives out h.live joins);
      added = added_one;
    })
