use Rattle.std.proofs.Common.{◌≡◌, ◌<◌, List, ℕ, Bool, true, false, length, set, ap, ◌∙◌, inl, inr, arith}
use Rattle.std.specs.Prelude.{nat_lt}
use Rattle.std.proofs.lemmas.Bool.{cases_Bool}
use Rattle.std.proofs.lemmas.List.{length-set}
use Rattle.obs_matroid.proofs.Lists.{clash}
use Rattle.obs_assign.specs.inner.Assignment.{is_frozen}
use Rattle.obs_placement.specs.inner.Holding.{Known}
use Rattle.obs_placement.specs.inner.Taking.{is_known, never}
use Rattle.obs_placement.proofs.Flagged.{AreFrontsOfKnown-more, AreTouchedByKnown-more, set_added, set_known, still_known}
use Rattle.obs_placement.proofs.holding.keep_item.Goals as goal
use Rattle.obs_placement.proofs.holding.keep_item.Goals.{then-not-mark_front, else-not-mark_front}

pub mark_front-requires-clause-flags : goal.mark_front-requires-clause-flags
mark_front-requires-clause-flags g c =
    let r = c.requires in
    let graph = c.args.offer.now.graph.now in
    let touches = c.args.offer.now.items.now.touches in
    let before = c.args.known.now.since in
    let after = set before c.args.m c.args.price in
    let flags = r.beside.flags in
    let low : c.args.m < length before = omega (arith, r.m, r.beside.count) in
    let still = still_known c.args.price before after r.price (set_added c.args.price before c.args.m low r.unknown) in
    rw c.set.ensures.set (record {
      touched = AreTouchedByKnown-more graph touches before after still c.args.known.now.touched flags.touched;
      fronts = AreFrontsOfKnown-more graph touches before after still c.args.known.now.fronts flags.fronts;
    })

pub set-requires : goal.set-requires
set-requires g c = record { m = omega (arith, c.requires.m, c.requires.beside.count) }

pub mark_front-requires-clause-offer : goal.mark_front-requires-clause-offer
mark_front-requires-clause-offer g c = c.requires.offer

pub mark_front-requires-clause-m : goal.mark_front-requires-clause-m
mark_front-requires-clause-m g c = c.requires.m

pub mark_touched-requires-clause-offer : goal.mark_touched-requires-clause-offer
mark_touched-requires-clause-offer g c = c.requires.offer

pub mark_touched-requires-clause-m : goal.mark_touched-requires-clause-m
mark_touched-requires-clause-m g c = c.requires.m

pub mark_touched-requires-clause-flags : goal.mark_touched-requires-clause-flags
mark_touched-requires-clause-flags g c = c.mark_front.ensures.flags

pub freeze-requires-clause-offer : goal.freeze-requires-clause-offer
freeze-requires-clause-offer g c = c.requires.offer

pub freeze-requires-clause-m : goal.freeze-requires-clause-m
freeze-requires-clause-m g c = c.requires.m

pub freeze-requires-clause-stands : goal.freeze-requires-clause-stands
freeze-requires-clause-stands g c = c.requires.beside.standing.stands

pub freeze-requires-clause-whole : goal.freeze-requires-clause-whole
freeze-requires-clause-whole g c = c.requires.beside.standing.whole

pub returns-clause-slots : goal.returns-clause-slots
returns-clause-slots g c = c.freeze.ensures.slots

pub returns-clause-same_room : goal.returns-clause-same_room
returns-clause-same_room g c = c.freeze.ensures.same_room

pub mark_front-requires-clause-is_known : goal.mark_front-requires-clause-is_known
mark_front-requires-clause-is_known g c =
    let low : c.args.m < length c.args.known.now.since = omega (arith, c.requires.m, c.requires.beside.count) in
    rw c.set.ensures.set (set_known c.args.price c.args.known.now.since c.args.m low c.requires.price)

pub mark_touched-requires-clause-is_known : goal.mark_touched-requires-clause-is_known
mark_touched-requires-clause-is_known g c =
    let before = c.args.known.now.since in
    let low : c.args.m < length before = omega (arith, c.requires.m, c.requires.beside.count) in
    let same : c.mark_front.new.known.since ≡ set before c.args.m c.args.price = ap (λ (k : Known). k.since) c.mark_front.ensures.only_fronts ∙ ap (λ (k : Known). k.since) c.set.ensures.set in
    ap (λ (s : List ℕ). is_known s c.args.m) same ∙ set_known c.args.price before c.args.m low c.requires.price

-- an item that isn't known isn't frozen
not_frozen : (frozen known : Bool) → (frozen ≡ true → known ≡ true) → known ≡ false → frozen ≡ false
not_frozen frozen known h e = elim (cases_Bool frozen) [ inl t ↦ clash (h t) e | inr f ↦ f ]

pub freeze-requires-clause-thawed : goal.freeze-requires-clause-thawed
freeze-requires-clause-thawed g c =
    not_frozen (is_frozen c.args.pairs.now c.args.m) (is_known c.args.known.now.since c.args.m) (c.requires.beside.standing.frozen c.args.m) (ap (λ (s : ℕ). nat_lt s never) c.requires.unknown)

pub returns-clause-since : goal.returns-clause-since
returns-clause-since g c =
    let since = λ (k : Known). k.since in
    let marked = ap since c.mark_front.ensures.only_fronts ∙ ap since c.set.ensures.set in
    elim c.if-not-mark_front.branch [
      | then-not-mark_front w ↦ rw w.known-is (ap since w.mark_touched.ensures.only_touched ∙ marked)
      | else-not-mark_front w ↦ rw w.known-is marked
    ]

pub returns-clause-same_sizes : goal.returns-clause-same_sizes
returns-clause-same_sizes g c =
    let sizes = λ (k : Known). k.sizes in
    let marked = ap sizes c.mark_front.ensures.only_fronts ∙ ap sizes c.set.ensures.set in
    elim c.if-not-mark_front.branch [
      | then-not-mark_front w ↦ rw w.known-is (ap sizes w.mark_touched.ensures.only_touched ∙ marked)
      | else-not-mark_front w ↦ rw w.known-is marked
    ]

pub returns-clause-beside : goal.returns-clause-beside
returns-clause-beside g c =
    let r = c.requires in
    let before = c.args.known.now.since in
    let m = c.args.m in
    let since = returns-clause-since g c in
    let low : m < length before = omega (arith, r.m, r.beside.count) in
    let known : (x : ℕ) → is_known (set before m c.args.price) x ≡ true → is_known c.if-not-mark_front.known.since x ≡ true = λ x k. ap (λ (s : List ℕ). is_known s x) since ∙ k in
    record {
      count = ap length since ∙ (length-set before m c.args.price ∙ r.beside.count);
      standing = record {
        stands = c.freeze.ensures.stands;
        whole = c.freeze.ensures.whole;
        frozen = λ x t. elim (c.freeze.ensures.frozen x t) [
          | inl e ↦ known x (ap (is_known (set before m c.args.price)) e ∙ set_known c.args.price before m low r.price)
          | inr f ↦ known x (still_known c.args.price before (set before m c.args.price) r.price (set_added c.args.price before m low r.unknown) x (r.beside.standing.frozen x f))
        ];
      };
      flags = elim c.if-not-mark_front.branch [
        | then-not-mark_front w ↦ rw w.known-is w.mark_touched.ensures.flags
        | else-not-mark_front w ↦ rw w.known-is c.mark_front.ensures.flags
      ];
    }
