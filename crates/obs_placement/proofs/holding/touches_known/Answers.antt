use Rattle.std.proofs.Common.{◌≤◌, ℕ, List, get_or, subst, sym}
use Rattle.std.proofs.lemmas.Bool.{leb-true}
use Rattle.obs_meter.specs.declared.Touch.TheVariants.{Nothing}
use Rattle.obs_meter.proofs.Touched.{touched-hub}
use Rattle.obs_placement.proofs.Flagged.{known_front}
use Rattle.obs_placement.proofs.holding.touches_known.Goals as goal

pub returns-in-Some : goal.returns-in-Some
returns-in-Some c =
    let g = c.args.offer.now.graph.now in
    let touches = c.args.offer.now.items.now.touches in
    let known = c.args.known.now in
    let h = c.in-Some.h in
    record {
      known = λ t.
          let l = leb-true h.count (get_or c.fronts.result.now h.vertex 0) t in
          known_front g touches known.since known.fronts c.args.m h c.requires.flags.fronts (touched-hub g.ends (get_or touches c.args.m Nothing) h (sym c.in-Some.ensures.hub))
          (subst (λ (xs : List ℕ). h.count ≤ get_or xs h.vertex 0) c.fronts.ensures.fronts l);
    }
