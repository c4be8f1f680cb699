use Rattle.std.proofs.Common.{◌≡◌, ◌∙◌, Some, List, Option, length, ap, subst}
use Rattle.std.specs.Prelude.{slice_index_or, None}
use Rattle.obs_graph.specs.declared.Ends.{Ends}
use Rattle.obs_graph.specs.inner.Search.{IsRooted}
use Rattle.obs_graph.proofs.Present.{present_low}
use Rattle.obs_graph.proofs.Stored.{written_back}
use Rattle.obs_meter.specs.declared.Touch.{Touch}
use Rattle.obs_meter.proofs.Touched.{touched-present}
use Rattle.obs_repair.proofs.ClosedParts.{bounding-closed}
use Rattle.obs_repair.proofs.parts.Parts.renew.Goals as goal

pub hold_own-requires-clause-low : goal.hold_own-requires-clause-low
hold_own-requires-clause-low c m e is =
    let s = c.requires.longest.stands in
    present_low c.args.g.now.ends e (touched-present c.args.g.now.ends (slice_index_or c.args.ms.now.touches m Touch.Nothing) e (s.touched m e is))

pub reach_all-requires-clause-part : goal.reach_all-requires-clause-part
reach_all-requires-clause-part c p e is =
    let held = c.hold_own.new.held in
    let same : length held ≡ length c.self.inside.held.items = c.hold_own.ensures.one_each ∙ ap (λ (xs : List (Option Ends)). length xs) c.deref_mut.ensures.value in
    let back = written_back c.self.inside.held.len held c.self.inside.held.items same c.self.inside.held.ok.0 in
    ((c.hold_own.ensures.held p e).0 (subst (λ (xs : List (Option Ends)). slice_index_or xs p None ≡ Some e) (c.deref.ensures.value ∙ back) is)).0

pub returns-clause-bound : goal.returns-clause-bound
returns-clause-bound c =
    let held = c.hold_own.new.held in
    let same : length held ≡ length c.self.inside.held.items = c.hold_own.ensures.one_each ∙ ap (λ (xs : List (Option Ends)). length xs) c.deref_mut.ensures.value in
    let back = written_back c.self.inside.held.len held c.self.inside.held.items same c.self.inside.held.ok.0 in
    let longest = c.requires.longest in
    bounding-closed c.args.g.now c.args.ms.now.touches c.args.a.now c.args.reached.now held c.reach_all.new.search c.requires.branches longest.whole longest.stands longest.thawed c.requires.closed
    c.hold_own.ensures.held (subst (λ (xs : List (Option Ends)). IsRooted c.args.g.now.vertices xs c.reach_all.new.search) (c.deref.ensures.value ∙ back) c.reach_all.ensures.rooted)

pub reach_all-requires-clause-few : goal.reach_all-requires-clause-few
reach_all-requires-clause-few c = c.requires.few
