use Rattle.std.proofs.Common.{◌≡◌, ◌+◌, ◌<◌, ◌≤◌, false, eqb, ◌∷◌, ◌++◌, [], length, take, set, ap, ◌∙◌, arith}
use Rattle.std.proofs.lemmas.Bool.{ne_eqb}
use Rattle.std.proofs.lemmas.List.{length-take-le, take_more_set}
use Rattle.obs_script.specs.inner.Gathered.{Holds, most_held}
use Rattle.obs_script.proofs.HeldLemmas.{held_grows, held_stays}
use Rattle.obs_script.proofs.gather.Gather.feed.Goals as goal

pub returns-then-self-lt-ROOM-clause-added : goal.returns-then-self-lt-ROOM-clause-added
returns-then-self-lt-ROOM-clause-added c = λ line holds.
    let byte = c.args.byte in
    let held = take c.self.inside.len c.self.inside.room in
    let other : eqb byte 0x0A ≡ false = ne_eqb byte 0x0A c.if-byte-eq-LINE_FEED.false in
    let here : Holds held line = c.self.view_is ∙ holds in
    let few : length held < most_held = omega (arith, length-take-le c.self.inside.len c.self.inside.room (omega arith)) in
    let grown : take (c.self.inside.len + 1) (set c.self.inside.room c.self.inside.len byte) ≡ held ++ byte ∷ [] = take_more_set c.self.inside.room c.self.inside.len byte (omega arith) in
    rw other (grown ∙ held_grows held line byte here few)

pub returns-else-self-lt-ROOM-clause-added : goal.returns-else-self-lt-ROOM-clause-added
returns-else-self-lt-ROOM-clause-added c = λ line holds.
    let byte = c.args.byte in
    let other : eqb byte 0x0A ≡ false = ne_eqb byte 0x0A c.if-byte-eq-LINE_FEED.false in
    let full : most_held ≤ length c.args.self.now =
    omega (arith, ap length c.self.view_is, length-take-le c.self.inside.len c.self.inside.room (omega arith)) in
    rw other (held_stays c.args.self.now line byte holds full)
