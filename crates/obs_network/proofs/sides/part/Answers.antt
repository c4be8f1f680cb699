use Rattle.std.proofs.Common.{◌≡◌, Some, None, get_or, take, sym, ◌∙◌, arith}
use Rattle.std.proofs.lemmas.List.{get_or-take, get_or_default}
use Rattle.obs_network.specs.inner.Sides.{rows_but}
use Rattle.obs_network.proofs.FoundSides.{AreClear-after, leads_apart, queued_below, walked_parts}
use Rattle.obs_graph.specs.declared.Ends.{Ends}
use Rattle.obs_network.proofs.sides.part.Goals as goal

pub returns-clause-clear : goal.returns-clause-clear
returns-clause-clear c =
    let g = c.args.g.now in
    let s = c.spread-walked in
    AreClear-after g.vertices (rows_but g.ends c.args.rows c.args.e) s.new.labels c.end_with_fewer-one.result c.other-there.result s.new.queue s.new.queue_there s.result s.ensures.walked
    c.clear.new.labels c.clear-2.new.labels c.clear.ensures.cleared c.clear.ensures.kept c.clear-2.ensures.cleared c.clear-2.ensures.kept

pub returns-clause-parted : goal.returns-clause-parted
returns-clause-parted c =
    let g = c.args.g.now in
    let s = c.spread-walked in
    let ends = c.in-Some.ends in
    let leads = c.other-there.ensures.other in
    let is : get_or (take c.args.rows g.ends) c.args.e None ≡ Some ends =
    get_or-take c.args.rows g.ends c.args.e None c.requires.row ∙ (get_or_default g.ends c.args.e None (Some ends) (omega (arith, c.requires.row, c.requires.rows)) ∙ sym c.in-Some.ensures.ends) in
    walked_parts g.vertices (take c.args.rows g.ends) c.args.e s.new.labels c.end_with_fewer-one.result c.other-there.result s.new.queue s.new.queue_there s.result s.ensures.walked
    (leads_apart ends c.end_with_fewer-one.result c.other-there.result leads c.in-Some.ensures.in_range.2) ends is leads s.ensures.ended c.keep.result c.keep.new.queue c.keep.ensures.kept

pub clear-requires : goal.clear-requires
clear-requires c =
    let s = c.spread-walked in
    let here = s.ensures.walked.here in
    record { places = queued_below c.args.g.now.vertices _ s.result.tail s.new.queue here.few here.below (omega (arith, c.requires.room, s.auto.labels)) }

pub clear-requires-2 : goal.clear-requires-2
clear-requires-2 c =
    let s = c.spread-walked in
    let there = s.ensures.walked.there in
    record { places = queued_below c.args.g.now.vertices _ s.result.tail_there s.new.queue_there there.few there.below (omega (arith, c.requires.room, s.auto.labels, c.clear.auto.labels)) }

pub keep-requires-clause-room : goal.keep-requires-clause-room
keep-requires-clause-room c = c.spread-walked.ensures.walked.here.few

pub keep-requires-clause-room_there : goal.keep-requires-clause-room_there
keep-requires-clause-room_there c =
    let s = c.spread-walked in
    omega (arith, s.ensures.walked.there.few, s.auto.queue, s.auto.queue_there, c.requires.places, c.requires.places_there)

pub keep-requires-clause-places : goal.keep-requires-clause-places
keep-requires-clause-places c =
    let s = c.spread-walked in
    s.auto.queue ∙ (c.requires.places ∙ (sym c.requires.places_there ∙ sym s.auto.queue_there))

none_some : {P : Type 0} (x : Ends) → Some x ≡ None → P
none_some x clash = cc

pub returns-in_default-clause-parted : goal.returns-in_default-clause-parted
returns-in_default-clause-parted c = λ x is.
    none_some x (sym is ∙ (get_or-take c.args.rows c.args.g.now.ends c.args.e None c.requires.row ∙ sym c.in_default.ensures.ends))
