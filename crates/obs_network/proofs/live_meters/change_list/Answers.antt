use Rattle.std.proofs.Common.{◌+◌, ◌∙◌, arith}
use Rattle.std.proofs.lemmas.List.{length-take-le}
use Rattle.obs_network.proofs.Regrouped.{front_of, groups_before, groups_within, low_after}
use Rattle.obs_network.proofs.live_meters.change_list.Goals as goal

pub regroup-requires-clause-groups : goal.regroup-requires-clause-groups
regroup-requires-clause-groups c = groups_within _ _ _ c.args.last c.requires.lists c.requires.groups

pub returns-clause-lists : goal.returns-clause-lists
returns-clause-lists c =
    front_of c.args.meters c.regroup.new.keys _ (c.regroup.auto.keys ∙ length-take-le c.args.meters c.args.lists.now c.requires.fits) ∙ c.regroup.ensures.keys

pub returns-clause-below : goal.returns-clause-below
returns-clause-below c =
    low_after c.args.meters c.args.last c.args.m c.args.list c.regroup.new.keys _ c.args.lists.now c.requires.fits c.regroup.ensures.keys c.requires.list c.requires.meter c.requires.below

pub returns-clause-groups : goal.returns-clause-groups
returns-clause-groups c =
    let starts = length-take-le (c.args.last + 1) c.args.starts.now (omega (arith, c.requires.lists)) in
    groups_before c.args.meters c.args.last _ c.regroup.new.keys _ c.regroup.new.members c.regroup.new.starts _
    (c.regroup.auto.keys ∙ length-take-le c.args.meters c.args.lists.now c.requires.fits) (omega (arith, c.regroup.auto.starts, starts)) (omega (arith, starts)) c.regroup.ensures.groups
