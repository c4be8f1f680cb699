use Rattle.std.proofs.Common.{◌≡◌, ◌-◌, ◌<◌, ℕ, Option, None, IfSome, List, length, set, take, sym, ap, ◌∙◌, subst, arith}
use Rattle.std.proofs.Math.Seq.{take-set-lt}
use Rattle.std.proofs.lemmas.List.{set-set}
use Rattle.std.proofs.lemmas.List.Elements.{All-set}
use Rattle.obs_graph.specs.declared.Ends.{Ends}
use Rattle.obs_graph.specs.inner.Positions.{AreParts, AreStarts}
use Rattle.obs_graph.proofs.setting.set_branch.Goals as goal

-- the branches without the one at e are the same before and after
same_others : (n : ℕ) (bs : List (Option Ends)) (e : ℕ) (after : Option Ends) → e < n → set (take n bs) e None ≡ set (take n (set bs e after)) e None
same_others n bs e after l = sym (ap (λ (rows : List (Option Ends)). set rows e None) (take-set-lt n bs e after l) ∙ set-set (take n bs) e after None)

pub bring_in-requires-clause-starts : goal.bring_in-requires-clause-starts
bring_in-requires-clause-starts c =
    subst (λ rows. AreStarts (length c.take_away.new.starts) rows c.take_away.new.starts) (same_others c.args.count c.args.branches.now c.args.e c.args.ends c.requires.e) (λ v l. c.take_away.ensures.starts v (let long = c.take_away.auto.starts in omega arith))

pub bring_in-requires-clause-parts : goal.bring_in-requires-clause-parts
bring_in-requires-clause-parts c =
    subst (λ rows. AreParts (length c.take_away.new.starts - 1) rows c.take_away.new.at) (same_others c.args.count c.args.branches.now c.args.e c.args.ends c.requires.e) (λ v l. c.take_away.ensures.parts v (let long = c.take_away.auto.starts in omega arith))

pub take_away-requires-clause-starts : goal.take_away-requires-clause-starts
take_away-requires-clause-starts c = c.requires.starts

pub take_away-requires-clause-parts : goal.take_away-requires-clause-parts
take_away-requires-clause-parts c = c.requires.parts

pub take_away-requires-clause-branches : goal.take_away-requires-clause-branches
take_away-requires-clause-branches c = c.requires.branches

pub returns-clause-starts : goal.returns-clause-starts
returns-clause-starts c = λ v l. c.bring_in.ensures.starts v (let long = c.take_away.auto.starts in omega arith)

pub returns-clause-parts : goal.returns-clause-parts
returns-clause-parts c = λ v l. c.bring_in.ensures.parts v (let long = c.take_away.auto.starts in omega arith)

pub bring_in-requires-clause-branches : goal.bring_in-requires-clause-branches
bring_in-requires-clause-branches c =
    let In : Option Ends → Type 0 = λ o. IfSome o (λ x. (x.a < length c.args.starts.now - 1) × (x.b < length c.args.starts.now - 1) × (x.a ≡ x.b → ⊥)) in
    rw (c.take_away.auto.starts, take-set-lt c.args.count c.args.branches.now c.args.e c.args.ends c.requires.e)
    (All-set In (take c.args.count c.args.branches.now) c.args.e c.args.ends c.requires.ends c.requires.branches)
