use Rattle.std.proofs.Common.{◌∙◌}
use Rattle.obs_first.proofs.Going.{IsMoved-on}
use Rattle.obs_first.proofs.trying.wins_near.Goals as goal
use Rattle.obs_first.proofs.trying.wins_near.Goals.{in-Some+else-can_begin, else-can_begin-via-then-can_begin+else-wins, else-can_begin-via-else-can_begin, in_default}

pub loop-k-preserved : goal.loop-k-preserved
loop-k-preserved g c = let i = c.loop-k.invariant in elim c.match-near.branch [
  | in-Some+else-can_begin w ↦ elim w.else-can_begin.branch [
    | else-can_begin-via-then-can_begin+else-wins v ↦ rw (w.a-is, v.a-is, w.work-is, v.work-is) (record {
      same = v.if-wins.ensures.won.same ∙ i.same;
      moved = λ long p. let h = i.moved long p in IsMoved-on _ _ _ _ _ _ _ _ long h (v.wins.ensures.moved long h.goes_on.ready);
    })
    | else-can_begin-via-else-can_begin v ↦ rw (w.a-is, v.a-is, w.work-is, v.work-is) (record { same = i.same; moved = i.moved })
  ]
  | in_default w ↦ rw (w.a-is, w.work-is) (record { same = i.same; moved = i.moved })
]

pub wins-requires-clause-ready : goal.wins-requires-clause-ready
wins-requires-clause-ready g c = let p = c.requires.ready in (p.0, (c.loop-k.invariant.moved p.0 p.1).goes_on.ready)

pub returns-then-wins-clause-moved : goal.returns-then-wins-clause-moved
returns-then-wins-clause-moved g c = λ long p. let h = c.loop-k.invariant.moved long p in IsMoved-on _ _ _ _ _ _ _ _ long h (c.wins.ensures.moved long h.goes_on.ready)
