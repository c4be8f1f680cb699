use Rattle.std.proofs.Common.{◌∷◌, ◌+◌, [], None, Some, drop, get_or, refl, sym, ◌∙◌, arith}
use Rattle.std.proofs.lemmas.List.{drop_all, drop_more}
use Rattle.obs_cert.specs.inner.Contractions.{contracted_ends}
use Rattle.obs_cert.proofs.JoinLemmas.{IsJoining, joining_end, joining_none, joining_one}
use Rattle.obs_cert.proofs.joins.join_all.Goals as goal
use Rattle.obs_cert.proofs.joins.join_all.Goals.{in-Some, in_default, In-loop-e}

pub loop-e-init : goal.loop-e-init
loop-e-init c = joining_none (contracted_ends c.args.contraction c.args.g.now.ends) c.args.positions.now c.args.ups.now c.args.moved.now c.args.count c.requires.ways.fits

here : (c : In-loop-e) → IsJoining (contracted_ends c.args.contraction c.args.g.now.ends) (get_or c.args.positions.now c.loop-e.e-index 0 ∷ drop (c.loop-e.e-index + 1) c.args.positions.now) c.args.positions.now
    c.args.ups.now c.args.moved.now c.args.count c.loop-e.ups c.loop-e.moved c.loop-e.count
here c = rw (sym (drop_more c.args.positions.now c.loop-e.e-index 0 c.loop-e-test.true)) c.loop-e.invariant

pub join-count-requires : goal.join-count-requires
join-count-requires c =
    let i = c.loop-e.invariant in
    let q = i.joined c.requires.ways.joined.0 c.requires.ways.joined.1 in
    let r = c.in-Some.ensures.in_range in
    record {
      ways = record { joined = (q.0, q.1); room = omega (arith, i.ups_len, i.moved_len, c.requires.ways.room); fits = i.fits };
      a = omega (arith, r.0, i.ups_len, c.requires.vertices);
      b = omega (arith, r.1, i.ups_len, c.requires.vertices);
    }

pub loop-e-preserved : goal.loop-e-preserved
loop-e-preserved c =
    let i = here (goal.at.loop-e-preserved c).In-loop-e in
    let p = get_or c.args.positions.now c.loop-e.e-index 0 in
    let left = drop (c.loop-e.e-index + 1) c.args.positions.now in
    elim c.match-contracted_ends.branch [
      | in-Some w ↦ rw (w.ups-is, w.moved-is, w.count-is)
          (joining_one (contracted_ends c.args.contraction c.args.g.now.ends) p left c.args.positions.now c.args.ups.now c.args.moved.now c.args.count c.loop-e.ups c.loop-e.moved c.loop-e.count (Some w.in-Some.ends)
          w.join-count.new.ups w.join-count.new.moved w.join-count.result i (sym w.in-Some.ensures.ends) w.join-count.ensures.count w.join-count.auto.ups w.join-count.auto.moved w.join-count.ensures.joined)
      | in_default w ↦ rw (w.ups-is, w.moved-is, w.count-is)
          (joining_one (contracted_ends c.args.contraction c.args.g.now.ends) p left c.args.positions.now c.args.ups.now c.args.moved.now c.args.count c.loop-e.ups c.loop-e.moved c.loop-e.count None
          c.loop-e.ups c.loop-e.moved c.loop-e.count i (sym c.contracted_ends.ensures.ends ∙ w.in_default.is) i.fits refl refl (λ es j. j))
    ]

pub returns : goal.returns
returns c =
    let l = c.loop-e in
    let all = c.args.positions.now in
    let i : IsJoining (contracted_ends c.args.contraction c.args.g.now.ends) [] all c.args.ups.now c.args.moved.now c.args.count l.ups l.moved l.count = rw (sym (drop_all l.e-index all c.loop-e-test.false)) l.invariant in
    record { joined = joining_end (contracted_ends c.args.contraction c.args.g.now.ends) all c.args.ups.now c.args.moved.now c.args.count l.ups l.moved l.count i; count = i.fits }
