use Rattle.std.proofs.Common.{◌≡◌, ◌∷◌, ◌+◌, [], ℕ, List, not, eqb, sym, ap, ◌∙◌, subst, inl, inr, arith}
use Rattle.std.proofs.lemmas.List.{length-map}
use Rattle.obs_matroid.specs.Assignments.{branches}
use Rattle.obs_cert.specs.Claims.{Pair}
use Rattle.obs_cert.specs.Numbered.{pair_of, pairs_of}
use Rattle.obs_cert.proofs.JoinLemmas.{IsJoining, joining_end, joining_some}
use Rattle.obs_cert.proofs.PairLemmas.{IsPairing, pairing_cycle, pairing_grows, pairing_none, pairing_stays}
use Rattle.obs_cert.proofs.pairs.join_pairs.Goals as goal
use Rattle.obs_cert.proofs.pairs.join_pairs.Goals.{After-join_one-joined, In-None}

pub loop-pair-init : goal.loop-pair-init
loop-pair-init c = rw c.into_iter-pair-iterator.ensures.into_iter_gives (pairing_none c.args.g.now.ends (branches (pairs_of c.args.case.now c.args.pairs)) c.args.ups.now c.args.moved.now)

pub join_one-joined-requires-clause-ways : goal.join_one-joined-requires-clause-ways
join_one-joined-requires-clause-ways c =
    let i = c.loop-pair.invariant.joining in
    let q = i.joined [] c.requires.free.clear in
    record { joined = (q.0, q.1); room = omega (arith, i.ups_len, i.moved_len, c.requires.free.room); fits = i.fits }

pub join_one-joined-requires-clause-vertices : goal.join_one-joined-requires-clause-vertices
join_one-joined-requires-clause-vertices c = let i = c.loop-pair.invariant.joining in omega (arith, i.ups_len, c.requires.free.vertices)

before : (c : After-join_one-joined) → IsPairing c.args.g.now.ends (c.branch_of.result ∷ branches (pairs_of c.args.case.now c.next.new.self)) (branches (pairs_of c.args.case.now c.args.pairs))
    c.args.ups.now c.args.moved.now c.loop-pair.ups c.loop-pair.moved c.loop-pair.count c.loop-pair.cycle
before c =
    let l = c.loop-pair in
    rw c.branch_of.ensures.position
    (subst (λ (is : List Pair). IsPairing c.args.g.now.ends (branches (pairs_of c.args.case.now is)) (branches (pairs_of c.args.case.now c.args.pairs))
    c.args.ups.now c.args.moved.now l.ups l.moved l.count l.cycle) c.in-Some.ensures.steps l.invariant)

after : (c : After-join_one-joined) → IsJoining c.args.g.now.ends (branches (pairs_of c.args.case.now c.next.new.self)) (branches (pairs_of c.args.case.now c.args.pairs))
    c.args.ups.now c.args.moved.now 0 c.join_one-joined.new.ups c.join_one-joined.new.moved c.join_one-joined.result
after c =
    let l = c.loop-pair in
    let j = c.join_one-joined in
    joining_some c.args.g.now.ends (c.branch_of.result ∷ []) (branches (pairs_of c.args.case.now c.next.new.self)) (branches (pairs_of c.args.case.now c.args.pairs))
    c.args.ups.now c.args.moved.now 0 l.ups l.moved l.count j.new.ups j.new.moved j.result (before c).joining j.ensures.count j.auto.ups j.auto.moved j.ensures.joined

pub loop-pair-preserved-then-joined-count : goal.loop-pair-preserved-then-joined-count
loop-pair-preserved-then-joined-count c =
    let here = (goal.at.loop-pair-preserved-then-joined-count c).After-join_one-joined in
    let l = c.loop-pair in
    let j = c.join_one-joined in
    rw c.if-joined-count.true
    (pairing_stays c.args.g.now.ends c.branch_of.result (branches (pairs_of c.args.case.now c.next.new.self)) (branches (pairs_of c.args.case.now c.args.pairs))
    c.args.ups.now c.args.moved.now l.ups l.moved l.count l.cycle (before here) j.new.ups j.new.moved (rw (sym c.if-joined-count.true) (after here)))

pub loop-pair-preserved : goal.loop-pair-preserved
loop-pair-preserved c =
    let here = (goal.at.loop-pair-preserved c).After-join_one-joined in
    let l = c.loop-pair in
    let j = c.join_one-joined in
    let one : j.result ≡ l.count + 1 = elim j.ensures.one [ inl e ↦ absurd (c.if-joined-count.false e) | inr e ↦ e ] in
    rw one
    (pairing_grows c.args.g.now.ends c.branch_of.result (branches (pairs_of c.args.case.now c.next.new.self)) (branches (pairs_of c.args.case.now c.args.pairs))
    c.args.ups.now c.args.moved.now l.ups l.moved l.count l.cycle (before here) j.new.ups j.new.moved (rw (sym one) (after here)))

all_paired : (c : In-None) → IsPairing c.args.g.now.ends [] (branches (pairs_of c.args.case.now c.args.pairs)) c.args.ups.now c.args.moved.now c.loop-pair.ups c.loop-pair.moved c.loop-pair.count c.loop-pair.cycle
all_paired c =
    let l = c.loop-pair in
    subst (λ (is : List Pair). IsPairing c.args.g.now.ends (branches (pairs_of c.args.case.now is)) (branches (pairs_of c.args.case.now c.args.pairs)) c.args.ups.now c.args.moved.now l.ups l.moved l.count l.cycle) c.in-None.ensures.steps l.invariant

pub returns-clause-joined : goal.returns-clause-joined
returns-clause-joined c =
    let l = c.loop-pair in
    joining_end c.args.g.now.ends (branches (pairs_of c.args.case.now c.args.pairs)) c.args.ups.now c.args.moved.now 0 l.ups l.moved l.count (all_paired c).joining [] c.requires.free.clear

pub returns-clause-count : goal.returns-clause-count
returns-clause-count c = c.loop-pair.invariant.joining.fits

pub returns-clause-cycle : goal.returns-clause-cycle
returns-clause-cycle c =
    let l = c.loop-pair in
    let t = c.args.case.now in
    pairing_cycle c.args.g.now.ends (branches (pairs_of t c.args.pairs)) c.args.ups.now c.args.moved.now l.ups l.moved l.count l.cycle (all_paired c)
    ∙ ap (λ (k : ℕ). not (eqb l.count k)) (length-map (pairs_of t c.args.pairs) (λ p. p.1) ∙ length-map c.args.pairs (pair_of t))
