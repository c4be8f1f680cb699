use Rattle.std.proofs.Common.{◌≡◌, ◌+◌, ◌∙◌, length, map, sym, ap, arith}
use Rattle.obs_meter.specs.Held.{Meters}
use Rattle.obs_network.specs.Network.{Network, case_offered}
use Rattle.obs_network.proofs.OfCase.{length-case_offered}
use Rattle.std.specs.List.{range_with_len}
use Rattle.obs_cert.specs.inner.Keys.{key_of}
use Rattle.obs_cert.proofs.KeyLemmas.{written_all, written_more, written_none}
use Rattle.obs_cert.proofs.keys.write_keys.Goals as goal
use Rattle.obs_cert.proofs.keys.write_keys.Goals.{After-count-m-end}

-- as many items as keys
all : (c : After-count-m-end) → c.count-m-end.result ≡ length c.args.present.now.meters + length c.args.present.now.candidates
all c =
    let t = c.args.present.now in
    let e : length c.offered.result.now.touches ≡ length (case_offered t) = ap (λ (i : Meters). length i.touches) (c.offered.ensures.offered ∙ ap (λ (n : Network). n.offered) c.network-network.ensures.network) in
    omega (arith, e, c.count-m-end.ensures.count, length-case_offered t)

pub returns : goal.returns
returns c =
    let t = c.args.present.now in
    record {
      keys = written_all (key_of t) (length t.meters + length t.candidates) c.loop-m.m c.loop-m.keys (omega (arith, c.loop-m-test.false, c.loop-m.auto.m-end, all (goal.at.returns c).After-count-m-end)) c.loop-m.invariant
          ∙ ap (λ n. map (key_of t) (range_with_len 0 n)) (sym (length-case_offered t));
      valid = c.network-network.ensures.valid;
    }

pub loop-m-init : goal.loop-m-init
loop-m-init c = let t = c.args.present.now in written_none (key_of t) (length t.meters + length t.candidates) c.args.keys.now c.requires.room

pub loop-m-preserved : goal.loop-m-preserved
loop-m-preserved c =
    let t = c.args.present.now in
    written_more (key_of t) (length t.meters + length t.candidates) c.loop-m.m c.key_of.result c.loop-m.keys (omega (arith, c.loop-m-test.true, c.loop-m.auto.keys, c.requires.room, all (goal.at.loop-m-preserved c).After-count-m-end)) c.key_of.ensures.key c.loop-m.invariant

pub bounds-keys-m : goal.bounds-keys-m
bounds-keys-m c = omega (arith, c.loop-m-test.true, c.loop-m.auto.keys, c.requires.room, all (goal.at.bounds-keys-m c).After-count-m-end)
