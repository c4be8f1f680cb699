use Rattle.std.proofs.Common.{◌∙◌, ap, filter, length, List, ℕ, arith}
use Rattle.std.specs.Prelude.{is_some}
use Rattle.obs_assign.specs.inner.Assignment.{branch_at}
use Rattle.obs_network.specs.inner.Located.{live_meters_of}
use Rattle.obs_network.specs.Network.{Network}
use Rattle.obs_repair.proofs.Bounded.{count_of_pairs, few_in_component}
use Rattle.obs_repair.proofs.Enough.{enough_observable}
use Rattle.obs_network.proofs.OfCase.{count_of, length-case_meters, need_from}
use Rattle.obs_repair.proofs.OfNetwork.{few_meters}
use Rattle.obs_repair.proofs.counted.has_enough.Goals as goal

pub live_meters-requires : goal.live_meters-requires
live_meters-requires c = record {
  component = let low = c.requires.component in let n = count_of c.network-network.result.now c.args.present.now c.network-network.ensures.network in omega (arith, low, n);
}

pub count_paired-requires-clause-few : goal.count_paired-requires-clause-few
count_paired-requires-clause-few c =
    let e = ap (λ (xs : List ℕ). length xs) (c.live_meters.ensures.meters ∙ ap (λ (n : Network). live_meters_of n c.args.c) c.network-network.ensures.network) in
    let f = few_in_component c.args.present.now c.args.c in
    let m = few_meters c.args.present.now c.network-network.ensures.valid in
    let l = length-case_meters c.args.present.now in
    omega (arith, e, f, m, l)

pub need-requires : goal.need-requires
need-requires c = record {
  component = let low = c.requires.component in let n = count_of c.network-network.result.now c.args.present.now c.network-network.ensures.network in omega (arith, low, n);
}

pub returns : goal.returns
returns c =
    let t = c.args.present.now in
    let same = c.live_meters.ensures.meters ∙ ap (λ (n : Network). live_meters_of n c.args.c) c.network-network.ensures.network in
    let count = count_of_pairs t c.network-network.ensures.valid c.args.a.now c.requires.longest c.args.c c.count_paired.result
    (c.count_paired.ensures.count ∙ ap (λ (xs : List ℕ). length (filter (λ m. is_some (branch_at c.args.a.now m)) xs)) same) in
    record {
      observable =
          enough_observable t c.network-network.ensures.valid c.args.a.now c.requires.longest c.args.c c.count_paired.result c.need.result c.requires.component count
          (c.need.ensures.need ∙ need_from c.network-network.result.now t c.args.c c.network-network.ensures.network);
    }
