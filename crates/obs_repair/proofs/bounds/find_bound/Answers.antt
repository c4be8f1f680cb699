use Rattle.std.proofs.Common.{◌≡◌, ◌≤◌, ℕ, List, length, filter, ap, ◌∙◌, arith}
use Rattle.obs_case.specs.Tables.{Tables}
use Rattle.obs_assign.specs.inner.Assignment.{has_flag}
use Rattle.obs_network.specs.inner.Located.{live_meters_of}
use Rattle.obs_network.specs.Network.{Network, network_of}
use Rattle.obs_repair.proofs.Bounded.{few_in_component, marked_bound, measured}
use Rattle.obs_network.proofs.OfCase.{count_of, length-case_meters}
use Rattle.obs_repair.proofs.OfNetwork.{few_meters}
use Rattle.obs_repair.proofs.bounds.find_bound.Goals as goal

pub live_meters-meters-requires : goal.live_meters-meters-requires
live_meters-meters-requires c = record {
  component = let low = c.requires.component in let n = count_of c.network.result.now c.args.present.now c.network.ensures.network in omega (arith, low, n);
}

few : (n : Network) (t : Tables) (c : ℕ) (meters : List ℕ) → n ≡ network_of t → meters ≡ live_meters_of n c → length meters ≤ length t.meters
few n t c meters same is = let e = ap (λ (xs : List ℕ). length xs) (is ∙ ap (λ (x : Network). live_meters_of x c) same) in omega (arith, e, few_in_component t c)

pub list_marked-listed-requires-clause-room : goal.list_marked-listed-requires-clause-room
list_marked-listed-requires-clause-room c =
    let f = few c.network.result.now c.args.present.now c.args.c c.live_meters-meters.result.now c.network.ensures.network c.live_meters-meters.ensures.meters in
    let i = c.requires.inside in
    omega (arith, f, i)

pub count_paired-requires-clause-few : goal.count_paired-requires-clause-few
count_paired-requires-clause-few c =
    let f = few c.network.result.now c.args.present.now c.args.c c.live_meters-meters.result.now c.network.ensures.network c.live_meters-meters.ensures.meters in
    let m = few_meters c.args.present.now c.network.ensures.valid in
    let l = length-case_meters c.args.present.now in
    omega (arith, f, m, l)

pub overflow_cast-outside : goal.overflow_cast-outside
overflow_cast-outside c =
    let f = few c.network.result.now c.args.present.now c.args.c c.live_meters-meters.result.now c.network.ensures.network c.live_meters-meters.ensures.meters in
    let m = few_meters c.args.present.now c.network.ensures.valid in
    let l = length-case_meters c.args.present.now in
    omega (arith, f, m, l)

room : (listed n all inside new : ℕ) → listed ≤ n → n ≤ all → inside ≡ all → new ≡ inside → listed ≤ new
room listed n all inside new a b c d = omega (arith, a, b, c, d)

pub overflow_sub-rank : goal.overflow_sub-rank
overflow_sub-rank c =
    let f = few c.network.result.now c.args.present.now c.args.c c.live_meters-meters.result.now c.network.ensures.network c.live_meters-meters.ensures.meters in
    let l = c.list_marked-listed in
    (measured c.args.present.now c.network.ensures.valid c.args.pairs.now c.requires.longest c.args.marks.now c.requires.marks c.args.c c.live_meters-meters.result.now l.new.list l.result c.count_paired.result
    (c.live_meters-meters.ensures.meters ∙ ap (λ (n : Network). live_meters_of n c.args.c) c.network.ensures.network) (room l.result (length c.live_meters-meters.result.now) (length c.args.present.now.meters) (length c.args.inside.now) (length l.new.list) l.ensures.few f c.requires.inside l.auto.list) l.ensures.listed c.count_paired.ensures.count).enough

pub returns : goal.returns
returns c =
    let l = c.list_marked-listed in
    let f = few c.network.result.now c.args.present.now c.args.c c.live_meters-meters.result.now c.network.ensures.network c.live_meters-meters.ensures.meters in
    let same = c.live_meters-meters.ensures.meters ∙ ap (λ (n : Network). live_meters_of n c.args.c) c.network.ensures.network in
    let m = measured c.args.present.now c.network.ensures.valid c.args.pairs.now c.requires.longest c.args.marks.now c.requires.marks c.args.c c.live_meters-meters.result.now l.new.list l.result c.count_paired.result
    same (room l.result (length c.live_meters-meters.result.now) (length c.args.present.now.meters) (length c.args.inside.now) (length l.new.list) l.ensures.few f c.requires.inside l.auto.list) l.ensures.listed c.count_paired.ensures.count in
    record {
      listed = l.ensures.listed ∙ (ap (filter (has_flag c.args.marks.now)) same ∙ marked_bound c.args.present.now c.args.marks.now c.args.c c.requires.marks);
      rank = m.rank;
      outside = m.outside;
      few = room l.result (length c.live_meters-meters.result.now) (length c.args.present.now.meters) (length c.args.inside.now) (length l.new.list) l.ensures.few f c.requires.inside l.auto.list;
    }
