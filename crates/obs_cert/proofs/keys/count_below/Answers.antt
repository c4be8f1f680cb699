use Rattle.std.proofs.Common.{rules, ◌≡◌, ◌∙◌, ℕ, leb, length, ap, arith}
use Rattle.std.proofs.lemmas.List.Sorted.{IsPartitionPoint-from_clause, IsPartitionedBy-leb}
use Rattle.obs_cert.specs.Scopes.{is_below, scope_of}
use Rattle.obs_cert.proofs.KeyLemmas.{counted_below}
use Rattle.obs_cert.proofs.keys.count_below.Goals as goal

pub returns : goal.returns
returns c =
    let t = c.args.case.now in
    let keys = c.args.keys.now in
    let to = c.from-to.result in
    let is : to ≡ c.args.to = c.from-to.ensures in
    let parted = IsPartitionedBy-leb (λ k. k) keys to c.requires.keys.rising in
    let point = IsPartitionPoint-from_clause (λ k. leb k to) keys c.partition_point.result c.partition_point.ensures.partitioned parted (λ a r q k. search rules) in
    record {
      count = counted_below t to c.partition_point.result keys (let f = c.ranges.to.fits in omega (arith, f, is)) c.requires.keys.all c.partition_point.ensures.bound point
          ∙ ap (λ (x : ℕ). length (scope_of t (is_below t x))) is;
    }
