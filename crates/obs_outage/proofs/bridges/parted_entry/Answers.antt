use Rattle.std.proofs.Common.{◌-◌, refl, sym, ap, ◌∙◌, subst, arith}
use Rattle.obs_network.specs.Network.{Network, case_rows}
use Rattle.obs_network.proofs.Bridging.{below_side}
use Rattle.obs_outage.specs.inner.Settled.{IsFreed}
use Rattle.obs_outage.proofs.Crossed.{missed_by}
use Rattle.obs_outage.proofs.Joined.{entry_by, rank_alone}
use Rattle.obs_outage.proofs.Parting.{observable_entry}
use Rattle.obs_outage.proofs.Readied.{basis_again, longest_of}
use Rattle.obs_outage.proofs.Restored.{row_low}
use Rattle.obs_outage.proofs.bridges.parted_entry.Goals as goal

pub below-requires : goal.below-requires
below-requires g c =
    let low = row_low c.args.case.now c.args.e c.requires.row in
    let rows = ap (λ (n : Network). n.rows.branches) c.requires.basis.network in
    let room = c.requires.basis.basis.branches in
    record { row = omega (arith, low, rows, room) }

pub fall_without-requires : goal.fall_without-requires
fall_without-requires g c =
    let b = below_side (case_rows c.args.case.now) c.args.basis.now.feeds.of_buses c.args.basis.now.bridges c.requires.basis.bridges c.args.e c.in_ok-below.below.side.now c.in_ok-below.below.sum c.in_ok-below.ensures.below in
    record {
      valid = c.requires.valid;
      network = c.requires.basis.network;
      feeds = c.requires.basis.feeds;
      row = c.requires.row;
      side = b.0;
      here = b.1;
    }

pub returns-then-length-before : goal.returns-then-length-before
returns-then-length-before g c =
    let t = c.args.case.now in
    let k = c.in_ok-fall.fall.less in
    let before = c.needed-before.ensures.needed ∙ ap (λ (x : Network). x.needed) c.requires.basis.network in
    let full = sym c.length.ensures.length ∙ c.if-length-before.true ∙ before in
    let less = ap (λ n. n - k) before in
    record {
      entry = observable_entry t c.requires.valid c.args.e k c.in_ok-fall.ensures.fall c.args.basis.now.kept.pairs (longest_of t c.args.basis.now c.requires.basis) full _ refl less less;
      basis = c.requires.basis;
      quiet = λ all. (refl, refl);
    }

pub rank_without-rank-requires : goal.rank_without-rank-requires
rank_without-rank-requires g c =
    let low = row_low c.args.case.now c.args.e c.requires.row in
    let rows = ap (λ (n : Network). n.rows.branches) c.requires.basis.network in
    record { ready = c.requires.basis.basis.ready; row = omega (arith, low, rows) }

pub frees-requires : goal.frees-requires
frees-requires g c =
    let low = row_low c.args.case.now c.args.e c.requires.row in
    let rows = ap (λ (n : Network). n.rows.branches) c.requires.basis.network in
    record { ready = c.requires.basis.basis.ready; row = omega (arith, low, rows) }

pub returns-then-fall : goal.returns-then-fall
returns-then-fall g c =
    let t = c.args.case.now in
    let b = c.args.basis.now in
    let f = c.frees.ensures in
    record {
      entry = tt;
      basis = basis_again t b c.requires.basis c.frees.new.kept c.frees.new.without b.sides f.ready f.network refl;
      quiet = λ all. f.quiet (missed_by t c.requires.valid b.kept.pairs c.args.e c.requires.row all);
    }

pub unfed_entry-entry-requires : goal.unfed_entry-entry-requires
unfed_entry-entry-requires g c =
    let t = c.args.case.now in
    let e = c.args.e in
    let b = c.args.basis.now in
    let f = c.frees.ensures in
    let k1 = c.frees.new.kept in
    let after = basis_again t b c.requires.basis k1 c.frees.new.without b.sides f.ready f.network refl in
    let before = c.needed-before.ensures.needed ∙ ap (λ (x : Network). x.needed) c.requires.basis.network in
    let falls = c.in_ok-fall.ensures.fall.needed in
    record {
      valid = c.requires.valid;
      network = after.network;
      longest = longest_of t _ after;
      unfed = c.in_ok-fall.ensures.listed c.if-fall.true;
      freed = subst (λ (n : Network). IsFreed n k1.pairs e c.in_ok-below.below.side.now) (sym f.network) (f.freed c.if-frees.true);
      needed = omega (arith, before, falls);
    }

pub returns-then-frees : goal.returns-then-frees
returns-then-frees g c =
    let t = c.args.case.now in
    let b = c.args.basis.now in
    let f = c.frees.ensures in
    record {
      entry = c.unfed_entry-entry.ensures.entry;
      basis = basis_again t b c.requires.basis c.frees.new.kept c.frees.new.without b.sides f.ready f.network refl;
      quiet = λ all. f.quiet (missed_by t c.requires.valid b.kept.pairs c.args.e c.requires.row all);
    }

pub returns : goal.returns
returns g c =
    let t = c.args.case.now in
    let e = c.args.e in
    let v = c.requires.valid in
    let b = c.args.basis.now in
    let found = c.rank_without-rank.ensures in
    let after = basis_again t b c.requires.basis c.rank_without-rank.new.kept c.rank_without-rank.new.without b.sides found.ready found.network refl in
    let before = c.needed-before.ensures.needed ∙ ap (λ (x : Network). x.needed) c.requires.basis.network in
    let f = c.in_ok-fall.ensures.fall.needed in
    record {
      entry = entry_by t e _ refl
          (rank_alone t v e (c.in_ok-fall.ensures.both c.if-fall.false) (row_low t e c.requires.row) c.rank_without-rank.new.kept.pairs (longest_of t _ after) b.kept.network c.requires.basis.network c.rank_without-rank.result found.rank)
          (omega (arith, before, f));
      basis = after;
      quiet = λ all. found.quiet (missed_by t v b.kept.pairs e c.requires.row all);
    }
