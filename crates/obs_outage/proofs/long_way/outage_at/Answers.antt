use Rattle.std.proofs.Common.{◌≡◌, true, false, length, refl, sym, ap, ◌∙◌, subst, arith}
use Rattle.obs_case.specs.declared.rows.Branch.{Branch}
use Rattle.obs_case.specs.Flags.{with_branch_inservice}
use Rattle.obs_case.specs.Tables.{IsValid, Tables}
use Rattle.obs_case.proofs.RowLemmas.{length-changed}
use Rattle.obs_network.specs.Network.{network_of}
use Rattle.obs_kept.specs.inner.Kept.{AreLongest}
use Rattle.obs_network.specs.Parted.{outage_case}
use Rattle.obs_outage.proofs.Carried.{entry_is, has_room_home, has_room_out, meters_home, meters_out, most_at_home, most_at_out, positions_home, positions_out, quiet_home, quiet_out}
use Rattle.obs_outage.proofs.InOutage.{as_many_rows, out_valid}
use Rattle.obs_outage.proofs.Restored.{restored, row_low}
use Rattle.obs_outage.proofs.long_way.outage_at.Goals as goal

pub set_branch-requires : goal.set_branch-requires
set_branch-requires g c = record { at = row_low c.args.case.now c.args.e c.requires.row }

-- the network was that of the case before the flag was set
pub refresh_branch-requires : goal.refresh_branch-requires
refresh_branch-requires g c = record {
  branch = let low = row_low c.args.case.now c.args.e c.requires.row in
      let many = as_many_rows c.args.case.now c.requires.valid c.args.e in
      let same = ap (λ (x : Tables). length x.branches) c.set_branch.ensures.set in
      omega (arith, low, many, same);
  before = record { tables = c.args.case.now; inservice = false; network = c.requires.kept.network; edited = c.set_branch.ensures.set };
}

pub carry-requires : goal.carry-requires
carry-requires g c =
    let t = c.args.case.now in
    let v = c.requires.valid in
    let e = c.args.e in
    let k = c.args.kept.now in
    let n1 = c.refresh_branch.new.self in
    let out : n1 ≡ network_of (outage_case t e) = c.refresh_branch.ensures.whole ∙ ap network_of c.set_branch.ensures.set in
    record {
      valid = subst (λ (x : Tables). IsValid x) (sym c.set_branch.ensures.set) (out_valid t v e);
      network = c.refresh_branch.ensures.whole;
      room = has_room_out t v e k.pairs c.requires.kept.longest k.network c.requires.kept.network n1 out k.work c.requires.kept.room;
      meters = meters_out t v e k.pairs c.requires.kept.longest k.network c.requires.kept.network n1 out;
      positions = positions_out t v e k.pairs c.requires.kept.longest k.network c.requires.kept.network n1 out;
      most = most_at_out t v e k.pairs c.requires.kept.longest k.network c.requires.kept.network n1 out c.length-most.result c.length-most.ensures.length;
    }

pub set_branch-requires-2 : goal.set_branch-requires-2
set_branch-requires-2 g c =
    let low = row_low c.args.case.now c.args.e c.requires.row in
    let many = as_many_rows c.args.case.now c.requires.valid c.args.e in
    let same = ap (λ (x : Tables). length x.branches) c.set_branch.ensures.set in
    record { at = omega (arith, low, many, same) }

-- and is it again at the end
pub refresh_branch-requires-2 : goal.refresh_branch-requires-2
refresh_branch-requires-2 g c = record {
  branch = let low = row_low c.args.case.now c.args.e c.requires.row in
      let many = as_many_rows c.args.case.now c.requires.valid c.args.e in
      let same = ap (λ (x : Tables). length x.branches) c.set_branch.ensures.set in
      let again = length-changed (λ (row : Branch). record row { inservice = true }) c.set_branch.new.self.branches c.args.e in
      let back = ap (λ (x : Tables). length x.branches) c.set_branch-2.ensures.set in
      omega (arith, low, many, same, again, back);
  before = record { tables = c.set_branch.new.self; inservice = true; network = c.refresh_branch.ensures.whole; edited = c.set_branch-2.ensures.set };
}

pub carry-requires-2 : goal.carry-requires-2
carry-requires-2 g c =
    let t = c.args.case.now in
    let v = c.requires.valid in
    let e = c.args.e in
    let k = c.args.kept.now in
    let n = c.refresh_branch-2.new.self in
    let n1 = c.refresh_branch.new.self in
    let out : n1 ≡ network_of (outage_case t e) = c.refresh_branch.ensures.whole ∙ ap network_of c.set_branch.ensures.set in
    let back = c.set_branch-2.ensures.set ∙ ap (λ (x : Tables). with_branch_inservice x e true) c.set_branch.ensures.set ∙ restored t e c.requires.row in
    let net : n ≡ network_of t = c.refresh_branch-2.ensures.whole ∙ ap network_of back in
    let longest = subst (λ (x : Tables). AreLongest x c.carry.new.pairs) c.set_branch.ensures.set c.carry.ensures.longest in
    record {
      valid = subst (λ (x : Tables). IsValid x) (sym back) v;
      network = c.refresh_branch-2.ensures.whole;
      room = has_room_home t v e k.pairs c.requires.kept.longest n net n1 out c.carry.new.pairs longest c.carry.new.work c.carry.ensures.room;
      meters = meters_home t v e k.pairs c.requires.kept.longest n net n1 out c.carry.new.pairs longest;
      positions = positions_home t v e k.pairs c.requires.kept.longest n net n1 out c.carry.new.pairs longest;
      most = most_at_home t v e k.pairs c.requires.kept.longest n net n1 out c.length-most.result c.length-most.ensures.length;
    }

pub returns : goal.returns
returns g c =
    let t = c.args.case.now in
    let v = c.requires.valid in
    let e = c.args.e in
    let k = c.args.kept.now in
    let n = c.refresh_branch-2.new.self in
    let n1 = c.refresh_branch.new.self in
    let out : n1 ≡ network_of (outage_case t e) = c.refresh_branch.ensures.whole ∙ ap network_of c.set_branch.ensures.set in
    let back = c.set_branch-2.ensures.set ∙ ap (λ (x : Tables). with_branch_inservice x e true) c.set_branch.ensures.set ∙ restored t e c.requires.row in
    let net : n ≡ network_of t = c.refresh_branch-2.ensures.whole ∙ ap network_of back in
    let longest = subst (λ (x : Tables). AreLongest x c.carry.new.pairs) c.set_branch.ensures.set c.carry.ensures.longest in
    let long = c.length-most.ensures.length in
    record {
      entry = entry_is t v e k.pairs c.requires.kept.longest n net n1 out c.carry.new.pairs longest (record { branch = e; rank = c.length.result; needed = c.needed.result }) refl c.length.ensures.length c.needed.ensures.needed;
      quiet = λ all.
          let there = quiet_out t v e k.pairs c.requires.kept.longest n net n1 out c.length-most.result long all in
          let home = quiet_home t v e k.pairs c.requires.kept.longest n net n1 out c.carry.new.pairs longest c.length-most.result long all in
          let first = c.carry.ensures.quiet there.0 there.1 in
          let second = c.carry-2.ensures.quiet home.0 home.1 in
          (second.0 ∙ first.0, second.1 ∙ first.1);
      case = back;
      kept = record {
        network = net;
        longest = subst (λ (x : Tables). AreLongest x c.carry-2.new.pairs) back c.carry-2.ensures.longest;
        room = c.carry-2.ensures.room;
      };
    }
