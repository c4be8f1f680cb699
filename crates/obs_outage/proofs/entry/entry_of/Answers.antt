use Rattle.std.proofs.Common.{◌≡◌, None, List, Option, length, refl, sym, ap, ◌∙◌, subst, arith}
use Rattle.std.specs.Prelude.{is_some, slice_index_or, take}
use Rattle.obs_graph.specs.declared.Ends.{Ends}
use Rattle.obs_graph.specs.Graph.{Graph}
use Rattle.obs_case.specs.declared.rows.Branch.{Branch}
use Rattle.obs_assign.specs.Assignment.{Assignment}
use Rattle.obs_network.specs.Network.{Network, case_branches}
use Rattle.obs_network.proofs.OfCase.{case_vertex_count-le, few_branches, length-case_branches}
use Rattle.obs_network.specs.inner.Parted.{AreJoinedWithout}
use Rattle.obs_kept.specs.inner.Kept.{AreLongestOver, HasRoomOver}
use Rattle.obs_outage.specs.inner.Outages.{AllStand}
use Rattle.obs_outage.proofs.Crossed.{missed_by}
use Rattle.obs_outage.proofs.Joined.{entry_by, rank_alone, same_by_walk}
use Rattle.obs_outage.proofs.Readied.{basis_again, longest_of, ready_again}
use Rattle.obs_outage.proofs.Restored.{row_low, row_present}
use Rattle.obs_outage.proofs.entry.entry_of.Goals as goal

pub overflow_cast-rows : goal.overflow_cast-rows
overflow_cast-rows g c = omega (arith, ap (λ (xs : List Branch). length xs) c.branches.ensures.rows, few_branches c.args.case.now c.branches.ensures.valid)

pub walk-requires : goal.walk-requires
walk-requires g c =
    let t = c.args.case.now in
    let e = c.args.e in
    let net = c.parted_entry.ensures.basis.network in
    let same = c.graph.ensures.graph in
    let rows = ap (λ (xs : List Branch). length xs) c.branches.ensures.rows in
    let low = row_low t e c.requires.row in
    let ends : c.graph.result.now.ends ≡ case_branches t = ap (λ (x : Graph). x.ends) same ∙ ap (λ (x : Network). x.graph.ends) net in
    record {
      room = let v = ap (λ (x : Graph). x.vertices) same in
          let there = ap (λ (x : Network). x.graph.vertices) net in
          let room = ap (λ (x : Network). x.graph.most_vertices) net in
          let sides = c.parted_entry.ensures.basis.basis.sides in
          omega (arith, v, there, room, sides, case_vertex_count-le t);
      rows = let all = ap (λ (xs : List (Option Ends)). length xs) ends in omega (arith, rows, all, length-case_branches t);
      row = omega (arith, rows, low);
      present = ap (λ (xs : List (Option Ends)). is_some (slice_index_or xs e None)) ends ∙ row_present t e c.requires.row;
    }

pub rank_without-rank-requires : goal.rank_without-rank-requires
rank_without-rank-requires g c =
    let low = row_low c.args.case.now c.args.e c.requires.row in
    let rows = ap (λ (n : Network). n.rows.branches) c.parted_entry.ensures.basis.network in
    record { ready = c.parted_entry.ensures.basis.basis.ready; row = omega (arith, low, rows) }

pub returns-then-walk : goal.returns-then-walk
returns-then-walk g c =
    let t = c.args.case.now in
    let e = c.args.e in
    let v = c.branches.ensures.valid in
    let b = c.parted_entry.new.basis in
    let rows = ap (λ (xs : List Branch). length xs) c.branches.ensures.rows in
    let ends : c.graph.result.now.ends ≡ case_branches t = ap (λ (x : Graph). x.ends) c.graph.ensures.graph ∙ ap (λ (x : Network). x.graph.ends) c.parted_entry.ensures.basis.network in
    let joined = subst (λ (xs : List (Option Ends)). AreJoinedWithout (take (length c.branches.result.now) xs) e) ends (c.walk.ensures.joined c.if-walk.true) in
    let same = same_by_walk t v e c.requires.row (length c.branches.result.now) rows joined in
    let found = c.rank_without-rank.ensures in
    let after = basis_again t b c.parted_entry.ensures.basis c.rank_without-rank.new.kept c.rank_without-rank.new.without c.walk.new.self found.ready found.network c.walk.ensures.room in
    record {
      entry = entry_by t e _ refl
          (rank_alone t v e (λ m k ne. (same.touched m k ne).0) (row_low t e c.requires.row) c.rank_without-rank.new.kept.pairs (longest_of t _ after) b.kept.network c.parted_entry.ensures.basis.network c.rank_without-rank.result found.rank)
          (c.needed-needed.ensures.needed ∙ ap (λ (x : Network). x.needed) (found.network ∙ c.parted_entry.ensures.basis.network) ∙ sym same.needed);
      quiet = λ all.
          let p = c.parted_entry.ensures.quiet all in
          let q = found.quiet (missed_by t v b.kept.pairs e c.requires.row (subst (λ (a : Assignment). AllStand t a e) (sym p.1) all)) in
          (q.0 ∙ p.0, ap (λ (a : Assignment). a.turns) (q.1 ∙ p.1));
      case = refl;
      basis = after;
    }

pub parted_entry-requires : goal.parted_entry-requires
parted_entry-requires g c = record { valid = c.branches.ensures.valid; basis = c.requires.basis; row = c.requires.row }

pub returns-in-Some : goal.returns-in-Some
returns-in-Some g c = record {
  entry = c.in-Some.ensures.entry;
  quiet = λ all. let q = c.parted_entry.ensures.quiet all in (q.0, ap (λ (a : Assignment). a.turns) q.1);
  case = refl;
  basis = c.parted_entry.ensures.basis;
}

pub outage_at-requires : goal.outage_at-requires
outage_at-requires g c =
    let b = c.parted_entry.ensures.basis in
    record { valid = c.branches.ensures.valid; kept = record { network = b.network; longest = longest_of c.args.case.now _ b; room = b.basis.ready.room }; row = c.requires.row }

pub returns : goal.returns
returns g c =
    let t = c.args.case.now in
    let b = c.parted_entry.ensures.basis in
    let after = c.outage_at.ensures in
    let k1 = c.outage_at.new.kept in
    let b1 = c.parted_entry.new.basis in
    let same : k1.network ≡ b1.kept.network = after.kept.network ∙ sym b.network in
    record {
      entry = after.entry;
      quiet = λ all.
          let q = c.parted_entry.ensures.quiet all in
          let r = after.quiet (subst (λ (a : Assignment). AllStand t a c.args.e) (sym q.1) all) in
          (r.0 ∙ q.0, r.1 ∙ ap (λ (a : Assignment). a.turns) q.1);
      case = after.case;
      basis = basis_again t b1 b k1 b1.without c.walk.new.self
          (ready_again b1.kept b1.without b1.spared b.basis.ready k1 b1.without same (subst (λ (x : Network). AreLongestOver x k1.pairs) (sym b.network) after.kept.longest)
          (subst (λ (x : Network). HasRoomOver x k1.pairs k1.work) same after.kept.room) b.basis.ready.copy)
          same c.walk.ensures.room;
    }
