use Rattle.std.proofs.Common.{◌≡◌, ◌<◌, None, List, length, refl, sym, ap, ◌∙◌, subst, arith}
use Rattle.std.specs.Prelude.{is_some, slice_index_or}
use Rattle.obs_case.specs.declared.rows.Branch.{Branch}
use Rattle.obs_case.specs.Tables.{Tables}
use Rattle.obs_matroid.specs.Lists.{In}
use Rattle.obs_network.specs.Network.{Network}
use Rattle.obs_network.proofs.OfCase.{few_branches, length-case_branches}
use Rattle.obs_outage.specs.inner.Ready.{IsBasisOf}
use Rattle.obs_outage.specs.Outages.{is_outage_row, outage_rows}
use Rattle.obs_outage.proofs.Entries.{IsListing-listed, IsListing-over, all_listed, begun, row_in}
use Rattle.obs_outage.proofs.listing.list_outages.Goals as goal
use Rattle.obs_outage.proofs.listing.list_outages.Goals.{else-is_present, then-is_present}

pub loop-e-init : goal.loop-e-init
loop-e-init g c = record {
  bound = omega arith;
  lists = begun c.args.case.now c.args.entries.now;
  long = refl;
  case = refl;
  basis = c.requires.basis;
}

pub is_present-requires : goal.is_present-requires
is_present-requires g c =
    let test = c.loop-e-test.true in
    let rows = ap (λ (xs : List Branch). length xs) c.branches.ensures.rows in
    let many = length-case_branches c.args.case.now in
    let same = ap (λ (x : Network). length x.graph.ends) c.loop-e.invariant.basis.network in
    record { e = omega (arith, test, rows, many, same) }

pub entry_of-requires-clause-row : goal.entry_of-requires-clause-row
entry_of-requires-clause-row g c =
    let t = c.args.case.now in
    let e = c.loop-e.e in
    let test = c.loop-e-test.true in
    let rows = ap (λ (xs : List Branch). length xs) c.branches.ensures.rows in
    let low : e < length t.branches = omega (arith, test, rows) in
    let row = ap (λ (x : Network). is_some (slice_index_or x.graph.ends e None)) c.loop-e.invariant.basis.network in
    subst (λ (x : Tables). In e (outage_rows x)) (sym c.loop-e.invariant.case) (row_in t e low (sym row ∙ sym c.is_present.ensures.present ∙ c.if-is_present.true))

pub entry_of-requires-clause-basis : goal.entry_of-requires-clause-basis
entry_of-requires-clause-basis g c = subst (λ (x : Tables). IsBasisOf x c.loop-e.basis) (sym c.loop-e.invariant.case) c.loop-e.invariant.basis

pub loop-e-preserved : goal.loop-e-preserved
loop-e-preserved g c =
    let t = c.args.case.now in
    let l = c.loop-e in
    let test = c.loop-e-test.true in
    let rows = ap (λ (xs : List Branch). length xs) c.branches.ensures.rows in
    let low : l.e < length t.branches = omega (arith, test, rows) in
    let row : is_some (slice_index_or l.basis.kept.network.graph.ends l.e None) ≡ is_outage_row t l.e = ap (λ (x : Network). is_some (slice_index_or x.graph.ends l.e None)) l.invariant.basis.network in
    elim c.if-is_present.branch [
      | then-is_present w ↦
          let r = w.entry_of in
          rw (w.case-is, w.basis-is, w.entries-is, w.count-is)
          (IsListing-listed t (length c.args.entries.now) l.case l.basis l.entries l.count l.e l.invariant low
          (sym row ∙ sym c.is_present.ensures.present ∙ w.if-is_present.true) c.requires.entries
          r.new.case r.new.basis r.result r.ensures.entry r.ensures.case r.ensures.basis)
      | else-is_present w ↦
          rw (w.case-is, w.basis-is, w.entries-is, w.count-is)
          (IsListing-over t (length c.args.entries.now) l.case l.basis l.entries l.count l.e l.invariant low
          (sym row ∙ sym c.is_present.ensures.present ∙ w.if-is_present.false))
    ]

pub returns : goal.returns
returns g c =
    let l = c.loop-e in
    let inv = l.invariant in
    let rows = ap (λ (xs : List Branch). length xs) c.branches.ensures.rows in
    let past = c.loop-e-test.false in
    let upto = l.auto.e-end in
    let bound = inv.bound in
    let long = inv.long in
    let room = c.requires.entries in
    record {
      listed = all_listed c.args.case.now l.entries l.count l.e inv.lists (omega (arith, rows, past));
      bound = omega (arith, bound, upto, rows, long, room);
      case = inv.case;
      basis = inv.basis;
    }

pub overflow_cast-rows : goal.overflow_cast-rows
overflow_cast-rows g c = omega (arith, ap (λ (xs : List Branch). length xs) c.branches.ensures.rows, few_branches c.args.case.now c.branches.ensures.valid)

pub bounds-entries-count : goal.bounds-entries-count
bounds-entries-count g c =
    let rows = ap (λ (xs : List Branch). length xs) c.branches.ensures.rows in
    omega (arith, c.loop-e.invariant.bound, c.loop-e.invariant.long, c.loop-e-test.true, rows, c.requires.entries)

pub overflow_add-count : goal.overflow_add-count
overflow_add-count g c =
    let rows = ap (λ (xs : List Branch). length xs) c.branches.ensures.rows in
    omega (arith, c.loop-e.invariant.bound, c.loop-e-test.true, rows, few_branches c.args.case.now c.branches.ensures.valid)
