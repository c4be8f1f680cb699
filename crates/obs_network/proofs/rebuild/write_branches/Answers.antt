use Rattle.std.proofs.Common.{◌≡◌, ◌∙◌, ◌+◌, ◌++◌, take, sym, ap, length, refl, arith}
use Rattle.std.proofs.Math.Seq.{take-append-add}
use Rattle.std.proofs.lemmas.List.{append-nil}
use Rattle.obs_network.specs.Network.{case_angles, case_branches, case_rows}
use Rattle.obs_network.proofs.OfCase.{case_live-ends, length-case_live, length-case_rows}
use Rattle.obs_network.proofs.rebuild.write_branches.Goals as goal
use Rattle.obs_network.proofs.rebuild.write_branches.Goals.{After-are_live-whole}

pub write_energised-all-requires-clause-ends : goal.write_energised-all-requires-clause-ends
write_energised-all-requires-clause-ends c =
    rw (c.requires.live, c.numbers.ensures.numbers, c.requires.found.components.of_buses) (case_live-ends c.args.case.now c.write_angles-angles.ensures.valid)

-- what is kept of the rows
rows_are : (c : After-are_live-whole) → c.write_energised-all.new.kept ≡ case_rows c.args.case.now
unfolding case_rows
rows_are c = c.write_energised-all.ensures.kept ∙ rw (c.requires.live, c.numbers.ensures.numbers, c.marks.ensures.marks, c.requires.found.components.of_buses, c.requires.found.components.energised) refl

pub returns-clause-branches : goal.returns-clause-branches
unfolding case_branches
returns-clause-branches c =
    let t = c.args.case.now in
    let rows = c.write_energised-all.new.kept in
    let items = c.write_angles-angles.new.places in
    let n = c.write_angles-angles.result in
    let is = rows_are c in
    let len : length c.args.live.now ≡ length rows = omega (arith, ap (λ l. length l) is, length-case_rows t, ap (λ l. length l) c.requires.live, length-case_live t) in
    ap (λ k. take (k + n) (rows ++ items)) len ∙ take-append-add rows items n ∙ ap (λ l. rows ++ l) c.write_angles-angles.ensures.angles ∙ ap (λ l. l ++ case_angles t) is

-- where no branch is left out, and no angle branch is there
pub returns-clause-whole : goal.returns-clause-whole
unfolding case_branches
returns-clause-whole c = λ yes.
    let t = c.args.case.now in
    let told = c.are_live-whole.ensures.live yes in
    let none = ap (λ n. take n c.write_angles-angles.new.places) (sym told.1) ∙ c.write_angles-angles.ensures.angles in
    sym (c.write_energised-all.ensures.all told.0) ∙ rows_are c ∙ sym (append-nil (case_rows t)) ∙ ap (λ l. case_rows t ++ l) none
