use Rattle.std.proofs.Common.{◌≡◌, ◌<◌, ◌∙◌, ◌-◌, arith, length, refl, subst, suc, sym}
use Rattle.csv.specs.Records.{fields_of}
use Rattle.obs_case_csv.proofs.SeekLemmas.{IsSought, sought-here, sought-later, sought-none}
use Rattle.obs_case_csv.proofs.columns.seek.Goals as goal

pub loop-i-init : goal.loop-i-init
loop-i-init c = rw (c.len-i.ensures, c.len-place.ensures) (sought-none (fields_of c.args.header.now) c.args.column.now (length (fields_of c.args.header.now)) refl)

pub loop-i-preserved-then-field_is : goal.loop-i-preserved-then-field_is
loop-i-preserved-then-field_is c =
    let i = c.loop-i.i - 1 in
    let fields = fields_of c.args.header.now in
    let lt : i < length fields = omega arith in
    let next : c.loop-i.i ≡ suc i = omega arith in
    let before = subst (λ n. IsSought fields c.args.column.now n c.loop-i.found c.loop-i.twice c.loop-i.place) next c.loop-i.invariant in
    sought-here fields c.args.column.now i c.loop-i.found c.loop-i.twice c.loop-i.place lt before (sym c.field_is.ensures.same ∙ c.if-field_is.true)

pub loop-i-preserved : goal.loop-i-preserved
loop-i-preserved c =
    let i = c.loop-i.i - 1 in
    let fields = fields_of c.args.header.now in
    let lt : i < length fields = omega arith in
    let next : c.loop-i.i ≡ suc i = omega arith in
    let before = subst (λ n. IsSought fields c.args.column.now n c.loop-i.found c.loop-i.twice c.loop-i.place) next c.loop-i.invariant in
    sought-later fields c.args.column.now i c.loop-i.found c.loop-i.twice c.loop-i.place lt before (sym c.field_is.ensures.same ∙ c.if-field_is.false)
