use Rattle.std.proofs.Common.{◌≡◌, ℕ, ◌+◌, ◌-◌, ◌∷◌, ◌++◌, length, set, ap, ◌∙◌, arith}
use Rattle.std.proofs.Math.ListN.{length-set}
use Rattle.std.proofs.lemmas.Slice.{take-put_mid}
use Rattle.obs_text.proofs.DecimalLemmas.{length-decimal}
use Rattle.obs_text.proofs.ByteLemmas.{first_set}
use Rattle.obs_bus_branch.proofs.names.branch_name.Goals as goal

pub slice_bounds-copy_from_slice-end : goal.slice_bounds-copy_from_slice-end
slice_bounds-copy_from_slice-end c = omega (arith, length-decimal c.args.number c.ranges.number.fits, ap length c.text-text.ensures.decimal)

pub returns : goal.returns
returns c = record {
  name =
      let text = c.text-text.result.now in
      let same : length c.copy_from_slice.new.self ≡ length text = ap length c.copy_from_slice.ensures.after in
      take-put_mid 1 (length text + 1 - 1) (set c.args.room.now 0 76) c.copy_from_slice.new.self (length text + 1) (omega (arith, same)) (omega (arith, length-set {A = ℕ}))
      ∙ ap (λ front. front ++ c.copy_from_slice.new.self) (first_set c.args.room.now 76 (omega arith))
      ∙ ap (λ rest. 76 ∷ rest) (c.copy_from_slice.ensures.after ∙ c.text-text.ensures.decimal);
}
