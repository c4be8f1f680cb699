-- Flags after one was set or taken back: that of a block, and those of a pass over all.
use Rattle.std.proofs.Common.{◌≡◌, ℕ, ◌+◌, ◌*◌, ◌/◌, ◌<◌, ◌≤◌, ◌&&◌, Bool, true, false, min, List, length, set, refl, sym, ap, ◌∙◌, inl, inr, arith, get_or-set_same, get_or-set_other, length-set}
use Rattle.std.proofs.lemmas.Bool.{cases_Bool, cases_eq, cases_lt}
use Rattle.std.proofs.lemmas.List.{get_or_past}
use Rattle.obs_matroid.proofs.Lists.{clash}
use Rattle.obs_assign.specs.inner.Assignment.{has_flag}
use Rattle.obs_exchange.specs.inner.Noting.{AreBlocks}

-- only a place within the list has a flag
flag_low : (flags : List Bool) (k : ℕ) → has_flag flags k ≡ true → k < length flags
flag_low flags k t = elim (cases_lt k (length flags)) [ inl l ↦ l | inr ge ↦ clash t (get_or_past flags k false ge) ]

-- the places of a block
first_of_block : (k b : ℕ) → k / 64 ≡ b → b * 64 ≤ k
first_of_block k b e = omega (arith, e)

end_of_block : (k b : ℕ) → k / 64 ≡ b → k < b * 64 + 64
end_of_block k b e = omega (arith, e)

low_block : (m n b : ℕ) → m < n → n ≤ b * 64 → m / 64 < b
low_block m n b l e = omega (arith, l, e)

pub put_blocks : (flags blocks : List Bool) (m : ℕ) (v r : Bool) → m < length flags → AreBlocks flags blocks
    → (r ≡ false → (k : ℕ) → m / 64 * 64 ≤ k → k < min (length (set flags m v)) (m / 64 * 64 + 64) → has_flag (set flags m v) k ≡ false)
    → AreBlocks (set flags m v) (set blocks (m / 64) r)
put_blocks flags blocks m v r l old none = record {
  enough = (let e = old.enough in omega (arith, e, length-set flags m v, length-set blocks (m / 64) r));
  raised = λ k t. elim (cases_eq (k / 64) (m / 64)) [
    | inl e ↦ ap (λ (b : ℕ). has_flag (set blocks (m / 64) r) b) e ∙ get_or-set_same blocks (m / 64) r false (low_block m (length flags) (length blocks) l old.enough)
        ∙ elim (cases_Bool r) [
          | inl y ↦ y
          | inr n ↦ clash t (none n k (first_of_block k (m / 64) e) (let h = end_of_block k (m / 64) e in let q = flag_low (set flags m v) k t in omega (arith, h, q)))
        ]
    | inr ne ↦ get_or-set_other blocks (m / 64) (k / 64) r false ne
        ∙ old.raised k (sym (get_or-set_other flags m k v false (λ (e : k ≡ m). ne (ap (λ (x : ℕ). x / 64) e))) ∙ t)
  ];
}

-- one flag more is set
pub set_so_far : (flags : List Bool) (i : ℕ) → i < length flags → ((k : ℕ) → k < i → has_flag flags k ≡ true) → (k : ℕ) → k < i + 1 → has_flag (set flags i true) k ≡ true
set_so_far flags i low h k l = elim (cases_eq k i) [
  | inl e ↦ ap (has_flag (set flags i true)) e ∙ get_or-set_same flags i true false low
  | inr n ↦ get_or-set_other flags i k true false n ∙ h k (omega (arith, l, n))
]

-- the first flags are those of both lists, the others as they were
pub record AreNarrowed (old kept new : List Bool) (i : ℕ) : Type 0 where
  pub narrowed : (k : ℕ) → k < i → has_flag new k ≡ (has_flag old k && has_flag kept k)
  pub rest : (k : ℕ) → i ≤ k → has_flag new k ≡ has_flag old k

module _ (old kept new : List Bool) (i : ℕ) (h : AreNarrowed old kept new i) where
  with_true : (b c : Bool) → c ≡ true → b ≡ (b && c)
  with_true true c t = sym t
  with_true false c t = refl

  with_false : (b c : Bool) → c ≡ false → false ≡ (b && c)
  with_false true c f = sym f
  with_false false c f = refl

  pub narrowed_kept : has_flag kept i ≡ true → AreNarrowed old kept new (i + 1)
  narrowed_kept t = record {
    narrowed = λ k l. elim (cases_eq k i) [
      | inl e ↦ h.rest k (omega (arith, e)) ∙ with_true (has_flag old k) (has_flag kept k) (ap (has_flag kept) e ∙ t)
      | inr n ↦ h.narrowed k (omega (arith, l, n))
    ];
    rest = λ k l. h.rest k (omega (arith, l));
  }

  pub narrowed_lost : i < length new → has_flag kept i ≡ false → AreNarrowed old kept (set new i false) (i + 1)
  narrowed_lost low f = record {
    narrowed = λ k l. elim (cases_eq k i) [
      | inl e ↦ ap (has_flag (set new i false)) e ∙ get_or-set_same new i false false low ∙ with_false (has_flag old k) (has_flag kept k) (ap (has_flag kept) e ∙ f)
      | inr n ↦ get_or-set_other new i k false false n ∙ h.narrowed k (omega (arith, l, n))
    ];
    rest = λ k l. get_or-set_other new i k false false (λ (e : k ≡ i). absurd (omega (arith, e, l))) ∙ h.rest k (omega (arith, l));
  }
