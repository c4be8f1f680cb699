-- What meters touch is written anew, one after the other, and those that are lost touch nothing.
use Rattle.std.proofs.Common.{◌≡◌, ℕ, ◌+◌, ◌<◌, ◌≤◌, Bool, cond, List, length, get_or, set, refl, sym, ap, ◌∙◌, inl, inr, arith}
use Rattle.std.proofs.lemmas.Bool.{cases_eq}
use Rattle.std.proofs.lemmas.List.{get_or-set_other, get_or-set_same, length-set}
use Rattle.obs_graph.specs.Graph.{Graph}
use Rattle.obs_meter.specs.declared.Touch.{Touch}
use Rattle.obs_meter.specs.declared.Touch.TheVariants.{Nothing}
use Rattle.obs_meter.specs.Held.{Meters}
use Rattle.obs_meter.specs.Lost.{losing}
use Rattle.obs_meter.proofs.Lost.{length-losing, losing-is}
use Rattle.obs_assign.specs.Assignment.{Assignment}
use Rattle.obs_assign.specs.inner.Assignment.{Fits, IsWhole, StandsOver}

-- the meters below i touch what they do, or nothing where they are lost
pub record AreLeft (lost : ℕ → Bool) (touches : List Touch) (before after : Meters) (i : ℕ) : Type 0 where
  pub most : after.most ≡ before.most
  pub len : length after.touches ≡ length touches
  pub done : (k : ℕ) → k < i → get_or after.touches k Nothing ≡ cond (lost k) Nothing (get_or touches k Nothing)

module _ (lost : ℕ → Bool) (touches : List Touch) (before : Meters) where
  pub Left-none : length before.touches ≡ length touches → AreLeft lost touches before before 0
  Left-none e = record { most = refl; len = e; done = λ k l. absurd (omega (arith, l)) }

  pub Left-more : (after next : Meters) (i : ℕ) (t : Touch) → i < length touches → AreLeft lost touches before after i → next ≡ record after { touches = set after.touches i t }
      → t ≡ cond (lost i) Nothing (get_or touches i Nothing) → AreLeft lost touches before next (i + 1)
  Left-more after next i t low h e is =
      let p = h.len in
      rw e (record {
        most = h.most;
        len = length-set after.touches i t ∙ h.len;
        done = λ k l. elim (cases_eq k i) [
          | inl s ↦ ap (λ x. get_or (set after.touches i t) x Nothing) s ∙ (get_or-set_same after.touches i t Nothing (omega (arith, p, low)) ∙ (is ∙ ap (λ x. cond (lost x) Nothing (get_or touches x Nothing)) (sym s)))
          | inr n ↦ get_or-set_other after.touches i k t Nothing n ∙ h.done k (omega (arith, l, n))
        ];
      })

  pub Left-all : (after : Meters) (i : ℕ) → length touches ≤ i → AreLeft lost touches before after i → after ≡ record before { touches = losing lost touches }
  Left-all after i e h =
      let is = losing-is lost touches after.touches h.len (λ m l. h.done m (omega (arith, l, e))) in
      ap (λ (t : List Touch). record after { touches = t }) is ∙ ap (λ (most : ℕ). record before { touches = losing lost touches; most = most }) h.most

-- once all touch again what they did, they are as before
pub restored : (before mid after : Meters) (touches : List Touch) → mid.most ≡ before.most → after ≡ record mid { touches = touches } → before.touches ≡ touches → after ≡ before
restored before mid after touches most e same =
    e ∙ (ap (λ (n : ℕ). record before { touches = touches; most = n }) most ∙ ap (λ (t : List Touch). record before { touches = t }) (sym same))

-- pairs fit over what is left
pub fits_left : (lost : ℕ → Bool) (g : Graph) (touches : List Touch) (a : Assignment) → IsWhole a → StandsOver a g touches → Fits a g (losing lost touches)
fits_left lost g touches a whole stands =
    let e = length-losing lost touches in
    let m = stands.meters in
    let v = stands.forest.vertices in
    let p = stands.forest.positions in
    let x = whole.meters in
    let y = whole.vertices in
    let z = whole.positions in
    record { meters = omega (arith, e, m, x); vertices = omega (arith, v, y); branches = omega (arith, p, z) }
