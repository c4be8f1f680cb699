-- An assignment after the moves of a path.
use Rattle.std.proofs.Common.{◌≡◌, ℕ, ◌+◌, ◌<◌, false, Option, Some, None, List, [], ◌∷◌, length, get_or, set, refl, sym, ap, ◌∙◌, inl, inr, arith}
use Rattle.std.proofs.lemmas.List.{get_or-set_other, get_or-set_same}
use Rattle.obs_graph.specs.declared.Ends.{Ends}
use Rattle.obs_matroid.specs.Lists.{In, other_than}
use Rattle.obs_matroid.specs.Assignments.{branches}
use Rattle.obs_matroid.specs.inner.Assignments.{others, part}
use Rattle.obs_matroid.proofs.Contained.{In-from_All}
use Rattle.obs_matroid.proofs.Lists.{clash}
use Rattle.obs_matroid.proofs.Pairs.{In-part_from, branches_within}
use Rattle.obs_meter.specs.declared.Touch.{Touch}
use Rattle.obs_meter.specs.Spanned.{ends_at}
use Rattle.obs_assign.specs.declared.Move.{Move}
use Rattle.obs_assign.specs.Assignment.{Assignment}
use Rattle.obs_assign.specs.inner.Assignment.{IsWhole, branch_at, is_frozen, pairs}
use Rattle.obs_assign.specs.inner.Moves.{ArePath, moved, turned}
use Rattle.obs_assign.proofs.Free.{ArePath-one, IsAssignmentAt-free}
use Rattle.obs_assign.proofs.Moving.{moved-some, has_some}
use Rattle.obs_assign.proofs.Paths.{joined-less}
use Rattle.obs_assign.proofs.Slotted.{item_slot, none_some}
use Rattle.obs_exchange.specs.declared.Sources.{Sources}
use Rattle.obs_exchange.specs.inner.Found.{HasGrown}
use Rattle.obs_exchange.specs.inner.Searching.{BeginsAtSource, IsFreeFor, IsReady}
use Rattle.obs_exchange.specs.inner.Setting.{IsSound, IsSourceIn, Setting}
use Rattle.obs_exchange.proofs.Beginning.{source_bare}

-- a meter that is in no move keeps what it has
moved-other : (path : List Move) (slots : List (Option ℕ)) (k : ℕ) → ((x : Move) → In x path → k ≡ x.meter → ⊥) → get_or (moved path slots) k None ≡ get_or slots k None
moved-other [] slots k h = refl
moved-other (x ∷ path) slots k h = moved-other path (set slots x.meter (Some x.branch)) k (λ y i. h y (inr i)) ∙ get_or-set_other slots x.meter k (Some x.branch) None (h x (inl refl))

module _ (ends : List (Option Ends)) (touches : List Touch) (from : Sources) (a b : Assignment) (whole : IsWhole a) where
  -- the moves give a source a pair, and no meter loses its own
  pub HasGrown-path : (path : List Move) (m : ℕ) → m ≡ (get_or path 0 (record { meter = 0; branch = 0 })).meter → ArePath a path → BeginsAtSource ends touches from a path
      → b.slots ≡ moved path a.slots → b.frozen ≡ a.frozen → length (pairs b) ≡ length (pairs a) + 1 → b.turns ≡ turned a.turns → HasGrown ends touches from a b m
  HasGrown-path [] m is p s slots frozen longer turns = absurd p
  HasGrown-path (x ∷ path) m is p s slots frozen longer turns = record {
    source = rw is s;
    gains = λ n. let g = moved-some path (set a.slots x.meter (Some x.branch)) x.meter x.branch (get_or-set_same a.slots x.meter (Some x.branch) None (low x (inl refl))) in
        none_some g.0 (sym (ap (λ k. branch_at b k) (sym is) ∙ n) ∙ (ap (λ t. get_or t x.meter None) slots ∙ g.1));
    keeps = λ k h n. let f = has_some (branch_at a k) h in
        let g = moved-some (x ∷ path) a.slots k f.0 f.1 in
        none_some g.0 (sym n ∙ (ap (λ t. get_or t k None) slots ∙ g.1));
    frozen = frozen;
    frozen_pairs = λ k f. ap (λ t. get_or t k None) slots ∙ moved-other (x ∷ path) a.slots k (λ y i e. elim i [
      | inl q ↦ let v = item_slot a.slots k (whole.paired.frozen_have k f) in
          none_some v.0 (sym p.bare ∙ (ap (branch_at a) (sym (e ∙ ap (λ (z : Move). z.meter) q)) ∙ v.1))
      | inr j ↦ clash f (ap (is_frozen a) e ∙ In-from_All (λ (z : Move). is_frozen a z.meter ≡ false) path p.thawed y j)
    ]);
    longer = longer;
    turns = turns;
  }
    where
      low : (y : Move) → In y (x ∷ path) → y.meter < length a.slots
      low y i = In-from_All (λ (z : Move). z.meter < length a.slots) (x ∷ path) p.low y i

-- a source takes a free branch
pub IsReady-one : (over : Setting) (x : Move) → IsSound over → x.meter < length over.touches → IsSourceIn over x.meter → IsFreeFor over x.meter x.branch → IsReady over (x ∷ [])
IsReady-one over x sound low source free =
    let a = over.assignment in
    let g = over.graph in
    let l : x.meter < length a.slots = let s = sound.stands.meters in omega (arith, s, low) in
    record {
      can = record {
        are_path = ArePath-one a x l (source_bare g.ends over.touches over.sources a x.meter source);
        assigns = IsAssignmentAt-free a g over.touches x.meter x.branch sound.branches sound.whole sound.stands l free.touched
            (joined-less g.ends (others (pairs a) x.meter) (branches (pairs a)) (ends_at g.ends x.branch).0 (ends_at g.ends x.branch).1
            (λ p i. branches_within (part (other_than x.meter) (pairs a)) (pairs a) (λ q j. (In-part_from (other_than x.meter) (pairs a) q j).0) p i) free.apart);
      };
      begins = source;
    }
