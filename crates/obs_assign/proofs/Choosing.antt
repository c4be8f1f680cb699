-- Passes over the slots and the ways up that keep some of the pairs.
use Rattle.std.proofs.Common.{◌≡◌, ℕ, ◌+◌, ◌<◌, ◌≤◌, Option, Some, None, List, length, get_or, set, refl, sym, ap, ◌∙◌, inl, inr, arith, get_or-set_same, get_or-set_other}
use Rattle.std.specs.Prelude.{IfSome}
use Rattle.std.proofs.lemmas.Bool.{cases_eq, cases_lt}
use Rattle.std.proofs.lemmas.List.{get_or_past}
use Rattle.std.proofs.lemmas.Option.{none-some}
use Rattle.obs_graph.specs.declared.Ends.{Ends}
use Rattle.obs_graph.specs.declared.search.Up.{Up}
use Rattle.obs_meter.specs.declared.Touch.{Touch}
use Rattle.obs_assign.specs.declared.Move.{Move}
use Rattle.obs_assign.specs.inner.Kept.{IsInverse}
use Rattle.obs_assign.specs.inner.Retain.{AreChosen, IsPairUp, touched_slot}
use Rattle.obs_assign.proofs.Slotted.{none_some, some_same}

pub IfSome-by : {X : Type 0} (P : X → Type 0) (o : Option X) → ((x : X) → o ≡ Some x → P x) → IfSome o P
IfSome-by P None h = tt
IfSome-by P (Some x) h = h x refl

-- the first i slots are those whose branch is touched, the others as they were
pub record IsTouching (ends : List (Option Ends)) (touches : List Touch) (before : List (Option ℕ)) (i : ℕ) (slots : List (Option ℕ)) : Type 0 where
  pub below : (k : ℕ) → k < i → get_or slots k None ≡ touched_slot ends touches k (get_or before k None)
  pub above : (k : ℕ) → i ≤ k → get_or slots k None ≡ get_or before k None

-- the slots hold the pairs whose branches lead up from the first i vertices
pub record IsChoosing (ups : List (Option Up)) (owners : List (Option ℕ)) (i : ℕ) (slots : List (Option ℕ)) : Type 0 where
  pub from : (m e : ℕ) → get_or slots m None ≡ Some e → (get_or owners e None ≡ Some m) × (v : ℕ) × (x : Up) × (v < i) × (get_or ups v None ≡ Some x) × (x.branch ≡ e)
  pub to : (m v : ℕ) (x : Up) → v < i → get_or ups v None ≡ Some x → get_or owners x.branch None ≡ Some m → get_or slots m None ≡ Some x.branch

pub up_low : (ups : List (Option Up)) (v : ℕ) (x : Up) → get_or ups v None ≡ Some x → v < length ups
up_low ups v x is = elim (cases_lt v (length ups)) [ inl l ↦ l | inr l ↦ absurd (none-some x (sym (get_or_past ups v None l) ∙ is)) ]

module _ (ups : List (Option Up)) (owners slots : List (Option ℕ)) (i : ℕ) (h : IsChoosing ups owners i slots) where
  from_more : (m e : ℕ) → get_or slots m None ≡ Some e → (get_or owners e None ≡ Some m) × (v : ℕ) × (x : Up) × (v < i + 1) × (get_or ups v None ≡ Some x) × (x.branch ≡ e)
  from_more m e s = let r = h.from m e s in (r.0, r.1, r.2, (let l = r.3 in omega arith), r.4, r.5)

  -- no meter has the branch that leads up from the next vertex
  pub Choosing-none : ((u : Up) → get_or ups i None ≡ Some u → get_or owners u.branch None ≡ None) → IsChoosing ups owners (i + 1) slots
  Choosing-none none = record {
    from = from_more;
    to = λ m v x l is o. elim (cases_eq v i) [
      | inl y ↦ absurd (none_some m (sym (none x (ap (λ k. get_or ups k None) (sym y) ∙ is)) ∙ o))
      | inr n ↦ h.to m v x (omega (arith, l, n)) is o
    ];
  }

  -- the meter of that branch gets its slot back
  pub Choosing-put : (before : List (Option ℕ)) → IsInverse before owners → (x : Move) → IsPairUp (get_or ups i None) owners x → x.meter < length slots
      → IsChoosing ups owners (i + 1) (set slots x.meter (Some x.branch))
  Choosing-put before inverse x p low = record {
    from = λ m e s. elim (cases_eq m x.meter) [
      | inl y ↦
          let b : x.branch ≡ e = some_same x.branch e (sym (get_or-set_same slots x.meter (Some x.branch) None low) ∙ (ap (λ k. get_or (set slots x.meter (Some x.branch)) k None) (sym y) ∙ s)) in
          (ap (λ k. get_or owners k None) (sym b) ∙ (p.owned ∙ ap Some (sym y)), i, p.way, omega arith, p.there, p.same ∙ b)
      | inr n ↦ from_more m e (sym (get_or-set_other slots x.meter m (Some x.branch) None n) ∙ s)
    ];
    to = λ m v u l is o. elim (cases_eq v i) [
      | inl y ↦
          let same : u ≡ p.way = (let e : Some u ≡ Some p.way = sym is ∙ (ap (λ k. get_or ups k None) y ∙ p.there) in cc) in
          let b : u.branch ≡ x.branch = ap (λ (w : Up). w.branch) same ∙ p.same in
          let mm : m ≡ x.meter = some_same m x.meter (sym o ∙ (ap (λ k. get_or owners k None) b ∙ p.owned)) in
          ap (λ k. get_or (set slots x.meter (Some x.branch)) k None) mm ∙ (get_or-set_same slots x.meter (Some x.branch) None low ∙ ap Some (sym b))
      | inr n ↦ elim (cases_eq m x.meter) [
        | inl y ↦
            let b : u.branch ≡ x.branch = some_same u.branch x.branch (sym ((inverse m u.branch).1 o) ∙ (ap (λ k. get_or before k None) y ∙ (inverse x.meter x.branch).1 p.owned)) in
            ap (λ k. get_or (set slots x.meter (Some x.branch)) k None) y ∙ (get_or-set_same slots x.meter (Some x.branch) None low ∙ ap Some (sym b))
        | inr d ↦ get_or-set_other slots x.meter m (Some x.branch) None d ∙ h.to m v u (omega (arith, l, n)) is o
      ]
    ];
  }

  pub Choosing-ended : (before : List (Option ℕ)) → IsInverse before owners → length ups ≤ i → AreChosen ups before slots
  Choosing-ended before inverse all m e = (
    (λ s. let r = h.from m e s in ((inverse m e).1 r.0, (r.1, r.2, r.4, r.5))),
    (λ b. let u = b.1 in
        let x = u.1 in
        let low = up_low ups u.0 x u.2 in
        h.to m u.0 x (omega (arith, low, all)) u.2 (ap (λ k. get_or owners k None) u.3 ∙ (inverse m e).0 b.0) ∙ ap Some u.3),
  )
