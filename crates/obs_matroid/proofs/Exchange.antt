-- An exchange path gives an assignment of one more pair.
use Rattle.std.proofs.Common.{◌≡◌, ℕ, suc, List, [], ◌∷◌, length, refl, sym, ap, ◌∙◌, inl, inr, Bool, true, false, ◌&&◌, arith, subst}
use Rattle.std.specs.List.{filter}
use Rattle.std.proofs.lemmas.Bool.{cases_Bool, cases_eq, and_parts}
use Rattle.std.proofs.lemmas.List.{length-map}
use Rattle.obs_matroid.specs.Lists.{In, IsDistinct, other_than}
use Rattle.obs_matroid.specs.Matroid.{Matroid}
use Rattle.obs_matroid.specs.inner.Matroid.{IsMatroid}
use Rattle.obs_matroid.specs.Assignments.{Pair, items, branches, IsAssignment}
use Rattle.obs_matroid.specs.inner.Assignments.{part, others}
use Rattle.obs_matroid.specs.inner.Exchange.{put, put_all, IsLink, LeadsTo, source, IsExchangePath, IsLonger}
use Rattle.obs_matroid.proofs.Lists.{clash, In_same, cases_In, other_true, other_ne, length-without}
use Rattle.obs_matroid.proofs.Spans.{spans_more}
use Rattle.obs_matroid.proofs.Pairs.{In-items, In-items_from, In-part, In-part_from, branches_within, items_within, IsDistinct-part, less_pairs, independent_part, both}

pub items-part : (S : ℕ → Bool) (A : List Pair) → items (part S A) ≡ filter S (items A)
items-part S [] = refl
items-part S (p ∷ A) =
    elim (cases_Bool (S p.0)) [ inl e ↦ rw (e, items-part S A) | inr e ↦ rw (e, items-part S A) ]

pub part_out : (m : ℕ) (A : List Pair) → (In m (items A) → ⊥) → part (other_than m) A ≡ A
part_out m [] out = refl
part_out m (p ∷ A) out =
    rw (other_true m p.0 (λ e. out (inl (sym e)))) (ap (λ (B : List Pair). p ∷ B) (part_out m A (λ i. out (inr i))))

pub length-put_out : (p : Pair) (A : List Pair) → (In p.0 (items A) → ⊥) → length (put p A) ≡ suc (length A)
length-put_out p A out = ap (λ (B : List Pair). suc (length B)) (part_out p.0 A out)

pub length-put_in : (p : Pair) (A : List Pair) → IsDistinct (items A) → In p.0 (items A) → length (put p A) ≡ length A
length-put_in p A d i =
    let a : length (items (part (other_than p.0) A)) ≡ length (filter (other_than p.0) (items A)) = ap length (items-part (other_than p.0) A) in
    let b : length (items (part (other_than p.0) A)) ≡ length (part (other_than p.0) A) = length-map (part (other_than p.0) A) (λ (q : Pair). q.0) in
    let c : length (items A) ≡ length A = length-map A (λ (q : Pair). q.0) in
    let e : suc (length (filter (other_than p.0) (items A))) ≡ length (items A) = length-without p.0 (items A) d i in
    omega (arith, a, b, c, e)

pub put_keeps : (p : Pair) (A : List Pair) (x : ℕ) → In x (items A) → In x (items (put p A))
put_keeps p A x i =
    elim (cases_eq x p.0) [
      | inl e ↦ inl e
      | inr n ↦ let r = In-items_from A x i in
          inr (In_same x r.0.0 (items (part (other_than p.0) A)) r.2
          (In-items (part (other_than p.0) A) r.0 (In-part (other_than p.0) A r.0 r.1 (other_true p.0 r.0.0 (λ e. n (r.2 ∙ e))))))
    ]

module _ (g : Matroid) (laws : IsMatroid g) (touch : ℕ → List ℕ) (M : List ℕ) where
  pub IsAssignment-put : (p : Pair) (A : List Pair) → IsAssignment g touch M A → In p.0 M → In p.1 (touch p.0) → g.spans (others A p.0) p.1 ≡ false → IsAssignment g touch M (put p A)
  IsAssignment-put p A a m t s = record {
    of_items = λ q i. elim i [ inl e ↦ rw e m | inr j ↦ a.of_items q (In-part_from (other_than p.0) A q j).0 ];
    touched = λ q i. elim i [ inl e ↦ rw e t | inr j ↦ a.touched q (In-part_from (other_than p.0) A q j).0 ];
    different = (
      (λ i. let r = In-items_from (part (other_than p.0) A) p.0 i in
          other_ne p.0 r.0.0 (In-part_from (other_than p.0) A r.0 r.1).1 (sym r.2)),
      IsDistinct-part (other_than p.0) A a.different,
    );
    independent = (s, independent_part g laws (other_than p.0) A a.independent);
  }

  -- an item that a link leads to has a pair
  pub linked : (A : List Pair) (m : ℕ) (p : Pair) (back : List Pair) → IsLink g A m p back → In m (items A)
  linked A m p back l =
      elim (cases_In m (items A)) [
        | inl i ↦ i
        | inr out ↦ clash l.spanned (let e = part_out m A out in subst (λ (B : List Pair). g.spans (branches B) p.1 ≡ false) e l.on_circuit)
      ]

  -- what is spanned from a part of A is spanned after a move, where the moved branch was not spanned
  pub not_spanned : (A B : List Pair) (e x : ℕ) → ((q : Pair) → In q B → In q A) → g.spans (branches A) e ≡ false → g.spans (branches A) x ≡ true → g.spans (branches B) x ≡ false
      → g.spans (e ∷ branches B) x ≡ false
  not_spanned A B e x h n j f =
      elim (cases_Bool (g.spans (e ∷ branches B) x)) [
        | inr r ↦ r
        | inl t ↦ clash
            (laws.through (x ∷ branches B) (branches A) e
            (λ y i. elim i [ inl k ↦ rw k j | inr k ↦ laws.member (branches A) y (branches_within B A h y k) ])
            (laws.swaps (branches B) x e t f))
            n
      ]

  -- the moves still lead to x after m, further on, has moved to a branch that was not spanned
  pub LeadsTo-put : (A : List Pair) (p : Pair) → IsAssignment g touch M A → g.spans (branches A) p.1 ≡ false → In p.0 (items A)
      → (back : List Pair) (x : ℕ) → ((q : Pair) → In q back → g.spans (others A p.0) q.1 ≡ true) → LeadsTo g A x back → LeadsTo g (put p A) x back
  LeadsTo-put A p a n i [] x h l = λ j. elim j [ inl e ↦ l (rw e i) | inr k ↦ l (items_within (part (other_than p.0) A) A (λ q o. (In-part_from (other_than p.0) A q o).0) x k) ]
  LeadsTo-put A p a n i (q ∷ back) x h l =
      let B : List Pair = part (other_than x) (part (other_than p.0) A) in
      let away : x ≡ p.0 → ⊥ = λ e. clash (h q (inl refl)) (rw (← e) l.0.on_circuit) in
      let m : other_than x p.0 ≡ true = other_true x p.0 (λ e. away (sym e)) in
      let BA : (r : Pair) → In r B → In r A × (other_than p.0 r.0 ≡ true) × (other_than x r.0 ≡ true) =
      λ r j. let u = In-part_from (other_than x) (part (other_than p.0) A) r j in let v = In-part_from (other_than p.0) A r u.0 in (v.0, v.1, u.1) in
      let link : IsLink g (put p A) x q back = record {
        spanned = spans_more g laws (others A p.0) (branches (put p A)) q.1 (λ y j. inr j) (h q (inl refl));
        on_circuit = rw m (not_spanned A B p.1 q.1 (λ r j. (BA r j).0) n l.0.spanned
            (less_pairs g laws B (part (other_than x) A) q.1 (λ r j. let u = BA r j in In-part (other_than x) A r u.0 u.2) l.0.on_circuit));
        no_shortcut = λ r j. rw m (spans_more g laws (branches (part (λ y. other_than x y && other_than p.0 y) A)) (p.1 ∷ branches B) r.1
            (λ y k. inr (branches_within (part (λ z. other_than x z && other_than p.0 z) A) B
            (λ s o. let u = In-part_from (λ z. other_than x z && other_than p.0 z) A s o in
            let v = and_parts (other_than x s.0) (other_than p.0 s.0) u.1 in
            In-part (other_than x) (part (other_than p.0) A) s (In-part (other_than p.0) A s u.0 v.1) v.0)
            y k))
            (both g laws A (other_than x) p.0 r.1 a.independent a.different (l.0.no_shortcut r j) (h r (inr j))));
      } in
      (link, LeadsTo-put A p a n i back q.0 (λ r j. h r (inr j)) l.1)

  -- the moves of an exchange path put in give an assignment of one more pair
  pub exchange_path : (back : List Pair) (A : List Pair) (p : Pair) → IsAssignment g touch M A → IsExchangePath g touch M A p back
      → IsLonger g touch M A (put_all (p ∷ back) A) (source p.0 back)
  exchange_path [] A p a path =
      let i = path.moves p (inl refl) in
      record {
        assigns = IsAssignment-put p A a i.0 i.1 (less_pairs g laws (part (other_than p.0) A) A p.1 (λ q j. (In-part_from (other_than p.0) A q j).0) path.free);
        longer = length-put_out p A path.leads;
        gains = inl refl;
        keeps = put_keeps p A;
      }
  exchange_path (q ∷ back) A p a path =
      let i = path.moves p (inl refl) in
      let l = path.leads in
      let within : (r : Pair) → In r (part (other_than p.0) A) → In r A = λ r j. (In-part_from (other_than p.0) A r j).0 in
      let here : In p.0 (items A) = linked A p.0 q back l.0 in
      let rest : IsLonger g touch M (put p A) (put_all (q ∷ back) (put p A)) (source q.0 back) =
      exchange_path back (put p A) q
      (IsAssignment-put p A a i.0 i.1 (less_pairs g laws (part (other_than p.0) A) A p.1 within path.free))
      (record {
        moves = λ r j. path.moves r (inr j);
        free = not_spanned A (part (other_than p.0) A) p.1 q.1 within path.free l.0.spanned l.0.on_circuit;
        leads = LeadsTo-put A p a path.free here back q.0 l.0.no_shortcut l.1;
      }) in
      record {
        assigns = rest.assigns;
        longer = rest.longer ∙ ap suc (length-put_in p A a.different here);
        gains = rest.gains;
        keeps = λ x j. rest.keeps x (put_keeps p A x j);
      }

-- a pair of an item that does not move stays
pub put_all_stays : (path : List Pair) (A : List Pair) (q : Pair) → In q A → ((r : Pair) → In r path → q.0 ≡ r.0 → ⊥) → In q (put_all path A)
put_all_stays [] A q i h = i
put_all_stays (p ∷ path) A q i h =
    put_all_stays path (put p A) q (inr (In-part (other_than p.0) A q i (other_true p.0 q.0 (h p (inl refl))))) (λ r j. h r (inr j))
