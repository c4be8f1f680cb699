-- What is touched where a row is left out of a network.
use Rattle.std.proofs.Common.{inl, inr, ◌⊎◌, ◌≡◌, ℕ, suc, ◌+◌, ◌-◌, ◌<◌, ◌≤◌, Bool, true, false, ltb, Option, None, List, ◌∷◌, ◌++◌, length, get_or, set, take, refl, sym, ap, ◌∙◌, subst, arith, get_or-set_same, get_or-set_other, length-append}
use Rattle.std.specs.Prelude.{◌==◌, ◌↔◌, is_some}
use Rattle.std.specs.List.{list_any}
use Rattle.std.proofs.lemmas.Bool.{cases_Bool, cases_eq, cases_lt, ltb-true, true≢false}
use Rattle.std.proofs.lemmas.List.{length-set, set-get_or, take-append-le}
use Rattle.std.proofs.Math.Seq.{take-append-add}
use Rattle.obs_graph.specs.declared.Ends.{Ends}
use Rattle.obs_graph.specs.Graph.{Graph, itself_of}
use Rattle.obs_graph.specs.Positions.{branches_at, has_end}
use Rattle.obs_graph.proofs.SetPositions.{before_low, branches_at-set, positions_before, positions_behind, positions_with, positions_without}
use Rattle.obs_matroid.specs.Lists.{In}
use Rattle.obs_matroid.proofs.Contained.{In-from_All}
use Rattle.obs_matroid.proofs.Lists.{In-append_cases, In-append_left, In-append_right}
use Rattle.obs_meter.specs.declared.Touch.{Touch}
use Rattle.obs_meter.specs.declared.Touch.TheVariants.{Nothing, Edge, Star, Front}
use Rattle.obs_meter.specs.Touches.{touched}
use Rattle.obs_meter.specs.inner.Touches.{IsInRange}
use Rattle.obs_meter.proofs.Touched.{In-from_any, In-take, any-from_In, itself_from, touched-present}
use Rattle.obs_outage.specs.inner.Without.{left_out}

-- the list of all but e, in two parts, and a front of it
module _ (low high : List ℕ) (e : ℕ) (new : In e low → ⊥) where
  -- a front that ends before e is one of the list without it
  before : (count : ℕ) → count ≤ length low → take count (low ++ e ∷ high) ≡ take count (low ++ high)
  before count few = take-append-le count low (e ∷ high) few ∙ sym (take-append-le count low high few)

  not_there : (count : ℕ) → count ≤ length low → In e (take count (low ++ e ∷ high)) → ⊥
  not_there count few i = new (In-take count low e (subst (λ xs. In e xs) (take-append-le count low (e ∷ high) few) i))

  -- and one that ends behind it has one less there
  behind : (rest : ℕ) → (take (length low + suc rest) (low ++ e ∷ high) ≡ low ++ e ∷ take rest high) × (take (length low + rest) (low ++ high) ≡ low ++ take rest high)
  behind rest = (take-append-add low (e ∷ high) (suc rest), take-append-add low high rest)

  there : (rest : ℕ) → In e (take (length low + suc rest) (low ++ e ∷ high))
  there rest = subst (λ xs. In e xs) (sym (behind rest).0) (In-append_right e low (e ∷ take rest high) (inl refl))

  same : (rest k : ℕ) → (k ≡ e → ⊥) → In k (take (length low + suc rest) (low ++ e ∷ high)) ↔ In k (take (length low + rest) (low ++ high))
  same rest k ne = (
    (λ i. subst (λ xs. In k xs) (sym (behind rest).1) (elim (In-append_cases k low (e ∷ take rest high) (subst (λ xs. In k xs) (behind rest).0 i)) [
      | inl a ↦ In-append_left k low (take rest high) a
      | inr b ↦ elim b [ inl is ↦ absurd (ne is) | inr j ↦ In-append_right k low (take rest high) j ]
    ])),
    (λ i. subst (λ xs. In k xs) (sym (behind rest).0) (elim (In-append_cases k low (take rest high) (subst (λ xs. In k xs) (behind rest).1 i)) [
      | inl a ↦ In-append_left k low (e ∷ take rest high) a
      | inr b ↦ In-append_right k low (e ∷ take rest high) (inr b)
    ])),
  )

module _ (g h : Graph) (e : ℕ) (here : e < length g.ends) (vertices : h.vertices ≡ g.vertices) (without : h.ends ≡ set g.ends e None) where
  abbrev ends : List (Option Ends)
  ends = g.ends

  abbrev less : List (Option Ends)
  less = set ends e None

  -- what is touched stays but for the branch, and is in range
  abbrev pub IsLeftOut : Touch → Type 0
  IsLeftOut t = ((k : ℕ) → (k ≡ e → ⊥) → In k (touched ends t) ↔ In k (touched less (left_out ends e t))) × (IsInRange g t → IsInRange h (left_out ends e t))

  -- the branches at a vertex: all stay, or the branch is taken out of the midst of them
  abbrev Halves : ℕ → Type 0
  Halves v = (low : List ℕ) × (high : List ℕ) × (branches_at ends v ≡ low ++ e ∷ high) × (branches_at less v ≡ low ++ high) × (In e low → ⊥)

  halves : (v : ℕ) → (branches_at less v ≡ branches_at ends v) ⊎ Halves v
  halves v = elim (cases_Bool (has_end v (get_or ends e None))) [
    | inr off ↦ inl (branches_at-set ends e None v off refl)
    | inl on ↦ inr (
      positions_before (has_end v) e ends,
      positions_behind (has_end v) e ends,
      ap (λ xs. branches_at xs v) (sym (set-get_or ends e None)) ∙ positions_with (has_end v) e ends (get_or ends e None) here on,
      positions_without (has_end v) e ends None here refl,
      λ i. not_less e (In-from_All (λ p. ltb p e ≡ true) (positions_before (has_end v) e ends) (before_low (has_end v) e ends (omega (arith, here))) e i),
    )
  ]
    where
      not_less : (k : ℕ) → ltb k k ≡ true → ⊥
      not_less k t = let l = ltb-true k k t in omega (arith, l)

  star : (v k : ℕ) → (k ≡ e → ⊥) → In k (branches_at ends v) ↔ In k (branches_at less v)
  star v k ne = elim (halves v) [
    | inl is ↦ (subst (λ xs. In k xs) (sym is), subst (λ xs. In k xs) is)
    | inr (low, high, was, now, new) ↦ (
      (λ i. subst (λ xs. In k xs) (sym now) (elim (In-append_cases k low (e ∷ high) (subst (λ xs. In k xs) was i)) [
        | inl a ↦ In-append_left k low high a
        | inr b ↦ elim b [ inl y ↦ absurd (ne y) | inr j ↦ In-append_right k low high j ]
      ])),
      (λ i. subst (λ xs. In k xs) (sym was) (elim (In-append_cases k low high (subst (λ xs. In k xs) now i)) [
        | inl a ↦ In-append_left k low (e ∷ high) a
        | inr b ↦ In-append_right k low (e ∷ high) (inr b)
      ])),
    )
  ]

  edge : (p k : ℕ) → (k ≡ e → ⊥) → In k (touched ends (Edge p)) ↔ In k (touched less (Edge p))
  edge p k ne = elim (cases_eq p e) [
    | inl is ↦ ((λ i. absurd (ne ((itself_from (get_or ends p None) p k i).0 ∙ is))), (λ i. absurd (ne ((itself_from (get_or less p None) p k i).0 ∙ is))))
    | inr other ↦
        let same : get_or less p None ≡ get_or ends p None = get_or-set_other ends e p None None other in
        (subst (λ (o : Option Ends). In k (itself_of o p)) (sym same), subst (λ (o : Option Ends). In k (itself_of o p)) same)
  ]

  front : (v count : ℕ) → IsLeftOut (Front v count)
  front v count =
      let all = branches_at ends v in
      let now = branches_at less v in
      let test : Bool = list_any (λ p. p == e) (take count all) in
      let kept : test ≡ false → left_out ends e (Front v count) ≡ Front v count = λ is. rw is refl in
      let fewer : test ≡ true → left_out ends e (Front v count) ≡ Front v (count - 1) = λ is. rw is refl in
      let stays : test ≡ false → take count now ≡ take count all → (count ≤ length all → count ≤ length now) → IsLeftOut (Front v count) = λ off same room. (
        (λ k ne. (
          (λ i. subst (λ (t : Touch). In k (touched less t)) (sym (kept off)) (subst (λ xs. In k xs) (sym same) i)),
          (λ i. subst (λ xs. In k xs) same (subst (λ (t : Touch). In k (touched less t)) (kept off) i)),
        )),
        (λ r. subst (λ (t : Touch). IsInRange h t) (sym (kept off)) (subst (λ n. v < n) (sym vertices) r.0, subst (λ xs. count ≤ length (branches_at xs v)) (sym without) (room r.1))),
      ) in
      elim (halves v) [
        | inl is ↦ stays
            (elim (cases_Bool test) [
              | inl on ↦ absurd (out_of v is (In-take count all e (In-from_any (take count all) e on)))
              | inr off ↦ off
            ])
            (ap (take count) is) (subst (λ xs. count ≤ length xs) (sym is))
        | inr (low, high, was, is, new) ↦
            let long : length all ≡ suc (length low + length high) = ap (λ (xs : List ℕ). length xs) was ∙ (let l = length-append low (e ∷ high) in omega (arith, l)) in
            let short : length now ≡ length low + length high = ap (λ (xs : List ℕ). length xs) is ∙ length-append low high in
            elim (cases_lt (length low) count) [
              | inr few ↦
                  let off : test ≡ false = elim (cases_Bool test) [
                    | inl on ↦ absurd (not_there low high e new count few (subst (λ xs. In e (take count xs)) was (In-from_any (take count all) e on)))
                    | inr f ↦ f
                  ] in
                  stays off (ap (take count) is ∙ sym (before low high e new count few) ∙ ap (take count) (sym was)) (λ l. omega (arith, few, short))
              | inl past ↦
                  let rest = count - suc (length low) in
                  let at : count ≡ length low + suc rest = omega (arith, past) in
                  let less_one : count - 1 ≡ length low + rest = omega (arith, past) in
                  let on : test ≡ true = any-from_In (take count all) e (subst (λ xs. In e (take count xs)) (sym was) (subst (λ n. In e (take n (low ++ e ∷ high))) (sym at) (there low high e new rest))) in (
                    (λ k ne.
                        let both = same low high e new rest k ne in (
                          (λ i. subst (λ (t : Touch). In k (touched less t)) (sym (fewer on)) (subst (λ xs. In k (take (count - 1) xs)) (sym is) (subst (λ n. In k (take n (low ++ high))) (sym less_one)
                              (both.0 (subst (λ n. In k (take n (low ++ e ∷ high))) at (subst (λ xs. In k (take count xs)) was i)))))),
                          (λ i. subst (λ xs. In k (take count xs)) (sym was) (subst (λ n. In k (take n (low ++ e ∷ high))) (sym at)
                              (both.1 (subst (λ n. In k (take n (low ++ high))) less_one (subst (λ xs. In k (take (count - 1) xs)) is (subst (λ (t : Touch). In k (touched less t)) (fewer on) i)))))),
                        )),
                    (λ r. subst (λ (t : Touch). IsInRange h t) (sym (fewer on)) (
                      subst (λ n. v < n) (sym vertices) r.0,
                      subst (λ xs. count - 1 ≤ length (branches_at xs v)) (sym without) (let l = r.1 in omega (arith, l, long, short, past)),
                    )),
                  )
            ]
      ]
    where
      out_of : (v : ℕ) → branches_at less v ≡ branches_at ends v → In e (branches_at ends v) → ⊥
      out_of v is i = true≢false (sym (touched-present less (Star v) e (subst (λ xs. In e xs) (sym is) i)) ∙ ap (λ (o : Option Ends). is_some o) (get_or-set_same ends e None None here))

  pub left : (t : Touch) → IsLeftOut t
  left Nothing = ((λ k ne. ((λ i. i), (λ i. i))), (λ r. r))
  left (Edge p) = (edge p, (λ r. subst (λ xs. p < length xs) (sym without) (let l = length-set ends e None in omega (arith, l, r))))
  left (Star v) = (star v, (λ r. subst (λ n. v < n) (sym vertices) r))
  left (Front v count) = front v count
