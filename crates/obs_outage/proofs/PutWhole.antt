-- Parts of a graph that lack no branch which was to be put in.
use Rattle.std.proofs.Common.{inl, inr, ◌≡◌, ℕ, ◌+◌, ◌-◌, ◌<◌, ◌≤◌, Bool, true, false, Option, None, List, [], ◌∷◌, ◌++◌, length, get_or, set, take, drop, sym, ap, ◌∙◌, subst, get_or-set_same, get_or-set_other, arith}
use Rattle.std.proofs.lemmas.Bool.{cases_eq}
use Rattle.std.proofs.lemmas.List.{get_or_default, length-drop, take-append-drop, take-take, take_all, take_more}
use Rattle.obs_graph.specs.declared.Ends.{Ends}
use Rattle.obs_graph.specs.Positions.{branches_at}
use Rattle.obs_matroid.specs.Lists.{In}
use Rattle.obs_matroid.proofs.Lists.{In-append_cases}
use Rattle.obs_meter.specs.declared.Touch.{Touch}
use Rattle.obs_meter.specs.Touches.{touch_at}
use Rattle.obs_meter.proofs.Touched.{In-take}
use Rattle.obs_outage.specs.inner.Sparing.{HasFronts, HasPut}

module _ (ends before : List (Option Ends)) where
  pub HasPut-none : HasPut ends before [] before
  HasPut-none = record { listed = λ e i. absurd i; stays = λ e h. h }

  -- one branch more
  HasPut-one : (part : List (Option Ends)) (L : List ℕ) (p : ℕ) (o : Option Ends) → o ≡ get_or ends p o → p < length ends → p < length part → HasPut ends before L part → HasPut ends before (L ++ p ∷ []) (set part p o)
  HasPut-one part L p o is low there h =
      let own : get_or (set part p o) p None ≡ get_or ends p None = get_or-set_same part p o None there ∙ (is ∙ sym (get_or_default ends p None o low)) in
      let here : (e : ℕ) → e ≡ p → get_or (set part p o) e None ≡ get_or ends e None = λ e y. subst (λ k. get_or (set part p o) k None ≡ get_or ends k None) (sym y) own in
      record {
        listed = λ e i. elim (cases_eq e p) [
          | inl y ↦ here e y
          | inr ne ↦ get_or-set_other part p e o None ne ∙ elim (In-append_cases e L (p ∷ []) i) [ inl j ↦ h.listed e j | inr j ↦ elim j [ inl y ↦ absurd (ne y) | inr k ↦ absurd k ] ]
        ];
        stays = λ e was. elim (cases_eq e p) [
          | inl y ↦ here e y
          | inr ne ↦ get_or-set_other part p e o None ne ∙ h.stays e was
        ];
      }

  pub HasPut-next : (part : List (Option Ends)) (L : List ℕ) (i : ℕ) (o : Option Ends) → i < length L → o ≡ get_or ends (get_or L i 0) o → get_or L i 0 < length ends
      → get_or L i 0 < length part → HasPut ends before (take i L) part → HasPut ends before (take (i + 1) L) (set part (get_or L i 0) o)
  HasPut-next part L i o low is p there h =
      subst (λ (K : List ℕ). HasPut ends before K (set part (get_or L i 0) o)) (sym (take_more L i 0 low)) (HasPut-one part (take i L) (get_or L i 0) o is p there h)

module _ (ends : List (Option Ends)) (fronts : List ℕ) (v count : ℕ) (part : List (Option Ends)) (known : HasFronts ends fronts part) where
  abbrev front : List ℕ
  front = take count (branches_at ends v)

  -- where no more are asked for than were put in
  pub HasPut-known : count ≤ get_or fronts v 0 → HasPut ends part front part
  HasPut-known few = record {
    listed = λ e i. known v e (In-take count (take (get_or fronts v 0) (branches_at ends v)) e (subst (λ (xs : List ℕ). In e xs) (sym (take-take count (get_or fronts v 0) (branches_at ends v) few)) i));
    stays = λ e h. h;
  }

  -- and where those behind are put in
  pub HasPut-behind : get_or fronts v 0 ≤ count → (after : List (Option Ends)) → HasPut ends part (drop (get_or fronts v 0) front) after → HasPut ends part front after
  HasPut-behind more after h = record {
    listed = λ e i.
        let k = get_or fronts v 0 in
        elim (In-append_cases e (take k front) (drop k front) (subst (λ (xs : List ℕ). In e xs) (sym (take-append-drop k front)) i)) [
          | inl j ↦ h.stays e (known v e (subst (λ (xs : List ℕ). In e xs) (take-take k count (branches_at ends v) more) j))
          | inr j ↦ h.listed e j
        ];
    stays = h.stays;
  }

  -- the first so many at the vertex are put in then
  pub HasFronts-set : v < length fronts → (after : List (Option Ends)) → HasPut ends part front after → HasFronts ends (set fronts v count) after
  HasFronts-set low after h w e i = elim (cases_eq w v) [
    | inl y ↦ h.listed e (subst (λ (xs : List ℕ). In e xs) (ap (λ u. take (get_or (set fronts v count) u 0) (branches_at ends u)) y ∙ ap (λ k. take k (branches_at ends v)) (get_or-set_same fronts v count 0 low)) i)
    | inr n ↦ h.stays e (known w e (subst (λ k. In e (take k (branches_at ends w))) (get_or-set_other fronts v w count 0 n) i))
  ]

-- what is known of fronts stays where branches are put in
pub HasFronts-stays : (ends : List (Option Ends)) (fronts : List ℕ) (part after : List (Option Ends)) (L : List ℕ) → HasPut ends part L after → HasFronts ends fronts part → HasFronts ends fronts after
HasFronts-stays ends fronts part after L h known v e i = h.stays e (known v e i)

pub HasFronts-none : (ends : List (Option Ends)) (fronts : List ℕ) (part : List (Option Ends)) → ((v : ℕ) → get_or fronts v 0 ≡ 0) → HasFronts ends fronts part
HasFronts-none ends fronts part none v e i = absurd (subst (λ k. In e (take k (branches_at ends v))) (none v) i)

-- the rest of a list, up to its end
pub rest_is : (xs : List ℕ) (k : ℕ) → take (length xs - k) (drop k xs) ≡ drop k xs
rest_is xs k = take_all (length xs - k) (drop k xs) (let l = length-drop k xs in omega (arith, l))

-- what the marked meters below m touch is in a part
pub record IsPutBelow (ends : List (Option Ends)) (touches : List Touch) (marks : ℕ → Bool) (fronts : List ℕ) (part : List (Option Ends)) (m : ℕ) : Type 0 where
  pub below : (k e : ℕ) → k < m → marks k ≡ true → In e (touch_at ends touches k) → get_or part e None ≡ get_or ends e None
  pub known : HasFronts ends fronts part

module _ (ends : List (Option Ends)) (touches : List Touch) (marks : ℕ → Bool) (fronts : List ℕ) (part : List (Option Ends)) (m : ℕ) where
  pub IsPutBelow-none : HasFronts ends fronts part → IsPutBelow ends touches marks fronts part 0
  IsPutBelow-none known = record { below = λ k e l. absurd (omega (arith, l)); known = known }

  module _ (h : IsPutBelow ends touches marks fronts part m) where
    -- one marked meter more, or one that isn't marked
    pub IsPutBelow-marked : (fronts1 : List ℕ) (after : List (Option Ends)) → HasPut ends part (touch_at ends touches m) after → HasFronts ends fronts1 after → IsPutBelow ends touches marks fronts1 after (m + 1)
    IsPutBelow-marked fronts1 after put known = record {
      below = λ k e l t i. elim (cases_eq k m) [
        | inl y ↦ put.listed e (subst (λ j. In e (touch_at ends touches j)) y i)
        | inr ne ↦ put.stays e (h.below k e (omega (arith, l, ne)) t i)
      ];
      known = known;
    }

    pub IsPutBelow-over : marks m ≡ false → IsPutBelow ends touches marks fronts part (m + 1)
    IsPutBelow-over f = record {
      below = λ k e l t i. elim (cases_eq k m) [
        | inl y ↦ absurd (true_false (sym t ∙ (ap marks y ∙ f)))
        | inr ne ↦ h.below k e (omega (arith, l, ne)) t i
      ];
      known = h.known;
    }
      where
        true_false : true ≡ false → ⊥
        true_false e = cc
