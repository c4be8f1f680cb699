-- Components that become one: after an edit live branches join what those before join together with one branch more.
use Rattle.std.proofs.Common.{◌⊎◌, inl, inr, ◌≡◌, ◌↔◌, ℕ, ◌<◌, ⊎_elim, Option, Some, None, List, [], ◌∷◌, get_or, sym, ap, ◌∙◌, subst, arith}
use Rattle.std.specs.Prelude.{slice_index_or}
use Rattle.std.proofs.lemmas.Bool.{cases_eq}
use Rattle.std.proofs.lemmas.List.Elements.{All-cons, All-nil}
use Rattle.obs_graph.specs.declared.Ends.{Ends}
use Rattle.obs_graph.specs.Joined.{count_below, first_joined}
use Rattle.obs_graph.specs.inner.Joined.{AreMergedBy, InRange, renamed, renamed_one}
use Rattle.obs_graph.specs.Positions.{present}
use Rattle.obs_graph.proofs.Chains.{Contains-cases, Contains-here, Contains-there, Chain-from_same_first, first_joined-contains, same_first-from_Chain, same_first-more, same_from_Chain}
use Rattle.obs_graph.proofs.First.{first_joined-first_joined, first_joined-le}
use Rattle.obs_graph.proofs.Forests.{same_first-among}
use Rattle.obs_graph.proofs.IsJoined.{same-from_true, true-from_same}
use Rattle.obs_graph.proofs.MergedBy.{joined_after, joined_before}
use Rattle.obs_graph.proofs.Present.{contains_present, none_some, present_contains}
use Rattle.obs_graph.proofs.Shapes.{Contains-renamed, renamed-contains}
use Rattle.obs_network.specs.Components.{component_count, component_of, first_buses_of, is_first_bus}
use Rattle.obs_network.proofs.Marked.{first_bus_at}
use Rattle.obs_network.proofs.Numbered.{component_at, component_of-below, one_component}

-- by their new names the branches after join what the branches before join together with one branch more
abbrev pub JoinsWith : ℕ → List Ends → List Ends → (ℕ → ℕ) → Ends → Type 0
JoinsWith n before after h e =
    (x y : ℕ) → x < n → y < n → (first_joined after (h x) ≡ first_joined after (h y)) ↔ (first_joined (e ∷ before) x ≡ first_joined (e ∷ before) y)

-- buses have one component where the branches join them
same_component : (live : List Ends) (x y : ℕ) → first_joined live x ≡ first_joined live y → component_of live x ≡ component_of live y
same_component live x y same = ap (count_below (is_first_bus live)) same

-- the component after of the first bus of a component before
abbrev pub component_under : ℕ → List Ends → List Ends → (ℕ → ℕ) → ℕ → ℕ
component_under n before after h c = component_of after (h (get_or (first_buses_of n before) c 0))

module _ (n m : ℕ) (before after : List Ends) (h : ℕ → ℕ) (e : Ends) (low_a : e.a < n) (low_b : e.b < n) (into : (x : ℕ) → x < n → h x < m) (joins : JoinsWith n before after h e) where
  abbrev name : ℕ → ℕ
  name = component_under n before after h

  -- the two components that become one
  abbrev pub pair : Ends
  pair = record { a = component_of before e.a; b = component_of before e.b }

  more : (x y : ℕ) → first_joined before x ≡ first_joined before y → first_joined (e ∷ before) x ≡ first_joined (e ∷ before) y
  more = same_first-among before (e ∷ before) (λ d has. Contains-there e d before has)

  -- the component of a bus goes by the new name of the bus
  pub component_under-of : (x : ℕ) → x < n → name (component_of before x) ≡ component_of after (h x)
  component_under-of x l =
      let first = first_joined before x in
      let low : first < n = omega (arith, l, first_joined-le before x) in
      ap (λ b. component_of after (h b)) (first_bus_at n before x l)
      ∙ same_component after (h first) (h x) ((joins first x low l).1 (more first x (first_joined-first_joined before x)))

  -- components of one new name are joined by the pair
  one_under : (x y : ℕ) → x < n → y < n → component_of after (h x) ≡ component_of after (h y) → first_joined (pair ∷ []) (component_of before x) ≡ first_joined (pair ∷ []) (component_of before y)
  one_under x y lx ly same =
      let f : ℕ → ℕ = λ z. first_joined (pair ∷ []) (component_of before z) in
      let firsts = same_first-from_Chain after ((one_component after (h x) (h y)).0 same) in
      same_from_Chain f (e ∷ before) (λ d has. ⊎_elim
      (λ (is : e ≡ d). subst (λ (z : Ends). f z.a ≡ f z.b) is (first_joined-contains (pair ∷ []) pair (Contains-here pair [])))
      (λ there. ap (first_joined (pair ∷ [])) (same_component before d.a d.b (first_joined-contains before d there)))
      (Contains-cases e d before has)) (Chain-from_same_first (e ∷ before) x y ((joins x y lx ly).0 firsts))

  -- components that the pair joins have one new name
  named_one : name pair.a ≡ name pair.b
  named_one =
      component_under-of e.a low_a
      ∙ same_component after (h e.a) (h e.b) ((joins e.a e.b low_a low_b).1 (first_joined-contains (e ∷ before) e (Contains-here e before)))
      ∙ sym (component_under-of e.b low_b)

  joined_named : (i j : ℕ) → first_joined (pair ∷ []) i ≡ first_joined (pair ∷ []) j → name i ≡ name j
  joined_named i j same =
      same_from_Chain name (pair ∷ []) (λ d has. ⊎_elim
      (λ (is : pair ≡ d). subst (λ (z : Ends). name z.a ≡ name z.b) is named_one)
      (λ there. absurd (omega (arith, there.1)))
      (Contains-cases pair d [] has)) (Chain-from_same_first (pair ∷ []) i j same)

  -- the components of the two ends become one, and no others
  pub merged_components : AreMergedBy (component_count n before) (component_count m after) (pair ∷ []) name
  merged_components = record {
    in_range = All-cons (λ (d : Ends). (d.a < component_count n before) × (d.b < component_count n before)) pair [] (component_of-below n before e.a low_a, component_of-below n before e.b low_b)
        (All-nil (λ (d : Ends). (d.a < component_count n before) × (d.b < component_count n before)));
    into = λ c l.
        let x = component_at n before c l in
        let is : name c ≡ component_of after (h x.0) = ap name (sym x.2) ∙ component_under-of x.0 x.1 in
        omega (arith, is, component_of-below m after (h x.0) (into x.0 x.1));
    one = λ c d lc ld.
        let x = component_at n before c lc in
        let y = component_at n before d ld in (
          (λ same.
              let after_same = sym (component_under-of x.0 x.1) ∙ ap name x.2 ∙ same ∙ ap name (sym y.2) ∙ component_under-of y.0 y.1 in
              let f = first_joined (pair ∷ []) in
              true-from_same (pair ∷ []) c d (ap f (sym x.2) ∙ one_under x.0 y.0 x.1 y.1 after_same ∙ ap f y.2)),
          (λ joined. joined_named c d (same-from_true (pair ∷ []) c d joined)),
        );
  }

-- each branch is present after by its new name, or its ends became one; and no other is
pub record AreRenamedOrMerged (before after : List (Option Ends)) (h : ℕ → ℕ) : Type 0 where
  pub there : (k : ℕ) (x : Ends) → slice_index_or before k None ≡ Some x → (h x.a ≡ h x.b) ⊎ (slice_index_or after k None ≡ Some (renamed_one h x))
  pub from : (k : ℕ) (y : Ends) → slice_index_or after k None ≡ Some y → (x : Ends) × (slice_index_or before k None ≡ Some x) × (y ≡ renamed_one h x)

-- so where the ends of a branch become one, the branches join what they joined with it
pub joins_followed : (n m : ℕ) (before after : List (Option Ends)) (h : ℕ → ℕ) (e : Ends) → AreMergedBy n m (e ∷ []) h → InRange n (present before) → AreRenamedOrMerged before after h
    → JoinsWith n (present before) (present after) h e
joins_followed n m before after h e merged range followed x y lx ly =
    let old = present before in
    let new = present after in
    let within : (u v : ℕ) → first_joined new u ≡ first_joined new v → first_joined (renamed h old) u ≡ first_joined (renamed h old) v =
    same_first-more new (renamed h old) (λ d has.
    let at = present_contains after d has in
    let was = followed.from at.0 d at.1 in
    subst (λ (z : Ends). first_joined (renamed h old) z.a ≡ first_joined (renamed h old) z.b) (sym was.2)
    (first_joined-contains (renamed h old) (renamed_one h was.0) (Contains-renamed h old was.0 (contains_present before at.0 was.0 was.1)))) in
    let without : (u v : ℕ) → first_joined (renamed h old) u ≡ first_joined (renamed h old) v → first_joined new u ≡ first_joined new v =
    same_first-more (renamed h old) new (λ d has.
    let was = renamed-contains h old d has in
    let at = present_contains before was.0 was.1 in
    subst (λ (z : Ends). first_joined new z.a ≡ first_joined new z.b) was.2
    (elim (followed.there at.0 was.0 at.1) [
      | inl one ↦ ap (first_joined new) one
      | inr is ↦ first_joined-contains new (renamed_one h was.0) (contains_present after at.0 (renamed_one h was.0) is)
    ])) in (
      (λ same. joined_before n m (e ∷ []) h merged old range x y lx ly (within (h x) (h y) same)),
      (λ same. without (h x) (h y) (joined_after n m (e ∷ []) h merged old x y same)),
    )

-- one branch comes in, unless its ends are one already, and the others stay
pub record IsOneMore (before after : List (Option Ends)) (e : Ends) : Type 0 where
  pub at : ℕ
  pub out : slice_index_or before at None ≡ None
  pub come : (e.a ≡ e.b) ⊎ (slice_index_or after at None ≡ Some e)
  pub own : (x : Ends) → slice_index_or after at None ≡ Some x → x ≡ e
  pub others : (k : ℕ) → (k ≡ at → ⊥) → slice_index_or after k None ≡ slice_index_or before k None

pub joins_one_more : (n : ℕ) (before after : List (Option Ends)) (e : Ends) → IsOneMore before after e → JoinsWith n (present before) (present after) (λ b. b) e
joins_one_more n before after e more x y lx ly =
    let old = present before in
    let new = present after in (
      (λ same. same_first-more new (e ∷ old) (λ d has.
          let at = present_contains after d has in
          elim (cases_eq at.0 more.at) [
            | inl here ↦
                let is : d ≡ e = more.own d (ap (λ k. get_or after k None) (sym here) ∙ at.1) in
                subst (λ (z : Ends). first_joined (e ∷ old) z.a ≡ first_joined (e ∷ old) z.b) (sym is) (first_joined-contains (e ∷ old) e (Contains-here e old))
            | inr ne ↦ first_joined-contains (e ∷ old) d (Contains-there e d old (contains_present before at.0 d (sym (more.others at.0 ne) ∙ at.1)))
          ]) x y same),
      (λ same. same_first-more (e ∷ old) new (λ d has. ⊎_elim
          (λ (is : e ≡ d). subst (λ (z : Ends). first_joined new z.a ≡ first_joined new z.b) is (come_in more.come))
          (λ there.
          let at = present_contains before d there in
          let ne : at.0 ≡ more.at → ⊥ = λ here. none_some d (sym more.out ∙ ap (λ k. get_or before k None) (sym here) ∙ at.1) in
          first_joined-contains new d (contains_present after at.0 d (more.others at.0 ne ∙ at.1)))
          (Contains-cases e d old has)) x y same),
    )
  where
    come_in : (e.a ≡ e.b) ⊎ (slice_index_or after more.at None ≡ Some e) → first_joined (present after) e.a ≡ first_joined (present after) e.b
    come_in (inl same) = ap (first_joined (present after)) same
    come_in (inr is) = first_joined-contains (present after) e (contains_present after more.at e is)
