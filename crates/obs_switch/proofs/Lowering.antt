-- Labels that sweeps lower.
use Rattle.std.proofs.Common.{◌≡◌, ℕ, ◌<◌, ◌≤◌, ◌⊎◌, Bool, true, false, ◌||◌, List, length, get_or, min, max, refl, sym, ap, ◌∙◌, subst, inl, inr, arith}
use Rattle.std.specs.List.{Contains}
use Rattle.std.proofs.lemmas.Bool.{cases_lt}
use Rattle.std.proofs.lemmas.List.{get_or-map, length-map}
use Rattle.obs_graph.specs.declared.Ends.{Ends}
use Rattle.obs_graph.proofs.Chains.{Chain-first, same_from_Chain}
use Rattle.obs_switch.specs.declared.link.Link.{Link}
use Rattle.obs_switch.specs.Buses.{ends_of_link, ends_of_links, first_node}
use Rattle.obs_switch.specs.inner.Labels.{AreLabels, AreSettled, AreLowered}
use Rattle.obs_switch.proofs.FirstNodes.{first_node-le, first_node-first_node}

-- a label more is lowered
pub lowered_more : (links : List Link) (a b c : List ℕ) (p : Bool) → AreLowered links a b p → AreLowered links b c true → AreLowered links a c true
lowered_more links a b c p f g = record {
  labels = g.labels;
  sum = omega (arith, f.sum, g.sum);
  falls = λ e. omega (arith, f.sum, g.falls refl);
  same = λ e. absurd cc;
}

-- no label was lowered
pub lowered_none : (links : List Link) (a : List ℕ) → AreLabels links a → AreLowered links a a false
lowered_none links a are = record { labels = are; sum = omega arith; falls = λ e. absurd cc; same = λ e. refl }

-- labels are lowered twice, where they are
pub lowered_twice : (links : List Link) (a b c : List ℕ) (p q : Bool) → AreLowered links a b p → AreLowered links b c q → AreLowered links a c (p || q)
lowered_twice links a b c true q f g = record {
  labels = g.labels;
  sum = omega (arith, f.sum, g.sum);
  falls = λ e. omega (arith, f.falls refl, g.sum);
  same = λ e. absurd cc;
}
lowered_twice links a b c false true f g = record {
  labels = g.labels;
  sum = omega (arith, f.sum, g.sum);
  falls = λ e. omega (arith, f.sum, g.falls refl);
  same = λ e. absurd cc;
}
lowered_twice links a b c false false f g = record {
  labels = g.labels;
  sum = omega (arith, f.sum, g.sum);
  falls = λ e. absurd cc;
  same = λ e. g.same refl ∙ f.same refl;
}

-- of two nodes of one bus, the lower and the higher label
module _ (links : List Link) (labels : List ℕ) (are : AreLabels links labels) (from to : ℕ) (at_from : from < length labels) (at_to : to < length labels)
    (same : first_node links from ≡ first_node links to) where
  one_of : ℕ → Type 0
  one_of x = (x ≡ get_or labels from 0) ⊎ (x ≡ get_or labels to 0)

  bus_of_one : (x : ℕ) → one_of x → first_node links x ≡ first_node links from
  unfolding one_of
  bus_of_one x (inl e) = ap (first_node links) e ∙ are.one_bus from at_from
  bus_of_one x (inr e) = ap (first_node links) e ∙ (are.one_bus to at_to ∙ sym same)

  one_below : (x : ℕ) → one_of x → x < length labels
  unfolding one_of
  one_below x (inl e) = let l = are.low from at_from in omega (arith, e, l, at_from)
  one_below x (inr e) = let l = are.low to at_to in omega (arith, e, l, at_to)

  lower_one : one_of (min (get_or labels from 0) (get_or labels to 0))
  unfolding one_of
  lower_one = elim (cases_lt (get_or labels from 0) (get_or labels to 0)) [ inl l ↦ inl (omega (arith, l)) | inr l ↦ inr (omega (arith, l)) ]

  higher_one : one_of (max (get_or labels from 0) (get_or labels to 0))
  unfolding one_of
  higher_one = elim (cases_lt (get_or labels from 0) (get_or labels to 0)) [ inl l ↦ inr (omega (arith, l)) | inr l ↦ inl (omega (arith, l)) ]

  pub low_bus : (x : ℕ) → x ≡ min (get_or labels from 0) (get_or labels to 0) → first_node links x ≡ first_node links from
  low_bus x e = ap (first_node links) e ∙ bus_of_one (min (get_or labels from 0) (get_or labels to 0)) lower_one

  pub high_bus : (x : ℕ) → x ≡ max (get_or labels from 0) (get_or labels to 0) → first_node links x ≡ first_node links from
  high_bus x e = ap (first_node links) e ∙ bus_of_one (max (get_or labels from 0) (get_or labels to 0)) higher_one

  pub high_below : (x : ℕ) → x ≡ max (get_or labels from 0) (get_or labels to 0) → x < length labels
  high_below x e = let l = one_below (max (get_or labels from 0) (get_or labels to 0)) higher_one in omega (arith, e, l)

-- where none of the two was above the lower of their labels, they are equal
pub level_settled : (links : List Link) (a b c : List ℕ) (from to low : ℕ) (p q r : Bool) → low ≡ min (get_or a from 0) (get_or a to 0) → AreLowered links a b p → get_or b from 0 ≤ low
    → AreLowered links b c q → get_or c to 0 ≤ low → ((p || q) || r) ≡ false → get_or a from 0 ≡ get_or a to 0
level_settled links a b c from to low true q r is f m g n e = absurd cc
level_settled links a b c from to low false true r is f m g n e = absurd cc
level_settled links a b c from to low false false r is f m g n e =
    let one : get_or a from 0 ≤ low = subst (λ (x : List ℕ). get_or x from 0 ≤ low) (f.same refl) m in
    let other : get_or a to 0 ≤ low = subst (λ (x : List ℕ). get_or x to 0 ≤ low) (g.same refl ∙ f.same refl) n in
    omega (arith, is, one, other)

-- settled labels are first nodes
pub settled_first : (links : List Link) (labels : List ℕ) → AreLabels links labels → AreSettled links labels → (u : ℕ) → u < length labels → get_or labels u 0 ≡ first_node links u
settled_first links labels are settled u l =
    let f : ℕ → ℕ = λ v. get_or labels v 0 in
    let first = first_node links u in
    let along : f u ≡ f first = same_from_Chain f (ends_of_links links) (ends_settled links labels settled) (Chain-first (ends_of_links links) u) in
    let low = first_node-le links u in
    let here : first < length labels = omega (arith, low) in
    let bus : first_node links (f first) ≡ first = are.one_bus first here ∙ first_node-first_node links u in
    let below : f first ≤ first = are.low first here in
    let above : first_node links (f first) ≤ f first = first_node-le links (f first) in
    omega arith
  where
    ends_settled : (links : List Link) (labels : List ℕ) → AreSettled links labels → (e : Ends) → Contains (ends_of_links links) e → get_or labels e.a 0 ≡ get_or labels e.b 0
    ends_settled links labels settled e (k, l, h) =
        let z : Link = record { from = 0; to = 0 } in
        let below : k < length links = omega (arith, length-map links ends_of_link) in
        let is : ends_of_link (get_or links k z) ≡ e = sym (get_or-map ends_of_link links k z e below) ∙ h in
        subst (λ (x : Ends). get_or labels x.a 0 ≡ get_or labels x.b 0) is (settled k z below)
