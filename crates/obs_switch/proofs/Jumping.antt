-- Labels that jump to the labels of their labels.
use Rattle.std.proofs.Common.{◌≡◌, ℕ, ◌+◌, ◌<◌, ◌≤◌, Bool, true, ⊎_elim, List, length, set, get_or, sym, ap, ◌∙◌, subst, arith}
use Rattle.std.proofs.lemmas.Bool.{cases_eq}
use Rattle.std.proofs.lemmas.List.{get_or-set_same, get_or-set_other, length-set}
use Rattle.std.proofs.lemmas.List.Sums.{sum_by-set}
use Rattle.obs_switch.specs.declared.link.Link.{Link}
use Rattle.obs_switch.specs.Buses.{first_node}
use Rattle.obs_switch.specs.inner.Labels.{AreLabels, AreLowered}
use Rattle.obs_switch.proofs.Lowering.{lowered_more}

-- one label is lowered to a node of its bus
pub lowered_at : (links : List Link) (labels : List ℕ) (node label : ℕ) → AreLabels links labels → node < length labels
    → first_node links label ≡ first_node links node → label < get_or labels node 0 → AreLowered links labels (set labels node label) true
lowered_at links labels node label are here same below =
    let sum = sum_by-set (λ x. x) labels node label 0 here in
    record {
      labels = record { one_bus = one_bus; low = low };
      sum = omega (arith, sum);
      falls = λ e. omega (arith, sum);
      same = λ e. absurd cc;
    }
  where
    at_node : get_or (set labels node label) node 0 ≡ label
    at_node = get_or-set_same labels node label 0 here

    one_bus : (u : ℕ) → u < length (set labels node label) → first_node links (get_or (set labels node label) u 0) ≡ first_node links u
    one_bus u l =
        let within : u < length labels = omega (arith, l, length-set labels node label) in
        ⊎_elim
        (λ (e : u ≡ node). subst (λ k. first_node links (get_or (set labels node label) k 0) ≡ first_node links k) (sym e) (ap (first_node links) at_node ∙ same))
        (λ (n : u ≡ node → ⊥). ap (first_node links) (get_or-set_other labels node u label 0 n) ∙ are.one_bus u within)
        (cases_eq u node)

    low : (u : ℕ) → u < length (set labels node label) → get_or (set labels node label) u 0 ≤ u
    low u l =
        let within : u < length labels = omega (arith, l, length-set labels node label) in
        ⊎_elim
        (λ (e : u ≡ node). subst (λ k. get_or (set labels node label) k 0 ≤ k) (sym e) (omega (arith, at_node, are.low node here)))
        (λ (n : u ≡ node → ⊥). omega (arith, get_or-set_other labels node u label 0 n, are.low u within))
        (cases_eq u node)

-- labels are lowered, and those of the nodes so far are their own labels
pub record AreJumped (links : List Link) (old new : List ℕ) (node : ℕ) (lowered : Bool) : Type 0 where
  pub lowers : AreLowered links old new lowered
  pub own : (u : ℕ) → u < node → get_or new (get_or new u 0) 0 ≡ get_or new u 0

-- a label more jumps
pub jumped_more : (links : List Link) (old new : List ℕ) (node : ℕ) (lowered : Bool) → AreJumped links old new node lowered → node < length new
    → get_or new (get_or new node 0) 0 < get_or new node 0 → AreJumped links old (set new node (get_or new (get_or new node 0) 0)) (node + 1) true
jumped_more links old new node lowered so_far here below = record {
  lowers = lowered_more links old new (set new node label) lowered so_far.lowers (lowered_at links new node label are here (are.one_bus at within ∙ are.one_bus node here) below);
  own = own;
}
  where
    are : AreLabels links new
    are = so_far.lowers.labels

    at : ℕ
    at = get_or new node 0

    label : ℕ
    label = get_or new at 0

    at_most : at ≤ node
    at_most = are.low node here

    within : at < length new
    within = omega (arith, at_most, here)

    before : at < node
    before =
        ⊎_elim
        (λ (e : at ≡ node). absurd (omega (arith, below, ap (λ k. get_or new k 0) e)))
        (λ (n : at ≡ node → ⊥). omega (arith, at_most, n))
        (cases_eq at node)

    kept : (k : ℕ) → k < node → get_or (set new node label) k 0 ≡ get_or new k 0
    kept k l = get_or-set_other new node k label 0 (λ e. absurd (omega arith))

    of_label : get_or (set new node label) label 0 ≡ label
    of_label = kept label (omega (arith, below, before)) ∙ so_far.own at before

    own : (u : ℕ) → u < node + 1 → get_or (set new node label) (get_or (set new node label) u 0) 0 ≡ get_or (set new node label) u 0
    own u l =
        ⊎_elim
        (λ (e : u ≡ node).
        let is : get_or (set new node label) u 0 ≡ label = ap (λ k. get_or (set new node label) k 0) e ∙ get_or-set_same new node label 0 here in
        ap (λ k. get_or (set new node label) k 0) is ∙ (of_label ∙ sym is))
        (λ (n : u ≡ node → ⊥).
        let earlier : u < node = omega (arith, l, n) in
        let is = kept u earlier in
        let low : get_or new u 0 ≤ u = are.low u (omega (arith, earlier, here)) in
        ap (λ k. get_or (set new node label) k 0) is ∙ (kept (get_or new u 0) (omega (arith, low, earlier)) ∙ (so_far.own u earlier ∙ sym is)))
        (cases_eq u node)

-- a label stays
pub jumped_still : (links : List Link) (old new : List ℕ) (node : ℕ) (lowered : Bool) → AreJumped links old new node lowered → node < length new
    → get_or new node 0 ≤ get_or new (get_or new node 0) 0 → AreJumped links old new (node + 1) lowered
jumped_still links old new node lowered so_far here above = record { lowers = so_far.lowers; own = own }
  where
    at : ℕ
    at = get_or new node 0

    at_most : at ≤ node
    at_most = so_far.lowers.labels.low node here

    stays : get_or new at 0 ≡ at
    stays = omega (arith, above, so_far.lowers.labels.low at (omega (arith, at_most, here)))

    own : (u : ℕ) → u < node + 1 → get_or new (get_or new u 0) 0 ≡ get_or new u 0
    own u l =
        ⊎_elim
        (λ (e : u ≡ node). subst (λ k. get_or new (get_or new k 0) 0 ≡ get_or new k 0) (sym e) stays)
        (λ (n : u ≡ node → ⊥). so_far.own u (omega (arith, l, n)))
        (cases_eq u node)
