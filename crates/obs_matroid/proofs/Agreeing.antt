-- Items that touch the same branches by two functions have the same assignments and islands.
use Rattle.std.proofs.Common.{◌≡◌, ℕ, List, sym, subst, Bool}
use Rattle.obs_matroid.specs.Lists.{In}
use Rattle.obs_matroid.specs.Matroid.{Matroid}
use Rattle.obs_matroid.specs.Assignments.{Pair, IsAssignment}
use Rattle.obs_matroid.specs.inner.Assignments.{IsRho}
use Rattle.obs_matroid.specs.Islands.{IsIsland, IsSpanned}
use Rattle.obs_matroid.proofs.Lists.{In_same}
use Rattle.obs_matroid.proofs.Pairs.{In-items_from}

module _ (g : Matroid) (touch other : ℕ → List ℕ) (M : List ℕ) (same : (m : ℕ) → In m M → touch m ≡ other m) where
  IsAssignment-agree : (A : List Pair) → IsAssignment g touch M A → IsAssignment g other M A
  IsAssignment-agree A a = record {
    of_items = a.of_items;
    touched = λ p i. subst (In p.1) (same p.0 (a.of_items p i)) (a.touched p i);
    different = a.different;
    independent = a.independent;
  }

  IsSpanned-agree : (ends : ℕ → ℕ × ℕ) (vs : List ℕ) (S : ℕ → Bool) → IsSpanned ends g touch vs M S → IsSpanned ends g other vs M S
  IsSpanned-agree ends vs S s = record {
    vertex = s.vertex;
    vertex_in = s.vertex_in;
    holds_vertex = s.holds_vertex;
    pairs = s.pairs;
    assigns = IsAssignment-agree s.pairs s.assigns;
    lie_inside = λ m i e k.
        let y = In-items_from s.pairs m i in
        s.lie_inside m i e (subst (In e) (sym (same m (In_same m y.0.0 M y.2 (s.assigns.of_items y.0 y.1)))) k);
    enough = s.enough;
  }

module _ (g : Matroid) (touch other : ℕ → List ℕ) (M : List ℕ) (same : (m : ℕ) → In m M → touch m ≡ other m) where
  pub IsRho-agree : (r : ℕ) → IsRho g touch M r → IsRho g other M r
  IsRho-agree r h = record {
    longest = h.longest;
    assigns = IsAssignment-agree g touch other M same h.longest h.assigns;
    long = h.long;
    none_longer = λ B b. h.none_longer B (IsAssignment-agree g other touch M (λ m i. sym (same m i)) B b);
  }

  pub IsIsland-agree : (ends : ℕ → ℕ × ℕ) (vs : List ℕ) (S : ℕ → Bool) → IsIsland ends g touch vs M S → IsIsland ends g other vs M S
  IsIsland-agree ends vs S h = record {
    spanned = IsSpanned-agree g touch other M same ends vs S h.spanned;
    largest = λ T t. h.largest T (IsSpanned-agree g other touch M (λ m i. sym (same m i)) ends vs T t);
  }
