-- What is left where some meters are lost: what is critical there, and when its pairs are as many as those of all.
use Rattle.std.proofs.Common.{◌≡◌, ◌↔◌, ℕ, ◌≤◌, Bool, false, not, Option, List, [], ◌∷◌, length, refl, sym, ap, subst, inl, inr, arith}
use Rattle.std.proofs.lemmas.Bool.{cases_eq, eq-eqb, ne_eqb, not-true}
use Rattle.obs_graph.specs.declared.Ends.{Ends}
use Rattle.obs_graph.specs.Graph.{Graph}
use Rattle.obs_matroid.specs.Lists.{In, other_than, without}
use Rattle.obs_matroid.proofs.Lists.{In-filter_from, filter_all, filter_same}
use Rattle.obs_meter.specs.declared.Touch.{Touch}
use Rattle.obs_meter.specs.Assignments.{IsRhoAt}
use Rattle.obs_meter.specs.Lost.{is_listed, losing}
use Rattle.obs_meter.specs.inner.Lost.{left_of}
use Rattle.obs_meter.specs.Touches.{live_items}
use Rattle.obs_meter.proofs.Assigned.{every-to_live}
use Rattle.obs_meter.proofs.Lost.{live_items-losing, rho-left, rho-lost}
use Rattle.obs_assign.specs.Assignment.{Assignment}
use Rattle.obs_assign.specs.inner.Assignment.{pairs}
use Rattle.obs_assign.proofs.Standing.{IsAssignmentAt-standing}
use Rattle.obs_exchange.specs.Critical.{IsCriticalAt}
use Rattle.obs_exchange.specs.inner.Longest.{IsLongest}
use Rattle.obs_exchange.proofs.Losing.{stands-all}

-- over items that aren't lost the greatest length is as it was
pub rho-unlost : (lost : ℕ → Bool) (ends : List (Option Ends)) (touches : List Touch) (M : List ℕ) (r : ℕ) → ((x : ℕ) → In x M → lost x ≡ false)
    → IsRhoAt ends (losing lost touches) M r ↔ IsRhoAt ends touches M r
rho-unlost lost ends touches M r kept =
    let same : left_of lost M ≡ M = filter_all (λ x. not (lost x)) M (λ x i. ap not (kept x i)) in (
      (λ h. subst (λ (N : List ℕ). IsRhoAt ends touches N r) same (rho-lost lost touches ends M r h)),
      (λ h. rho-left lost touches ends M r (subst (λ (N : List ℕ). IsRhoAt ends touches N r) (sym same) h)),
    )

-- a live item that is left isn't lost
unlost-live : (lost : ℕ → Bool) (ends : List (Option Ends)) (touches : List Touch) (x : ℕ) → In x (live_items ends (losing lost touches)) → lost x ≡ false
unlost-live lost ends touches x i =
    not-true (lost x) (In-filter_from (λ m. not (lost m)) x (live_items ends touches) (subst (λ (M : List ℕ). In x M) (live_items-losing lost touches ends) i)).1

-- what is critical among the live items that are left is critical among the live items that aren't lost
pub critical-left : (lost : ℕ → Bool) (ends : List (Option Ends)) (touches : List Touch) (k : ℕ)
    → IsCriticalAt ends (losing lost touches) (live_items ends (losing lost touches)) k ↔ IsCriticalAt ends touches (left_of lost (live_items ends touches)) k
critical-left lost ends touches k =
    let M = live_items ends (losing lost touches) in
    let is = live_items-losing lost touches ends in
    let all = λ (r : ℕ). rho-unlost lost ends touches M r (unlost-live lost ends touches) in
    let less = λ (s : ℕ). rho-unlost lost ends touches (without k M) s (λ x i. unlost-live lost ends touches x (In-filter_from (other_than k) x M i).0) in (
      (λ h. subst (λ (N : List ℕ). IsCriticalAt ends touches N k) is (record { item = h.item; falls = λ r s p q. h.falls r s ((all r).1 p) ((less s).1 q) })),
      (λ h.
          let l : IsCriticalAt ends touches M k = subst (λ (N : List ℕ). IsCriticalAt ends touches N k) (sym is) h in
          record { item = l.item; falls = λ r s p q. l.falls r s ((all r).0 p) ((less s).0 q) }),
    )

-- one item is lost
pub left_of-one : (m : ℕ) (M : List ℕ) → left_of (is_listed (m ∷ [])) M ≡ without m M
left_of-one m M = filter_same (λ x. not (is_listed (m ∷ []) x)) (other_than m) M (λ x i. elim (cases_eq x m) [
  | inl e ↦ rw (e, eq-eqb m m refl) refl
  | inr n ↦ rw (ne_eqb x m n, ne_eqb m x (λ e. n (sym e))) refl
])

-- a longest assignment of what is left is one of all where it has as many pairs as one of all
pub IsLongest-all : (lost : ℕ → Bool) (g : Graph) (touches : List Touch) (a b : Assignment) → IsLongest g touches a → IsLongest g (losing lost touches) b → length (pairs a) ≤ length (pairs b)
    → IsLongest g touches b
IsLongest-all lost g touches a b h k long =
    let stands = stands-all lost g touches b k.stands in
    record {
      stands = stands;
      whole = k.whole;
      thawed = k.thawed;
      longest = record {
        longest = pairs b;
        assigns = every-to_live g.ends touches (pairs b) (IsAssignmentAt-standing b g touches k.whole stands);
        long = refl;
        none_longer = λ B x. let few = h.longest.none_longer B x in omega (arith, few, long);
      };
    }
