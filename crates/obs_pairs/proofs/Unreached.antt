-- What isn't reached where a redundant meter is lost is its class.
use Rattle.std.proofs.Common.{◌≡◌, ℕ, Bool, true, false, not, ◌&&◌, List, [], ◌∷◌, length, refl, sym, ap, ◌∙◌, subst, inl, inr}
use Rattle.std.specs.Cmp.Derive.{one_truth}
use Rattle.std.proofs.lemmas.Bool.{and_from, and_parts, cases_Bool, cases_eq, eq-eqb, ne_eqb, not-true}
use Rattle.obs_graph.specs.Positions.{AreBranches}
use Rattle.obs_graph.specs.Graph.{Graph}
use Rattle.obs_matroid.specs.Lists.{without}
use Rattle.obs_matroid.proofs.Lists.{clash}
use Rattle.obs_meter.specs.declared.Touch.{Touch}
use Rattle.obs_meter.specs.Held.{Meters}
use Rattle.obs_meter.specs.Lost.{is_listed, losing}
use Rattle.obs_meter.specs.Touches.{is_live, live_items}
use Rattle.obs_meter.specs.Assignments.{IsRhoAt}
use Rattle.obs_meter.proofs.Assigned.{live_items-distinct}
use Rattle.obs_meter.proofs.Lost.{live-losing, losing-none}
use Rattle.obs_assign.specs.Assignment.{Assignment}
use Rattle.obs_assign.specs.inner.Assignment.{has_flag, pairs}
use Rattle.obs_exchange.specs.Critical.{IsCriticalAt, critical_at}
use Rattle.obs_exchange.specs.declared.Sources.TheVariants.{All}
use Rattle.obs_exchange.specs.inner.Closed.{IsLeastClosedAt}
use Rattle.obs_exchange.specs.inner.Found.{HasClosed}
use Rattle.obs_exchange.specs.inner.Longest.{IsLongest}
use Rattle.obs_exchange.proofs.Lawful.{closed_noncritical, critical_at-exactly}
use Rattle.obs_exchange.proofs.Losing.{rho-live_left}
use Rattle.obs_pairs.proofs.Left.{IsLongest-all, critical-left, left_of-one}
use Rattle.obs_pairs.specs.Partners.{class_at}
use Rattle.obs_pairs.specs.inner.Settled.{LacksClass, redundant_at}
use Rattle.obs_pairs.proofs.Partnered.{classes_at, newly_critical_at, partners_at-both_ways, redundant-parts, rho-redundant}

-- the least closed set of all sources has the redundant ones
pub least_redundant : (g : Graph) (touches : List Touch) (a : Assignment) (S : ℕ → Bool) → AreBranches g.vertices g.ends → IsLongest g touches a → IsLeastClosedAt g.ends touches All a S
    → (k : ℕ) → S k ≡ redundant_at g.vertices g.ends touches k
least_redundant g touches a S ok h least k =
    let is = closed_noncritical a g touches S (record { branches = ok; whole = h.whole; stands = h.stands; least = least }) h.thawed k in
    one_truth (S k) (redundant_at g.vertices g.ends touches k)
    (λ t. let u = is.0 t in and_from (is_live g.ends touches k) (not (critical_at g.vertices g.ends touches k)) u.0 (ap not u.1))
    (λ t. let u = and_parts (is_live g.ends touches k) (not (critical_at g.vertices g.ends touches k)) t in is.1 (u.0, not-true (critical_at g.vertices g.ends touches k) u.1))

-- so they are marked
pub closed_redundant : (g : Graph) (touches : List Touch) (a : Assignment) (flags : List Bool) → AreBranches g.vertices g.ends → IsLongest g touches a → HasClosed g.ends touches All a a flags
    → (k : ℕ) → has_flag flags k ≡ redundant_at g.vertices g.ends touches k
closed_redundant g touches a flags ok h closed = least_redundant g touches a (has_flag flags) ok h closed.least

module _ (g : Graph) (touches : List Touch) (ok : AreBranches g.vertices g.ends) (m : ℕ) (redundant : redundant_at g.vertices g.ends touches m ≡ true) where
  abbrev lost : ℕ → Bool
  lost = is_listed (m ∷ [])

  abbrev left : List Touch
  left = losing lost touches

  -- the pairs are as many without m
  pub longest-without : (a b : Assignment) → IsLongest g touches a → IsLongest g left b → IsLongest g touches b
  longest-without a b h k =
      let M = live_items g.ends touches in
      let u = redundant-parts g.vertices g.ends touches ok m redundant in
      let less : IsRhoAt g.ends touches (without m M) (length (pairs b)) =
      subst (λ (N : List ℕ). IsRhoAt g.ends touches N (length (pairs b))) (left_of-one m M) (rho-live_left lost g.ends touches (length (pairs b)) k.longest) in
      IsLongest-all lost g touches a b h k
      (rho-redundant g.vertices g.ends touches ok M (live_items-distinct g.ends touches) m (length (pairs a)) (length (pairs b)) u.0 u.1 h.longest less)

  unlost : (k : ℕ) → (k ≡ m → ⊥) → lost k ≡ false
  unlost k n = rw (ne_eqb m k (λ e. n (sym e))) refl

  -- what is critical without m, over what is left
  critical-without : (k : ℕ) → IsCriticalAt g.ends left (live_items g.ends left) k → IsCriticalAt g.ends touches (without m (live_items g.ends touches)) k
  critical-without k c =
      subst (λ (N : List ℕ). IsCriticalAt g.ends touches N k) (left_of-one m (live_items g.ends touches)) ((critical-left lost g.ends touches k).0 c)

  critical-within : (k : ℕ) → IsCriticalAt g.ends touches (without m (live_items g.ends touches)) k → IsCriticalAt g.ends left (live_items g.ends left) k
  critical-within k c =
      (critical-left lost g.ends touches k).1 (subst (λ (N : List ℕ). IsCriticalAt g.ends touches N k) (sym (left_of-one m (live_items g.ends touches))) c)

  module _ (b : Assignment) (flags : List Bool) (h : IsLongest g left b) (closed : HasClosed g.ends left All b b flags) where
    marked : (k : ℕ) → has_flag flags k ≡ redundant_at g.vertices g.ends left k
    marked k = closed_redundant g left b flags ok h closed k

    -- what isn't marked and another than m is critical without m
    unmarked : (k : ℕ) → redundant_at g.vertices g.ends touches k ≡ true → (k ≡ m → ⊥) → has_flag flags k ≡ false → IsCriticalAt g.ends left (live_items g.ends left) k
    unmarked k t n f =
        let live : is_live g.ends left k ≡ true = live-losing lost touches g.ends k
        ∙ and_from (is_live g.ends touches k) (not (lost k)) (and_parts (is_live g.ends touches k) (not (critical_at g.vertices g.ends touches k)) t).0 (ap not (unlost k n)) in
        elim (cases_Bool (critical_at g.vertices g.ends left k)) [
          | inl c ↦ ((critical_at-exactly g.vertices g.ends left ok k).0 c).1
          | inr c ↦ clash (marked k ∙ and_from (is_live g.ends left k) (not (critical_at g.vertices g.ends left k)) live (ap not c)) f
        ]

    -- what is marked is live over what is left and not critical there
    pub lacks_class : LacksClass g.vertices g.ends touches m (has_flag flags)
    lacks_class k t =
        let n = g.vertices in
        let M = live_items g.ends touches in
        let d = live_items-distinct g.ends touches in
        let one = redundant-parts n g.ends touches ok m redundant in
        let other = redundant-parts n g.ends touches ok k t in
        let new = newly_critical_at n g.ends touches ok M d m k one.0 one.1 in (
          (λ f. elim (cases_eq k m) [
            | inl e ↦ ap (class_at n g.ends touches) e
            | inr apart ↦ (classes_at n g.ends touches ok k m).1 (inr (partners_at-both_ways n g.ends touches ok M d m k (new.0 (critical-without k (unmarked k t apart f), other.1))))
          ]),
          (λ e. elim (cases_Bool (has_flag flags k)) [
            | inr f ↦ f
            | inl y ↦
                let u = and_parts (is_live g.ends left k) (not (critical_at n g.ends left k)) (sym (marked k) ∙ y) in
                absurd (elim ((classes_at n g.ends touches ok k m).0 e) [
                  | inl same ↦ clash (and_parts (is_live g.ends touches k) (not (lost k)) (sym (live-losing lost touches g.ends k) ∙ u.0)).1 (rw (same, eq-eqb m m refl) refl)
                  | inr p ↦ clash ((critical_at-exactly n g.ends left ok k).1 (u.0, critical-within k (new.1 (partners_at-both_ways n g.ends touches ok M d k m p)).0)) (not-true (critical_at n g.ends left k) u.1)
                ])
          ]),
        )

-- what the meters touch once m is lost, and once it is regained
pub left_is : (before after : Meters) (touches : List Touch) (m : ℕ) → before.touches ≡ touches → after ≡ record before { touches = losing (is_listed (m ∷ [])) before.touches }
    → after.touches ≡ losing (is_listed (m ∷ [])) touches
left_is before after touches m e is = ap (λ (x : Meters). x.touches) is ∙ ap (losing (is_listed (m ∷ []))) e

pub left_again : (before after last : Meters) (touches : List Touch) (m : ℕ) → before.touches ≡ touches → after ≡ record before { touches = losing (is_listed (m ∷ [])) before.touches }
    → last ≡ record after { touches = losing (λ k. is_listed (m ∷ []) k && not (is_listed (m ∷ []) k)) touches } → last ≡ before
left_again before after last touches m e is back =
    let all : losing (λ k. is_listed (m ∷ []) k && not (is_listed (m ∷ []) k)) touches ≡ before.touches =
    losing-none (λ k. is_listed (m ∷ []) k && not (is_listed (m ∷ []) k)) touches (λ k l. none (is_listed (m ∷ []) k)) ∙ sym e in
    back ∙ (ap (λ (t : List Touch). record after { touches = t }) all ∙ ap (λ (x : Meters). record x { touches = before.touches }) is)
  where
    none : (b : Bool) → (b && not b) ≡ false
    none true = refl
    none false = refl
