-- Losses that are listed one after the other.
use Rattle.std.proofs.Common.{◌≡◌, ℕ, ◌+◌, ◌-◌, ◌<◌, ◌≤◌, true, false, List, [], ◌∷◌, ◌++◌, length, map, set, take, refl, sym, ap, ◌∙◌, arith, append_assoc}
use Rattle.std.specs.List.{range_with_len}
use Rattle.std.proofs.lemmas.List.{take_more_set}
use Rattle.obs_graph.specs.Graph.{Graph}
use Rattle.obs_matroid.proofs.Ranges.{later, later_listed, later_over}
use Rattle.obs_meter.specs.declared.Touch.{Touch}
use Rattle.obs_station.specs.declared.losses.Loss.{Loss}
use Rattle.obs_station.specs.inner.Held.{Stations, has_any, loss_in, losses_in}

module _ (g : Graph) (touches : List Touch) (s : Stations) (n : ℕ) where
  -- of the stations below c those with a live meter have their entries
  pub record IsListing (entries : List Loss) (found c : ℕ) : Type 0 where
    pub bound : found ≤ c
    pub lists : take found entries ++ losses_in g touches s (later n c) ≡ losses_in g touches s (range_with_len 0 n)

  module _ (entries : List Loss) (found c : ℕ) (h : IsListing entries found c) where
    pub Listing-over : c < n → has_any s c ≡ false → IsListing entries found (c + 1)
    Listing-over low f = record {
      bound = let b = h.bound in omega (arith, b);
      lists = ap (λ (cs : List ℕ). take found entries ++ map (loss_in g touches s) cs) (sym (later_over (has_any s) n c low f)) ∙ h.lists;
    }

    pub Listing-more : (x : Loss) → c < n → n ≤ length entries → has_any s c ≡ true → x ≡ loss_in g touches s c → IsListing (set entries found x) (found + 1) (c + 1)
    Listing-more x low long t is =
        let b = h.bound in
        let rest : List Loss = losses_in g touches s (later n (c + 1)) in
        record {
          bound = omega (arith, b);
          lists =
              ap (λ (xs : List Loss). xs ++ rest) (take_more_set entries found x (omega (arith, b, low, long)))
              ∙ (append_assoc (take found entries) (x ∷ []) rest
              ∙ (ap (λ (y : Loss). take found entries ++ y ∷ rest) is
              ∙ (ap (λ (cs : List ℕ). take found entries ++ map (loss_in g touches s) cs) (sym (later_listed (has_any s) n c low t)) ∙ h.lists)));
        }

    pub Listing-all : n ≤ c → take found entries ≡ losses_in g touches s (range_with_len 0 n)
    Listing-all l =
        let none : later n c ≡ [] = no_more n c l in
        sym (append_nil (take found entries)) ∙ (ap (λ (cs : List ℕ). take found entries ++ losses_in g touches s cs) (sym none) ∙ h.lists)
      where
        append_nil : (xs : List Loss) → xs ++ [] ≡ xs
        append_nil [] = refl
        append_nil (y ∷ xs) = ap (λ (ys : List Loss). y ∷ ys) (append_nil xs)

        no_more : (n c : ℕ) → n ≤ c → later n c ≡ []
        no_more n c l = let e : n - c ≡ 0 = omega (arith, l) in ap (range_with_len c) e
