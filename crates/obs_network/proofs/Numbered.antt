-- Components are numbered as buses are: live branches in the place of closed switches.
use Rattle.std.proofs.Common.{◌≡◌, ℕ, ◌+◌, ◌<◌, ◌≤◌, ◌↔◌, List, [], ◌∷◌, get_or, refl, ap, subst, arith}
use Rattle.std.proofs.lemmas.List.FromFn.{get_or-map-range_with_len}
use Rattle.obs_graph.specs.declared.Ends.{Ends}
use Rattle.obs_graph.specs.Joined.{Chain}
use Rattle.obs_switch.specs.declared.link.Link.{Link}
use Rattle.obs_switch.specs.Buses.{ends_of_links}
use Rattle.obs_switch.proofs.FirstNodes.{bus_of-below, bus_of-order, bus_at, numbered_next, counted_first, counted_other, bus_count-le, one_bus}
use Rattle.obs_network.specs.Components.{component_count, component_of, components_of, first_bus}

-- the branches as links
links_of : List Ends → List Link
links_of [] = []
links_of (e ∷ es) = record { from = e.a; to = e.b } ∷ links_of es

same_ends : (es : List Ends) → ends_of_links (links_of es) ≡ es
unfolding links_of
same_ends [] = refl
same_ends (e ∷ es) = ap (λ t. e ∷ t) (same_ends es)

pub component_of-below : (n : ℕ) (live : List Ends) (b : ℕ) → b < n → component_of live b < component_count n live
component_of-below n live b l = subst (λ es. component_of es b < component_count n es) (same_ends live) (bus_of-below n (links_of live) b l)

pub component_of-order : (live : List Ends) (b c : ℕ) → first_bus live b < first_bus live c → component_of live b < component_of live c
component_of-order live b c = subst (λ es. first_bus es b < first_bus es c → component_of es b < component_of es c) (same_ends live) (bus_of-order (links_of live) b c)

pub one_component : (live : List Ends) (b c : ℕ) → (component_of live b ≡ component_of live c) ↔ Chain live b c
one_component live b c = subst (λ es. (component_of es b ≡ component_of es c) ↔ Chain es b c) (same_ends live) (one_bus (links_of live) b c)

pub component_at : (n : ℕ) (live : List Ends) (c : ℕ) → c < component_count n live → (b : ℕ) × (b < n) × (component_of live b ≡ c)
component_at n live c = subst (λ es. c < component_count n es → (b : ℕ) × (b < n) × (component_of es b ≡ c)) (same_ends live) (bus_at n (links_of live) c)

pub components_of-at : (n : ℕ) (live : List Ends) (b : ℕ) → b < n → get_or (components_of n live) b 0 ≡ component_of live b
components_of-at n live b l = get_or-map-range_with_len (component_of live) 0 n b b 0 l (omega arith)

pub component_count-le : (n : ℕ) (live : List Ends) → component_count n live ≤ n
component_count-le n live = subst (λ es. component_count n es ≤ n) (same_ends live) (bus_count-le n (links_of live))

pub component_next : (live : List Ends) (numbers : List ℕ) (bus first count number : ℕ) → first ≡ first_bus live bus → ((u : ℕ) → u < bus → get_or numbers u 0 ≡ component_of live u) → count ≡ component_count bus live
    → (first ≡ bus → number ≡ count) → ((first ≡ bus → ⊥) → number ≡ get_or numbers first 0) → number ≡ component_of live bus
component_next live numbers bus first count number =
    subst (λ es. first ≡ first_bus es bus → ((u : ℕ) → u < bus → get_or numbers u 0 ≡ component_of es u) → count ≡ component_count bus es
    → (first ≡ bus → number ≡ count) → ((first ≡ bus → ⊥) → number ≡ get_or numbers first 0) → number ≡ component_of es bus) (same_ends live) (numbered_next (links_of live) numbers bus first count number)

pub component_counted_first : (live : List Ends) (bus count : ℕ) → first_bus live bus ≡ bus → count ≡ component_count bus live → count + 1 ≡ component_count (bus + 1) live
component_counted_first live bus count = subst (λ es. first_bus es bus ≡ bus → count ≡ component_count bus es → count + 1 ≡ component_count (bus + 1) es) (same_ends live) (counted_first (links_of live) bus count)

pub component_counted_other : (live : List Ends) (bus count : ℕ) → (first_bus live bus ≡ bus → ⊥) → count ≡ component_count bus live → count ≡ component_count (bus + 1) live
component_counted_other live bus count = subst (λ es. (first_bus es bus ≡ bus → ⊥) → count ≡ component_count bus es → count ≡ component_count (bus + 1) es) (same_ends live) (counted_other (links_of live) bus count)
