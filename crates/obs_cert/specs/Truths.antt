-- What claims that hold say of the case.
use Rattle.std.specs.Prelude.{◌≡◌, ◌↔◌, ℕ, ◌<◌, true, List, [], None, length, slice_index, slice_index_or}
use Rattle.obs_case.specs.Tables.{IsValid, Tables, node_names}
use Rattle.obs_matroid.specs.Lists.{In}
use Rattle.obs_network.specs.Network.{case_component_count, case_first_buses}
use Rattle.obs_network.specs.Observable.{IsObservable, is_energised_component}
use Rattle.obs_network.specs.Switched.{case_buses, case_first_node}
use Rattle.obs_cert.specs.Claims.{BoundClaim, Claim, TreeClaim, bound, tree}
use Rattle.obs_cert.specs.Flaws.{Holds, first_flaw}
use Rattle.obs_cert.specs.Scopes.{named_component}

-- there is no flaw exactly where each claim holds
abbrev pub NoFlawWhereAllHold : Type 0
NoFlawWhereAllHold =
    (t : Tables) (at : ℕ) (claims : List Claim) → (first_flaw t at claims ≡ None) ↔ ((claim : Claim) → In claim claims → Holds t claim)

-- an energised component has this name: it is that of the first node of its first bus
pub record IsNameOf (t : Tables) (c : ℕ) (name : List ℕ) : Type 0 where
  pub there : c < case_component_count t
  pub energised : is_energised_component t c ≡ true
  pub node : ℕ
  pub low : node < length t.nodes
  pub named : slice_index_or (node_names t) node [] ≡ name
  pub first_node : case_first_node t node ≡ node
  pub first_bus : slice_index (case_first_buses t) c ≡ slice_index (case_buses t) node

-- a tree claim that holds names an energised component, and this is observable
abbrev pub TreesAreObservable : Type 0
TreesAreObservable = (t : Tables) (c : TreeClaim) → IsValid t → Holds t (tree c) →
    IsNameOf t (named_component t c.component) c.component × IsObservable t (named_component t c.component)

-- a bound claim that holds names an energised component, and this isn't observable
abbrev pub BoundsAreNotObservable : Type 0
BoundsAreNotObservable = (t : Tables) (c : BoundClaim) → IsValid t → Holds t (bound c) →
    IsNameOf t (named_component t c.component) c.component × (IsObservable t (named_component t c.component) → ⊥)
