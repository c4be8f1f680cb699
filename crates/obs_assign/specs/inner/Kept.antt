-- The kept pairs as one value, and what its arrays keep.
use Rattle.std.specs.Prelude.{◌≡◌, ◌↔◌, ℕ, ◌≤◌, ◌<◌, ◌^◌, Bool, Option, Some, None, List, length, take, slice_index_or}
use Rattle.obs_graph.specs.Graph.{Graph}
use Rattle.obs_matroid.specs.Lists.{In, IsDistinct}
use Rattle.obs_matroid.specs.Assignments.{branches}
use Rattle.obs_matroid.specs.inner.Slots.{pairs_of}
use Rattle.obs_forest.specs.Forest.{Forest}
use Rattle.obs_forest.specs.inner.Forest.{taken}
use Rattle.obs_assign.specs.Assignment.{Assignment}
use Rattle.obs_assign.specs.inner.Assignment.{HoldsPairs, IsWhole}

-- by meter its branch or none, the forest of the branches, and for how many meters there is room
pub record Kept : Type 0 where
  pub slots : List (Option ℕ)
  pub forest : Forest
  pub most_meters : ℕ

-- other slots in the same room, whose branches of the graph are held
abbrev pub with_slots : Kept → Graph → List (Option ℕ) → Kept
with_slots k g slots =
    record k {
      slots = slots;
      forest = record k.forest { vertices = g.vertices; held = taken g.ends (branches (pairs_of slots)) };
    }

-- the branches of the slots are held as the graph has them
abbrev pub IsOver : Kept → Graph → Type 0
IsOver k g = k ≡ with_slots k g k.slots

-- each branch has the meter whose branch it is
abbrev pub IsInverse : List (Option ℕ) → List (Option ℕ) → Type 0
IsInverse slots owners = (m e : ℕ) → (slice_index_or slots m None ≡ Some e) ↔ (slice_index_or owners e None ≡ Some m)

-- no two meters have one branch
abbrev pub SlotsApart : List (Option ℕ) → Type 0
SlotsApart slots = (m n e : ℕ) → slice_index_or slots m None ≡ Some e → slice_index_or slots n None ≡ Some e → m ≡ n

-- the list has the branches of the pairs, each once
pub record IsListed (slots : List (Option ℕ)) (list : List ℕ) : Type 0 where
  pub different : IsDistinct list
  pub exactly : (e : ℕ) → In e list ↔ In e (branches (pairs_of slots))

-- the pairs are held and counted, and found by their branch, and their branches are listed at the front
pub record IsKept (k : Kept) (meters count : ℕ) (owners : List (Option ℕ)) (list : List ℕ) : Type 0 where
  pub few : k.most_meters < 2 ^ 32
  pub meters_low : meters ≤ k.most_meters
  pub holds : HoldsPairs k.slots k.forest.held
  pub positions : length k.forest.held ≤ k.forest.most_branches
  pub count_is : count ≡ length (pairs_of k.slots)
  pub inverse : IsInverse k.slots owners
  pub owners_len : length owners ≡ k.forest.most_branches
  pub list_len : length list ≡ k.most_meters
  pub listed : IsListed k.slots (take count list)

-- what is seen of the kept pairs and of the flags, of which the first are in use
abbrev pub seen : Kept → List Bool → ℕ → Assignment
seen k frozen turns =
    record { slots = k.slots; frozen = take (length k.slots) frozen; turns = turns; forest = k.forest; most_meters = k.most_meters }

-- the other arrays of an assignment have room for what it was made for
pub record HasArrays (a : Assignment) (frozen path remaining search : ℕ) : Type 0 where
  pub whole : IsWhole a
  pub frozen_len : frozen ≡ a.most_meters
  pub path_len : path ≡ a.forest.most_vertices
  pub remaining_len : remaining ≡ a.forest.most_branches
  pub search_len : search ≡ a.forest.most_vertices
