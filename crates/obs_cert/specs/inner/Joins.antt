-- Which vertices some branches join, as it is kept while their rank is taken: each vertex has a way up to the first one that is joined with it.
use Rattle.std.specs.Prelude.{◌≡◌, ℕ, ◌<◌, ◌≤◌, ◌^◌, Option, None, List, [], ◌∷◌, length, take, slice_index, slice_index_or}
use Rattle.std.specs.List.{cons_option}
use Rattle.obs_graph.specs.declared.Ends.{Ends}
use Rattle.obs_graph.specs.Joined.{first_joined, rank}
use Rattle.obs_matroid.specs.Lists.{In}

-- each way leads up
abbrev pub AreLow : List ℕ → Type 0
AreLow ups = (u : ℕ) → u < length ups → slice_index ups u ≤ u

-- each way leads to a vertex that the branches join, and ends at the first one
pub record AreFirsts (es : List Ends) (ups : List ℕ) : Type 0 where
  pub same : (u : ℕ) → u < length ups → first_joined es (slice_index ups u) ≡ first_joined es u
  pub top : (u : ℕ) → u < length ups → slice_index ups u ≡ u → first_joined es u ≡ u

-- the vertices whose ways don't end at themselves are noted, one for each step of the rank
pub record AreJoined (es : List Ends) (ups moved : List ℕ) : Type 0 where
  pub low : AreLow ups
  pub firsts : AreFirsts es ups
  pub noted : (u : ℕ) → u < length ups → (slice_index ups u ≡ u → ⊥) → In u moved
  pub within : (u : ℕ) → In u moved → u < length ups
  pub count : length moved ≡ rank (length ups) es

-- none is joined, there is room for so many vertices, and to note them
pub record AreFree (n : ℕ) (ups moved : List ℕ) : Type 0 where
  pub vertices : n ≤ length ups
  pub few : length ups < 2 ^ 32
  pub room : length ups ≤ length moved
  pub clear : AreJoined [] ups []

-- some branches are joined, so many vertices are noted, and there is room for the others
pub record AreWays (ups moved : List ℕ) (count : ℕ) : Type 0 where
  pub joined : (es : List Ends) × AreJoined es ups (take count moved)
  pub room : length ups ≤ length moved
  pub fits : count ≤ length moved

-- branches at positions put onto others one after the other, where they are present
abbrev pub onto : List (Option Ends) → List ℕ → List Ends → List Ends
onto ends [] es = es
onto ends (p ∷ ps) es = onto ends ps (cons_option (slice_index_or ends p None) es)
