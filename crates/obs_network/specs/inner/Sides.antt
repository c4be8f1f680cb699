-- A walk from both ends of a row along other branches: what it keeps while it runs, and what it comes to. `held` has the
-- branches that it goes along.
use Rattle.std.specs.Prelude.{◌≡◌, ◌≢◌, ◌≤◌, ◌<◌, ◌==◌, ◌⊎◌, ℕ, Bool, false, IsTrue, Option, Some, None, List, length, take, slice_index, slice_index_or, slice_set}
use Rattle.obs_graph.specs.declared.Ends.{Ends}
use Rattle.obs_graph.specs.Joined.{Chain, count_below}
use Rattle.obs_graph.specs.Positions.{present}
use Rattle.obs_graph.specs.inner.Search.{Reaches}
use Rattle.obs_network.specs.declared.sides.Others.{Others}
use Rattle.obs_network.specs.declared.sides.Walked.{Walked}

-- the side that the last walk found, where it found one, and for how many vertices there is room
pub record Sides : Type 0 where
  pub found : List ℕ
  pub most_vertices : ℕ

-- the first so many branches without one of them
abbrev pub rows_but : List (Option Ends) → ℕ → ℕ → List (Option Ends)
rows_but ends rows e = slice_set (take rows ends) e None

-- the rows of a graph but one
abbrev pub rows_in : Others → List (Option Ends)
rows_in o = rows_but o.graph.now.ends o.rows o.without

-- the end from which a vertex was reached
abbrev pub label_at : List (Option ℕ) → ℕ → Option ℕ
label_at labels v = slice_index_or labels v None

-- no vertex is reached
abbrev pub AreClear : List (Option ℕ) → Type 0
AreClear labels = (v : ℕ) → label_at labels v ≡ None

-- whether a vertex was reached from this end
abbrev pub is_from : ℕ → Option ℕ → Bool
is_from end None = false
is_from end (Some u) = u == end

-- the queue of an end has the vertices below n that were reached from it, each once, and the held branches join these with
-- the end
pub record IsQueueOf (n : ℕ) (held : List (Option Ends)) (labels : List (Option ℕ)) (end : ℕ) (queue : List ℕ) (tail : ℕ) : Type 0 where
  pub places : length queue ≡ length labels
  pub few : tail ≤ length queue
  pub count : tail ≡ count_below (λ v. is_from end (label_at labels v)) (length labels)
  pub below : (j : ℕ) → j < tail → slice_index queue j < n
  pub reached : (j : ℕ) → j < tail → label_at labels (slice_index queue j) ≡ Some end
  pub queued : (v : ℕ) → label_at labels v ≡ Some end → (j : ℕ) × (j < tail) × (slice_index queue j ≡ v)
  pub once : (i j : ℕ) → i < j → j < tail → slice_index queue i ≢ slice_index queue j
  pub joined : (v : ℕ) → label_at labels v ≡ Some end → Chain (present held) end v

-- what a held branch reaches from the vertices before the head was reached from this end too
abbrev pub AreFollowedUpTo : List (Option Ends) → List (Option ℕ) → ℕ → List ℕ → ℕ → Type 0
AreFollowedUpTo held labels end queue head =
    (j : ℕ) → j < head → (w p : ℕ) → Reaches held (slice_index queue j) w p → label_at labels w ≡ Some end

-- some vertices more were reached from this end, and no others
abbrev pub HaveGrown : List (Option ℕ) → List (Option ℕ) → ℕ → Type 0
HaveGrown before after end =
    (v : ℕ) → (label_at after v ≡ label_at before v) ⊎ ((label_at before v ≡ None) × (label_at after v ≡ Some end))

-- the held branches join an end with a vertex that was reached from another end
pub record IsMeeting (held : List (Option Ends)) (labels : List (Option ℕ)) (end : ℕ) : Type 0 where
  pub vertex : ℕ
  pub from : ℕ
  pub reached : label_at labels vertex ≡ Some from
  pub apart : from ≢ end
  pub joined : Chain (present held) end vertex

-- while a walk runs: each end has its queue, and where the two haven't met, what stands before the heads was followed
pub record AreWalked (n : ℕ) (held : List (Option Ends)) (labels : List (Option ℕ)) (one other : ℕ) (queue queue_there : List ℕ) (w : Walked) : Type 0 where
  pub here : IsQueueOf n held labels one queue w.tail
  pub there : IsQueueOf n held labels other queue_there w.tail_there
  pub begun : label_at labels one ≡ Some one
  pub begun_there : label_at labels other ≡ Some other
  pub ends : (v u : ℕ) → label_at labels v ≡ Some u → (u ≡ one) ⊎ (u ≡ other)
  pub low : w.head ≤ w.tail
  pub low_there : w.head_there ≤ w.tail_there
  pub met : IsTrue w.met → Chain (present held) one other
  pub followed : w.met ≡ false → AreFollowedUpTo held labels one queue w.head
  pub followed_there : w.met ≡ false → AreFollowedUpTo held labels other queue_there w.head_there

-- the labels that a walk keeps between two calls, and its queues, of which the first has the side that was found
pub record AreSides (labels : List (Option ℕ)) (found other : List ℕ) (count : ℕ) : Type 0 where
  pub clear : AreClear labels
  pub found_len : length found ≡ length labels
  pub other_len : length other ≡ length labels
  pub few : count ≤ length found
