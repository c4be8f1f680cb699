-- What makes a list the order in which items are taken.
use Rattle.std.specs.Prelude.{◌≡◌, ℕ, ◌<◌, true, List, length, slice_index_or}
use Rattle.obs_placement.specs.Order.{is_earlier}

-- the k-th of the prices and items
abbrev pub item_at : List (ℕ × ℕ) → ℕ → ℕ
item_at keys k = (slice_index_or keys k (0, 0)).1

-- the list has each item below n once, with its price, in the order in which they are taken
pub record IsOrder (price : ℕ → ℕ) (n : ℕ) (keys : List (ℕ × ℕ)) : Type 0 where
  pub count : length keys ≡ n
  pub low : (k : ℕ) → k < n → item_at keys k < n
  pub priced : (k : ℕ) → k < n → (slice_index_or keys k (0, 0)).0 ≡ price (item_at keys k)
  pub found : (m : ℕ) → m < n → (k : ℕ) × (k < n) × (item_at keys k ≡ m)
  pub rising : (j k : ℕ) → j < k → k < n → is_earlier price (item_at keys k) (item_at keys j) ≡ true

-- each of the first n places has the item of its number, with its price
pub record AreNumbered (price : ℕ → ℕ) (n : ℕ) (keys : List (ℕ × ℕ)) : Type 0 where
  pub count : length keys ≡ n
  pub is : (m : ℕ) → m < n → slice_index_or keys m (0, 0) ≡ (price m, m)
