-- Trees of sums, in a list whose place i has its two parts at places 2i and 2i + 1.
use Rattle.std.specs.Prelude.{ℕ, ◌+◌, ◌-◌, ◌*◌, ◌^◌, ◌<◌, ◌≤◌, ◌≡◌, List, ◌++◌, length, drop, replicate, sum, slice_index}

-- the tree of sums over weights: t is the least number for which 2^t is at least the number of
-- weights
pub record TreeOf (ws sums : List ℕ) (t : ℕ) : Type 0 where
  pub holds : length ws ≤ 2 ^ t
  pub least : (k : ℕ) → length ws ≤ 2 ^ k → t ≤ k
  pub size : length sums ≡ 2 * 2 ^ t
  pub unused : slice_index sums 0 ≡ 0
  pub leaves : (i : ℕ) → i < 2 ^ t → slice_index sums (2 ^ t + i) ≡ slice_index ws i
  pub inner : (i : ℕ) → 1 ≤ i → i < 2 ^ t → slice_index sums i
      ≡ slice_index sums (2 * i) + slice_index sums (2 * i + 1)

abbrev pub IsTree : List ℕ → List ℕ → Type 0
IsTree ws sums = (t : ℕ) × TreeOf ws sums t

-- each inner place from a place on holds the sum of its two
abbrev pub InnerFrom : ℕ → ℕ → List ℕ → Type 0
InnerFrom low half sums = (i : ℕ) → low ≤ i → i < half →
    slice_index sums i ≡ slice_index sums (2 * i) + slice_index sums (2 * i + 1)

-- each inner place but one holds the sum of its two
abbrev pub InnerBut : ℕ → ℕ → List ℕ → Type 0
InnerBut place half sums = (i : ℕ) → 1 ≤ i → i < half → (i ≡ place → ⊥) →
    slice_index sums i ≡ slice_index sums (2 * i) + slice_index sums (2 * i + 1)

-- a list of sums whose leaves, from half on, are these weights and then zeros
pub record Kept (ws sums : List ℕ) (half t : ℕ) : Type 0 where
  pub power : half ≡ 2 ^ t
  pub holds : length ws ≤ half
  pub least : (k : ℕ) → length ws ≤ 2 ^ k → t ≤ k
  pub size : length sums ≡ 2 * half
  pub unused : slice_index sums 0 ≡ 0
  pub leaves : drop half sums ≡ ws ++ replicate (half - length ws) 0
  pub small : sum ws < 2 ^ 128

-- a list of two rows, of which the second has these leaves, and their sum is small
pub record Rows (sums : List ℕ) (half t : ℕ) : Type 0 where
  pub power : half ≡ 2 ^ t
  pub size : length sums ≡ 2 * half
  pub small : sum (drop half sums) < 2 ^ 128

-- there is such a depth
abbrev pub IsKept : List ℕ → List ℕ → ℕ → Type 0
IsKept ws sums half = (t : ℕ) × Kept ws sums half t

abbrev pub IsRows : List ℕ → ℕ → Type 0
IsRows sums half = (t : ℕ) × Rows sums half t

-- only inner places changed
pub record SameLeaves (old new : List ℕ) (half : ℕ) : Type 0 where
  pub size : length new ≡ length old
  pub unused : slice_index new 0 ≡ slice_index old 0
  pub leaves : drop half new ≡ drop half old
