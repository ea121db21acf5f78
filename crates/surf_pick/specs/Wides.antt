-- Sums of eight parts each, in a list whose place i has its parts at the eight places from 8i + 8
-- on.
use Rattle.std.specs.Prelude.{ℕ, zero, suc, ◌+◌, ◌-◌, ◌*◌, ◌^◌, ◌<◌, ◌≤◌, ◌≡◌, List, ◌++◌, length, drop, take, replicate, sum, slice_index}

-- the sum of the eight numbers from a place on; numbers behind the end count as 0
abbrev pub eight : List ℕ → ℕ → ℕ
eight S i =
    slice_index S i + slice_index S (i + 1) + slice_index S (i + 2) + slice_index S (i + 3)
    + slice_index S (i + 4) + slice_index S (i + 5) + slice_index S (i + 6) + slice_index S (i + 7)

-- the sum of the first numbers
abbrev pub first_sum : List ℕ → ℕ → ℕ
first_sum xs n = sum (take n xs)

-- the first part of a place, so many rows down
abbrev pub below : ℕ → ℕ → ℕ
below zero i = i
below (suc k) i = below k (8 * i + 8)

-- each place from one on, up to the leaves, holds the sum of its eight parts
abbrev pub SumsFrom : ℕ → ℕ → List ℕ → Type 0
SumsFrom low leaf S = (i : ℕ) → low ≤ i → i < leaf → slice_index S i ≡ eight S (8 * i + 8)

-- the leaves begin at the first place of a row, and the list ends with that row at the latest
pub record Rows (S : List ℕ) (leaf : ℕ) : Type 0 where
  pub depth : ℕ
  pub row : leaf ≡ below depth 0
  pub groups : ℕ
  pub size : length S ≡ 8 * groups
  pub long : length S ≤ 8 * leaf + 8
  pub holds : leaf ≤ length S
  pub few : leaf ≤ 2 ^ 60
  pub small : sum (drop leaf S) < 2 ^ 64

-- the leaves are these weights and zeros
pub record Kept (ws S : List ℕ) (leaf whole : ℕ) : Type 0 where
  pub rows : Rows S leaf
  pub leaves : drop leaf S ≡ ws ++ replicate (length S - leaf - length ws) 0
  pub room : leaf + length ws ≤ length S
  pub total : whole ≡ sum ws
  pub sums : SumsFrom 0 leaf S

-- only places before the leaves changed
pub record SameLeaves (old new : List ℕ) (leaf : ℕ) : Type 0 where
  pub size : length new ≡ length old
  pub leaves : drop leaf new ≡ drop leaf old

-- r lies among n numbers from a place on, and their sum fits
pub record Among (S : List ℕ) (n group r : ℕ) : Type 0 where
  pub within : group + n ≤ length S
  pub small : first_sum S (group + n) < 2 ^ 64 + first_sum S group
  pub below : first_sum S group + r < first_sum S (group + n)

-- a part of those numbers, up to `end`, and what is left of r before it
pub record Part (S : List ℕ) (n group r end place rest : ℕ) : Type 0 where
  pub low : group ≤ place
  pub high : place + n ≤ end
  pub exact : first_sum S place + rest ≡ first_sum S group + r
  pub below : first_sum S place + rest < first_sum S (place + n)

-- all sums are right but that of the place above `at`, which counts `old` for a part that is now
-- `new`
pub record Mending (S : List ℕ) (leaf at old new : ℕ) : Type 0 where
  pub right : (i : ℕ) → i < leaf → (8 * i + 8 ≤ at → at < 8 * i + 16 → ⊥)
      → slice_index S i ≡ eight S (8 * i + 8)
  pub wrong : (i : ℕ) → i < leaf → 8 * i + 8 ≤ at → at < 8 * i + 16
      → slice_index S i + new ≡ eight S (8 * i + 8) + old
  pub has : new ≤ slice_index S at
