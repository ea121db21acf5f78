-- Spans of rows, and how they are packed into lanes.
use Rattle.std.specs.Prelude.{◌≡◌, ℕ, zero, suc, ◌+◌, ◌<◌, ◌≤◌, ◌⊎◌, Bool, cond, ◌&&◌, nat_le, List, [], ◌∷◌, ◌++◌, length, slice_index_or, slice_set}
use Rattle.surf_lanes.specs.declared.lanes.Span.{Span}
use Rattle.surf_lanes.specs.declared.packing.Packing.{Packing}

abbrev pub span_at : List Span → ℕ → Span
span_at spans i = slice_index_or spans i (record { from = 1; to = 0 })

abbrev pub IsIn : (row : ℕ) → Span → Type 0
IsIn r s = (s.from ≤ r) × (r ≤ s.to)

-- of how many numbers below n a test holds
abbrev pub tally : (ℕ → Bool) → ℕ → ℕ
tally test zero = 0
tally test (suc n) = tally test n + cond (test n) 1 0

abbrev pub holds_row : List Span → (r i : ℕ) → Bool
holds_row spans r i = nat_le (span_at spans i).from r && nat_le r (span_at spans i).to

-- how many spans share a row
abbrev pub overlap : List Span → (r : ℕ) → ℕ
overlap spans r = tally (holds_row spans r) (length spans)

-- in order of their first rows, and none ends before it begins
pub record IsInOrder (spans : List Span) : Type 0 where
  pub ordered : (j i : ℕ) → j < i → i < length spans →
      (span_at spans j).from ≤ (span_at spans i).from
  pub forward : (i : ℕ) → i < length spans → (span_at spans i).from ≤ (span_at spans i).to

pub record LanesOf : Type 0 where
  pub lane : List ℕ
  pub count : ℕ
  pub row : ℕ

abbrev pub lane_at : LanesOf → ℕ → ℕ
lane_at l i = slice_index_or l.lane i 0

-- an earlier span in lane k that shares a row with span i
pub record Earlier (spans : List Span) (l : LanesOf) (i k : ℕ) : Type 0 where
  pub span : ℕ
  pub row : ℕ
  pub earlier : span < i
  pub in_lane : lane_at l span ≡ k
  pub in_first : IsIn row (span_at spans span)
  pub in_second : IsIn row (span_at spans i)

-- each span has the least lane that no earlier span sharing a row with it has
pub record IsLaned (spans : List Span) (l : LanesOf) : Type 0 where
  pub as_many : length l.lane ≡ length spans
  pub free : (i : ℕ) → i < length spans → Earlier spans l i (lane_at l i) → ⊥
  pub least : (i k : ℕ) → i < length spans → k < lane_at l i → Earlier spans l i k

-- and there are as many lanes as spans share one row; `row` is the first such row
pub record IsPacked (spans : List Span) (l : LanesOf) : Type 0 where
  pub laned : IsLaned spans l
  pub most : (r : ℕ) → overlap spans r ≤ l.count
  pub reached : overlap spans l.row ≡ l.count
  pub first : (r : ℕ) → overlap spans r ≡ l.count → l.row ≤ r

-- spans that share a row have different lanes
pub record AreApart (spans : List Span) (l : LanesOf) : Type 0 where
  pub apart : (i j r : ℕ) → i < length spans → j < length spans → IsIn r (span_at spans i) →
      IsIn r (span_at spans j) → lane_at l i ≡ lane_at l j → i ≡ j

-- every lane is below the count
pub record AreBelow (spans : List Span) (l : LanesOf) : Type 0 where
  pub below : (i : ℕ) → i < length spans → lane_at l i < l.count

-- the first span in the last lane, in whose first row that lane was first needed
pub record IsNewest (spans : List Span) (l : LanesOf) (newest : ℕ) : Type 0 where
  pub within : newest < length spans
  pub last : lane_at l newest + 1 ≡ l.count
  pub row : l.row ≡ (span_at spans newest).from
  pub before : (j : ℕ) → j < newest → lane_at l j < lane_at l newest

-- the law leaves one choice
abbrev pub PackedIsOne : Type 0
PackedIsOne = (spans : List Span) (l l' : LanesOf) → IsPacked spans l → IsPacked spans l' →
    ((i : ℕ) → i < length spans → lane_at l i ≡ lane_at l' i) × (l.count ≡ l'.count)
    × (l.row ≡ l'.row)

-- lanes while spans are packed one after another, with the last row in each lane
pub record PackingOf : Type 0 where
  pub lane : List ℕ
  pub last : List ℕ
  pub row : ℕ

abbrev pub packing_of : Packing → PackingOf
packing_of p = record { lane = p.lane.items; last = p.last.items; row = p.row }

-- the lane is the first that is free from a row on, or a new one
pub record IsFirstFree (last : List ℕ) (row lane : ℕ) : Type 0 where
  pub within : lane ≤ length last
  pub free : lane < length last → slice_index_or last lane 0 < row
  pub before : (k : ℕ) → k < lane → row ≤ slice_index_or last k 0

-- one span more, in that lane
pub record IsPlaced (old new : PackingOf) (span : Span) : Type 0 where
  pub free : ℕ
  pub first : IsFirstFree old.last span.from free
  pub lane : new.lane ≡ old.lane ++ free ∷ []
  pub last : ((free < length old.last) × (new.last ≡ slice_set old.last free span.to)
      × (new.row ≡ old.row)) ⊎ ((free ≡ length old.last) × (new.last ≡ old.last ++ span.to ∷ [])
      × (new.row ≡ span.from))
