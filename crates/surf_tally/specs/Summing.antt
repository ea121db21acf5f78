-- A tally of what was counted.
use Rattle.std.specs.Prelude.{ℕ, ◌≡◌, ◌≤◌, ◌+◌, min, max, List, drop, length, map, filter, Option, Some, None, slice_get, if◌then◌else◌}
use Rattle.surf_tally.specs.declared.counts.Count.{Count}
use Rattle.surf_tally.specs.declared.summary.Tally.{Tally}
use Rattle.surf_tally.specs.Counting.{ended}
use Rattle.surf_tally.specs.Tallies.{greatest, greatest_with, is_live, least, least_with}

abbrev pub reached_some : Option Count → ℕ
reached_some None = 0
reached_some (Some x) = x.reached

abbrev pub state_some : ℕ → Option Count → Option ℕ
state_some watched None = None
state_some watched (Some x) = (ended watched x).state

-- what the cell at a place came to, and its state at the generation that is watched
abbrev pub reached_at : List Count → ℕ → ℕ
reached_at counts p = reached_some (slice_get counts p)

abbrev pub state_at : List Count → ℕ → ℕ → Option ℕ
state_at counts watched p = state_some watched (slice_get counts p)

abbrev pub summed : List Count → ℕ → ℕ → List ℕ → Tally
summed counts watched events places = record {
  cells = length places;
  events = events;
  least = least (map (reached_at counts) places);
  greatest = greatest (map (reached_at counts) places);
  live = length (filter is_live (map (state_at counts watched) places));
}

abbrev pub live_one : Option ℕ → ℕ
live_one state = if is_live state then 1 else 0

-- a tally with one more cell
abbrev pub with_cell : ℕ → Count → Tally → Tally
with_cell watched x t = record {
  cells = t.cells;
  events = t.events;
  least = min t.least x.reached;
  greatest = max t.greatest x.reached;
  live = t.live + live_one (state_some watched (Some x));
}

-- the cells at the first i places are summed up
pub record SummedTo (counts : List Count) (watched events : ℕ) (places : List ℕ) (i : ℕ)
    (t : Tally) : Type 0 where
  pub cells : t.cells ≡ length places
  pub events_are : t.events ≡ events
  pub within : t.live ≤ i
  pub least_is :
      least_with t.least (drop i (map (reached_at counts) places))
      ≡ least (map (reached_at counts) places)
  pub greatest_is :
      greatest_with t.greatest (drop i (map (reached_at counts) places))
      ≡ greatest (map (reached_at counts) places)
  pub live_is :
      t.live + length (filter is_live (drop i (map (state_at counts watched) places)))
      ≡ length (filter is_live (map (state_at counts watched) places))
