-- What the cells at some places come to in a run.
use Rattle.std.specs.Prelude.{ℕ, Bool, false, ◌==◌, min, max, List, [], ◌∷◌, length, map, filter, get_or, Option, Some, None}
use Rattle.surf_world.specs.declared.event.Event.{Event}
use Rattle.surf_world.specs.Systems.{Surface}
use Rattle.surf_sync.specs.Spelling.{Showing}
use Rattle.surf_trace.specs.Generations.{generation, observed}
use Rattle.surf_tally.specs.declared.summary.Tally.{Tally}

-- the least and the greatest of a number and a list
abbrev pub least_with : ℕ → List ℕ → ℕ
least_with n [] = n
least_with n (m ∷ ms) = least_with (min n m) ms

abbrev pub greatest_with : ℕ → List ℕ → ℕ
greatest_with n [] = n
greatest_with n (m ∷ ms) = greatest_with (max n m) ms

-- of a list, and 0 of none
abbrev pub least : List ℕ → ℕ
least ns = least_with (get_or ns 0 0) ns

abbrev pub greatest : List ℕ → ℕ
greatest ns = greatest_with (get_or ns 0 0) ns

-- the state of a live cell is 1
abbrev pub is_live : Option ℕ → Bool
is_live None = false
is_live (Some state) = state == 1

-- Of the cells at the places: their number; the number of events; the least and the greatest number
-- of generations that one of them has come to; and how many were live in generation k, each observed
-- when it came to it.
abbrev pub tally_of : {N : Type 0} → (N → Option Showing) → Surface N → List N → List Event → ℕ →
    List ℕ → Tally
tally_of show S c es k places = record {
  cells = length places;
  events = length es;
  least = least (map (generation show S c es) places);
  greatest = greatest (map (generation show S c es) places);
  live = length (filter is_live (map (λ p. observed show S c es p k) places));
}
