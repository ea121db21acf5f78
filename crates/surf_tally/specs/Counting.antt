-- What is counted at each place while events happen, and what the events then make of it.
use Rattle.std.specs.Prelude.{ℕ, ◌≡◌, ◌≤◌, ◌+◌, ◌-◌, ◌==◌, nat_lt, List, length, Option, Some, None, slice_get, if◌then◌else◌}
use Rattle.std.specs.Option.{option_map}
use Rattle.surf_world.specs.declared.event.Event.{Event}
use Rattle.surf_world.specs.Systems.{Surface}
use Rattle.surf_world.specs.Renamings.{AreBelow}
use Rattle.surf_sim.specs.Simulations.{Simulation}
use Rattle.surf_sync.specs.Spelling.{Showing}
use Rattle.surf_trace.specs.Generations.{generation, observed}
use Rattle.surf_tally.specs.declared.counts.Count.{Count}
use Rattle.surf_tally.specs.declared.shown.Shown.{Shown}
use Rattle.surf_tally.specs.Showings.{look_at, show_by}
use Rattle.surf_tally.specs.Simulated.{events_from}

abbrev pub differs : Option Shown → Option Shown → Option ℕ
differs (Some a) (Some b) = if a.generation == b.generation then None else Some b.state
differs None (Some b) = None
differs (Some a) None = None
differs None None = None

-- at first, by what a name shows
abbrev pub first_count : Option Shown → Count
first_count shown = record { reached = 0; state = 0; shown = shown }

-- with one more generation, in this state, if there is one
abbrev pub with_state : ℕ → Option ℕ → Option Shown → Count → Count
with_state watched None now x = record { reached = x.reached; state = x.state; shown = now }
with_state watched (Some state) now x = record {
  reached = x.reached + 1;
  state = if x.reached + 1 == watched then state else x.state;
  shown = now;
}

-- after a place shows something new
abbrev pub noted : ℕ → Option Shown → Count → Count
noted watched now x = with_state watched (differs x.shown now) now x

-- the generations that a cell has come to, and its state at the one that is watched
pub record Outcome : Type 0 where
  pub reached : ℕ
  pub state : Option ℕ

-- what events make of a count
abbrev pub outcome : {N : Type 0} → (N → Option Showing) → Surface N → List N → List Event → ℕ → ℕ →
    Count → Outcome
outcome show S c es watched p x = record {
  reached = x.reached + generation show S c es p;
  state = if nat_lt x.reached watched then observed show S c es p (watched - x.reached)
      else Some x.state;
}

-- and where no more events come
abbrev pub ended : ℕ → Count → Outcome
ended watched x = record {
  reached = x.reached;
  state = if nat_lt x.reached watched then None else Some x.state;
}

-- after n of at most so many events of a simulation, which began with the first counts: each count
-- shows what its site does, and what the events to come make of it is what all of them make of the
-- first
pub record Going (table : List (Option Shown)) (watched count n : ℕ) (sim now : Simulation)
    (first counts : List Count) : Type 0 where
  pub within : n ≤ count
  pub below : AreBelow (length table) now.placed.surface now.placed.names
  pub sites : length counts ≡ length now.placed.names
  pub few : (p : ℕ) (x : Count) → slice_get counts p ≡ Some x → x.reached ≤ n
  pub right : (p : ℕ) (x : Count) → slice_get counts p ≡ Some x →
      x.shown ≡ look_at table now.placed p
  pub number : length (events_from sim count) ≡ n + length (events_from now (count - n))
  pub told : (p : ℕ) →
      option_map (outcome (show_by table) now.placed.surface now.placed.names
      (events_from now (count - n)) watched p) (slice_get counts p)
      ≡ option_map (outcome (show_by table) sim.placed.surface sim.placed.names
      (events_from sim count) watched p) (slice_get first p)
