-- The events that a simulation goes on with, and where they leave it.
use Rattle.std.specs.Prelude.{ℕ, zero, suc, ◌≡◌, ◌≤◌, ◌+◌, ◌*◌, nat_eq, List, length, Option, Some, None}
use Rattle.rand_core.specs.Stream.{Stream}
use Rattle.surf_world.specs.declared.event.Event.{Event}
use Rattle.surf_world.specs.Systems.{Surface, after}
use Rattle.surf_pick.specs.Draws.{words_of}
use Rattle.surf_sim.specs.Simulations.{Simulation, next_of, sim_events}
use Rattle.surf_trace.specs.Replays.{left_world}

-- at most so many, and fewer only where none is enabled any more
abbrev pub events_from : Simulation → ℕ → List Event
events_from sim count =
    sim_events nat_eq sim.placed.surface sim.placed.names (words_of sim.generator) count

abbrev pub words_then : Option (Event × Stream) → Stream → (Event → Stream → Stream) → Stream
words_then None s rest = s
words_then (Some n) s rest = rest n.0 n.1

-- the words after the draws of at most so many events
abbrev pub words_after : Surface ℕ → List ℕ → Stream → ℕ → Stream
words_after S c s zero = s
words_after S c s (suc n) =
    words_then (next_of nat_eq S c s) s (λ e t. words_after S (after S c e) t n)

abbrev pub words_from : Simulation → ℕ → Stream
words_from sim count =
    words_after sim.placed.surface sim.placed.names (words_of sim.generator) count

-- a simulation after at most so many events: its world is the one that they leave, its words follow
-- their draws, and at most 14 weights were set for each of them
pub record IsAfter (sim : Simulation) (count : ℕ) (now : Simulation) : Type 0 where
  pub world : now.placed ≡ left_world sim.placed (events_from sim count)
  pub words : words_of now.generator ≡ words_from sim count
  pub counted : sim.sets ≤ now.sets
  pub few : now.sets ≤ sim.sets + 14 * length (events_from sim count)
