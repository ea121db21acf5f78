-- What the printers of a world of numbers write, and how far they have come.
use Rattle.std.specs.Prelude.{ℕ, ◌-◌, ◌≡◌, nat_eq, List, ◌++◌, length, map, Option}
use Rattle.rand_core.specs.Stream.{Stream}
use Rattle.surf_base.specs.Emits.{Sent}
use Rattle.surf_world.specs.declared.event.Event.{Event}
use Rattle.surf_world.specs.Systems.{Surface, left_by}
use Rattle.surf_world.specs.Choices.{choices}
use Rattle.surf_world.specs.Worlds.{Placed}
use Rattle.surf_sim.specs.Simulations.{sim_events}
use Rattle.surf_trace.specs.Traces.{events_text, trace_text}
use Rattle.surf_command_runs.specs.Runs.{state_text, state_foot, word_for}

-- the last word of a surface of numbers
abbrev pub number_word : Surface ℕ → List ℕ → List ℕ
number_word S c = word_for (choices nat_eq S c)

abbrev pub foot_and_word : Placed → List ℕ
foot_and_word w = state_foot ++ number_word w.surface w.names

-- what follows the trace, the numbers shown as texts
abbrev pub end_text : (ℕ → List ℕ) → Placed → List ℕ
end_text show w = state_text w.surface.grid (map show w.names) (number_word w.surface w.names)

-- the world after the events of a simulation
abbrev pub left_world : Placed → List Event → Placed
left_world w es = record w { names = left_by w.surface w.names es }

abbrev pub placed_events : Placed → Stream → ℕ → List Event
placed_events w s count = sim_events nat_eq w.surface w.names s count

-- the text of a simulation of a world
abbrev pub placed_text : (ℕ → List ℕ) → Placed → Stream → ℕ → List ℕ
placed_text show w s count =
    trace_text (placed_events w s count) ++ end_text show (left_world w (placed_events w s count))

-- after n of at most count events of a simulation, which began at w and s
pub record SoFar (w : Placed) (s : Stream) (count n : ℕ) (now : Placed) (t : Stream)
    (old new : Option (List ℕ)) (held left : List ℕ) : Type 0 where
  pub taken : List Event
  pub rest : placed_events w s count ≡ taken ++ placed_events now t (count - n)
  pub world : now ≡ left_world w taken
  pub number : length taken ≡ n
  pub text : Sent old new held left (events_text 0 taken)
