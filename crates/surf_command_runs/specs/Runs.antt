-- The text of a run of a manifest.
use Rattle.std.specs.Prelude.{ℕ, ◌≡◌, ◌<◌, ◌≤◌, ◌⊎◌, List, [], ◌∷◌, ◌++◌, length, codes}
use Rattle.std.specs.Str.{bytes_eq}
use Rattle.surf_lattice.specs.Grids.{Grid}
use Rattle.surf_world.specs.declared.event.Event.{Event}
use Rattle.surf_world.specs.Systems.{Surface, System, IsRun, left_by, Stuck}
use Rattle.surf_world.specs.Choices.{choices}
use Rattle.surf_pick.specs.Draws.{seeded, words_of}
use Rattle.surf_sim.specs.Simulations.{sim_events}
use Rattle.surf_trace.specs.Traces.{trace_text}
use Rattle.surf_cells.specs.Rows.{rows_text}

abbrev pub state_foot : List ℕ
state_foot = codes "!END_INIT_STATE\n"

-- the state block of a configuration, and what follows it
abbrev pub state_text : Grid → List (List ℕ) → List ℕ → List ℕ
state_text g c rest = codes "!START_INIT_STATE\n" ++ (rows_text g c ++ (state_foot ++ rest))

abbrev pub stuck_text : List ℕ
stuck_text = codes "stuck\n"

abbrev pub limit_text : List ℕ
limit_text = codes "limit\n"

abbrev pub word_for : {A : Type 0} → List A → List ℕ
word_for [] = stuck_text
word_for (x ∷ xs) = limit_text

-- the last word: `stuck` where there are no choices, else `limit`
abbrev pub last_word : Surface (List ℕ) → List (List ℕ) → List ℕ
last_word S c = word_for (choices bytes_eq S c)

-- the events that a seed gives from the start, at most so many
abbrev pub events_of : System (List ℕ) → ℕ → ℕ → List Event
events_of S seed count = sim_events bytes_eq S.surface S.start (words_of (seeded seed)) count

-- the text of events from the start: their trace, the surface that they leave, and the last word
abbrev pub text_of_events : System (List ℕ) → List Event → List ℕ
text_of_events S es =
    trace_text es ++ state_text S.surface.grid (left_by S.surface S.start es)
    (last_word S.surface (left_by S.surface S.start es))

-- what `run` prints
abbrev pub run_text : System (List ℕ) → ℕ → ℕ → List ℕ
run_text S seed count = text_of_events S (events_of S seed count)

-- the last word says whether the surface is stuck
abbrev pub LastWord : Surface (List ℕ) → List (List ℕ) → List ℕ → Type 0
LastWord S c word = (Stuck S c × (word ≡ stuck_text)) ⊎ ((Stuck S c → ⊥) × (word ≡ limit_text))

-- a text shows a run: each event is enabled at its turn, there are at most so many and fewer only
-- where the surface that they leave is stuck, and that surface and the right last word follow them
pub record ShowsRun (S : System (List ℕ)) (count : ℕ) (text : List ℕ) : Type 0 where
  pub events : List Event
  pub word : List ℕ
  pub enabled : IsRun S.surface S.start events
  pub at_most : length events ≤ count
  pub fewer : length events < count → Stuck S.surface (left_by S.surface S.start events)
  pub last : LastWord S.surface (left_by S.surface S.start events) word
  pub is : text ≡ trace_text events ++ state_text S.surface.grid (left_by S.surface S.start events)
      word
