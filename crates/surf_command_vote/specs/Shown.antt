-- What the cells of a vote come to, and the text that tells it.
use Rattle.std.specs.Prelude.{ℕ, ◌≡◌, ◌*◌, List, map, None, Ok}
use Rattle.std.specs.Str.{bytes_eq}
use Rattle.surf_lattice.specs.Grids.{sites}
use Rattle.surf_world.specs.declared.event.Event.{Event}
use Rattle.surf_world.specs.Systems.{System}
use Rattle.surf_pick.specs.Draws.{seeded, words_of}
use Rattle.surf_sim.specs.Simulations.{sim_events}
use Rattle.surf_auto.specs.Sync.{Universe}
use Rattle.surf_rle.specs.Rle.{rle_of}
use Rattle.surf_rle.specs.Sources.{Plain}
use Rattle.surf_sync.specs.Spelling.{shown_by}
use Rattle.surf_colony.specs.Colonies.{printed}
use Rattle.surf_colony.specs.InStep.{place_of}
use Rattle.surf_tally.specs.declared.summary.Tally.{Tally}
use Rattle.surf_tally.specs.Tallies.{tally_of}
use Rattle.surf_demo.specs.Votes.{vote_text}
use Rattle.surf_demo.specs.Summaries.{vote_lines}

-- the events that seed 1 gives from the start, at most so many
abbrev pub seed_events : System (List ℕ) → ℕ → List Event
seed_events S count = sim_events bytes_eq S.surface S.start (words_of (seeded 1)) count

-- what the cells at these places come to in them, and how many are live in the second generation
abbrev pub seed_tally : System (List ℕ) → List ℕ → ℕ → Tally
seed_tally S places count =
    tally_of shown_by S.surface S.start (seed_events S count) 2 places

-- the places of a universe's cells in its colony, in row-major order
abbrev pub cell_places : Universe → List ℕ
cell_places U = map (place_of U) (sites U.grid)

-- what the cells of a universe come to on its colony
abbrev pub vote_tally : Universe → ℕ → Tally
vote_tally U count = seed_tally (printed U None) (cell_places U) count

-- a tally as lines of text
abbrev pub tally_lines : Tally → List ℕ
tally_lines t = vote_lines t.cells t.events t.least t.greatest t.live

-- The text of a vote of n by n cells is a pattern, and this text tells what its cells come to in
-- 8 n^3 events.
pub record IsVoteShown (n : ℕ) (text : List ℕ) : Type 0 where
  pub universe : Universe
  pub spelled : rle_of 0 (vote_text n) ≡ Ok (Plain universe)
  pub is : text ≡ tally_lines (vote_tally universe (8 * n * n * n))
