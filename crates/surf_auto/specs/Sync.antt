-- What all cells of an automaton show after so many steps, which all take at once.
use Rattle.std.specs.Prelude.{◌≡◌, ℕ, zero, suc, ◌*◌, ◌%◌, ◌<◌, ◌≤◌, List, map, length, slice_index, Bool, true, false, Option, Some, None}
use Rattle.surf_lattice.specs.declared.site.Site.{Site}
use Rattle.surf_lattice.specs.declared.site.GridKind.{GridKind}
use Rattle.surf_lattice.specs.Grids.{Grid, IsGrid, degree, directions, is_coloured, neighbour, place}
use Rattle.surf_auto.specs.Locals.{LocalRule, IsLocal, gathered}

-- the cells of a grid in row-major order; all beyond the grid keeps the edge state, and nothing
-- lies beyond a grid whose sides are joined
pub record Universe : Type 0 where
  pub grid : Grid
  pub rule : LocalRule
  pub edge : ℕ
  pub cells : List ℕ

abbrev pub universe : Grid → LocalRule → ℕ → List ℕ → Universe
universe grid rule edge cells = record { grid = grid; rule = rule; edge = edge; cells = cells }

-- the grid of a box, whose sides may be joined
abbrev pub box_of : GridKind → Bool → ℕ → ℕ → Grid
box_of kind wrap width height = record { kind = kind; wrap = wrap; width = width; height = height }

abbrev pub plain : GridKind → ℕ → ℕ → Grid
plain kind width height = box_of kind false width height

pub record IsUniverse (U : Universe) : Type 0 where
  pub is_grid : IsGrid U.grid
  -- joined sides are multiples of the number of colours, 5 or 7
  pub coloured : is_coloured U.grid ≡ true
  pub is_local : IsLocal U.rule
  pub same_degree : U.rule.degree ≡ degree U.grid.kind
  pub one_per_site : length U.cells ≡ U.grid.width * U.grid.height
  pub few_sites : length U.cells ≤ 1000000
  pub cells_within : (i : ℕ) → i < length U.cells → slice_index U.cells i < U.rule.states 0
  pub edge_within : (f : ℕ) → f < U.rule.phases → U.edge < U.rule.states f

-- what one phase asks of the cells
pub record StandsIn (U : Universe) (f : ℕ) : Type 0 where
  pub in_phase : f < U.rule.phases
  pub same_degree : U.rule.degree ≡ degree U.grid.kind
  pub one_per_site : length U.cells ≡ U.grid.width * U.grid.height
  pub few_sites : length U.cells ≤ 1000000
  pub cells_within : (i : ℕ) → i < length U.cells → slice_index U.cells i < U.rule.states f
  pub edge_within : U.edge < U.rule.states f

abbrev pub state_at : Universe → Site → ℕ
state_at U s = slice_index U.cells (place U.grid s)

-- the state in a direction: that of the neighbour, or the edge state where there is none
abbrev pub seen_at : ℕ → (Site → ℕ) → Option Site → ℕ
seen_at edge state None = edge
seen_at edge state (Some t) = state t

abbrev pub seen : Universe → (Site → ℕ) → Site → ℕ → ℕ
seen U state s i = seen_at U.edge state (neighbour U.grid s i)

-- the state of the cell at s after phase f, where `state` says what all cells show before it
abbrev pub next_state : Universe → ℕ → (Site → ℕ) → Site → ℕ
next_state U f state s =
    U.rule.finish f (state s) (gathered U.rule f (seen U state s) (degree U.grid.kind))

-- what the cell at s shows after g phases, in which all cells take their next state at once
abbrev pub phase_sync : Universe → ℕ → Site → ℕ
phase_sync U zero s = state_at U s
phase_sync U (suc g) s = next_state U (g % U.rule.phases) (phase_sync U g) s

-- after k steps
abbrev pub sync : Universe → ℕ → Site → ℕ
sync U k s = phase_sync U (k * U.rule.phases) s

-- the same where one step is a function of the own state and of the list of the neighbours' states
abbrev pub around : Universe → (Site → ℕ) → Site → List ℕ
around U state s = map (seen U state s) (directions U.grid)

abbrev pub sync_by : (ℕ → List ℕ → ℕ) → Universe → ℕ → Site → ℕ
sync_by next U zero s = state_at U s
sync_by next U (suc k) s = next (sync_by next U k s) (around U (sync_by next U k) s)
