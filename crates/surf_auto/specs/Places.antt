-- Cells by their places in row-major order.
use Rattle.std.specs.Prelude.{◌≡◌, ℕ, suc, ◌+◌, ◌-◌, ◌*◌, ◌<◌, List, slice_index}
use Rattle.surf_lattice.specs.Grids.{shift_x, shift_y, site_at}
use Rattle.surf_auto.specs.Locals.{LocalRule, gathered}
use Rattle.surf_auto.specs.Sync.{Universe, next_state, state_at}

-- there is a row and a cell more before and after a place
pub record IsInner (width count place : ℕ) : Type 0 where
  pub after_row : width < place
  pub before_row : place + width + 1 < count

-- the place in a direction: a row up is as many places back as the grid is wide
abbrev pub beside : ℕ → ℕ → ℕ → ℕ
beside width place i = place + shift_x i + width * shift_y i - suc width

-- the next state, where each neighbour stands at the place in its direction
abbrev pub next_by_places : LocalRule → ℕ → List ℕ → ℕ → ℕ → ℕ
next_by_places R f cells width place =
    R.finish f (slice_index cells place)
    (gathered R f (λ i. slice_index cells (beside width place i)) R.degree)

-- the places below n hold the states after phase f
abbrev pub IsNextBelow : Universe → ℕ → List ℕ → ℕ → Type 0
IsNextBelow U f next n =
    (k : ℕ) → k < n → slice_index next k ≡ next_state U f (state_at U) (site_at U.grid k)
