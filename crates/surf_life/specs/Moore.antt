-- Steps by counts of live cells among eight neighbours, which all cells take at once.
use Rattle.std.specs.Prelude.{ℕ, zero, suc, ◌+◌, List, slice_index, Option}
use Rattle.surf_lattice.specs.declared.site.Site.{Site}
use Rattle.surf_lattice.specs.Grids.{Grid, moved, place, site_from}
use Rattle.surf_auto.specs.Counts.{Counts, alive, looked_up}
use Rattle.surf_auto.specs.Sync.{seen_at}

-- the site dx - 1 to the east and dy - 1 to the south: none outside a box, and joined sides wrap
abbrev pub near : Grid → Site → ℕ → ℕ → Option Site
near g s dx dy = site_from (moved g.wrap g.width s.x dx) (moved g.wrap g.height s.y dy)

-- 1 where a live cell stands there, and 0 where a dead one or none does
abbrev pub live_near : Grid → (Site → ℕ) → Site → ℕ → ℕ → ℕ
live_near g state s dx dy = alive (seen_at 0 state (near g s dx dy))

-- the live cells among the eight sites that differ by at most one in each coordinate
abbrev pub live_around : Grid → (Site → ℕ) → Site → ℕ
live_around g state s =
    (live_near g state s 0 0 + live_near g state s 1 0 + live_near g state s 2 0)
    + (live_near g state s 0 1 + live_near g state s 2 1)
    + (live_near g state s 0 2 + live_near g state s 1 2 + live_near g state s 2 2)

-- the next state of the cell at s, where `state` says what all cells show
abbrev pub moore_next : Counts → Grid → (Site → ℕ) → Site → ℕ
moore_next C g state s = looked_up C (state s) (live_around g state s)

-- what the cell at s shows after k steps from these cells
abbrev pub moore_sync : Counts → Grid → List ℕ → ℕ → Site → ℕ
moore_sync C g cells zero s = slice_index cells (place g s)
moore_sync C g cells (suc k) s = moore_next C g (moore_sync C g cells k) s
