-- A step of eight neighbours by the columns of three cells about each row.
use Rattle.std.specs.Prelude.{◌≡◌, ℕ, ◌+◌, ◌*◌, ◌<◌, ◌≤◌, Bool, List, slice_index, Option}
use Rattle.surf_lattice.specs.declared.site.GridKind.TheVariants.{Square}
use Rattle.surf_lattice.specs.declared.site.Site.{Site}
use Rattle.surf_lattice.specs.Grids.{Grid, moved, place, site_at, site_from}
use Rattle.surf_auto.specs.Counts.{Counts, looked_up}
use Rattle.surf_auto.specs.Sync.{box_of, seen_at}
use Rattle.surf_life.specs.Moore.{moore_next}

-- each cell is dead or live
abbrev pub AreTwo : List ℕ → Type 0
AreTwo cells = (i : ℕ) → slice_index cells i ≤ 1

-- what the cell at a site shows
abbrev pub shown : Grid → List ℕ → Site → ℕ
shown g cells s = slice_index cells (place g s)

abbrev pub square_of : Bool → ℕ → ℕ → Grid
square_of wrap width height = box_of Square wrap width height

-- what stands in this column, if there is one, and dy - 1 rows below row y
abbrev pub cell_at : Grid → List ℕ → Option ℕ → ℕ → ℕ → ℕ
cell_at g cells column y dy =
    seen_at 0 (shown g cells) (site_from column (moved g.wrap g.height y dy))

-- the sum of the three cells of a column about row y
abbrev pub column_sum : Grid → List ℕ → Option ℕ → ℕ → ℕ
column_sum g cells column y =
    cell_at g cells column y 0 + cell_at g cells column y 1 + cell_at g cells column y 2

-- these are the sums from the column before the first, at 0, to the one after the last
abbrev pub AreSums : Grid → List ℕ → ℕ → List ℕ → Type 0
AreSums g cells y sums =
    (x : ℕ) → x < g.width + 2 → slice_index sums x ≡ column_sum g cells (moved g.wrap g.width 0 x) y

-- the next state of a cell stands at 9 times its own state and the count of its live neighbours
abbrev pub IsTableOf : Counts → List ℕ → Type 0
IsTableOf C table =
    (own count : ℕ) → own ≤ 1 → count ≤ 8 → slice_index table (own * 9 + count)
    ≡ looked_up C own count

-- the places below n hold the next states
abbrev pub AreNextBelow : Counts → Grid → List ℕ → List ℕ → ℕ → Type 0
AreNextBelow C g cells next n =
    (k : ℕ) → k < n → slice_index next k ≡ moore_next C g (shown g cells) (site_at g k)
