-- Which cell stands at a site of a colony, and the slots in which the numbers of names are kept.
use Rattle.std.specs.Prelude.{◌≡◌, ℕ, suc, ◌+◌, ◌*◌, List, Option, Some, None, if◌then◌else◌, slice_get, unwrap_or}
use Rattle.surf_lattice.specs.declared.site.Site.{Site}
use Rattle.surf_lattice.specs.Grids.{Grid, colour, colours, place}
use Rattle.surf_auto.specs.Sync.{Universe, state_at}
use Rattle.surf_sync.specs.Spelling.{spell}
use Rattle.surf_colony.specs.Colonies.{back, first_mark, framed, in_box}

-- the place in the box of the cell at a site, where one stands there
abbrev pub cell_place : Grid → Site → Option ℕ
cell_place g s = if in_box g s then Some (place g (back g s)) else None

-- the start state of that cell
abbrev pub cell_state : Universe → Site → Option ℕ
cell_state U s = if in_box U.grid s then Some (state_at U (back U.grid s)) else None

-- names at the start differ by the state of a cell, or by being the frame's, and by colour
abbrev pub name_slot : Universe → Site → ℕ
name_slot U s =
    unwrap_or (cell_state U s) (U.rule.states 0) * colours (framed U.grid)
    + colour (framed U.grid) s

abbrev pub slot_count : Universe → ℕ
slot_count U = suc (U.rule.states 0) * colours (framed U.grid)

-- a number that stands in the slot of a site is that of the name at this site
abbrev pub SlotsName : Universe → List (List ℕ) → List (Option ℕ) → Type 0
SlotsName U names slots =
    (s : Site) (n : ℕ) → slice_get slots (name_slot U s) ≡ Some (Some n) →
    slice_get names n ≡ Some (spell (first_mark U s))
