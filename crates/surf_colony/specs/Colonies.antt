-- The colony of an automaton: a surface on which its cells keep in step without a clock.
use Rattle.std.specs.Prelude.{ℕ, ◌+◌, ◌-◌, ◌*◌, ◌<◌, Bool, true, false, if◌then◌else◌, ◌&&◌, nat_lt, nat_le, List, map, length, slice_index, Option}
use Rattle.surf_lattice.specs.declared.site.Site.{Site}
use Rattle.surf_lattice.specs.Grids.{Grid, colour, sites}
use Rattle.surf_world.specs.Systems.{System}
use Rattle.surf_world.specs.Renamings.{renamed_system}
use Rattle.surf_auto.specs.Sync.{Universe, state_at}
use Rattle.surf_sync.specs.Codes.{Mark, protocol}
use Rattle.surf_sync.specs.Codes.Mark.{Frame, Cell}
use Rattle.surf_sync.specs.Rules.{sync_rules}
use Rattle.surf_sync.specs.Spelling.{spell}

-- how wide the frame is: a torus has none
abbrev pub border : Bool → ℕ
border true = 0
border false = 1

-- the grid of the colony, and where a cell of the box stands on it
abbrev pub framed : Grid → Grid
framed g = record {
  kind = g.kind;
  wrap = g.wrap;
  width = g.width + 2 * border g.wrap;
  height = g.height + 2 * border g.wrap;
}

abbrev pub onto : Grid → Site → Site
onto g s = record { x = s.x + border g.wrap; y = s.y + border g.wrap }

abbrev pub back : Grid → Site → Site
back g s = record { x = s.x - border g.wrap; y = s.y - border g.wrap }

-- the site is inside the frame
abbrev pub in_box : Grid → Site → Bool
in_box g s =
    (nat_le (border g.wrap) s.x && nat_lt s.x (g.width + border g.wrap))
    && (nat_le (border g.wrap) s.y && nat_lt s.y (g.height + border g.wrap))

-- what stands at a site at first: a cell in its start state that has read nothing, or the frame
abbrev pub first_mark : Universe → Site → Mark
first_mark U s =
    if in_box U.grid s
    then Cell (record {
      current = state_at U (back U.grid s);
      generation = 0;
      colour = colour (framed U.grid) s;
      previous = state_at U (back U.grid s);
      reads = 0;
      acc = U.rule.start 0;
    })
    else Frame (colour (framed U.grid) s)

-- the colony, with the last generation, if one is stated
abbrev pub colony_of : Universe → Option ℕ → System Mark
colony_of U last = record {
  surface = record { grid = framed U.grid; rules = sync_rules (protocol U.rule U.edge last) };
  start = map (first_mark U) (sites (framed U.grid));
}

-- with its names as texts
abbrev pub printed : Universe → Option ℕ → System (List ℕ)
printed U last = renamed_system spell (colony_of U last)

-- the start states are states of every phase
abbrev pub StartsWithin : Universe → Type 0
StartsWithin U =
    (i f : ℕ) → i < length U.cells → f < U.rule.phases → slice_index U.cells i < U.rule.states f
