use Rattle.std.proofs.Common.{◌≡◌, ◌≤◌, ◌+◌, length, map, true}
use Rattle.std.specs.List.{list_all}
use Rattle.surf_lattice.specs.AnyGrid.{grid_of}
use Rattle.surf_lattice.specs.Grids.{site_at}
use Rattle.surf_auto.specs.Sync.{box_of, universe}
use Rattle.surf_manifest_lines.specs.Item.{is_name}
use Rattle.surf_sync.specs.Listing.{Keeps, Name}
use Rattle.surf_sync.specs.Rules.{below}
use Rattle.surf_sync.specs.Spelling.{spell}
use Rattle.surf_colony.specs.Colonies.{first_mark}
use Rattle.surf_colony.specs.Numbers.{SlotsName, slot_count}
use Rattle.surf_colony.proofs.start.start_numbers.Given as goal

abbrev pub invariant-loop-place : goal.invariant-loop-place
invariant-loop-place g l = record {
  start : Name l.names l.start.items (map (λ p. spell (first_mark (universe (box_of l.automaton.kind l.automaton.wrap l.automaton.width l.automaton.height) (g.L.Local.rule l.automaton.local) l.automaton.edge l.automaton.cells.items) (site_at (grid_of l.grid) p))) (below l.place));
  slots : length l.slots.items ≡ slot_count (universe (box_of l.automaton.kind l.automaton.wrap l.automaton.width l.automaton.height) (g.L.Local.rule l.automaton.local) l.automaton.edge l.automaton.cells.items);
  named : SlotsName (universe (box_of l.automaton.kind l.automaton.wrap l.automaton.width l.automaton.height) (g.L.Local.rule l.automaton.local) l.automaton.edge l.automaton.cells.items) l.names l.slots.items;
  texts : list_all is_name l.names ≡ true;
  few : length l.names ≤ length l.initial.names + l.place;
  keeps : Keeps l.initial.names l.names;
}
