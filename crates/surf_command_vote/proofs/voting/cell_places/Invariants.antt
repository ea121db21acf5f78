use Rattle.std.proofs.Common.{◌≡◌, map}
use Rattle.surf_colony.specs.Colonies.{border}
use Rattle.surf_sync.specs.Rules.{below}
use Rattle.surf_command_vote.proofs.CellPlaces.{kth_place}
use Rattle.surf_command_vote.proofs.voting.cell_places.Given as goal

abbrev pub invariant-loop-cell : goal.invariant-loop-cell
invariant-loop-cell g l = record {
  places : l.places.items ≡ map (kth_place l.automaton.width (border l.automaton.wrap)) (below l.cell);
}
