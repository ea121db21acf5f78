use Rattle.std.proofs.Common.{ℕ, List}
use Rattle.std.specs.List.{flat_map}
use Rattle.surf_sync.specs.Codes.{protocol}
use Rattle.surf_sync.specs.Listing.{Adds}
use Rattle.surf_sync.specs.Rules.{below}
use Rattle.surf_sync.specs.Phases.{NamesAll, row_rules}
use Rattle.surf_sync.proofs.phase.push_colours.Given as goal

abbrev pub invariant-loop-colour : goal.invariant-loop-colour
invariant-loop-colour g l =
    (texts : List (List ℕ)) → NamesAll (protocol (g.L.Local.rule l.stage.local.now) l.stage.edge l.stage.last) texts l.stage.table.now →
    Adds texts l.initial.out.items (flat_map (row_rules (protocol (g.L.Local.rule l.stage.local.now) l.stage.edge l.stage.last) l.stage.number l.row l.generation) (below l.colour)) l.out.items
