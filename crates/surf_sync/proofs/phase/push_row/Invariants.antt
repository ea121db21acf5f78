use Rattle.std.proofs.Common.{ℕ, List, take}
use Rattle.surf_sync.specs.Codes.{protocol}
use Rattle.surf_sync.specs.Listing.{Adds}
use Rattle.surf_sync.specs.Phases.{NamesAll, row_rules}
use Rattle.surf_sync.proofs.phase.push_row.Given as goal

abbrev pub invariant-loop-code : goal.invariant-loop-code
invariant-loop-code g l =
    (texts : List (List ℕ)) → NamesAll (protocol (g.L.Local.rule l.stage.local.now) l.stage.edge l.stage.last) texts l.stage.table.now →
    Adds texts l.initial.out.items (row_rules (protocol (g.L.Local.rule l.stage.local.now) l.stage.edge l.stage.last) l.stage.number (take l.code-index l.row) l.generation l.colour) l.out.items
