use Rattle.std.proofs.Common.{ℕ, List}
use Rattle.std.specs.List.{flat_map}
use Rattle.surf_sync.specs.Codes.{protocol}
use Rattle.surf_sync.specs.Listing.{Adds}
use Rattle.surf_sync.specs.Rules.{below}
use Rattle.surf_sync.specs.Shapes.{by_previous}
use Rattle.surf_sync.specs.Phases.{NamesAll, turn_rules}
use Rattle.surf_sync.proofs.phase.push_phase.Given as goal

abbrev pub invariant-loop-current : goal.invariant-loop-current
invariant-loop-current g l =
    (texts : List (List ℕ)) → NamesAll (protocol (g.L.Local.rule l.stage.local.now) l.stage.edge l.stage.last) texts l.stage.table.now →
    Adds texts l.initial.out.items (flat_map (λ current. turn_rules (protocol (g.L.Local.rule l.stage.local.now) l.stage.edge l.stage.last) l.stage.number (by_previous (g.L.Local.rule l.stage.local.now) l.stage.number current)) (below l.current)) l.out.items
