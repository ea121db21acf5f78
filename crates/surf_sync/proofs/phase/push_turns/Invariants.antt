use Rattle.std.proofs.Common.{ℕ, List}
use Rattle.std.specs.List.{flat_map}
use Rattle.surf_sync.specs.Codes.{protocol}
use Rattle.surf_sync.specs.Listing.{Adds}
use Rattle.surf_sync.specs.Rules.{below}
use Rattle.surf_sync.specs.Phases.{NamesAll, colour_rules}
use Rattle.std.proofs.Common.{◌+◌, ◌*◌}
use Rattle.surf_sync.proofs.phase.push_turns.Given as goal

abbrev pub invariant-loop-turn : goal.invariant-loop-turn
invariant-loop-turn g l =
    (texts : List (List ℕ)) → NamesAll (protocol (g.L.Local.rule l.stage.local.now) l.stage.edge l.stage.last) texts l.stage.table.now →
    Adds texts l.initial.out.items (flat_map (λ turn. colour_rules (protocol (g.L.Local.rule l.stage.local.now) l.stage.edge l.stage.last) l.stage.number l.row (turn * (g.L.Local.rule l.stage.local.now).phases + l.stage.number)) (below l.turn)) l.out.items
