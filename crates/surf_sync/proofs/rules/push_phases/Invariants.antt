use Rattle.std.proofs.Common.{ℕ, List}
use Rattle.std.specs.List.{flat_map}
use Rattle.surf_sync.specs.Codes.{protocol}
use Rattle.surf_sync.specs.Listing.{Adds}
use Rattle.surf_sync.specs.Phases.{NamesAll}
use Rattle.surf_sync.specs.Rules.{below, readers_of, rules_of}
use Rattle.surf_sync.proofs.rules.push_phases.Given as goal

abbrev pub invariant-loop-phase : goal.invariant-loop-phase
invariant-loop-phase g l =
    (texts : List (List ℕ)) → NamesAll (protocol (g.L.Local.rule l.local) l.edge l.last) texts l.table →
    Adds texts l.initial.out.items (flat_map (λ f. flat_map (rules_of (protocol (g.L.Local.rule l.local) l.edge l.last) f) (readers_of (protocol (g.L.Local.rule l.local) l.edge l.last) f)) (below l.phase)) l.out.items
