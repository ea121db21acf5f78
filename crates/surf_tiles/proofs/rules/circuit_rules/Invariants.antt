use Rattle.surf_tiles.proofs.Growing.{Listed}
use Rattle.surf_tiles.proofs.rules.circuit_rules.Given as goal

abbrev pub invariant-loop-reaction : goal.invariant-loop-reaction
invariant-loop-reaction l = Listed l.reaction-items l.reaction-index l.initial.names l.names l.rules.items
