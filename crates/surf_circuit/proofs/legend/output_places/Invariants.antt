use Rattle.std.proofs.Common.{◌≡◌, map, take}
use Rattle.surf_rules.specs.Names.{text_of}
use Rattle.surf_circuit.specs.Surfaces.{places}
use Rattle.surf_circuit.proofs.legend.output_places.Given as goal

abbrev pub invariant-loop-i : goal.invariant-loop-i
invariant-loop-i l = l.found.items ≡ places (map (text_of l.names) (take l.i l.outputs)) (take l.i l.layout.outputs)
