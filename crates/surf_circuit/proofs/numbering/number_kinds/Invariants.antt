use Rattle.surf_circuit.proofs.KindLemmas.{Numbered}
use Rattle.surf_circuit.proofs.numbering.number_kinds.Given as goal

abbrev pub invariant-loop-kind : goal.invariant-loop-kind
invariant-loop-kind l = Numbered l.kind-items l.kind-index l.initial.names l.names l.numbers.items
