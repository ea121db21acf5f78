use Rattle.surf_tally.specs.Summing.{SummedTo}
use Rattle.surf_tally.proofs.summary.sum_up.Given as goal

abbrev pub invariant-loop-place : goal.invariant-loop-place
invariant-loop-place l = SummedTo l.counts l.watched l.events l.places l.place-index l.tally
