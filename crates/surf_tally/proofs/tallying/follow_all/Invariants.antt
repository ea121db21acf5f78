use Rattle.surf_tally.specs.Counting.{Going}
use Rattle.surf_tally.proofs.Moved.{Moved}
use Rattle.surf_tally.proofs.tallying.follow_all.Given as goal

abbrev pub invariant-loop-n : goal.invariant-loop-n
invariant-loop-n g l = record {
  going : Going l.shown l.watched l.count l.n l.initial.sim l.sim l.initial.counts l.counts;
  moved : Moved l.initial.sim l.count l.n l.sim;
}
