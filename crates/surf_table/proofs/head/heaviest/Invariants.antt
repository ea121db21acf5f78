use Rattle.std.proofs.Common.{◌≡◌, max, drop}
use Rattle.surf_auto.specs.Tables.{greatest}
use Rattle.surf_table.proofs.head.heaviest.Given as goal

abbrev pub invariant-loop-weight : goal.invariant-loop-weight
invariant-loop-weight l = greatest l.weights ≡ max l.found (greatest (drop l.weight-index l.weights))
