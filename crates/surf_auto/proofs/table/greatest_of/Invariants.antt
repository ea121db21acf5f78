use Rattle.std.proofs.Common.{◌≡◌, take}
use Rattle.surf_auto.specs.Tables.{greatest}
use Rattle.surf_auto.proofs.table.greatest_of.Given as goal

abbrev pub invariant-loop-weight : goal.invariant-loop-weight
invariant-loop-weight l = l.found ≡ greatest (take l.weight-index l.weights)
