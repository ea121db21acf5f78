use Rattle.std.proofs.Common.{length, nat_eq, vec_len}
use Rattle.std.specs.List.{All}
use Rattle.surf_logic.specs.Order.{EquationInRange}
use Rattle.surf_logic.specs.Marks.{ArePassed, Marks}
use Rattle.surf_logic.proofs.Taking.{Took, known_after}
use Rattle.surf_logic.proofs.turns.turns_by.Given as goal

abbrev pub invariant-loop-place : goal.invariant-loop-place
invariant-loop-place l = record {
  took : Took nat_eq l.names l.initial.rest.items l.taken.items l.rest.items;
  marks : Marks l.known (known_after l.names l.taken.items);
  range : All (EquationInRange (length l.known)) l.rest.items;
  passed : ArePassed l.known l.rest.items l.passed.items;
}

abbrev pub decreases-loop-place : goal.decreases-loop-place
decreases-loop-place l = vec_len l.rest
