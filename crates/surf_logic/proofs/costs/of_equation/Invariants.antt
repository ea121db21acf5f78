use Rattle.std.proofs.Common.{◌≡◌, ◌+◌, ◌<◌, ◌^◌, drop, sum, map}
use Rattle.surf_logic.specs.Equations.{capped, row_cost}
use Rattle.surf_logic.proofs.costs.of_equation.Given as goal

abbrev pub invariant-loop-row : goal.invariant-loop-row
invariant-loop-row l = record {
  all : capped (l.cost + sum (map row_cost (drop l.row-index l.equation.rows))) ≡ capped (1 + sum (map row_cost l.equation.rows));
  fits : l.cost < 2 ^ 128;
}
