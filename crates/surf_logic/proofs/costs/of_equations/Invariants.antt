use Rattle.std.proofs.Common.{◌≡◌, ◌+◌, ◌<◌, ◌^◌, drop, sum, map}
use Rattle.surf_logic.specs.Equations.{capped, equation_cost}
use Rattle.surf_logic.proofs.costs.of_equations.Given as goal

abbrev pub invariant-loop-equation : goal.invariant-loop-equation
invariant-loop-equation l = record {
  all : capped (l.cost + sum (map equation_cost (drop l.equation-index l.equations))) ≡ capped (sum (map equation_cost l.equations));
  fits : l.cost < 2 ^ 128;
}
