use Rattle.std.proofs.Common.{◌≡◌, ◌+◌, ◌<◌, ◌^◌, drop, sum, map}
use Rattle.surf_logic.specs.Equations.{capped, literal_cost}
use Rattle.surf_logic.proofs.costs.of_row.Given as goal

abbrev pub invariant-loop-literal : goal.invariant-loop-literal
invariant-loop-literal l = record {
  all : capped (l.cost + sum (map literal_cost (drop l.literal-index l.literals))) ≡ capped (1 + sum (map literal_cost l.literals));
  fits : l.cost < 2 ^ 128;
}
