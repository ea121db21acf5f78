use Rattle.std.proofs.Common.{◌≡◌, ◌+◌, ◌<◌, ◌^◌, drop, sum, map}
use Rattle.surf_logic.specs.Equations.{capped, literal_cost, row_cost}
use Rattle.surf_flatten.proofs.works.row_work.Given as goal

abbrev pub invariant-loop-literal : goal.invariant-loop-literal
invariant-loop-literal l = record {
  all : capped (l.work + sum (map literal_cost (drop l.literal-index l.literals))) ≡ capped (row_cost l.literals);
  fits : l.work < 2 ^ 128;
}
