use Rattle.std.proofs.Common.{◌≡◌, ◌+◌, ◌<◌, ◌^◌, drop, sum, map}
use Rattle.surf_logic.specs.Equations.{capped, row_cost}
use Rattle.surf_flatten.proofs.works.rows_work.Given as goal

abbrev pub invariant-loop-row : goal.invariant-loop-row
invariant-loop-row l = record {
  all : capped (l.work + sum (map row_cost (drop l.row-index l.rows))) ≡ capped (1 + sum (map row_cost l.rows));
  fits : l.work < 2 ^ 128;
}
