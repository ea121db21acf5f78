use Rattle.std.proofs.Common.{◌≡◌, ◌≤◌, ◌*◌, take, sum_by}
use Rattle.surf_world.specs.Worlds.{rule_of}
use Rattle.surf_sim.proofs.total.sum_of_rates.Given as goal

abbrev pub invariant-loop-number : goal.invariant-loop-number
invariant-loop-number g l = record {
  sum : l.sum ≡ sum_by (λ r. (rule_of r).rate) (take l.number l.book);
  bound : l.sum ≤ l.number * 1000000000000;
}
