use Rattle.std.proofs.Common.{◌≡◌, take, sum_by}
use Rattle.surf_rules.specs.Books.{rate_in}
use Rattle.surf_rules.proofs.listed.ListedRules.pair_sum.Given as goal

abbrev pub invariant-loop-place : goal.invariant-loop-place
invariant-loop-place l = l.sum ≡ sum_by (rate_in l.self) (take l.place l.numbers)
