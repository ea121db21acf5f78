use Rattle.std.proofs.Common.{◌≡◌, ◌++◌}
use Rattle.surf_demo.specs.Votes.{rows_text}
use Rattle.surf_demo.proofs.vote.put_rows.Given as goal

abbrev pub invariant-loop-y : goal.invariant-loop-y
invariant-loop-y l = l.out.items ≡ l.initial.out.items ++ rows_text l.n l.y
