use Rattle.std.proofs.Common.{◌≡◌, ◌++◌}
use Rattle.surf_demo.specs.Votes.{cells_text}
use Rattle.surf_demo.proofs.vote.put_cells.Given as goal

abbrev pub invariant-loop-x : goal.invariant-loop-x
invariant-loop-x l = l.out.items ≡ l.initial.out.items ++ cells_text l.y l.x
