use Rattle.std.proofs.Common.{◌≡◌, ◌++◌}
use Rattle.surf_demo.specs.Adders.{names_text}
use Rattle.surf_demo.proofs.adder.put_names.Given as goal

abbrev pub invariant-loop-i : goal.invariant-loop-i
invariant-loop-i l = l.out.items ≡ l.initial.out.items ++ names_text l.kind l.i
