use Rattle.std.proofs.Common.{◌≡◌, ◌++◌, take}
use Rattle.std.specs.List.{flat_map}
use Rattle.surf_tiles.specs.Reactions.{first_reads, for_each_table}
use Rattle.surf_tiles.proofs.list.put_two_gates.Given as goal

abbrev pub invariant-loop-t00 : goal.invariant-loop-t00
invariant-loop-t00 l = l.list.items ≡ l.initial.list.items ++ flat_map (λ (p, q). for_each_table (first_reads p q)) (take l.t00-index l.t00-items)
