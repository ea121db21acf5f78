use Rattle.std.proofs.Common.{◌≡◌, ◌++◌, take}
use Rattle.std.specs.List.{flat_map}
use Rattle.surf_tiles.specs.Reactions.{for_each_bit}
use Rattle.surf_tiles.specs.declared.reaction.Reaction.TheVariants.{ReadsLastA}
use Rattle.surf_tiles.proofs.list.put_last_a.Given as goal

abbrev pub invariant-loop-zero : goal.invariant-loop-zero
invariant-loop-zero l = l.list.items ≡ l.initial.list.items ++ flat_map (λ (p, q). for_each_bit (ReadsLastA p q)) (take l.zero-index l.zero-items)
