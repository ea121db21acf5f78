use Rattle.std.proofs.Common.{◌≡◌, ◌++◌, take}
use Rattle.std.specs.List.{flat_map}
use Rattle.surf_tiles.specs.Reactions.{for_each_bit}
use Rattle.surf_tiles.specs.declared.reaction.Reaction.TheVariants.{AcrossReads}
use Rattle.surf_tiles.proofs.list.put_across.Given as goal

abbrev pub invariant-loop-down : goal.invariant-loop-down
invariant-loop-down l = l.list.items ≡ l.initial.list.items ++ flat_map (λ y. for_each_bit (AcrossReads y)) (take l.down-index l.down-items)
