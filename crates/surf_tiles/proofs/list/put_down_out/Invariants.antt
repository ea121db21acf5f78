use Rattle.std.proofs.Common.{◌≡◌, ◌++◌, take}
use Rattle.std.specs.List.{flat_map}
use Rattle.surf_tiles.specs.Reactions.{for_each_bit}
use Rattle.surf_tiles.specs.declared.reaction.Reaction.TheVariants.{QReads}
use Rattle.surf_tiles.proofs.list.put_down_out.Given as goal

abbrev pub invariant-loop-across : goal.invariant-loop-across
invariant-loop-across l = l.list.items ≡ l.initial.list.items ++ flat_map (λ y. for_each_bit (QReads y)) (take l.across-index l.across-items)
