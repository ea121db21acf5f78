use Rattle.std.proofs.Common.{◌≡◌, ◌++◌, take}
use Rattle.std.specs.List.{flat_map}
use Rattle.surf_tiles.specs.Reactions.{for_each_bit}
use Rattle.surf_tiles.specs.declared.reaction.Reaction.TheVariants.{PortReads}
use Rattle.surf_tiles.proofs.list.put_ports.Given as goal

abbrev pub invariant-loop-port : goal.invariant-loop-port
invariant-loop-port l = l.list.items ≡ l.initial.list.items ++ flat_map (λ port. for_each_bit (PortReads port)) (take l.port-index l.port-items)
