use Rattle.std.proofs.Common.{◌≡◌, take, map}
use Rattle.surf_netlist.specs.Making.{net_at}
use Rattle.surf_netlist.proofs.nets.nets_of.Given as goal

abbrev pub invariant-loop-name : goal.invariant-loop-name
invariant-loop-name l = l.found.items ≡ map (net_at l.nets) (take l.name-index l.names)
