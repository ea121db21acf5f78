use Rattle.std.proofs.Common.{arith, length, ap, drop}
use Rattle.surf_netlist.specs.Gates.{signed_row}
use Rattle.surf_netlist.specs.Making.{Making, net_at}
use Rattle.surf_netlist.proofs.Growing.{and_grows}
use Rattle.surf_netlist.proofs.gate_list.GateList.row.Goals as goal

pub and-requires : goal.and-requires
and-requires c =
    let l = c.loop-i in
    let left = signed_row (net_at c.args.nets.now) (drop l.i c.args.inputs.now) (drop l.i c.args.literals.now) in
    let grows = and_grows l.self.inputs l.self.gates.items l.so_far left in
    let same = ap (λ (m : Making). length m.gates) l.invariant.is in
    omega (arith, grows, same, c.requires.room, l.invariant.same)
