use Rattle.std.proofs.Common.{arith}
use Rattle.surf_place.proofs.Taking.{rows_few}
use Rattle.surf_compile_rows.proofs.circuits.inverters_are_laid_out.Goals as goal

pub new-requires-clause-rows : goal.new-requires-clause-rows
new-requires-clause-rows g c = let r = rows_few c.in_ok-netlist.netlist in omega (arith, r, c.in_ok-netlist.ensures.cost)
