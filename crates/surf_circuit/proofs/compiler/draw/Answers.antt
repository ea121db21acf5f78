use Rattle.std.proofs.Common.{◌∙◌}
use Rattle.surf_circuit.proofs.OneSurface.{drawn_result}
use Rattle.surf_circuit.proofs.compiler.draw.Goals as goal

pub returns-in-Ok : goal.returns-in-Ok
returns-in-Ok c = drawn_result c.args.netlist c.in-Ok.placed (c.in-Ok.ensures.netlist ∙ c.new.ensures) c.in-Ok.ensures.placed c.seal.result c.seal.ensures
