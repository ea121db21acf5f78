use Rattle.std.proofs.Common.{◌<◌, subst, arith, length, sym, IfOk}
use Rattle.surf_tiles.specs.Netlists.{NetlistOf}
use Rattle.surf_circuit.specs.Compiled.{IsDrawn}
use Rattle.surf_circuit.proofs.Answered.{on_if}
use Rattle.surf_circuit.proofs.Drawable.{decomposed_layout, few_rows, has_output}
use Rattle.surf_circuit.proofs.compiler.layout_of.Goals as goal

pub draw-requires-clause-outputs : goal.draw-requires-clause-outputs
draw-requires-clause-outputs c = subst (λ (n : NetlistOf). 0 < length n.outputs) (sym c.in_ok-netlist.ensures.gates) (has_output c.args.circuit.now c.inputs-inputs.ensures.circuit)

pub draw-requires-clause-rows : goal.draw-requires-clause-rows
draw-requires-clause-rows c = few_rows c.in_ok-netlist.netlist (let few = c.in_ok-netlist.ensures.cost in omega (arith, few, c.requires))

pub returns-clause-drawn : goal.returns-clause-drawn
returns-clause-drawn c = subst (λ (n : NetlistOf). IfOk c.draw.result (IsDrawn n)) c.in_ok-netlist.ensures.gates c.draw.ensures

pub returns-clause-values : goal.returns-clause-values
returns-clause-values c =
    on_if c.draw.result
    (λ layout drawn. decomposed_layout c.args.circuit.now c.in_ok-netlist.netlist layout c.in_ok-netlist.ensures.gates c.in_ok-netlist.ensures.values drawn)
    c.draw.ensures
