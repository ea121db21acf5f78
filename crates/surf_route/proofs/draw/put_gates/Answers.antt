use Rattle.std.proofs.Common.{false, ◌+◌, ◌∙◌, get_or, length, subst, sym, ap}
use Rattle.surf_tiles.specs.declared.netlist.Gate.TheVariants.{Constant}
use Rattle.surf_route.specs.Routing.{AreNext, band_of, gates_below}
use Rattle.surf_route.proofs.Drawing.{are_next, gate_next, rest_after}
use Rattle.surf_route.proofs.draw.put_gates.Goals as goal

pub put_gate-requires-clause-band : goal.put_gate-requires-clause-band
put_gate-requires-clause-band c =
    let N = c.args.drawing.now.netlist in
    let j = c.loop-j.j in
    let gate = get_or c.args.gates.now j (Constant false) in
    subst (λ n. AreNext N c.loop-j.sheet.row (band_of (n + j) gate)) (sym c.requires.inputs)
    (are_next N c.loop-j.sheet.row (band_of (N.inputs + j) gate) (gates_below N (j + 1)) (c.loop-j.invariant.rest ∙ gate_next N c.args.gates.now j (Constant false) c.requires.all c.loop-j-test.true))

pub loop-j-preserved : goal.loop-j-preserved
loop-j-preserved c =
    let N = c.args.drawing.now.netlist in
    let j = c.loop-j.j in
    let gate = get_or c.args.gates.now j (Constant false) in
    record {
      sheet = c.in_ok-put_gate.ensures.sheet;
      rest = rest_after N c.loop-j.sheet.row c.put_gate.new.sheet.row (band_of (N.inputs + j) gate) (gates_below N (j + 1)) (c.loop-j.invariant.rest ∙ gate_next N c.args.gates.now j (Constant false) c.requires.all c.loop-j-test.true)
          (c.in_ok-put_gate.ensures.row ∙ ap (λ n. c.loop-j.sheet.row + length (band_of (n + j) gate)) c.requires.inputs);
    }
