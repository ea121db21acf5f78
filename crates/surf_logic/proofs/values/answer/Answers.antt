use Rattle.std.proofs.Common.{rules, ◌≡◌, map, IfOk}
use Rattle.surf_logic.specs.Equations.{at, evaluated, placed}
use Rattle.surf_logic.proofs.Evaluating.{eval_is, answered}
use Rattle.surf_logic.proofs.values.answer.Goals as goal

pub returns : goal.returns
returns c =
    let parts = c.args.circuit.now.parts in
    let start = c.args.values.now in
    let is : IfOk c.read.result (λ v. v.items ≡ map (at (evaluated (placed start parts.inputs c.args.bits.now) parts.equations)) parts.outputs) = search rules in
    answered c.args.circuit.now c.args.bits.now c.read.result _ is c.read.ensures.err
    (eval_is c.args.circuit.now c.args.bits.now start c.inputs.ensures.circuit c.requires.bits c.requires.values)
