use Rattle.std.proofs.Common.{rules, ◌≡◌, ◌∙◌, ap, sym, Some, None, drop, ◌+◌}
use Rattle.surf_logic.specs.Order.{inputs_of, or_else}
use Rattle.surf_logic.specs.Marks.{missing_by}
use Rattle.surf_logic.proofs.Marking.{missing_step}
use Rattle.surf_logic.proofs.faults.unmarked_input.Goals as goal

pub returns-in-Some-clause-is : goal.returns-in-Some-clause-is
returns-in-Some-clause-is c =
    let i = c.loop-equation.equation-index in
    let found : missing_by c.args.flags.now c.equation-item.result.inputs ≡ Some c.in-Some.name = search rules in
    let rest = missing_by c.args.flags.now (inputs_of (drop (i + 1) c.args.equations.now)) in
    sym (sym c.loop-equation.invariant ∙ missing_step c.args.flags.now c.args.equations.now i c.equation-item.result (search rules) (search rules) ∙ ap (λ o. or_else o rest) found)

pub loop-equation-preserved : goal.loop-equation-preserved
loop-equation-preserved c =
    let i = c.loop-equation.equation-index in
    let none : missing_by c.args.flags.now c.equation-item.result.inputs ≡ None = search rules in
    let rest = missing_by c.args.flags.now (inputs_of (drop (i + 1) c.args.equations.now)) in
    sym (sym c.loop-equation.invariant ∙ missing_step c.args.flags.now c.args.equations.now i c.equation-item.result (search rules) (search rules) ∙ ap (λ o. or_else o rest) none)
