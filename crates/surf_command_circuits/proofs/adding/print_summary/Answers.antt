use Rattle.std.proofs.Common.{rules, IsErr, map}
use Rattle.surf_base.proofs.EmitLemmas.{after_whole}
use Rattle.surf_demo.specs.Summaries.{adder_lines}
use Rattle.surf_rules.specs.Names.{text_of}
use Rattle.surf_command_circuits.specs.Values.{values_text}
use Rattle.surf_status.proofs.Emitting.{cut_before}
use Rattle.surf_command_circuits.proofs.adding.print_summary.Goals as goal

pub returns-in_err-print_size : goal.returns-in_err-print_size
returns-in_err-print_size g c =
    let circuit = c.args.circuit.now in
    let failed : IsErr c.print_size.result = search rules in
    cut_before _ _ _ _ _ _ (adder_lines c.args.n c.args.events) (values_text (map (text_of circuit.names) circuit.parts.outputs) c.args.values.now) c.print_size.result _ failed c.from_residual.ensures.0 c.print_size.ensures

pub returns : goal.returns
returns g c =
    let circuit = c.args.circuit.now in
    after_whole _ _ _ _ _ _ _ _ _ (adder_lines c.args.n c.args.events) (values_text (map (text_of circuit.names) circuit.parts.outputs) c.args.values.now) _ c.in_ok-print_size.ensures.whole c.print_size.ensures.later
    (search rules)
