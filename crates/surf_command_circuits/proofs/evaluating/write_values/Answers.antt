use Rattle.std.proofs.Common.{rules, IsErr}
use Rattle.surf_status.proofs.Emitting.{printed, printed_cut}
use Rattle.surf_command_circuits.proofs.evaluating.write_values.Goals as goal

pub returns-in_err-print_values : goal.returns-in_err-print_values
returns-in_err-print_values g c =
    let failed : IsErr c.print_values.result = search rules in
    printed_cut _ _ _ _ c.print_values.result _ failed c.from_residual.ensures.0 c.new-outbox.ensures c.print_values.ensures

pub returns : goal.returns
returns g c = printed _ _ _ _ _ _ _ _ c.new-outbox.ensures c.in_ok-print_values.ensures.whole c.print_values.ensures.later c.flush.ensures.emits c.flush.ensures.empty
