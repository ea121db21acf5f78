use Rattle.std.proofs.Common.{rules, IsErr}
use Rattle.surf_status.proofs.Emitting.{printed, printed_cut}
use Rattle.surf_command_circuits.proofs.adding.write_summary.Goals as goal

pub returns-in_err-print_summary : goal.returns-in_err-print_summary
returns-in_err-print_summary g c =
    let failed : IsErr c.print_summary.result = search rules in
    printed_cut _ _ _ _ c.print_summary.result _ failed c.from_residual.ensures.0 c.new-outbox.ensures c.print_summary.ensures

pub returns : goal.returns
returns g c = printed _ _ _ _ _ _ _ _ c.new-outbox.ensures c.in_ok-print_summary.ensures.whole c.print_summary.ensures.later c.flush.ensures.emits c.flush.ensures.empty
