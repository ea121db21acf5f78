use Rattle.std.proofs.Common.{rules, IsErr}
use Rattle.surf_status.proofs.Emitting.{printed, printed_cut}
use Rattle.surf_command_traces.proofs.observing.write_observed.Goals as goal

pub returns-in_err-print_rows : goal.returns-in_err-print_rows
returns-in_err-print_rows g c =
    let failed : IsErr c.print_rows.result = search rules in
    printed_cut _ _ _ _ c.print_rows.result _ failed c.from_residual.ensures.0 c.new-outbox.ensures c.print_rows.ensures

pub returns : goal.returns
returns g c = printed _ _ _ _ _ _ _ _ c.new-outbox.ensures c.in_ok-print_rows.ensures.whole c.print_rows.ensures.later c.flush.ensures.emits c.flush.ensures.empty
