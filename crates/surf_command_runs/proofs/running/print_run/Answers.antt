use Rattle.std.proofs.Common.{rules, IsErr}
use Rattle.surf_status.proofs.Emitting.{printed, printed_cut}
use Rattle.surf_command_runs.proofs.running.print_run.Goals as goal

pub returns-in_err-print_held : goal.returns-in_err-print_held
returns-in_err-print_held g c =
    let failed : IsErr c.print_held.result = search rules in
    printed_cut _ _ _ _ c.print_held.result _ failed c.from_residual.ensures.0 c.new-outbox.ensures c.print_held.ensures

pub returns : goal.returns
returns g c = printed _ _ _ _ _ _ _ _ c.new-outbox.ensures c.in_ok-print_held.ensures.whole c.print_held.ensures.later c.flush.ensures.emits c.flush.ensures.empty
