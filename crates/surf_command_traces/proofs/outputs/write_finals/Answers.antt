use Rattle.std.proofs.Common.{rules, IsErr}
use Rattle.surf_status.proofs.Emitting.{printed, printed_cut}
use Rattle.surf_command_traces.proofs.outputs.write_finals.Goals as goal

pub returns-in_err-print_finals : goal.returns-in_err-print_finals
returns-in_err-print_finals g c =
    let failed : IsErr c.print_finals.result = search rules in
    printed_cut _ _ _ _ c.print_finals.result _ failed c.from_residual.ensures.0 c.new-outbox.ensures c.print_finals.ensures

pub returns : goal.returns
returns g c = printed _ _ _ _ _ _ _ _ c.new-outbox.ensures c.in_ok-print_finals.ensures.whole c.print_finals.ensures.later c.flush.ensures.emits c.flush.ensures.empty
