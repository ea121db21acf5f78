use Rattle.std.proofs.Common.{ap, subst}
use Rattle.rand_core.specs.Stream.{Stream}
use Rattle.surf_base.specs.declared.outside.WriteFault.{WriteFault}
use Rattle.surf_rules.specs.Names.{text_of}
use Rattle.surf_pick.specs.Draws.{words_of}
use Rattle.surf_world.specs.Worlds.{Placed}
use Rattle.surf_sim.specs.Simulations.{Simulation}
use Rattle.surf_command_runs.specs.Prints.{placed_text}
use Rattle.surf_status.specs.Writes.{Wrote, writes}
use Rattle.surf_command_runs.proofs.running.print_by.Goals as goal

pub returns-clause-printed : goal.returns-clause-printed
returns-clause-printed g c =
    let printed : Placed → Stream → Type 0 = λ w s.
    Wrote {T = Unit {0}} {E = WriteFault} (writes g.K.Sink.written g.K.Sink.faults c.args.out.now c.print_run.new.out) (placed_text (text_of c.args.names.now) w s c.args.count) c.print_run.result in
    subst (λ (s : Stream). printed c.args.world s) (ap words_of c.new.ensures)
    (subst (λ (s : Simulation). printed s.placed (words_of s.generator)) c.in_ok-sim.ensures c.print_run.ensures)
