use Rattle.std.proofs.Common.{IfOk, nat_eq, ap, subst, ◌≡◌}
use Rattle.surf_pick.specs.Draws.{words_of}
use Rattle.surf_sim.specs.Simulations.{Simulation, sim_events}
use Rattle.surf_trace.specs.Observations.{shown_in}
use Rattle.surf_world.specs.Worlds.{Placed}
use Rattle.rand_core.specs.Stream.{Stream}
use Rattle.surf_tally.specs.Tallies.{tally_of}
use Rattle.surf_command_vote.proofs.voting.tally_by.Goals as goal

pub returns : goal.returns
returns g c =
    let counted : Placed → Stream → Type 0 = λ w s.
    IfOk c.tally.result (λ t. t ≡ tally_of (shown_in c.args.names.now) w.surface w.names (sim_events nat_eq w.surface w.names s c.args.count) 2 c.args.places.now) in
    subst (λ (s : Stream). counted c.args.world s) (ap words_of c.new.ensures)
    (subst (λ (s : Simulation). counted s.placed (words_of s.generator)) c.in_ok-sim.ensures c.tally.ensures.tally)
