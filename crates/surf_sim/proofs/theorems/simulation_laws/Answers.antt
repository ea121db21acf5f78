use Rattle.surf_sim.proofs.Events.{idle_stuck, stuck_idle, next_enabled, no_events, one_event, are_run, are_few, ends_stuck, events_renamed}
use Rattle.surf_sim.proofs.Touched.{touched_around, touched_once, touched_few}
use Rattle.std.specs.Prelude.{nat_eq}
use Rattle.surf_sim.proofs.theorems.simulation_laws.Goals as goal

pub returns-clause-idle : goal.returns-clause-idle
returns-clause-idle c S d s = (idle_stuck S d s, stuck_idle S d s)

pub returns-clause-enabled : goal.returns-clause-enabled
returns-clause-enabled c S d s t e is = next_enabled S d s t e is

pub returns-clause-none : goal.returns-clause-none
returns-clause-none c S d s n is = no_events nat_eq S d s n is

pub returns-clause-some : goal.returns-clause-some
returns-clause-some c S d s t e n is = one_event nat_eq S d s t e n is

pub returns-clause-runs : goal.returns-clause-runs
returns-clause-runs c S d s n = are_run S d s n

pub returns-clause-few : goal.returns-clause-few
returns-clause-few c S d s n = are_few S d s n

pub returns-clause-stuck : goal.returns-clause-stuck
returns-clause-stuck c S d s n = ends_stuck S d s n

pub returns-clause-renamed : goal.returns-clause-renamed
returns-clause-renamed c f k S d s n one below = events_renamed f k one S d s n below

pub returns-clause-touched : goal.returns-clause-touched
returns-clause-touched c g e p = touched_around g e p

pub returns-clause-once : goal.returns-clause-once
returns-clause-once c g e is first second = touched_once g e is first second

pub returns-clause-at_most : goal.returns-clause-at_most
returns-clause-at_most c g e = touched_few g e
