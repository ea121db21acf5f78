use Rattle.std.specs.Prelude.{bytes_eq}
use Rattle.surf_world.proofs.Renamed.{enabled_both, after_renamed, after_below, run_both, left_renamed, stuck_both, choices_renamed, rate_renamed, picks_renamed, texts_apart, bytes_to, bytes_from}
use Rattle.surf_world.proofs.theorems.renaming_laws.Goals as goal

pub returns-clause-events : goal.returns-clause-events
returns-clause-events c f n S d e one below = enabled_both n f one S d e below

pub returns-clause-effects : goal.returns-clause-effects
returns-clause-effects c f S d e = after_renamed f S d e

pub returns-clause-below : goal.returns-clause-below
returns-clause-below c n S d e below = after_below n S d e below

pub returns-clause-runs : goal.returns-clause-runs
returns-clause-runs c f n S d es one below = run_both n f one S d es below

pub returns-clause-ends : goal.returns-clause-ends
returns-clause-ends c f S d es = left_renamed f S d es

pub returns-clause-stuck : goal.returns-clause-stuck
returns-clause-stuck c f n S d one below = stuck_both n f one S d below

pub returns-clause-choice : goal.returns-clause-choice
returns-clause-choice c f n S d one below = choices_renamed n f one S bytes_eq bytes_to bytes_from d below

pub returns-clause-rates : goal.returns-clause-rates
returns-clause-rates c f S e = rate_renamed f S e

pub returns-clause-picks : goal.returns-clause-picks
returns-clause-picks c f n S d r one below = picks_renamed f n S d r one below

pub returns-clause-texts : goal.returns-clause-texts
returns-clause-texts c ts distinct = texts_apart ts distinct
