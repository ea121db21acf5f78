use Rattle.std.proofs.Common.{nat_eq, subst, sym, refl}
use Rattle.std.specs.Prelude.{IsSome}
use Rattle.surf_lattice.specs.Grids.{sites}
use Rattle.surf_world.specs.Choices.{choices_at, choices}
use Rattle.surf_world.specs.Picks.{rate_of}
use Rattle.surf_world.proofs.Decisions.{number_to, number_from}
use Rattle.surf_world.proofs.Listed.{listed_enabled, enabled_listed, both_orders}
use Rattle.surf_world.proofs.Laws.{weights_sum, pick_along}
use Rattle.surf_world.proofs.Chosen.{pick_has, pick_below, rate_some, stuck_from_none, none_from_stuck}
use Rattle.surf_world.proofs.Around.{refreshed_is}
use Rattle.surf_world.proofs.Once.{listed_once}
use Rattle.surf_world.proofs.theorems.choice_laws.Goals as goal

pub returns-clause-listed : goal.returns-clause-listed
returns-clause-listed c S d e = (listed_enabled nat_eq number_to number_from S d e, enabled_listed nat_eq number_to number_from S d e)

pub returns-clause-once : goal.returns-clause-once
returns-clause-once c S d is = listed_once nat_eq S d is

pub returns-clause-stuck : goal.returns-clause-stuck
returns-clause-stuck c S d = (stuck_from_none S d, none_from_stuck S d)

pub returns-clause-rated : goal.returns-clause-rated
returns-clause-rated c S d e f = rate_some S d e f

pub returns-clause-both_orders : goal.returns-clause-both_orders
returns-clause-both_orders c S d r k p q at twice f = both_orders S d r k p q at twice f

pub returns-clause-weights : goal.returns-clause-weights
returns-clause-weights c w = weights_sum w

pub returns-clause-picked : goal.returns-clause-picked
returns-clause-picked c S d r e is = listed_enabled nat_eq number_to number_from S d e (pick_has (rate_of S) (choices nat_eq S d) r e is)

pub returns-clause-picks : goal.returns-clause-picks
returns-clause-picks c S d r lt = let m = pick_below (rate_of S) (choices nat_eq S d) r lt in subst IsSome (sym m.1) refl

pub returns-clause-in_two_steps : goal.returns-clause-in_two_steps
returns-clause-in_two_steps c w i p rest r at before less =
    pick_along (rate_of w.surface) (choices_at nat_eq w.surface w.names) (sites w.surface.grid) i p rest r at before less

pub returns-clause-local : goal.returns-clause-local
returns-clause-local c S d e ws f is = refreshed_is S d e ws f is
