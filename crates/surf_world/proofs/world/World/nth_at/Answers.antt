use Rattle.std.proofs.Common.{arith, ℕ, nat_eq, length, ◌≡◌, ap, refl, ◌∙◌, None}
use Rattle.surf_lattice.specs.Grids.{Grid, neighbour, degree}
use Rattle.surf_world.specs.Choices.{enabled_test, events_on, events_toward}
use Rattle.surf_world.specs.Picks.{rate_of}
use Rattle.surf_world.proofs.Sums.{directions_sum, direction_found, alone_picked}
use Rattle.surf_world.proofs.Outside.{weight_inside}
use Rattle.surf_world.proofs.world.World.nth_at.Goals as goal

pub nth_alone-requires : goal.nth_alone-requires
nth_alone-requires g c = weight_inside c.args.self.now.surface c.args.self.now.names c.args.site c.args.r c.requires

pub nth_toward-requires-clause-site : goal.nth_toward-requires-clause-site
nth_toward-requires-clause-site g c = weight_inside c.args.self.now.surface c.args.self.now.names c.args.site c.args.r c.requires

pub returns-in-Ok : goal.returns-in-Ok
returns-in-Ok g c = alone_picked (rate_of c.args.self.now.surface) _ _ _ c.args.r c.in-Ok.event refl c.in-Ok.ensures

pub loop-direction-init : goal.loop-direction-init
loop-direction-init g c = omega (arith, c.in-Err.ensures)

pub loop-direction-preserved : goal.loop-direction-preserved
loop-direction-preserved g c =
    let S = c.args.self.now.surface in
    let more = directions_sum (rate_of S) (λ (i : ℕ). events_toward (enabled_test nat_eq S c.args.self.now.names) (length S.rules) c.args.site (neighbour S.grid c.args.site i)) c.loop-direction.direction in
    omega (arith, c.loop-direction.invariant, c.in-Err-nth_toward.ensures, more)

pub returns-in-Ok-nth_toward : goal.returns-in-Ok-nth_toward
returns-in-Ok-nth_toward g c =
    let S = c.args.self.now.surface in
    let test = enabled_test nat_eq S c.args.self.now.names in
    let all : c.degree-direction-end.result ≡ degree c.args.self.now.surface.grid.kind = c.degree-direction-end.ensures ∙ ap (λ (h : Grid). degree h.kind) c.grid.ensures in
    direction_found (rate_of S) (events_on test (length S.rules) c.args.site None) (λ (i : ℕ). events_toward test (length S.rules) c.args.site (neighbour S.grid c.args.site i)) (degree S.grid.kind) c.loop-direction.direction c.loop-direction.rest c.args.r c.in-Ok-nth_toward.event
    (omega (arith, all, c.loop-direction-test.true)) c.loop-direction.invariant c.in-Ok-nth_toward.ensures
