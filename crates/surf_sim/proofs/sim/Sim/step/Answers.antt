use Rattle.std.proofs.Common.{◌≡◌, ◌<◌, sym, refl, subst, Some, None, IfSome, nat_eq}
use Rattle.surf_lattice.specs.Grids.{IsInside}
use Rattle.surf_world.specs.Systems.{Enabled, Stuck, after}
use Rattle.surf_world.specs.Worlds.{Placed}
use Rattle.surf_world.proofs.Chosen.{chosen_enabled, stuck_from_none}
use Rattle.surf_pick.specs.Draws.{words_of}
use Rattle.surf_sim.specs.Simulations.{Simulation, next_of}
use Rattle.surf_sim.specs.Totals.{most_total}
use Rattle.surf_sim.proofs.Weights.{first_inside, second_inside}
use Rattle.surf_sim.proofs.Steps.{rest_below, next_is, none_is, none_next, right_again, settled_after}
use Rattle.surf_sim.proofs.sim.Sim.step.Goals as goal

pub returns-then-total-eq0-clause-step : goal.returns-then-total-eq0-clause-step
returns-then-total-eq0-clause-step g c =
    let w = c.self.inside.world in
    let none = none_is w _ _ c.self.invariant.0 c.total-total.ensures c.if-total-eq0.true in
    (subst (λ (m : Simulation). next_of nat_eq m.placed.surface m.placed.names (words_of m.generator) ≡ None) c.self.view_is (none_next w (words_of c.self.inside.draw) none), refl)

pub returns-then-total-eq0-clause-stuck : goal.returns-then-total-eq0-clause-stuck
returns-then-total-eq0-clause-stuck g c =
    let w = c.self.inside.world in
    let none = none_is w _ _ c.self.invariant.0 c.total-total.ensures c.if-total-eq0.true in
    subst (λ (m : Simulation). Stuck m.placed.surface m.placed.names) c.self.view_is (stuck_from_none w.surface w.names none)

pub nth_at-event-requires : goal.nth_at-event-requires
nth_at-event-requires g c = rest_below c.self.inside.world _ _ c.find-place.result.0 c.find-place.result.1 c.site_at-site.result c.self.invariant.0 c.find-place.ensures c.site_at-site.ensures.listed

pub apply-requires : goal.apply-requires
apply-requires g c = chosen_enabled c.self.inside.world.surface c.self.inside.world.names c.site_at-site.result c.find-place.result.1 c.nth_at-event.result c.nth_at-event.ensures

pub refresh_event-requires-clause-first : goal.refresh_event-requires-clause-first
refresh_event-requires-clause-first g c =
    let w = c.self.inside.world in
    let e = c.nth_at-event.result in
    let f = chosen_enabled w.surface w.names c.site_at-site.result c.find-place.result.1 e c.nth_at-event.ensures in
    subst (λ (n : Placed). IsInside n.surface.grid c.nth_at-event.result.first) (sym c.apply.ensures) (first_inside w.surface w.names e f)

pub refresh_event-requires-clause-second : goal.refresh_event-requires-clause-second
refresh_event-requires-clause-second g c =
    let w = c.self.inside.world in
    let e = c.nth_at-event.result in
    let f = chosen_enabled w.surface w.names c.site_at-site.result c.find-place.result.1 e c.nth_at-event.ensures in
    subst (λ (n : Placed). IfSome c.nth_at-event.result.second (IsInside n.surface.grid)) (sym c.apply.ensures) (second_inside w.surface w.names e f)

pub refresh_event-requires-clause-settled : goal.refresh_event-requires-clause-settled
refresh_event-requires-clause-settled g c =
    let w = c.self.inside.world in
    let e = c.nth_at-event.result in
    let f = chosen_enabled w.surface w.names c.site_at-site.result c.find-place.result.1 e c.nth_at-event.ensures in
    settled_after w c.apply.new.self e _ c.apply.ensures f c.self.invariant.0

pub invariant_of-self : goal.invariant_of-self
invariant_of-self g c =
    let w = c.self.inside.world in
    let e = c.nth_at-event.result in
    let f = chosen_enabled w.surface w.names c.site_at-site.result c.find-place.result.1 e c.nth_at-event.ensures in (
      right_again w c.apply.new.self e _ _ c.apply.ensures f c.self.invariant.0 c.refresh_event.ensures.set,
      c.refresh_event.ensures.weights,
      subst (λ (n : Placed). most_total n.surface < g.P.Picker.bound) (sym c.apply.ensures) c.self.invariant.2,
    )

pub returns-clause-step : goal.returns-clause-step
returns-clause-step g c =
    let w = c.self.inside.world in
    subst (λ (m : Simulation). (next_of nat_eq m.placed.surface m.placed.names (words_of m.generator) ≡ Some (c.nth_at-event.result, words_of c.below-r.new.self))
    × (c.apply.new.self ≡ record { surface = m.placed.surface; names = after m.placed.surface m.placed.names c.nth_at-event.result })) c.self.view_is (
      next_is w _ (words_of c.self.inside.draw) (words_of c.below-r.new.self) c.total-total.result c.below-r.result c.find-place.result.0 c.find-place.result.1 c.site_at-site.result c.nth_at-event.result
          c.self.invariant.0 c.total-total.ensures c.below-r.ensures.draw c.find-place.ensures c.site_at-site.ensures.listed c.nth_at-event.ensures,
      c.apply.ensures,
    )

pub returns-clause-enabled : goal.returns-clause-enabled
returns-clause-enabled g c =
    let w = c.self.inside.world in
    subst (λ (m : Simulation). Enabled m.placed.surface m.placed.names c.nth_at-event.result) c.self.view_is
    (chosen_enabled w.surface w.names c.site_at-site.result c.find-place.result.1 c.nth_at-event.result c.nth_at-event.ensures)
