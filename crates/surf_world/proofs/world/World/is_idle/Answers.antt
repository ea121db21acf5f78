use Rattle.std.specs.Prelude.{◌==◌}
use Rattle.std.proofs.Common.{arith, ℕ, nat_eq, List, length, ◌≡◌, refl, sym, ap, ◌∙◌, None}
use Rattle.std.proofs.lemmas.Bool.{false≢true, eqb-true}
use Rattle.std.proofs.lemmas.List.{nil_from_length}
use Rattle.surf_lattice.specs.Grids.{Grid, neighbour, degree}
use Rattle.surf_world.specs.Choices.{enabled_test, event_of, events_on, events_toward}
use Rattle.surf_world.proofs.Sums.{busy_alone, busy_toward, idle_more, idle_whole}
use Rattle.surf_world.proofs.world.World.is_idle.Goals as goal

pub returns-then-not-is_empty : goal.returns-then-not-is_empty
returns-then-not-is_empty g c = (
  λ t. absurd (false≢true t),
  λ none. absurd (busy_alone (event_of c.args.site None) c.rules_at.result.now _ _ c.rules_at.ensures.events
      (λ e. false≢true (sym c.if-not-is_empty.true ∙ c.is_empty.ensures ∙ ap (λ (l : List ℕ). length l == 0) e)) none),
)

pub returns-then-not-is_idle_toward : goal.returns-then-not-is_idle_toward
returns-then-not-is_idle_toward g c =
    let S = c.args.self.now.surface in
    let test = enabled_test nat_eq S c.args.self.now.names in
    let all : c.degree-direction-end.result ≡ degree c.args.self.now.surface.grid.kind = c.degree-direction-end.ensures ∙ ap (λ (h : Grid). degree h.kind) c.grid.ensures in (
      λ t. absurd (false≢true t),
      λ none. absurd (busy_toward (events_on test (length S.rules) c.args.site None) (λ (i : ℕ). events_toward test (length S.rules) c.args.site (neighbour S.grid c.args.site i)) (degree S.grid.kind) c.loop-direction.direction
          (omega (arith, all, c.loop-direction-test.true)) (λ e. false≢true (sym c.if-not-is_idle_toward.true ∙ c.is_idle_toward.ensures.1 e)) none),
    )

pub loop-direction-preserved : goal.loop-direction-preserved
loop-direction-preserved g c =
    let S = c.args.self.now.surface in
    idle_more (λ (i : ℕ). events_toward (enabled_test nat_eq S c.args.self.now.names) (length S.rules) c.args.site (neighbour S.grid c.args.site i)) c.loop-direction.direction c.loop-direction.invariant (c.is_idle_toward.ensures.0 c.if-not-is_idle_toward.false)

pub returns : goal.returns
returns g c =
    let S = c.args.self.now.surface in
    let test = enabled_test nat_eq S c.args.self.now.names in
    let all : c.degree-direction-end.result ≡ degree c.args.self.now.surface.grid.kind = c.degree-direction-end.ensures ∙ ap (λ (h : Grid). degree h.kind) c.grid.ensures in (
      λ t. idle_whole (event_of c.args.site None) c.rules_at.result.now (events_on test (length S.rules) c.args.site None) (λ (i : ℕ). events_toward test (length S.rules) c.args.site (neighbour S.grid c.args.site i)) (degree S.grid.kind) c.loop-direction.direction
          c.rules_at.ensures.events (nil_from_length c.rules_at.result.now (eqb-true _ _ (sym c.is_empty.ensures ∙ c.if-not-is_empty.false))) (omega (arith, all, c.loop-direction-test.false, c.loop-direction.auto.direction-end)) c.loop-direction.invariant,
      λ none. refl,
    )
