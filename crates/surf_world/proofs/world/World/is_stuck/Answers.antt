use Rattle.std.proofs.Common.{arith, ◌∙◌, nat_eq, refl, sym}
use Rattle.std.proofs.lemmas.Bool.{false≢true}
use Rattle.surf_world.proofs.Decisions.{number_to, number_from}
use Rattle.surf_world.proofs.Listed.{stuck_idle, idle_stuck}
use Rattle.surf_world.proofs.world.World.is_stuck.Goals as goal

pub returns-then-not-is_idle : goal.returns-then-not-is_idle
returns-then-not-is_idle g c =
    (λ t. absurd (false≢true t), λ s. absurd (false≢true (sym c.if-not-is_idle.true ∙ c.is_idle.ensures.1 (stuck_idle nat_eq number_to number_from c.args.self.now.surface c.args.self.now.names c.site_at.result s))))

pub returns : goal.returns
returns g c = (
  λ t. idle_stuck nat_eq number_to number_from c.args.self.now.surface c.args.self.now.names (λ k lt. c.loop-place.invariant k (omega (arith, lt, c.loop-place-test.false, c.site_count-place-end.ensures.sides))),
  λ s. refl,
)
