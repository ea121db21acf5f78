use Rattle.std.proofs.Common.{◌≡◌, ◌+◌, take, sum_by}
use Rattle.surf_world.specs.Picks.{rate_at}
use Rattle.surf_world.proofs.world.World.nth_of.Given as goal

abbrev pub invariant-loop-number : goal.invariant-loop-number
invariant-loop-number g l = sum_by (rate_at l.self.surface.rules) (take l.number-index l.numbers) + l.rest ≡ l.r
