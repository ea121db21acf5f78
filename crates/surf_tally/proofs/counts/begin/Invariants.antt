use Rattle.std.proofs.Common.{◌≡◌, map, take}
use Rattle.surf_tally.specs.Counting.{first_count}
use Rattle.surf_tally.specs.Showings.{look}
use Rattle.surf_tally.proofs.counts.begin.Given as goal

abbrev pub invariant-loop-place : goal.invariant-loop-place
invariant-loop-place g l = l.counts.items ≡ map (λ m. first_count (look l.shown m)) (take l.place l.world.names)
