use Rattle.std.proofs.Common.{◌≡◌, map, take}
use Rattle.surf_trace.specs.Sights.{showing_in}
use Rattle.surf_trace.specs.Watching.{first_kept}
use Rattle.surf_trace.proofs.watch.begin.Given as goal

abbrev pub invariant-loop-place : goal.invariant-loop-place
invariant-loop-place g l = l.all.items ≡ map (λ m. first_kept (showing_in l.sights m) l.k) (take l.place l.world.names)
