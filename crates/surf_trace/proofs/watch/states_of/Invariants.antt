use Rattle.std.proofs.Common.{◌≡◌, map, take}
use Rattle.surf_trace.proofs.watch.states_of.Given as goal

abbrev pub invariant-loop-one : goal.invariant-loop-one
invariant-loop-one l = l.states.items ≡ map (λ x. x.state) (take l.one-index l.kept)
