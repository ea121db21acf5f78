use Rattle.std.proofs.Common.{◌≡◌, length}
use Rattle.surf_sim.proofs.Weights.{first_weights}
use Rattle.surf_sim.proofs.refresh.weights.Given as goal

abbrev pub invariant-loop-place : goal.invariant-loop-place
invariant-loop-place g l = record {
  set : l.weights.items ≡ first_weights l.world l.place;
  long : length l.weights.items ≡ l.place;
}
