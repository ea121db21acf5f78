use Rattle.std.proofs.Common.{◌≡◌, drop, map}
use Rattle.surf_flatten.specs.Checks.{formal_by}
use Rattle.surf_flatten.specs.Tables.{with_texts}
use Rattle.surf_flatten.proofs.checks.check_formals.Given as goal

abbrev pub invariant-loop-bind : goal.invariant-loop-bind
invariant-loop-bind l = record {
  fault : formal_by l.known l.bound (drop l.bind-index l.binds) ≡ formal_by l.known l.initial.bound l.binds;
  all : with_texts l.bound (map (λ b. b.formal) (drop l.bind-index l.binds)) ≡ with_texts l.initial.bound (map (λ b. b.formal) l.binds);
}
