use Rattle.std.proofs.Common.{◌≡◌, []}
use Rattle.std.proofs.Math.ListN.{replicate}
use Rattle.surf_logic.proofs.sources.no_sources.Given as goal

abbrev pub invariant-loop-name : goal.invariant-loop-name
invariant-loop-name l = l.sources.items ≡ replicate l._name []
