use Rattle.std.proofs.Common.{◌≡◌, map}
use Rattle.std.specs.List.{range_with_len}
use Rattle.surf_route.specs.Sealed.{centre}
use Rattle.surf_route.proofs.ends.input_sites.Given as goal

abbrev pub invariant-loop-i : goal.invariant-loop-i
invariant-loop-i l = l.sites.items ≡ map (centre 0) (range_with_len 0 l.i)
