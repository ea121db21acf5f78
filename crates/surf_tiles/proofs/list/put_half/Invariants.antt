use Rattle.std.proofs.Common.{◌≡◌, ◌++◌, take}
use Rattle.std.specs.List.{flat_map}
use Rattle.surf_tiles.specs.Reactions.{first_reads}
use Rattle.surf_tiles.proofs.list.put_half.Given as goal

abbrev pub invariant-loop-t10 : goal.invariant-loop-t10
invariant-loop-t10 l = l.list.items ≡ l.initial.list.items ++ flat_map (λ (r, s). first_reads l.t00 l.t01 r s) (take l.t10-index l.t10-items)
