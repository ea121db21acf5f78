use Rattle.std.proofs.Common.{◌≡◌, map, take}
use Rattle.surf_manifest_print.specs.Rows.{short_text}
use Rattle.surf_manifest_print.proofs.shorts.shorts_of.Given as goal

abbrev pub invariant-loop-number : goal.invariant-loop-number
invariant-loop-number l = l.shorts.items ≡ map short_text (take l.number l.names)
