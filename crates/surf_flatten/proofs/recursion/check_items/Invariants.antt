use Rattle.std.proofs.Common.{◌≡◌, drop}
use Rattle.surf_flatten.specs.Checks.{back_fault, lines_fault}
use Rattle.surf_flatten.specs.Tables.{place_in}
use Rattle.surf_flatten.proofs.recursion.check_items.Given as goal

abbrev pub invariant-loop-item : goal.invariant-loop-item
invariant-loop-item l = lines_fault (back_fault (place_in l.library) l.parts l.part) (drop l.item-index l.items) ≡ lines_fault (back_fault (place_in l.library) l.parts l.part) l.items
