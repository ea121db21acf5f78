use Rattle.std.proofs.Common.{◌≡◌, drop}
use Rattle.surf_flatten.specs.Checks.{item_fault, lines_fault}
use Rattle.surf_flatten.specs.Tables.{place_in}
use Rattle.surf_flatten.proofs.checks.check_items.Given as goal

abbrev pub invariant-loop-item : goal.invariant-loop-item
invariant-loop-item l = lines_fault (item_fault (place_in l.library) l.ports) (drop l.item-index l.items) ≡ lines_fault (item_fault (place_in l.library) l.ports) l.items
