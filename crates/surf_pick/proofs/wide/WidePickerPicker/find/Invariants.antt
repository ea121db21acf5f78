use Rattle.std.proofs.Common.{◌-◌}
use Rattle.surf_pick.proofs.WideKepts.{Down}
use Rattle.surf_pick.proofs.wide.WidePickerPicker.find.Given as goal

abbrev pub invariant-loop-self : goal.invariant-loop-self
invariant-loop-self l = Down l.self-inside.sums.items l.self-inside.leaf l.r l.group l.rest

abbrev pub decreases-loop-self : goal.decreases-loop-self
decreases-loop-self l = l.self-inside.leaf - l.group
