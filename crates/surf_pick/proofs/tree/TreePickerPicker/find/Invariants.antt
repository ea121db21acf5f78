use Rattle.std.proofs.Common.{ℕ, ◌-◌, take, drop}
use Rattle.surf_pick.specs.Trees.{Kept}
use Rattle.surf_pick.proofs.Kepts.{Down}
use Rattle.surf_pick.proofs.tree.TreePickerPicker.find.Given as goal

abbrev pub invariant-loop-place : goal.invariant-loop-place
invariant-loop-place l = (t : ℕ) × Kept (take l.self-inside.count (drop l.self-inside.half l.self-inside.sums.items)) l.self-inside.sums.items l.self-inside.half t × Down l.self-inside.sums.items t l.r l.place l.rest

abbrev pub decreases-loop-place : goal.decreases-loop-place
decreases-loop-place l = l.self-inside.half - l.place
