use Rattle.std.proofs.Common.{◌≡◌, ◌+◌, take, sum}
use Rattle.surf_pick.proofs.plain.PlainPickerPicker.find.Given as goal

abbrev pub invariant-loop-place : goal.invariant-loop-place
invariant-loop-place l = sum (take l.place l.self.0) + l.rest ≡ l.r
