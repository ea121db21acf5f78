use Rattle.std.proofs.Common.{◌≡◌, drop}
use Rattle.surf_text.specs.Bytes.{without_front, is_blank}
use Rattle.surf_text.proofs.texts.trim_front.Given as goal

abbrev pub invariant-loop-i : goal.invariant-loop-i
invariant-loop-i l = without_front is_blank l.line ≡ without_front is_blank (drop l.i l.line)
