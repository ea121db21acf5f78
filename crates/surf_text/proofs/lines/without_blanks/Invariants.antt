use Rattle.std.proofs.Common.{◌≡◌, drop}
use Rattle.surf_text.specs.Bytes.{tokens_of}
use Rattle.surf_text.proofs.lines.without_blanks.Given as goal

abbrev pub invariant-loop-i : goal.invariant-loop-i
invariant-loop-i l = tokens_of l.line ≡ tokens_of (drop l.i l.line)
