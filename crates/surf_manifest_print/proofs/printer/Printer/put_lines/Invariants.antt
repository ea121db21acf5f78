use Rattle.std.proofs.Common.{◌≡◌, ◌++◌, drop}
use Rattle.surf_text.specs.Bytes.{ended}
use Rattle.surf_manifest_print.proofs.printer.Printer.put_lines.Given as goal

abbrev pub invariant-loop-line : goal.invariant-loop-line
invariant-loop-line l = l.self ++ ended (drop l.line-index l.lines) ≡ l.initial.self ++ ended l.lines
