use Rattle.std.proofs.Common.{◌≡◌, ◌++◌, drop, map}
use Rattle.surf_text.specs.Bytes.{ended}
use Rattle.surf_manifest_print.specs.Prints.{option_text}
use Rattle.surf_manifest_print.proofs.printer.Printer.put_options.Given as goal

abbrev pub invariant-loop-option : goal.invariant-loop-option
invariant-loop-option l = l.self ++ ended (map option_text (drop l.option-index l.options)) ≡ l.initial.self ++ ended (map option_text l.options)
