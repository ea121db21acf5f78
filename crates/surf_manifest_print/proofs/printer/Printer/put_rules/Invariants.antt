use Rattle.std.proofs.Common.{◌≡◌, ◌++◌, drop, map}
use Rattle.surf_text.specs.Bytes.{ended}
use Rattle.surf_manifest_print.specs.Prints.{rule_text}
use Rattle.surf_manifest.specs.Drafts.{named_rule}
use Rattle.surf_manifest_print.proofs.printer.Printer.put_rules.Given as goal

abbrev pub invariant-loop-rule : goal.invariant-loop-rule
invariant-loop-rule l = l.self ++ ended (map (λ r. rule_text (named_rule l.names r)) (drop l.rule-index l.rules)) ≡ l.initial.self ++ ended (map (λ r. rule_text (named_rule l.names r)) l.rules)
