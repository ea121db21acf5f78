use Rattle.std.proofs.Common.{rules}
use Rattle.surf_manifest_lines.specs.Said.{rule_of_line}
use Rattle.surf_manifest_lines.proofs.WellFormed.{line_rule}
use Rattle.surf_manifest_lines.proofs.rule_lines.rule_line.Goals as goal

pub returns-in-Some-clause-rule : goal.returns-in-Some-clause-rule
returns-in-Some-clause-rule c = line_rule c.args.number c.args.text.now (rule_of_line c.in-Some.line) (search rules)
