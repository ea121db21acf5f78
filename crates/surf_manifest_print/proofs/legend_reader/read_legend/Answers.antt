use Rattle.surf_manifest_print.proofs.LegendRead.{read_apart, read_form, read_words}
use Rattle.surf_manifest_print.proofs.legend_reader.read_legend.Goals as goal

pub returns-clause-words : goal.returns-clause-words
returns-clause-words c = read_words c.args.bytes.now c.read_lines.result c.read_lines.ensures.ok

pub returns-clause-apart : goal.returns-clause-apart
returns-clause-apart c = read_apart c.args.bytes.now c.read_lines.result c.read_lines.ensures.ok

pub returns-clause-form : goal.returns-clause-form
returns-clause-form c = read_form c.args.bytes.now c.read_lines.result c.read_lines.ensures.ok
