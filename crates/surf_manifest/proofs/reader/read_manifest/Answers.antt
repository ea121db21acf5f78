use Rattle.std.proofs.Common.{◌∙◌}
use Rattle.surf_manifest.proofs.Good.{gives_well_formed}
use Rattle.surf_manifest.proofs.NameLemmas.{named_result}
use Rattle.surf_manifest.proofs.reader.read_manifest.Goals as goal

pub finish-requires-clause-whole : goal.finish-requires-clause-whole
finish-requires-clause-whole c = λ m is. gives_well_formed c.args.bytes.now m (c.in_ok-read_lines.ensures.read ∙ is)

pub returns-clause-named : goal.returns-clause-named
returns-clause-named c = named_result c.args.bytes.now _ c.finish.result c.in_ok-read_lines.ensures.after c.finish.ensures.ok c.finish.ensures.named
