use Rattle.surf_manifest.specs.Drafts.{named_rule}
use Rattle.surf_manifest_print.proofs.PrintLemmas.{sides_put}
use Rattle.surf_manifest_print.proofs.printer.Printer.put_sides.Goals as goal

pub returns : goal.returns
returns c = sides_put (named_rule c.args.names.now c.args.rule.now) _ _ _ _ c.in_ok-put_side.ensures c.in_ok-put.ensures c.in_ok-put_side-2.ensures
