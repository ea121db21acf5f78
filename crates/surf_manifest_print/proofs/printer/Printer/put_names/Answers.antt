use Rattle.surf_rules.specs.Names.{text_of}
use Rattle.surf_manifest_print.proofs.PrintLemmas.{names_put}
use Rattle.surf_manifest_print.proofs.printer.Printer.put_names.Goals as goal

pub returns-in_ok-put_others-in-Some : goal.returns-in_ok-put_others-in-Some
returns-in_ok-put_others-in-Some c =
    names_put (text_of c.args.names.now) _ _ _ _ _ _ c.in-Some.ensures.cases.0 c.in_ok-put_name-in-Some.ensures c.in_ok-put_others-in-Some.ensures
