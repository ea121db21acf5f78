use Rattle.std.proofs.Common.{◌∙◌, ◌++◌, ap}
use Rattle.surf_tiles.specs.Kinds.{name_of}
use Rattle.surf_manifest_print.proofs.PrintLemmas.{names_put, on_ok}
use Rattle.surf_circuit.proofs.text.put_names.Goals as goal

pub returns-in_ok-put-in-Some : goal.returns-in_ok-put-in-Some
returns-in_ok-put-in-Some c =
    let first = c.in_ok-put-in-Some.ensures ∙ ap (λ v. c.args.printer.now ++ v) (c.kind_name.ensures ∙ ap name_of c.kind.ensures) in
    on_ok c.put_others.result (λ e. names_put name_of _ _ _ _ _ _ c.in-Some.ensures.cases.0 first e) c.put_others.ensures
