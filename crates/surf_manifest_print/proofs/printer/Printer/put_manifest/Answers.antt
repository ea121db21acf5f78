use Rattle.std.proofs.Common.{◌∙◌, ◌++◌, ◌∷◌, [], ap, map}
use Rattle.surf_text.specs.Bytes.{ended}
use Rattle.surf_manifest_print.specs.Prints.{geometry_text, wrap_text, option_text, colour_lines}
use Rattle.surf_manifest_print.proofs.PrintLemmas.{manifest_put, copied_is}
use Rattle.surf_manifest_print.proofs.printer.Printer.put_manifest.Goals as goal

pub returns-clause-text : goal.returns-clause-text
returns-clause-text c =
    let m = c.args.manifest.now.text in
    manifest_put m _ _ _ _ _ _ _
    (c.in_ok-put_geometry.ensures ∙ ap (λ v. c.args.self.now ++ (geometry_text v ++ 10 ∷ [])) c.kind.ensures.kind)
    (c.in_ok-put_wrap.ensures ∙ ap (λ v. c.put_geometry.new.self ++ (wrap_text v ++ 10 ∷ [])) c.wrap.ensures)
    (c.in_ok-put_options.ensures ∙ ap (λ v. c.put_wrap.new.self ++ ended (map option_text v)) c.options.ensures)
    c.in_ok-put_rules_of.ensures c.in_ok-put_state_of.ensures
    (c.in_ok-put_colormap.ensures ∙ ap (λ v. c.put_state_of.new.self ++ ended (colour_lines v)) (copied_is c.colormap.result m.colormap c.colormap.ensures))
