use Rattle.std.proofs.Common.{◌∙◌, ◌++◌, codes, ap, sym}
use Rattle.std.specs.Option.{option_copied}
use Rattle.surf_text.specs.Bytes.{ended}
use Rattle.surf_manifest_print.specs.Prints.{colour_lines}
use Rattle.surf_manifest_print.proofs.PrintLemmas.{block}
use Rattle.surf_manifest_print.proofs.printer.Printer.put_colormap.Goals as goal

pub returns-in_ok-put_line-2 : goal.returns-in_ok-put_line-2
returns-in_ok-put_line-2 c =
    block (codes "!START_COLORMAP") c.in-Some.lines.now (codes "!END_COLORMAP") _ _ _ _ c.in_ok-put_line.ensures c.in_ok-put_lines.ensures c.in_ok-put_line-2.ensures
    ∙ ap (λ v. c.args.self.now ++ ended (colour_lines (option_copied v))) (sym c.in-Some.is)
