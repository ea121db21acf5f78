use Rattle.std.proofs.Common.{rules, ◌≡◌, ◌∙◌, ◌++◌, [], ap, None}
use Rattle.std.specs.Option.{option_copied}
use Rattle.surf_text.specs.Bytes.{ended}
use Rattle.surf_manifest.specs.Grammar.{manifest_of}
use Rattle.surf_manifest_print.specs.Prints.{legend_lines, print_lines, print_of}
use Rattle.surf_manifest_print.proofs.PrintLemmas.{then_lines}
use Rattle.surf_manifest_print.proofs.Whole.{reads_print}
use Rattle.surf_manifest_print.proofs.print.print_manifest.Goals as goal

printed : (c : goal.After-drop-shorts-2) → c.into_bytes.result.items ≡ print_of c.args.manifest.now.text (option_copied c.args.legend)
printed c =
    let legend = legend_lines (option_copied c.args.legend) in
    let empty : c.in_ok-printer.printer ≡ [] = search rules in
    c.into_bytes.ensures
    ∙ then_lines legend (print_lines c.args.manifest.now.text None) [] _ _ (c.in_ok-put_legend.ensures ∙ ap (λ v. v ++ ended legend) empty) c.in_ok-put_manifest.ensures.text

pub returns-clause-text : goal.returns-clause-text
returns-clause-text c = printed c

pub returns-clause-read : goal.returns-clause-read
returns-clause-read c =
    λ h. ap manifest_of (printed c) ∙ reads_print c.args.manifest.now.text (option_copied c.args.legend) c.put_manifest.ensures.well_formed h
