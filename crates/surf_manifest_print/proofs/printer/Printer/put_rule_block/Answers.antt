use Rattle.std.proofs.Common.{◌∙◌, ◌++◌, codes, map, ap, sym}
use Rattle.std.proofs.lemmas.Simd.{map-map}
use Rattle.surf_text.specs.Bytes.{ended}
use Rattle.surf_manifest.specs.Drafts.{named_rule}
use Rattle.surf_manifest_print.specs.Prints.{rule_text}
use Rattle.surf_manifest_print.proofs.PrintLemmas.{block, on_ok}
use Rattle.surf_manifest_print.proofs.printer.Printer.put_rule_block.Goals as goal

pub returns : goal.returns
returns c =
    let name = named_rule c.args.names.now in
    let rules = c.args.rules.now in
    let lines = c.in_ok-put_rules.ensures ∙ ap (λ v. c.put_line.new.self ++ ended v) (sym (map-map rule_text name rules)) in
    on_ok c.put_line-2.result
    (λ e. block (codes "!START_TRANSITION_RULES") (map rule_text (map name rules)) (codes "!END_TRANSITION_RULES") _ _ _ _ c.in_ok-put_line.ensures lines e)
    c.put_line-2.ensures
