use Rattle.std.proofs.Common.{◌∙◌, List, length, sym, subst}
use Rattle.surf_rules.specs.declared.rule.Rule.{Rule}
use Rattle.surf_tiles.specs.Reactions.{reactions}
use Rattle.surf_tiles.specs.Rules.{SayAll}
use Rattle.surf_manifest.specs.Drafts.{RulesBelow}
use Rattle.surf_circuit.proofs.PrintedLemmas.{layout_printed}
use Rattle.surf_circuit.proofs.SurfaceLemmas.{rules_below}
use Rattle.surf_circuit.proofs.text.print_layout.Goals as goal

pub put_rule_block-requires : goal.put_rule_block-requires
put_rule_block-requires c =
    let texts = c.circuit_rules.new.names in
    let rules = c.in_ok-rules.rules.items in
    subst (λ (v : List Rule). RulesBelow (length texts) v) (sym c.deref.ensures.value) (rules_below texts rules reactions c.in_ok-rules.ensures.rules)

pub returns-clause-text : goal.returns-clause-text
returns-clause-text c =
    let texts = c.circuit_rules.new.names in
    let said : SayAll texts c.deref.result.now reactions = subst (λ v. SayAll texts v reactions) (sym c.deref.ensures.value) c.in_ok-rules.ensures.rules in
    c.into_bytes.ensures
    ∙ layout_printed c.args.layout.now c.args.legend.now texts c.deref.result.now _ _ _ _ _ _ _ _
    c.in_ok-printer.ensures c.in_ok-put_legend.ensures c.in_ok-put_geometry.ensures c.in_ok-put_wrap.ensures c.in_ok-put_rule_block.ensures c.in_ok-put_line.ensures c.in_ok-put_rows.ensures c.in_ok-put_line-2.ensures said
