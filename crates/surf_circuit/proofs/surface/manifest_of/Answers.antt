use Rattle.std.proofs.Common.{◌∙◌, ap, sym, subst, length, map, slice_index_or}
use Rattle.surf_lattice.specs.Shapes.{square}
use Rattle.surf_tiles.specs.Reactions.{reactions}
use Rattle.surf_tiles.proofs.Growing.{all_kept}
use Rattle.surf_manifest.specs.Drafts.{NamesBelow}
use Rattle.surf_manifest.specs.Numbered.{NamedManifest}
use Rattle.surf_settle.specs.Indices.{kind_index}
use Rattle.surf_circuit.specs.Numbering.{NumbersAll}
use Rattle.surf_circuit.proofs.SurfaceLemmas.{assembled, grown_names, rules_below, start_below}
use Rattle.surf_circuit.proofs.StateNames.{state_names}
use Rattle.surf_circuit.specs.Numbering.{AreStateNames}
use Rattle.surf_circuit.proofs.surface.manifest_of.Goals as goal

pub assemble-requires-clause-names : goal.assemble-requires-clause-names
assemble-requires-clause-names c = grown_names c.new-names.result c.circuit_rules.new.names c.number_kinds.new.names c.new-names.ensures c.circuit_rules.ensures.grown c.number_kinds.ensures.grown

pub assemble-requires-clause-rules : goal.assemble-requires-clause-rules
assemble-requires-clause-rules c =
    rules_below c.number_kinds.new.names c.in_ok-rules.rules.items reactions (all_kept 32 c.circuit_rules.new.names c.number_kinds.new.names c.in_ok-rules.rules.items reactions c.number_kinds.ensures.grown c.in_ok-rules.ensures.rules)

pub assemble-requires-clause-start : goal.assemble-requires-clause-start
assemble-requires-clause-start c =
    let texts = c.number_kinds.new.names in
    subst (NamesBelow (length texts)) (sym c.in_ok-start.ensures) (start_below texts c.deref.result.now c.kinds.result.now (subst (NumbersAll c.number_kinds.new.names) (sym c.deref.ensures.value) c.in_ok-numbers.ensures.numbers))

pub returns-clause-text : goal.returns-clause-text
returns-clause-text c =
    let L = c.args.layout.now in
    let texts = c.number_kinds.new.names in
    let numbers = c.deref.result.now in
    ap (λ (m : NamedManifest). m.text) c.assemble.ensures
    ∙ assembled L texts numbers c.in_ok-rules.rules.items c.in_ok-start.start.items c.new.result
    (c.new.ensures ∙ ap (λ w. square w c.height.result) c.width.ensures.is ∙ ap (λ h. square L.width h) c.height.ensures.is)
    (all_kept 32 c.circuit_rules.new.names texts c.in_ok-rules.rules.items reactions c.number_kinds.ensures.grown c.in_ok-rules.ensures.rules)
    (subst (NumbersAll c.number_kinds.new.names) (sym c.deref.ensures.value) c.in_ok-numbers.ensures.numbers)
    (c.in_ok-start.ensures ∙ ap (map (λ k. slice_index_or numbers (kind_index k) 0)) c.kinds.ensures.is)

pub returns-clause-names : goal.returns-clause-names
returns-clause-names c =
    let texts = c.number_kinds.new.names in
    subst AreStateNames (sym (ap (λ (m : NamedManifest). m.names) c.assemble.ensures))
    (state_names c.new-names.result c.circuit_rules.new.names texts c.in_ok-rules.rules.items c.deref.result.now c.new-names.ensures c.circuit_rules.ensures.grown c.number_kinds.ensures.grown
    (all_kept 32 c.circuit_rules.new.names texts c.in_ok-rules.rules.items reactions c.number_kinds.ensures.grown c.in_ok-rules.ensures.rules)
    (subst (NumbersAll c.number_kinds.new.names) (sym c.deref.ensures.value) c.in_ok-numbers.ensures.numbers)
    c.len-count.ensures.distinct)
