use Rattle.std.proofs.Common.{rules, refl, ap, ◌∙◌, ◌+◌, ◌<◌, ◌≤◌, ℕ, List, length}
use Rattle.surf_world.specs.Systems as systems
use Rattle.surf_manifest.specs.Limits.{with_rule}
use Rattle.surf_manifest.specs.Naming.{rule_names}
use Rattle.surf_manifest.specs.Drafts.{named_rule, held_by}
use Rattle.surf_manifest_lines.specs.Said.{rule_of_line}
use Rattle.surf_manifest.proofs.DraftLemmas.{rules_full, rules_with, rule_named, rule_unnamed}
use Rattle.surf_manifest.proofs.Growth.{names_kept}
use Rattle.surf_manifest.proofs.draft.Draft.add_rule.Goals as goal

pub returns-then-len-ge-RULE_LIMIT-clause-held : goal.returns-then-len-ge-RULE_LIMIT-clause-held
returns-then-len-ge-RULE_LIMIT-clause-held c =
    let d = c.args.self.now in
    let r = rule_of_line c.args.line.now in
    let full : 1048576 ≤ length d.rules.items = search rules in
    ap (λ (v : List (systems.Rule (List ℕ))). record (held_by d) { rules = v; rule_count = d.rule_count + 1 }) (rules_full (named_rule d.names) d.rules.items r c.requires.draft.few_rules full)
    ∙ ap (λ (v : List (List ℕ)). record (with_rule (held_by d) r) { names = v }) (rule_unnamed d.names (named_rule d.names) d.rules.items (rule_names r) full)

pub returns-clause-held : goal.returns-clause-held
returns-clause-held c =
    let d = c.args.self.now in
    let few : length d.rules.items < 1048576 = search rules in
    rw (rules_with 4 d.names c.numbered_rule.new.names d.rules.items c.push.new.self.items c.in_ok-rule.rule (rule_of_line c.args.line.now) c.in_ok-rule.ensures.grown c.requires.draft.rules few (search rules) c.in_ok-rule.ensures.rule, names_kept 4 d.names c.numbered_rule.new.names d.start.items c.in_ok-rule.ensures.grown c.requires.draft.start, rule_named d.names c.numbered_rule.new.names (named_rule d.names) d.rules.items (rule_names (rule_of_line c.args.line.now)) few c.in_ok-rule.ensures.named) refl
