use Rattle.std.proofs.Common.{rules, ap, ◌∙◌, ◌+◌, sym, ◌<◌, ◌≤◌, List, ℕ, [], ◌∷◌, length}
use Rattle.surf_rules.specs.Names.{text_of}
use Rattle.surf_manifest.specs.Limits.{with_names}
use Rattle.surf_manifest.specs.Drafts.{held_by}
use Rattle.surf_manifest.proofs.DraftLemmas.{sites_full, site_more, site_named, site_unnamed}
use Rattle.surf_manifest.proofs.Growth.{known_text, text_there}
use Rattle.surf_manifest.proofs.draft.Draft.add_known.Goals as goal

pub returns-then-len-ge-SITE_LIMIT-clause-held : goal.returns-then-len-ge-SITE_LIMIT-clause-held
returns-then-len-ge-SITE_LIMIT-clause-held c =
    let d = c.args.self.now in
    let t = text_of d.names c.args.name in
    let full : 33554432 ≤ length d.start.items = search rules in
    ap (λ (v : List (List ℕ)). record (held_by d) { start = v; site_count = d.site_count + 1 }) (sites_full d.names d.start.items t c.requires.draft.few_sites full)
    ∙ ap (λ (v : List (List ℕ)). record (with_names (held_by d) (t ∷ [])) { names = v }) (site_unnamed d.names (text_of d.names) d.start.items t full)

pub returns-clause-held : goal.returns-clause-held
returns-clause-held c =
    let d = c.args.self.now in
    let t = text_of d.names c.args.name in
    let few : length d.start.items < 33554432 = search rules in
    ap (λ (v : List (List ℕ)). record (held_by d) { start = v; site_count = d.site_count + 1 }) (site_more d.names d.start.items c.push.new.self.items c.args.name few (search rules))
    ∙ ap (λ (v : List (List ℕ)). record (with_names (held_by d) (t ∷ [])) { names = v }) (site_named d.names d.names (text_of d.names) d.start.items t few (sym (known_text d.names c.args.name t (text_there d.names c.args.name c.requires.name))))
