use Rattle.std.proofs.Common.{rules, refl, ap, ◌∙◌, ◌+◌, sym, subst, ◌<◌, ◌≤◌, ℕ, List, [], ◌∷◌, length}
use Rattle.surf_rules.specs.Names.{text_of}
use Rattle.surf_manifest.specs.Limits.{with_names}
use Rattle.surf_manifest.specs.Drafts.{IsGrown, held_by}
use Rattle.surf_manifest.proofs.DraftLemmas.{sites_full, sites_with, site_named, site_unnamed}
use Rattle.surf_manifest.proofs.Growth.{rules_kept, grown_with, text_at}
use Rattle.surf_manifest.proofs.draft.Draft.add_site.Goals as goal

pub returns-then-len-ge-SITE_LIMIT-clause-held : goal.returns-then-len-ge-SITE_LIMIT-clause-held
returns-then-len-ge-SITE_LIMIT-clause-held c =
    let d = c.args.self.now in
    let full : 33554432 ≤ length d.start.items = search rules in
    ap (λ (v : List (List ℕ)). record (held_by d) { start = v; site_count = d.site_count + 1 }) (sites_full d.names d.start.items c.args.name.now c.requires.draft.few_sites full)
    ∙ ap (λ (v : List (List ℕ)). record (with_names (held_by d) (c.args.name.now ∷ [])) { names = v }) (site_unnamed d.names (text_of d.names) d.start.items c.args.name.now full)

pub returns-clause-held : goal.returns-clause-held
returns-clause-held c =
    let d = c.args.self.now in
    let few : length d.start.items < 33554432 = search rules in
    let grown : IsGrown 1 d.names c.intern.new.self = subst (λ v. IsGrown 1 d.names v) (sym c.in_ok-number.ensures.grown) (grown_with d.names c.args.name.now) in
    rw (sites_with 1 d.names c.intern.new.self d.start.items c.push.new.self.items c.in_ok-number.number c.args.name.now grown c.requires.draft.start few (search rules) (text_at c.intern.new.self c.in_ok-number.number c.args.name.now c.in_ok-number.ensures.found), rules_kept 1 d.names c.intern.new.self d.rules.items grown c.requires.draft.rules, site_named d.names c.intern.new.self (text_of d.names) d.start.items c.args.name.now few c.in_ok-number.ensures.grown) refl
