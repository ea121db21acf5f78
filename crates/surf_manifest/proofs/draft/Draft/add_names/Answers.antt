use Rattle.std.proofs.Common.{rules, ap, sym, ◌∙◌, arith, ◌≡◌, ◌+◌, length, [], ◌∷◌, true}
use Rattle.std.specs.List.{list_all}
use Rattle.surf_text.specs.Bytes.{tokens_of}
use Rattle.surf_manifest.specs.Drafts.{IsDraft, held_by}
use Rattle.surf_manifest_lines.specs.Item.{is_name}
use Rattle.surf_manifest.specs.Limits.{with_names}
use Rattle.surf_manifest.proofs.LimitLemmas.{names_more}
use Rattle.surf_manifest.proofs.RowLemmas.{no_names, row_goes_on}
use Rattle.surf_manifest.proofs.Growth.{name_known}
use Rattle.surf_manifest.proofs.draft.Draft.add_names.Goals as goal
use Rattle.surf_manifest.proofs.draft.Draft.add_names.Goals.{else-is_none-via-then-is_none+else-not-is_name_token, else-is_none-via-else-is_none}

pub loop-token-preserved : goal.loop-token-preserved
loop-token-preserved c =
    let i = c.loop-token.invariant in
    let t = c.in-Some.token.now in
    let ts = tokens_of c.in-Some.after.now in
    let more : tokens_of c.loop-token.rest.now ≡ t ∷ ts = c.in-Some.ensures.some in
    let draft : IsDraft c.add_name.new.self = search rules in
    let held : held_by c.add_name.new.self ≡ with_names (held_by c.loop-token.self) (t ∷ []) = search rules in
    let counted : c.add_name.new.self.site_count ≡ c.loop-token.self.site_count + 1 = ap (λ h. h.site_count) held in
    let good : is_name t ≡ true = elim c.else-is_none.branch [ else-is_none-via-then-is_none+else-not-is_name_token w ↦ search rules | else-is_none-via-else-is_none w ↦ name_known c.loop-token.self.names t c.recall-known.result i.draft.texts (search rules) c.recall-known.ensures.found ] in
    record {
      draft = draft;
      held = ap (λ h. with_names h ts) held ∙ (names_more (held_by c.loop-token.self) t ts ∙ (ap (λ v. with_names (held_by c.loop-token.self) v) (sym more) ∙ i.held));
      names = sym (row_goes_on t ts good) ∙ (ap (λ v. list_all is_name v) (sym more) ∙ i.names);
      count = omega (arith, i.count, ap length more);
      within = omega (arith, i.within, c.in-Some.ensures.shorter);
      room = omega (arith, i.room, counted, c.in-Some.ensures.shorter);
    }

pub returns-clause-held : goal.returns-clause-held
returns-clause-held c =
    let i = c.loop-token.invariant in
    let none : tokens_of c.loop-token.rest.now ≡ [] = search rules in
    sym (no_names c.loop-token.self i.draft) ∙ (ap (λ v. with_names (held_by c.loop-token.self) v) (sym none) ∙ i.held)
