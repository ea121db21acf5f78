use Rattle.std.proofs.Common.{subst, ◌∙◌, ap, ◌≡◌, length}
use Rattle.std.proofs.lemmas.Result.{on_ok_weaker}
use Rattle.surf_rules.specs.Names.{with_text}
use Rattle.surf_manifest.specs.Drafts.{IsGrown}
use Rattle.surf_manifest.specs.Manifests.{manifest_by, text_by}
use Rattle.surf_manifest.specs.Numbered.{NamedManifest}
use Rattle.surf_manifest.proofs.Growth.{grown_by, names_below, names_kept, rules_below, rules_kept}
use Rattle.surf_manifest.proofs.Manifests.{interned, interned_texts, text_interned}
use Rattle.surf_manifest.proofs.manifest.Manifest.intern.Goals as goal

pub invariant_of-self : goal.invariant_of-self
invariant_of-self c =
    let a = c.self.inside in
    let b = c.intern.new.self in
    let g : IsGrown 1 a.names b = interned c.intern.result a.names b c.args.bytes.now c.intern.ensures.grown c.intern.ensures.err in
    record {
      well_formed = rw (rules_kept 1 a.names b a.rules.items g c.self.invariant.rules, names_kept 1 a.names b a.start.items g c.self.invariant.start) c.self.invariant.well_formed;
      texts = interned_texts c.intern.result a.names b c.args.bytes.now c.intern.ensures.grown c.intern.ensures.err c.self.invariant.texts c.requires.name;
      rules = rules_below (length a.names) (length b) a.rules.items g.longer c.self.invariant.rules;
      start = names_below (length a.names) (length b) a.start.items g.longer c.self.invariant.start;
    }

pub returns-clause-grown : goal.returns-clause-grown
returns-clause-grown c =
    let a = c.self.inside in
    let b = c.intern.new.self in
    let t = c.args.bytes.now in
    let P : NamedManifest → Type 0 = λ v. manifest_by (record a { names = b }) ≡ record { text = v.text; names = with_text v.names t } in
    on_ok_weaker c.intern.result
    (λ e. subst P c.self.view_is
    (ap (λ v. record { text = v; names = b }) (text_interned 1 a b c.self.invariant (grown_by a.names b t e))
    ∙ ap (λ v. record { text = text_by a; names = v }) e))
    c.intern.ensures.grown
