use Rattle.std.proofs.Common.{arith, sym, subst, ◌∙◌, ap, ◌≡◌, ◌+◌, ◌*◌, ◌<◌, length, map, set, length-set}
use Rattle.std.proofs.lemmas.List.{length-map, map-set}
use Rattle.std.proofs.lemmas.List.Elements.{All-set}
use Rattle.surf_lattice.specs.Grids.{place}
use Rattle.surf_rules.specs.Names.{text_of}
use Rattle.surf_manifest.specs.Drafts.{NamesBelow}
use Rattle.surf_manifest.specs.Manifests.{manifest_by}
use Rattle.surf_manifest.specs.Numbered.{NamedManifest, with_site, with_start}
use Rattle.std.specs.Vec.{with_item}
use Rattle.surf_manifest.proofs.Manifests.{names_good}
use Rattle.surf_manifest.proofs.manifest.Manifest.put.Goals as goal

pub invariant_of-self : goal.invariant_of-self
invariant_of-self c =
    let a = c.self.inside in
    let i = c.args.site.y * a.width + c.args.site.x in
    let w = c.self.invariant.well_formed in
    let count : length a.names ≡ length c.args.self.now.names = ap (λ v. length v.names) c.self.view_is in
    let below : NamesBelow (length a.names) (set a.start.items i c.args.name) = All-set (λ k. k < length a.names) a.start.items i c.args.name (omega (arith, count, c.requires.name)) c.self.invariant.start in
    let same : length (map (text_of a.names) (set a.start.items i c.args.name)) ≡ length (map (text_of a.names) a.start.items) =
    length-map (set a.start.items i c.args.name) (text_of a.names) ∙ (length-set a.start.items i c.args.name ∙ sym (length-map a.start.items (text_of a.names))) in
    record {
      well_formed = record {
        options = w.options;
        few_rules = w.few_rules;
        rules = w.rules;
        width = w.width;
        height = w.height;
        sites = same ∙ w.sites;
        few_sites = omega (arith, same, w.few_sites);
        joined = w.joined;
        names = names_good a.names (set a.start.items i c.args.name) c.self.invariant.texts below;
        colours = w.colours;
      };
      texts = c.self.invariant.texts;
      rules = c.self.invariant.rules;
      start = below;
    }

pub returns : goal.returns
returns c =
    let a = c.self.inside in
    let i = c.args.site.y * a.width + c.args.site.x in
    let new = record a { start = with_item a.start i c.args.name } in
    let P : NamedManifest → Type 0 = λ v. manifest_by new ≡ with_site v (place v.text.system.surface.grid c.args.site) (text_of v.names c.args.name) in
    subst P c.self.view_is (ap (λ v. with_start (manifest_by a) v) (map-set (text_of a.names) a.start.items i c.args.name))
