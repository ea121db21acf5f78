use Rattle.std.proofs.Common.{arith, refl, sym, ◌∙◌}
use Rattle.std.proofs.lemmas.List.{length-map}
use Rattle.surf_rules.specs.Names.{text_of}
use Rattle.surf_manifest.specs.Drafts.{named_rule}
use Rattle.surf_manifest.proofs.Manifests.{names_good, rules_good}
use Rattle.surf_manifest.proofs.manifest.Manifest.assemble.Goals as goal

pub invariant_of-result : goal.invariant_of-result
invariant_of-result c =
    let a = c.args in
    let rule_count = length-map a.rules.items (named_rule a.names) in
    let site_count = length-map a.start.items (text_of a.names) in
    record {
      well_formed = record {
        options = rw c.new.ensures.items refl;
        few_rules = omega (arith, rule_count, c.requires.few_rules);
        rules = rules_good a.names a.rules.items c.requires.names c.requires.rules c.requires.rates;
        width = omega (arith, c.width.ensures.side, c.width.ensures.sides.wide);
        height = omega (arith, c.height.ensures.side, c.width.ensures.sides.high);
        sites = rw (c.width.ensures.side, c.height.ensures.side) (site_count ∙ c.requires.sites);
        few_sites = omega (arith, site_count, c.requires.few_sites);
        joined = λ e. rw (c.width.ensures.side, c.height.ensures.side) (c.width.ensures.sides.joined (sym c.is_joined.ensures ∙ e));
        names = names_good a.names a.start.items c.requires.names c.requires.start;
        colours = refl;
      };
      texts = c.requires.names;
      rules = c.requires.rules;
      start = c.requires.start;
    }
