use Rattle.std.proofs.Common.{◌∙◌}
use Rattle.surf_manifest_print.proofs.SiteKeys.{with_key}
use Rattle.surf_manifest_print.proofs.legend_reader.add_site.Goals as goal

pub returns-in-Ok-clause-sites : goal.returns-in-Ok-clause-sites
returns-in-Ok-clause-sites c y x = c.in-Ok.ensures.updates.0 (y, x) ∙ with_key c.args.site.y c.args.site.x y x _
