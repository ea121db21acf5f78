use Rattle.surf_manifest_print.proofs.LegendBack.{reads_legend}
use Rattle.surf_manifest_print.proofs.laws.legend_is_read.Goals as goal

pub returns : goal.returns
returns c = reads_legend
