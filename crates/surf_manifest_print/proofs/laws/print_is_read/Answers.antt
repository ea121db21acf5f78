use Rattle.surf_manifest_print.proofs.Whole.{reads_print}
use Rattle.surf_manifest_print.proofs.laws.print_is_read.Goals as goal

pub returns : goal.returns
returns c = reads_print
