use Rattle.surf_manifest_print.proofs.Whole.{keeps_format}
use Rattle.surf_manifest_print.proofs.laws.print_is_kept.Goals as goal

pub returns : goal.returns
returns c = keeps_format
