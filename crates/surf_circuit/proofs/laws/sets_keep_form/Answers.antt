use Rattle.surf_circuit.proofs.Setting.{sets_keep_form}
use Rattle.surf_circuit.proofs.laws.sets_keep_form.Goals as goal

pub returns : goal.returns
returns c = sets_keep_form
