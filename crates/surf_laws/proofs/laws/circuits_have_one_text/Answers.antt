use Rattle.surf_laws.proofs.OneText.{one_text}
use Rattle.surf_laws.proofs.laws.circuits_have_one_text.Goals as goal

pub returns : goal.returns
returns c = one_text
