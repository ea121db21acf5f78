use Rattle.surf_blif.proofs.Whole.{evaluates}
use Rattle.surf_blif.proofs.laws.eval_is_of_text.Goals as goal

pub returns : goal.returns
returns c = evaluates c.naming_laws.ensures.values
