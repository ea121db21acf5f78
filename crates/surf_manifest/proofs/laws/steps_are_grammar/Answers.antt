use Rattle.surf_manifest.proofs.StepLemmas.{steps_read}
use Rattle.surf_manifest.proofs.laws.steps_are_grammar.Goals as goal

pub returns : goal.returns
returns c = steps_read
