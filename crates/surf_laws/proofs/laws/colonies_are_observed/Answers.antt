use Rattle.surf_laws.proofs.AutomataRound.{generations_are_told, run_generations_are_told}
use Rattle.surf_laws.proofs.laws.colonies_are_observed.Goals as goal

pub returns-clause-traces : goal.returns-clause-traces
returns-clause-traces c = generations_are_told

pub returns-clause-runs : goal.returns-clause-runs
returns-clause-runs c = run_generations_are_told
