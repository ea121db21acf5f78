use Rattle.surf_command_automata.proofs.CellNames.{colony_of_cells}
use Rattle.surf_laws.proofs.AutomataRound.{traces_are_carried, runs_are_carried}
use Rattle.surf_laws.proofs.laws.automata_are_carried_round.Goals as goal

pub returns-clause-traces : goal.returns-clause-traces
returns-clause-traces c = traces_are_carried

pub returns-clause-runs : goal.returns-clause-runs
returns-clause-runs c = runs_are_carried

pub returns-clause-names : goal.returns-clause-names
returns-clause-names c = colony_of_cells
