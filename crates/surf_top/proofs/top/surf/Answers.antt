use Rattle.surf_top.proofs.Ends.{complete, prints_circuit, prints_colony, prints_run}
use Rattle.surf_top.proofs.top.surf.Goals as goal

pub returns-clause-complete : goal.returns-clause-complete
returns-clause-complete g c = complete _ _ c.answer-status.result c.answer-status.ensures.causes

pub returns-clause-runs : goal.returns-clause-runs
returns-clause-runs g c = prints_run _ _ c.answer-status.result c.answer-status.ensures.causes

pub returns-clause-circuits : goal.returns-clause-circuits
returns-clause-circuits g c = prints_circuit _ _ c.answer-status.result c.answer-status.ensures.causes

pub returns-clause-automata : goal.returns-clause-automata
returns-clause-automata g c = prints_colony _ _ c.answer-status.result c.answer-status.ensures.causes
