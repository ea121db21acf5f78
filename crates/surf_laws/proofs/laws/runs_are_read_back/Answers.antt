use Rattle.surf_laws.proofs.ReadBack.{are_read_back, runs_are_short, traces_are_read_back, runs_are_read_back, prints_are_read_back, prints_end_lines}
use Rattle.surf_laws.proofs.laws.runs_are_read_back.Goals as goal

pub returns-clause-texts : goal.returns-clause-texts
returns-clause-texts c = are_read_back

pub returns-clause-short : goal.returns-clause-short
returns-clause-short c = runs_are_short

pub returns-clause-traces : goal.returns-clause-traces
returns-clause-traces c = traces_are_read_back

pub returns-clause-runs : goal.returns-clause-runs
returns-clause-runs c = runs_are_read_back

pub returns-clause-prints : goal.returns-clause-prints
returns-clause-prints c = prints_are_read_back

pub returns-clause-ended : goal.returns-clause-ended
returns-clause-ended c = prints_end_lines
