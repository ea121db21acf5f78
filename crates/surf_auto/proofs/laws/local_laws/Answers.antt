use Rattle.surf_auto.proofs.Rules.{counted, summed, by_counts, by_sums}
use Rattle.surf_auto.proofs.laws.local_laws.Goals as goal

pub returns-clause-counted : goal.returns-clause-counted
returns-clause-counted c = λ C own see. counted C 0 own see C.degree

pub returns-clause-summed : goal.returns-clause-summed
returns-clause-summed c = λ T own see. summed T 0 own see T.degree

pub returns-clause-by_counts : goal.returns-clause-by_counts
returns-clause-by_counts c = by_counts

pub returns-clause-by_sums : goal.returns-clause-by_sums
returns-clause-by_sums c = by_sums
