use Rattle.std.proofs.Common.{refl}
use Rattle.surf_life.proofs.Halves.{even_phases, steps_by_eight}
use Rattle.surf_life.proofs.Rules.{makes_universe, starts_in_both, rules_last}
use Rattle.surf_life.proofs.laws.moore_laws.Goals as goal

pub returns-clause-universe : goal.returns-clause-universe
returns-clause-universe c = makes_universe

pub returns-clause-phases : goal.returns-clause-phases
returns-clause-phases c = even_phases

pub returns-clause-steps : goal.returns-clause-steps
returns-clause-steps c = steps_by_eight

pub returns-clause-starts : goal.returns-clause-starts
returns-clause-starts c = starts_in_both

pub returns-clause-rules : goal.returns-clause-rules
returns-clause-rules c = λ C. refl

pub returns-clause-rules_last : goal.returns-clause-rules_last
returns-clause-rules_last c = rules_last
