use Rattle.surf_settle.proofs.FromLiteral.{in_ways, law_in_ways}
use Rattle.surf_settle.proofs.ToLiteral.{in_names, law_in_names}
use Rattle.surf_settle.proofs.laws.law_forms.Goals as goal

pub returns-clause-gives : goal.returns-clause-gives
returns-clause-gives c = λ L l law. (in_ways L l, law_in_ways L l law)

pub returns-clause-follows : goal.returns-clause-follows
returns-clause-follows c = λ L (l, law). (in_names L l, law_in_names L l law)
