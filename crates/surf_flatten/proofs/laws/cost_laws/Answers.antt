use Rattle.surf_flatten.proofs.Working.{tables_give, cost_tabled, sums_saturate}
use Rattle.surf_flatten.proofs.laws.cost_laws.Goals as goal

pub returns : goal.returns
returns c = record { table = tables_give; text = cost_tabled; sums = sums_saturate }
