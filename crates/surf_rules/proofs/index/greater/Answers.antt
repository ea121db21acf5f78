use Rattle.surf_rules.specs.declared.index.Entry.{Entry}
use Rattle.surf_rules.proofs.Sorts.{last_greatest}
use Rattle.surf_rules.proofs.index.greater.Goals as goal

pub returns-in-Some-clause-all : goal.returns-in-Some-clause-all
returns-in-Some-clause-all c = last_greatest (λ (e : Entry). e.left) c.args.entries.now c.in-Some.entry.now c.requires c.in-Some.ensures.value
