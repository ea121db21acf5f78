use Rattle.surf_tiles.specs.Reactions.{reactions}
use Rattle.surf_settle.proofs.Said.{named}
use Rattle.surf_settle.proofs.laws.rule_texts.Goals as goal

pub returns : goal.returns
returns c = λ texts rules h. named texts rules reactions h
