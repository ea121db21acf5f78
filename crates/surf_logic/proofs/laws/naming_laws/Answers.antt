use Rattle.surf_rules.specs.Names.{text_of}
use Rattle.surf_logic.proofs.Naming.{cost_by}
use Rattle.surf_logic.proofs.NamedTexts.{faults, sound_by, orders, costs, values}
use Rattle.surf_logic.proofs.laws.naming_laws.Goals as goal

pub returns-clause-faults : goal.returns-clause-faults
returns-clause-faults c = λ p f named h. faults p named f h

pub returns-clause-sound : goal.returns-clause-sound
returns-clause-sound c = λ p d f named o h. sound_by p named d f o h

pub returns-clause-orders : goal.returns-clause-orders
returns-clause-orders c = λ p d named o. orders p named d o

pub returns-clause-order_cost : goal.returns-clause-order_cost
returns-clause-order_cost c = λ p d o. costs p d o

pub returns-clause-name_cost : goal.returns-clause-name_cost
returns-clause-name_cost c = λ p. cost_by (text_of p.names) p.parts

pub returns-clause-values : goal.returns-clause-values
returns-clause-values c = λ p d bits answer named o ev. values p named d bits answer o ev
