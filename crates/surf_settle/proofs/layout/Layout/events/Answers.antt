-- The theorem, at the layout that is lent.
use Rattle.std.proofs.Common.{subst}
use Rattle.surf_settle.specs.Plans.{IsLayout}
use Rattle.surf_settle.proofs.BySite.{layout_settles}
use Rattle.surf_settle.proofs.layout.Layout.events.Goals as goal

pub returns-clause-settles : goal.returns-clause-settles
returns-clause-settles c = layout_settles c.args.self.now (subst IsLayout c.self.view_is c.self.invariant).lawful
