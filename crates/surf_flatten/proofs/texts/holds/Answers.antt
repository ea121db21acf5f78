use Rattle.std.proofs.Common.{sym}
use Rattle.surf_flatten.proofs.Finding.{has_at, hasnt_at}
use Rattle.surf_flatten.proofs.texts.holds.Goals as goal

pub returns-in-Some : goal.returns-in-Some
returns-in-Some c = sym (has_at c.args.names.now c.in-Some.field-0 c.args.text.now c.in-Some.ensures.found)

pub returns-in-None : goal.returns-in-None
returns-in-None c = sym (hasnt_at c.args.names.now c.args.text.now c.in-None.ensures.none)
