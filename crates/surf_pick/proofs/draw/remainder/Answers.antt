use Rattle.std.proofs.Common.{◌∙◌}
use Rattle.surf_pick.proofs.DrawLemmas.{in_parts}
use Rattle.surf_pick.proofs.draw.remainder.Goals as goal

pub returns : goal.returns
returns c = c.from.ensures ∙ in_parts c.args.word c.args.total
