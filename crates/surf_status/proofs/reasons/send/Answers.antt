use Rattle.surf_status.proofs.Emitting.{noted}
use Rattle.surf_status.proofs.reasons.send.Goals as goal

pub returns : goal.returns
returns g c = noted _ _ c.write_pieces.result c.write_pieces.ensures.all c.write_pieces.ensures.front c.write_pieces.ensures.later c.write_pieces.ensures.cause
