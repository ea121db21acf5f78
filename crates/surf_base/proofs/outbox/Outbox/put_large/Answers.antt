use Rattle.surf_base.proofs.EmitLemmas.{sent_past}
use Rattle.surf_base.proofs.outbox.Outbox.put_large.Goals as goal

pub returns : goal.returns
returns g c = sent_past _ _ _ _ _ _ _ _ c.requires c.requires c.write_all.ensures.all c.write_all.ensures.front c.write_all.ensures.cause
