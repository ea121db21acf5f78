use Rattle.std.proofs.Common.{[]}
use Rattle.surf_base.proofs.EmitLemmas.{after_whole, emits_cut, cut_longer}
use Rattle.surf_base.proofs.outbox.Outbox.put.Goals as goal

pub returns-in_err-flush : goal.returns-in_err-flush
returns-in_err-flush g c =
    let failed = c.in_err-flush.ensures.emits in
    emits_cut _ _ _ _ _ _ c.args.text.now _ c.from_residual.ensures.0 (cut_longer _ _ _ _ [] c.args.text.now failed.cut) failed.later failed.cause

pub returns : goal.returns
returns g c =
    let sent = c.in_ok-flush.ensures.emits in
    after_whole _ _ _ _ _ _ _ _ _ [] c.args.text.now _ sent.whole sent.later c.put_large.ensures
