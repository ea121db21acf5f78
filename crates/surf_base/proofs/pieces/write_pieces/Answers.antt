use Rattle.std.proofs.Common.{rules, IsErr}
use Rattle.surf_base.specs.Emits.{Emits, outlet}
use Rattle.surf_base.specs.Pieces.{pieces_text}
use Rattle.surf_base.proofs.EmitLemmas.{after_flush, wrote_front, wrote_front_then}
use Rattle.surf_base.proofs.pieces.write_pieces.Goals as goal

pub returns-in_err-put_pieces-clause-front : goal.returns-in_err-put_pieces-clause-front
returns-in_err-put_pieces-clause-front g c =
    let failed : IsErr c.put_pieces.result = search rules in
    wrote_front_then _ _ _ _ _ _ _ c.put_pieces.result _ failed c.new-outbox.ensures c.put_pieces.ensures

pub returns-clause-front : goal.returns-clause-front
returns-clause-front g c =
    let text = pieces_text c.args.pieces.now in
    let emits : Emits (outlet (g.K.Sink.written c.args.sink.now) c.new-outbox.result (g.K.Sink.faults c.args.sink.now)) (outlet (g.K.Sink.written c.flush.new.sink) c.flush.new.self (g.K.Sink.faults c.flush.new.sink)) text c.flush.result =
    after_flush _ _ _ _ _ _ _ _ _ text _ c.in_ok-put_pieces.ensures.whole c.put_pieces.ensures.later c.flush.ensures.emits in
    wrote_front _ _ _ _ _ _ text _ c.new-outbox.ensures emits
