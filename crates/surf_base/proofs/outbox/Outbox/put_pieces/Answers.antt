use Rattle.std.proofs.Common.{rules, arith, ◌<◌, ℕ, List, suc, length, drop, IsErr, sym, subst}
use Rattle.surf_base.specs.Emits.{Sent}
use Rattle.surf_base.specs.Pieces.{pieces_text}
use Rattle.surf_base.proofs.EmitLemmas.{cut_part, sent_more}
use Rattle.surf_base.proofs.PieceLemmas.{pieces_split, pieces_taken}
use Rattle.surf_base.proofs.outbox.Outbox.put_pieces.Goals as goal

pub returns-in_err-put_piece : goal.returns-in_err-put_piece
returns-in_err-put_piece g c =
    let failed : IsErr c.put_piece.result = search rules in
    let now = c.loop-piece.invariant in
    let within : c.loop-piece.piece-index < length c.args.pieces.now = search rules in
    cut_part _ _ _ _ _ _ _ _ _ _ _ (pieces_text (drop (suc c.loop-piece.piece-index) c.args.pieces.now)) (pieces_text c.args.pieces.now) c.put_piece.result _
    (pieces_split c.args.pieces.now c.loop-piece.piece-index _ within) now.sent now.later failed c.from_residual.ensures.0 c.put_piece.ensures

pub loop-piece-preserved : goal.loop-piece-preserved
loop-piece-preserved g c =
    let now = c.loop-piece.invariant in
    let within : c.loop-piece.piece-index < length c.args.pieces.now = search rules in
    let more = pieces_taken c.args.pieces.now c.loop-piece.piece-index _ within in
    let sent = sent_more _ _ _ _ _ _ _ _ now.sent c.in_ok-put_piece.ensures.whole in
    record {
      sent = subst (λ (t : List ℕ). Sent (g.K.Sink.written c.args.sink.now) (g.K.Sink.written c.put_piece.new.sink) c.args.self.now c.put_piece.new.self t) (sym more) sent;
      later = omega (arith, now.later, c.put_piece.ensures.later);
    }
