use Rattle.std.proofs.Common.{ℕ, List, ◌++◌, codes, subst}
use Rattle.surf_base.specs.Pieces.{piece_text}
use Rattle.surf_status.specs.Notes.{Notes, refusal_words, tail_text}
use Rattle.surf_status.specs.Writes.{writes}
use Rattle.surf_status.proofs.Emitting.{refusal_line}
use Rattle.surf_status.proofs.reasons.send_refusal.Goals as goal

pub returns : goal.returns
returns g c =
    let tail = c.tail_pieces.result in
    subst (λ (t : List ℕ). Notes (writes g.N.Sink.written g.N.Sink.faults c.args.notes.now c.send.new.notes) (codes "surf: refused " ++ t))
    (refusal_line c.words_of_refusal.result.0.now (piece_text tail.0) (piece_text tail.1) (piece_text tail.2) (piece_text tail.3) (refusal_words c.args.refusal.now) (tail_text c.words_of_refusal.result.1) c.words_of_refusal.ensures c.tail_pieces.ensures)
    c.send.ensures
