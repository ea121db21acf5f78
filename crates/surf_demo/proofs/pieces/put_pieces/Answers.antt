use Rattle.std.proofs.Common.{rules, ◌<◌, ◌++◌, length, sym, ◌∙◌, ap}
use Rattle.surf_base.proofs.PieceLemmas.{pieces_taken}
use Rattle.surf_demo.proofs.Parts.{two}
use Rattle.surf_demo.proofs.pieces.put_pieces.Goals as goal

pub loop-piece-preserved : goal.loop-piece-preserved
loop-piece-preserved c =
    let within : c.loop-piece.piece-index < length c.args.pieces.now = search rules in
    two _ _ _ _ _ c.loop-piece.invariant c.in_ok-put_piece.ensures
    ∙ ap (λ t. c.args.out.now.items ++ t) (sym (pieces_taken c.args.pieces.now c.loop-piece.piece-index _ within))
