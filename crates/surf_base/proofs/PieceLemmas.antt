-- The text of pieces, at one of them.
use Rattle.std.proofs.Common.{ℕ, zero, suc, ◌≡◌, ◌+◌, ◌<◌, List, [], ◌∷◌, ◌++◌, length, take, drop, get_or, refl, sym, ◌∙◌, ap, arith, append_assoc, append-nil, add-one}
use Rattle.surf_base.specs.declared.pieces.Piece.{Piece}
use Rattle.surf_base.specs.Pieces.{piece_text, pieces_text}

pub pieces_text-cons : (p : Piece) (ps : List Piece) → pieces_text (p ∷ ps) ≡ piece_text p ++ pieces_text ps
pieces_text-cons p [] = sym (append-nil (piece_text p))
pieces_text-cons p (q ∷ ps) = refl

taken : (ps : List Piece) (i : ℕ) (d : Piece) → i < length ps → pieces_text (take (suc i) ps) ≡ pieces_text (take i ps) ++ piece_text (get_or ps i d)
taken [] i d lt = absurd (omega arith)
taken (q ∷ ps) zero d lt = refl
taken (q ∷ ps) (suc i) d lt =
    pieces_text-cons q (take (suc i) ps)
    ∙ ap (λ t. piece_text q ++ t) (taken ps i d (omega arith))
    ∙ sym (append_assoc (piece_text q) (pieces_text (take i ps)) (piece_text (get_or ps i d)))
    ∙ ap (λ t. t ++ piece_text (get_or ps i d)) (sym (pieces_text-cons q (take i ps)))

-- the pieces up to one and with it
pub pieces_taken : (ps : List Piece) (i : ℕ) (d : Piece) → i < length ps → pieces_text (take (i + 1) ps) ≡ pieces_text (take i ps) ++ piece_text (get_or ps i d)
pieces_taken ps i d lt = ap (λ n. pieces_text (take n ps)) (add-one i) ∙ taken ps i d lt

-- the pieces before one, it, and those behind it
pub pieces_split : (ps : List Piece) (i : ℕ) (d : Piece) → i < length ps → pieces_text ps ≡ pieces_text (take i ps) ++ (piece_text (get_or ps i d) ++ pieces_text (drop (suc i) ps))
pieces_split [] i d lt = absurd (omega arith)
pieces_split (q ∷ ps) zero d lt = pieces_text-cons q ps
pieces_split (q ∷ ps) (suc i) d lt =
    let rest = piece_text (get_or ps i d) ++ pieces_text (drop (suc i) ps) in
    pieces_text-cons q ps
    ∙ ap (λ t. piece_text q ++ t) (pieces_split ps i d (omega arith))
    ∙ sym (append_assoc (piece_text q) (pieces_text (take i ps)) rest)
    ∙ ap (λ t. t ++ rest) (sym (pieces_text-cons q (take i ps)))
