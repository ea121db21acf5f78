-- Texts that are given piece by piece.
use Rattle.std.specs.Prelude.{ℕ, List, [], ◌∷◌, ◌++◌}
use Rattle.std.specs.Fmt.{decimal}
use Rattle.surf_base.specs.declared.pieces.Piece.{Piece}
use Rattle.surf_base.specs.declared.pieces.Piece.TheVariants.{Text, Byte, Number, Wide}

abbrev pub piece_text : Piece → List ℕ
piece_text (Text text) = text.now
piece_text (Byte b) = b ∷ []
piece_text (Number n) = decimal n
piece_text (Wide n) = decimal n

-- the texts one after another
abbrev pub pieces_text : List Piece → List ℕ
pieces_text [] = []
pieces_text (p ∷ []) = piece_text p
pieces_text (p ∷ q ∷ ps) = piece_text p ++ pieces_text (q ∷ ps)
