-- The items of a pattern: an optional count with b, o or $, and ! alone.
use Rattle.std.specs.Prelude.{ℕ, ◌^◌, ◌==◌, List, [], ◌∷◌, map, Option, Some, None, if◌then◌else◌}
use Rattle.surf_base.specs.Decimal.{is_digit}
use Rattle.surf_text.specs.Bytes.{is_blank}
use Rattle.surf_base.specs.Decimal.{decimal_below}
use Rattle.surf_rle.specs.declared.item.Sign.{Sign}
use Rattle.surf_rle.specs.declared.item.Sign.TheVariants.{Free, Dead, Live, Down, End, Bad}

-- some digits, and the byte that follows them
pub record Piece : Type 0 where
  pub digits : List ℕ
  pub byte : ℕ

-- digits at a line's end stand before its line feed
abbrev pub with_digit : ℕ → List Piece → List Piece
with_digit d [] = record { digits = d ∷ []; byte = 10 } ∷ []
with_digit d (p ∷ ps) = record { digits = d ∷ p.digits; byte = p.byte } ∷ ps

-- a line cut behind each byte that is no digit
abbrev pub pieces_of : List ℕ → List Piece
pieces_of [] = []
pieces_of (b ∷ bs) =
    if is_digit b then with_digit b (pieces_of bs) else record { digits = []; byte = b }
    ∷ pieces_of bs

-- so many dead or live cells, or rows down
abbrev pub counted : ℕ → ℕ → Sign
counted n b =
    if b == 98 then Dead n
    else (if b == 111 then Live n
    else (if b == 36 then Down n
    else Bad))

abbrev pub if_counted : Option ℕ → ℕ → Sign
if_counted None b = Bad
if_counted (Some n) b = if n == 0 then Bad else counted n b

-- a byte behind these digits
abbrev pub sign_behind : List ℕ → ℕ → Sign
sign_behind [] b =
    if is_blank b then Free
    else (if b == 33 then End
    else counted 1 b)
sign_behind (d ∷ ds) b = if_counted (decimal_below (2 ^ 32) (d ∷ ds)) b

abbrev pub sign_of : Piece → Sign
sign_of p = sign_behind p.digits p.byte

abbrev pub signs_of : List ℕ → List Sign
signs_of line = map sign_of (pieces_of line)
