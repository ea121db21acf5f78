-- Patterns that are drawn.
use Rattle.std.proofs.Common.{ℕ, ◌≡◌, List, ◌∷◌, length, ◌∙◌, ap, Ok}
use Rattle.surf_rle.specs.Patterns.{Mark, mark}
use Rattle.surf_rle.specs.Sheets.{area}
use Rattle.surf_rle.specs.Drawings.{rest_of}
use Rattle.surf_rle.specs.declared.sheet.Sheet.{Sheet}
use Rattle.surf_rle.specs.declared.sheet.Pen.{Pen}
use Rattle.surf_rle.specs.declared.item.Sign.{Sign}
use Rattle.surf_rle.specs.declared.item.Sign.TheVariants.{End}
use Rattle.surf_rle.proofs.Covered.{over_none}

pub ended : (s : Sheet) (pen : Pen) (cells : List ℕ) (line : ℕ) (sign : Sign) → sign ≡ End → length cells ≡ area s →
    (more : List Mark) → rest_of s pen cells (mark line sign ∷ more) ≡ Ok cells
ended s pen cells line sign is whole more =
    ap (λ v. rest_of s pen cells (mark line v ∷ more)) is ∙ ap (λ v. Ok v) (over_none s cells whole)
