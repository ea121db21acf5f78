-- The source rows and last rows of the nets, as rows are taken one after another.
use Rattle.std.specs.Prelude.{ℕ, ◌+◌, List, [], ◌∷◌, ◌++◌, slice_set}
use Rattle.surf_place.specs.declared.filling.Filling.{Filling}
use Rattle.surf_place.specs.Drawing.{Row, Source, Tap, Ends}

-- of the nets so far the first and the last row, and the next row
pub record Filled : Type 0 where
  pub source : List ℕ
  pub last : List ℕ
  pub row : ℕ

abbrev pub nothing : Filled
nothing = record { source = []; last = []; row = 0 }

abbrev pub with_source : Filled → Filled
with_source f =
    record { source = f.source ++ f.row ∷ []; last = f.last ++ f.row ∷ []; row = f.row + 1 }

abbrev pub with_use : Filled → (net : ℕ) → Filled
with_use f net = record { source = f.source; last = slice_set f.last net f.row; row = f.row + 1 }

abbrev pub with_row : Filled → Row → Filled
with_row f (Source net device) = with_source f
with_row f (Tap net gate device) = with_use f net
with_row f (Ends net) = with_use f net

abbrev pub filled : Filled → List Row → Filled
filled f [] = f
filled f (row ∷ rows) = filled (with_row f row) rows

abbrev pub filled_of : Filling → Filled
filled_of f = record { source = f.source.items; last = f.last.items; row = f.row }
