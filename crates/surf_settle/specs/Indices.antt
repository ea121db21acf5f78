-- A list of all kinds of sites, and the index of each.
use Rattle.std.specs.Prelude.{ℕ, ◌+◌, ◌*◌, Bool, true, false, if◌then◌else◌, List, [], ◌∷◌, slice_index_or}
use Rattle.surf_tiles.specs.declared.kind.Kind.{Kind}
use Rattle.surf_tiles.specs.declared.kind.Kind.TheVariants.{Empty, Input, Value, Wire, A, B, H, V, P, Q, Gate1, Gate2, Centre}

abbrev pub bit : Bool → ℕ
bit v = if v then 1 else 0

-- the place of a kind in the list of all
abbrev pub kind_index : Kind → ℕ
kind_index Empty = 0
kind_index Input = 1
kind_index (Value v) = 2 + bit v
kind_index Wire = 4
kind_index A = 5
kind_index B = 6
kind_index H = 7
kind_index V = 8
kind_index P = 9
kind_index Q = 10
kind_index Centre = 11
kind_index (Gate1 zero one) = 12 + 2 * bit zero + bit one
kind_index (Gate2 t00 t01 t10 t11) = 16 + 8 * bit t00 + 4 * bit t01 + 2 * bit t10 + bit t11

-- all kinds, each at its index
abbrev pub all_kinds : List Kind
all_kinds =
    Empty ∷ Input ∷ Value false ∷ Value true ∷ Wire ∷ A ∷ B ∷ H ∷ V ∷ P ∷ Q ∷ Centre
    ∷ Gate1 false false ∷ Gate1 false true ∷ Gate1 true false ∷ Gate1 true true
    ∷ Gate2 false false false false ∷ Gate2 false false false true ∷ Gate2 false false true false ∷ Gate2 false false true true
    ∷ Gate2 false true false false ∷ Gate2 false true false true ∷ Gate2 false true true false ∷ Gate2 false true true true
    ∷ Gate2 true false false false ∷ Gate2 true false false true ∷ Gate2 true false true false ∷ Gate2 true false true true
    ∷ Gate2 true true false false ∷ Gate2 true true false true ∷ Gate2 true true true false ∷ Gate2 true true true true
    ∷ []

-- the kind at an index
abbrev pub kind_listed : ℕ → Kind
kind_listed n = slice_index_or all_kinds n Empty
