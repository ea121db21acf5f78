-- Each kind stands at its index.
use Rattle.std.proofs.Common.{ℕ, zero, suc, ◌≡◌, ◌+◌, ◌<◌, true, false, List, [], ◌∷◌, length, map, slice_get, Some, refl, ◌∙◌, arith}
use Rattle.std.specs.Prelude.{slice_index_or}
use Rattle.surf_tiles.specs.declared.kind.Kind.{Kind}
use Rattle.surf_tiles.specs.declared.kind.Kind.TheVariants.{Empty, Input, Value, Wire, A, B, H, V, P, Q, Gate1, Gate2, Centre}
use Rattle.surf_settle.specs.Indices.{all_kinds, kind_index, kind_listed}

pub at_index : (k : Kind) → slice_get all_kinds (kind_index k) ≡ Some k
at_index Empty = refl
at_index Input = refl
at_index (Value false) = refl
at_index (Value true) = refl
at_index Wire = refl
at_index A = refl
at_index B = refl
at_index H = refl
at_index V = refl
at_index P = refl
at_index Q = refl
at_index Centre = refl
at_index (Gate1 false false) = refl
at_index (Gate1 false true) = refl
at_index (Gate1 true false) = refl
at_index (Gate1 true true) = refl
at_index (Gate2 false false false false) = refl
at_index (Gate2 false false false true) = refl
at_index (Gate2 false false true false) = refl
at_index (Gate2 false false true true) = refl
at_index (Gate2 false true false false) = refl
at_index (Gate2 false true false true) = refl
at_index (Gate2 false true true false) = refl
at_index (Gate2 false true true true) = refl
at_index (Gate2 true false false false) = refl
at_index (Gate2 true false false true) = refl
at_index (Gate2 true false true false) = refl
at_index (Gate2 true false true true) = refl
at_index (Gate2 true true false false) = refl
at_index (Gate2 true true false true) = refl
at_index (Gate2 true true true false) = refl
at_index (Gate2 true true true true) = refl

-- numbers from i on, as many as these kinds
abbrev count_from : ℕ → List Kind → List ℕ
count_from i [] = []
count_from i (k ∷ ks) = i ∷ count_from (suc i) ks

index_in : (ks : List Kind) (i n : ℕ) → map kind_index ks ≡ count_from i ks → n < length ks → kind_index (slice_index_or ks n Empty) ≡ i + n
index_in [] i n h lt = omega (arith, lt)
index_in (k ∷ ks) i zero h lt = let here : kind_index k ≡ i = cc in here ∙ omega arith
index_in (k ∷ ks) i (suc n) h lt = let rest : map kind_index ks ≡ count_from (suc i) ks = cc in index_in ks (suc i) n rest (omega (arith, lt)) ∙ omega arith

pub index_of : (n : ℕ) → n < 32 → kind_index (kind_listed n) ≡ n
index_of n lt = index_in all_kinds 0 n refl lt ∙ omega arith
