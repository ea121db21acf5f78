-- Rows of a netlist in their order, and what is drawn of them.
use Rattle.std.proofs.Common.{◌≡◌, ℕ, zero, suc, ◌+◌, ◌<◌, ◌≤◌, Option, Some, None, List, [], ◌∷◌, ◌++◌, map, length, drop, refl, sym, ap, ◌∙◌, subst, arith, append_assoc}
use Rattle.std.specs.Prelude.{slice_get}
use Rattle.std.specs.Option.{option_map}
use Rattle.std.specs.List.{range_with_len, flat_map}
use Rattle.std.proofs.lemmas.List.FromFn.{map-range_with_len_more}
use Rattle.std.proofs.lemmas.Option.{slice_get_within, get_or_from_slice_get}
use Rattle.surf_tiles.specs.declared.netlist.Gate.{Gate}
use Rattle.surf_tiles.specs.declared.netlist.Gate.TheVariants.{Constant, One, Two}
use Rattle.surf_tiles.specs.Netlists.{NetlistOf}
use Rattle.surf_place.specs.Drawing.{Row, Ends, gate_rows, rows_of, row_at}
use Rattle.surf_route.specs.declared.line.Line.{Line}
use Rattle.surf_route.specs.Routing.{line_of, IsNext, band_of}

-- one more element of a list by number
pub map_more : {X : Type 0} (f : ℕ → X) (old done new : List X) (x : X) (n : ℕ) → new ≡ done ++ x ∷ [] → done ≡ old ++ map f (range_with_len 0 n) → x ≡ f n → new ≡ old ++ map f (range_with_len 0 (n + 1))
map_more f old done new x n put so_far is =
    put ∙ ap (λ ys. ys ++ x ∷ []) so_far ∙ append_assoc old (map f (range_with_len 0 n)) (x ∷ [])
    ∙ ap (λ ys. old ++ ys) (ap (λ y. map f (range_with_len 0 n) ++ y ∷ []) is ∙ sym (map-range_with_len_more f 0 n n (omega arith)))

-- and of lists by number
pub flat_more : {X : Type 0} (f : ℕ → List X) (from n k : ℕ) → from + n ≡ k → flat_map f (range_with_len from (n + 1)) ≡ flat_map f (range_with_len from n) ++ f k
flat_more f from zero k is = let e : from ≡ k = omega (arith, is) in rw e (last (f k))
  where
    last : {X : Type 0} (xs : List X) → xs ++ [] ≡ xs
    last [] = refl
    last (x ∷ xs) = ap (λ ys. x ∷ ys) (last xs)
flat_more f from (suc n) k is =
    let e : suc n + 1 ≡ suc (n + 1) = omega arith in
    ap (λ m. flat_map f (range_with_len from m)) e ∙ ap (λ ys. f from ++ ys) (flat_more f (from + 1) n k (omega (arith, is))) ∙ sym (append_assoc (f from) (flat_map f (range_with_len (from + 1) n)) (f k))

-- what follows the first elements of a list
pub drop_get : {X : Type 0} (xs ys zs : List X) (n i : ℕ) (x : X) → drop n xs ≡ ys ++ zs → slice_get ys i ≡ Some x → slice_get xs (n + i) ≡ Some x
drop_get xs ys zs zero i x is at = let e : 0 + i ≡ i = omega arith in rw e (ap (λ l. slice_get l i) is ∙ front ys zs i x at)
  where
    front : {X : Type 0} (ys zs : List X) (i : ℕ) (x : X) → slice_get ys i ≡ Some x → slice_get (ys ++ zs) i ≡ Some x
    front [] zs i x at = absurd cc
    front (y ∷ ys) zs zero x at = at
    front (y ∷ ys) zs (suc i) x at = front ys zs i x at
drop_get [] [] zs (suc n) i x is at = absurd cc
drop_get [] (y ∷ ys) zs (suc n) i x is at = absurd cc
drop_get (w ∷ xs) ys zs (suc n) i x is at = let e : suc n + i ≡ suc (n + i) = omega arith in rw e (drop_get xs ys zs n i x is at)

pub drop_after : {X : Type 0} (xs ys zs : List X) (n m : ℕ) → drop n xs ≡ ys ++ zs → n + length ys ≡ m → drop m xs ≡ zs
drop_after xs ys zs zero m is at = let e : length ys ≡ m = omega (arith, at) in subst (λ k. drop k xs ≡ zs) e (ap (drop (length ys)) is ∙ past ys zs)
  where
    past : {X : Type 0} (ys zs : List X) → drop (length ys) (ys ++ zs) ≡ zs
    past [] zs = refl
    past (y ∷ ys) zs = past ys zs
drop_after [] [] zs (suc n) m is at = let e : suc n ≡ m = omega (arith, at) in subst (λ k. drop k [] ≡ zs) e is
drop_after [] (y ∷ ys) zs (suc n) m is at = absurd cc
drop_after (w ∷ xs) ys zs (suc n) zero is at = absurd (omega (arith, at))
drop_after (w ∷ xs) ys zs (suc n) (suc m) is at = drop_after xs ys zs n m is (omega (arith, at))

pub drop_all : {X : Type 0} (xs : List X) (n : ℕ) → drop n xs ≡ [] → length xs ≤ n
drop_all [] n is = omega arith
drop_all (x ∷ xs) zero is = absurd cc
drop_all (x ∷ xs) (suc n) is = let h = drop_all xs n is in omega (arith, h)

-- the rows of a gate, and then the others
pub band_first : (net : ℕ) (gate : Gate) (gates : List Gate) (below : List Row) → gate_rows net (gate ∷ gates) below ≡ band_of net gate ++ gate_rows (net + 1) gates below
band_first net (Constant v) gates below = refl
band_first net (One z o input) gates below = refl
band_first net (Two t00 t01 t10 t11 first second) gates below = refl

-- the line of a row that is next
pub next_is : (N : NetlistOf) (r : ℕ) (row : Row) (line : Line) → slice_get (rows_of N) r ≡ Some row → line_of row ≡ line → IsNext N r line
next_is N r row line at is = ap (option_map line_of) at ∙ ap Some is

-- the next row, from its line
pub record NextRow (N : NetlistOf) (r : ℕ) (line : Line) : Type 0 where
  pub within : r < length (rows_of N)
  pub is : line_of (row_at N r) ≡ line

next_row_at : (N : NetlistOf) (r : ℕ) (line : Line) (o : Option Row) → slice_get (rows_of N) r ≡ o → option_map line_of o ≡ Some line → NextRow N r line
next_row_at N r line None at is = absurd cc
next_row_at N r line (Some row) at is = record {
  within = slice_get_within (rows_of N) r row at;
  is = ap line_of (get_or_from_slice_get (rows_of N) r row (Ends 0) at) ∙ same _ _ is;
}
  where
    same : (a b : Line) → Some a ≡ Some b → a ≡ b
    same a b e = cc

pub next_row : (N : NetlistOf) (r : ℕ) (line : Line) → IsNext N r line → NextRow N r line
next_row N r line next = next_row_at N r line (slice_get (rows_of N) r) refl next
