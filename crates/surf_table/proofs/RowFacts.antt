-- How many next states and cells are read, and that each is a state.
use Rattle.std.proofs.Common.{ℕ, suc, zero, ◌≡◌, ◌+◌, ◌*◌, ◌<◌, ◌≤◌, Bool, true, false, ◌==◌, ◌||◌, nat_lt, List, [], ◌∷◌, ◌++◌, length, map, replicate, Option, Some, Result, Ok, Err, if◌then◌else◌, refl, sym, ◌∙◌, ap, subst, arith, length-append, codes}
use Rattle.std.specs.List.{AllByRecursion, concat, flat_map, range_with_len}
use Rattle.std.proofs.lemmas.Bool.{ltb-false}
use Rattle.surf_auto.specs.declared.error.SourceError.{SourceError}
use Rattle.surf_auto.specs.declared.error.SourceError.TheVariants.{EmptyGrid, GridTooLarge}
use Rattle.surf_table.specs.TableLines.{Line, next_line, row_line, size_line}
use Rattle.surf_table.specs.TableTexts.{read, read_all, gathered, next_lines, read_next, site_count, if_fits, read_size, row_lines, widened, margin_rows, framed, read_cells}
use Rattle.surf_table.specs.Parts.{IsRow, IsSize}
use Rattle.surf_table.proofs.Facts.{read_some, next_row, line_row, then_of}

abbrev Expected : Type 0
Expected = List (List ℕ) → Option (List ℕ)

-- each line of numbers that may be read is a row
abbrev GivesRow : ℕ → ℕ → Expected → Type 0
GivesRow count n e = (words : List (List ℕ)) (ks : List ℕ) → e words ≡ Some ks → IsRow count n ks

record AreRows (count n many : ℕ) (rows : List (List ℕ)) : Type 0 where
  pub counted : length rows ≡ many
  pub each : AllByRecursion (IsRow count n) rows

all_rows : (count n : ℕ) (es : List Expected) → AllByRecursion (GivesRow count n) es → (ls : List Line) (rows : List (List ℕ)) (rest : List Line) → read_all es ls ≡ Ok (rows, rest) → AreRows count n (length es) rows
all_rows count n [] all ls rows rest h =
    let p : ([], ls) ≡ (rows, rest) = cc in
    let P : List (List ℕ) → Type 0 = AreRows count n 0 in
    subst P (ap (λ (v : List (List ℕ) × List Line). v.0) p) (record { counted = refl; each = tt })
all_rows count n (e ∷ es) all ls rows rest h =
    let t = then_of (read e ls) _ (rows, rest) h in
    let u = then_of (read_all es t.rest) _ (rows, rest) t.second in
    let p : (t.value ∷ u.value, u.rest) ≡ (rows, rest) = cc in
    let r = all_rows count n es all.1 t.rest u.value u.rest u.first in
    let P : List (List ℕ) → Type 0 = AreRows count n (suc (length es)) in
    subst P (ap (λ (v : List (List ℕ) × List Line). v.0) p) (record {
      counted = ap suc r.counted;
      each = (read_some (IsRow count n) e all.0 ls t.value t.rest t.first, r.each);
    })

-- ---- rows in a row

below_more : (n : ℕ) (xs ys : List ℕ) → AllByRecursion (λ k. k < n) xs → AllByRecursion (λ k. k < n) ys → AllByRecursion (λ k. k < n) (xs ++ ys)
below_more n [] ys a b = b
below_more n (x ∷ xs) ys a b = (a.0, below_more n xs ys a.1 b)

row_more : (a b n : ℕ) (xs ys : List ℕ) → IsRow a n xs → IsRow b n ys → IsRow (a + b) n (xs ++ ys)
row_more a b n xs ys r s = record {
  whole = (let l = length-append xs ys in let p = r.whole in let q = s.whole in omega arith);
  below = below_more n xs ys r.below s.below;
}

row_same : (a b n : ℕ) (xs : List ℕ) → a ≡ b → IsRow a n xs → IsRow b n xs
row_same a b n xs e r = record { whole = r.whole ∙ e; below = r.below }

empty_row : (n : ℕ) → IsRow 0 n []
empty_row n = record { whole = refl; below = tt }

one_kind : (count n k : ℕ) → k < n → IsRow count n (replicate count k)
one_kind zero n k h = empty_row n
one_kind (suc count) n k h = let r = one_kind count n k h in record { whole = ap suc r.whole; below = (h, r.below) }

times_none : (count : ℕ) → 0 ≡ 0 * count
times_none count = omega arith

times_suc : (m count : ℕ) → count + m * count ≡ suc m * count
times_suc m count = grind arith

flat_rows : (f : List ℕ → List ℕ) (a b n : ℕ) (rows : List (List ℕ)) → ((row : List ℕ) → IsRow a n row → IsRow b n (f row)) → AllByRecursion (IsRow a n) rows → IsRow (length rows * b) n (flat_map f rows)
flat_rows f a b n [] each all = row_same 0 (0 * b) n [] (times_none b) (empty_row n)
flat_rows f a b n (row ∷ rows) each all =
    row_same (b + length rows * b) (suc (length rows) * b) n (f row ++ flat_map f rows) (times_suc (length rows) b)
    (row_more b (length rows * b) n (f row) (flat_map f rows) (each row all.0) (flat_rows f a b n rows each all.1))

joined_rows : (a n : ℕ) (rows : List (List ℕ)) → AllByRecursion (IsRow a n) rows → IsRow (length rows * a) n (concat rows)
joined_rows a n [] all = row_same 0 (0 * a) n [] (times_none a) (empty_row n)
joined_rows a n (row ∷ rows) all =
    row_same (a + length rows * a) (suc (length rows) * a) n (row ++ concat rows) (times_suc (length rows) a)
    (row_more a (length rows * a) n row (concat rows) all.0 (joined_rows a n rows all.1))

-- ---- the next states

next_rows : (sums n a k : ℕ) → AllByRecursion (GivesRow sums n) (map (next_line sums n) (range_with_len a k))
next_rows sums n a zero = tt
next_rows sums n a (suc k) = (next_row sums n a, next_rows sums n (a + 1) k)

lines_many : (sums n a k : ℕ) → length (map (next_line sums n) (range_with_len a k)) ≡ k
lines_many sums n a zero = refl
lines_many sums n a (suc k) = ap suc (lines_many sums n (a + 1) k)

gathered_in : (f : List (List ℕ) → List ℕ) (r : Result (List (List ℕ) × List Line) SourceError) (ks : List ℕ) (rest : List Line) → gathered f r ≡ Ok (ks, rest) →
    (rows : List (List ℕ)) × (r ≡ Ok (rows, rest)) × (f rows ≡ ks)
gathered_in f (Err e) ks rest h = absurd cc
gathered_in f (Ok r) ks rest h =
    let p : (f r.0, r.1) ≡ (ks, rest) = cc in
    (r.0, ap (λ (v : List ℕ × List Line). Ok (r.0, v.1)) p, ap (λ (v : List ℕ × List Line). v.0) p)

pub next_is : (sums n : ℕ) (ls : List Line) (next : List ℕ) (rest : List Line) → read_next sums n ls ≡ Ok (next, rest) → IsRow (n * sums) n next
next_is sums n ls next rest h =
    let g = gathered_in concat (read_all (next_lines sums n) ls) next rest h in
    let r = all_rows sums n (next_lines sums n) (next_rows sums n 0 n) ls g.0 rest g.1 in
    let P : List ℕ → Type 0 = IsRow (n * sums) n in
    subst P g.2 (row_same (length g.0 * sums) (n * sums) n (concat g.0) (ap (λ k. k * sums) (r.counted ∙ lines_many sums n 0 n)) (joined_rows sums n g.0 r.each))

-- ---- the size

size_in : (margin : ℕ) (empty large : Bool) (size out : ℕ × ℕ) (ls rest : List Line) →
    (if◌then◌else◌ {A = Result ((ℕ × ℕ) × List Line) SourceError} empty (Err EmptyGrid) (if large then Err (GridTooLarge (site_count margin size)) else Ok (size, ls))) ≡ Ok (out, rest) →
    (out ≡ size) × (empty ≡ false) × (large ≡ false)
size_in margin true large size out ls rest h = absurd cc
size_in margin false true size out ls rest h = absurd cc
size_in margin false false size out ls rest h =
    let p : (size, ls) ≡ (out, rest) = cc in
    (ap (λ (v : (ℕ × ℕ) × List Line). v.0) (sym p), refl, refl)

some_side : (w h : ℕ) → ((w == 0) || (h == 0)) ≡ false → (1 ≤ w) × (1 ≤ h)
some_side w h e = grind arith

pub size_is : (margin : ℕ) (ls : List Line) (size : ℕ × ℕ) (rest : List Line) → read_size margin ls ≡ Ok (size, rest) → IsSize margin size
size_is margin ls size rest h =
    let t = then_of (read size_line ls) (if_fits margin) (size, rest) h in
    let s = size_in margin ((t.value.0 == 0) || (t.value.1 == 0)) (nat_lt 1000000 (site_count margin t.value)) t.value size t.rest rest t.second in
    let e = some_side t.value.0 t.value.1 s.1 in
    let P : ℕ × ℕ → Type 0 = IsSize margin in
    subst P (sym s.0) (record { wide = e.0; high = e.1; few = ltb-false 1000000 (site_count margin t.value) s.2 })

-- ---- the cells

row_rows : (n w h : ℕ) → AllByRecursion (GivesRow w n) (replicate h (row_line n w))
row_rows n w zero = tt
row_rows n w (suc h) = (line_row (codes "row") w n, row_rows n w h)

rows_many : (e : Expected) (h : ℕ) → length (replicate h e) ≡ h
rows_many e zero = refl
rows_many e (suc h) = ap suc (rows_many e h)

wide_row : (margin edge w n : ℕ) (row : List ℕ) → edge < n → IsRow w n row → IsRow (margin + (w + margin)) n (widened margin edge row)
wide_row margin edge w n row below r =
    let m = one_kind margin n edge below in
    row_more margin (w + margin) n (replicate margin edge) (row ++ replicate margin edge) m (row_more w margin n row (replicate margin edge) r m)

sites_in : (m w h : ℕ) → m * (w + 2 * m) + (h * (m + (w + m)) + m * (w + 2 * m)) ≡ (w + 2 * m) * (h + 2 * m)
sites_in m w h = grind arith

framed_is : (margin edge w h n : ℕ) (rows : List (List ℕ)) → edge < n → AreRows w n h rows → IsRow ((w + 2 * margin) * (h + 2 * margin)) n (framed margin edge w rows)
framed_is margin edge w h n rows below r =
    let m = one_kind (margin * (w + 2 * margin)) n edge below in
    let b = flat_rows (widened margin edge) w (margin + (w + margin)) n rows (λ row. wide_row margin edge w n row below) r.each in
    let b2 = row_same (length rows * (margin + (w + margin))) (h * (margin + (w + margin))) n (flat_map (widened margin edge) rows) (ap (λ k. k * (margin + (w + margin))) r.counted) b in
    let e = row_more (h * (margin + (w + margin))) (margin * (w + 2 * margin)) n (flat_map (widened margin edge) rows) (margin_rows margin edge w) b2 m in
    row_same _ ((w + 2 * margin) * (h + 2 * margin)) n (framed margin edge w rows) (sites_in margin w h)
    (row_more (margin * (w + 2 * margin)) (h * (margin + (w + margin)) + margin * (w + 2 * margin)) n (margin_rows margin edge w) (flat_map (widened margin edge) rows ++ margin_rows margin edge w) m e)

pub cells_are : (margin edge n : ℕ) (size : ℕ × ℕ) (ls : List Line) (cells : List ℕ) (rest : List Line) → edge < n → read_cells margin edge n size ls ≡ Ok (cells, rest) → IsRow (site_count margin size) n cells
cells_are margin edge n size ls cells rest below h =
    let g = gathered_in (framed margin edge size.0) (read_all (row_lines n size) ls) cells rest h in
    let r = all_rows size.0 n (row_lines n size) (row_rows n size.0 size.1) ls g.0 rest g.1 in
    let P : List ℕ → Type 0 = IsRow (site_count margin size) n in
    subst P g.2 (framed_is margin edge size.0 size.1 n g.0 below (record { counted = r.counted ∙ rows_many (row_line n size.0) size.1; each = r.each }))
