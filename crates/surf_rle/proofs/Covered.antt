-- Cells that a run of live cells covers.
use Rattle.std.proofs.Common.{ℕ, zero, suc, ◌≡◌, ◌+◌, ◌*◌, ◌<◌, ◌≤◌, Bool, true, false, ◌&&◌, ◌||◌, ◌==◌, nat_le, nat_lt, if◌then◌else◌, List, [], ◌∷◌, length, map, replicate, get_or, slice_index, refl, sym, ◌∙◌, ap, arith, inl, inr}
use Rattle.std.specs.List.{list_any, range_with_len}
use Rattle.std.proofs.lemmas.Bool.{cases_lt, cases_order, lt-ltb, le-ltb, le-leb, lt-leb, eq-eqb, ne_eqb, and_left, and_right}
use Rattle.std.proofs.lemmas.Simd.{map-map}
use Rattle.std.proofs.lemmas.List.FromFn.{fill_by_all}
use Rattle.std.proofs.Math.Nat.{mul-le-mul_right, mod-lt, div-add-mod}
use Rattle.surf_lattice.specs.declared.site.Site.{Site}
use Rattle.surf_lattice.specs.Grids.{Grid, place, site_at, sites}
use Rattle.surf_rle.specs.Patterns.{Placed, covers, cell_at, mark}
use Rattle.surf_rle.specs.Sheets.{area, sheet_grid}
use Rattle.surf_rle.specs.Drawings.{over}
use Rattle.surf_rle.specs.declared.sheet.Sheet.{Sheet}
use Rattle.surf_rle.specs.declared.item.Sign.TheVariants.{Live}

map_same : {X Y : Type 0} (f g : X → Y) → ((x : X) → f x ≡ g x) → (xs : List X) → map f xs ≡ map g xs
map_same f g same [] = refl
map_same f g same (x ∷ xs) = rw (same x, map_same f g same xs) refl

-- two functions that agree on the columns of a grid
same_cells : (grid : Grid) (f g : Site → ℕ) → 1 ≤ grid.width → ((p : Site) → p.x < grid.width → f p ≡ g p) → map f (sites grid) ≡ map g (sites grid)
same_cells grid f g wide same =
    let is = range_with_len 0 (grid.width * grid.height) in
    map-map f (site_at grid) is
    ∙ map_same (λ i. f (site_at grid i)) (λ i. g (site_at grid i)) (λ i. same (site_at grid i) (mod-lt i wide)) is
    ∙ sym (map-map g (site_at grid) is)

place_site : (g : Grid) (i : ℕ) → place g (site_at g i) ≡ i
place_site g i = let e = div-add-mod i g.width in omega (arith, e)

-- ---- with no further signs, and where nothing is drawn

pub over_none : (s : Sheet) (cells : List ℕ) → length cells ≡ area s → over s cells [] ≡ cells
over_none s cells whole =
    let g = sheet_grid s in
    map-map (λ p. slice_index cells (place g p)) (site_at g) (range_with_len 0 (g.width * g.height))
    ∙ sym (fill_by_all (λ i. slice_index cells (place g (site_at g i))) cells (g.width * g.height) 0 whole
    (λ k h. ap (λ n. get_or cells n 0) (sym (place_site g k))))

zero_at : (n k : ℕ) → slice_index (replicate n 0) k ≡ 0
zero_at zero k = refl
zero_at (suc n) zero = refl
zero_at (suc n) (suc k) = zero_at n k

pub over_zeros : (s : Sheet) (n : ℕ) (ps : List Placed) → over s (replicate n 0) ps ≡ map (cell_at s.corner ps) (sites (sheet_grid s))
over_zeros s n ps =
    map_same (λ p. if list_any (covers s.corner p) ps then 1 else slice_index (replicate n 0) (place (sheet_grid s) p)) (cell_at s.corner ps)
    (λ p. ap (λ v. if list_any (covers s.corner p) ps then 1 else v) (zero_at n (place (sheet_grid s) p))) (sites (sheet_grid s))

-- ---- a run of live cells

in_same_row : (w r c n x : ℕ) → (nat_le c x && nat_lt x (c + n)) ≡ (nat_le (r * w + c) (r * w + x) && nat_lt (r * w + x) (r * w + c + n))
in_same_row w r c n x = elim (cases_lt x c) [
  | inl before ↦ rw (lt-leb c x before, lt-leb (r * w + c) (r * w + x) (omega (arith, before))) refl
  | inr from ↦ rw (le-leb c x from, le-leb (r * w + c) (r * w + x) (omega (arith, from))) (elim (cases_lt x (c + n)) [
    | inl within ↦ rw (lt-ltb x (c + n) within, lt-ltb (r * w + x) (r * w + c + n) (omega (arith, within))) refl
    | inr past ↦ rw (le-ltb x (c + n) past, le-ltb (r * w + x) (r * w + c + n) (omega (arith, past))) refl
  ])
]

-- the places of a run in a row, in row-major order
run_places : (w r c n x y : ℕ) → x < w → c + n ≤ w →
    ((y == r) && (nat_le c x && nat_lt x (c + n))) ≡ (nat_le (r * w + c) (y * w + x) && nat_lt (y * w + x) (r * w + c + n))
run_places w r c n x y in_row fits = elim (cases_order y r) [
  | inl same ↦ rw (eq-eqb y r same, same) (in_same_row w r c n x)
  | inr other ↦ elim other [
    | inl above ↦
        let m : suc y * w ≤ r * w = mul-le-mul_right w above in
        rw (ne_eqb y r (λ e. omega (arith, above, e))) (sym (and_left (nat_le (r * w + c) (y * w + x)) (nat_lt (y * w + x) (r * w + c + n)) (lt-leb (r * w + c) (y * w + x) (omega arith))))
    | inr below ↦
        let m : suc r * w ≤ y * w = mul-le-mul_right w below in
        rw (ne_eqb y r (λ e. omega (arith, below, e))) (sym (and_right (nat_le (r * w + c) (y * w + x)) (nat_lt (y * w + x) (r * w + c + n)) (le-ltb (y * w + x) (r * w + c + n) (omega arith))))
  ]
]

kept_or : (a b : Bool) (v : ℕ) → (if b then 1 else (if a then 1 else v)) ≡ (if a || b then 1 else v)
kept_or true true v = refl
kept_or true false v = refl
kept_or false b v = refl

-- cells that a run was drawn on are covered by it
pub over_live : (s : Sheet) (old new : List ℕ) (row column n line from : ℕ) (ps : List Placed) → 1 ≤ s.width → s.corner + s.width ≤ s.full_width → column + n ≤ s.width →
    from ≡ (row + s.corner) * s.full_width + (column + s.corner) →
    ((k : ℕ) → slice_index new k ≡ (if nat_le from k && nat_lt k (from + n) then 1 else slice_index old k)) →
    over s new ps ≡ over s old (record { row = row; column = column; mark = mark line (Live n) } ∷ ps)
over_live s old new row column n line from ps wide across fits at filled =
    let g = sheet_grid s in
    let w = s.full_width in
    let r = row + s.corner in
    let c = column + s.corner in
    same_cells g
    (λ p. if list_any (covers s.corner p) ps then 1 else slice_index new (place g p))
    (λ p. if list_any (covers s.corner p) (record { row = row; column = column; mark = mark line (Live n) } ∷ ps) then 1 else slice_index old (place g p))
    (omega arith)
    (λ p in_row.
    ap (λ v. if list_any (covers s.corner p) ps then 1 else v)
    (filled (place g p)
    ∙ ap (λ f. if nat_le f (place g p) && nat_lt (place g p) (f + n) then 1 else slice_index old (place g p)) at
    ∙ ap (λ b. if b then 1 else slice_index old (place g p)) (sym (run_places w r c n p.x p.y in_row (omega arith))))
    ∙ kept_or ((p.y == r) && (nat_le c p.x && nat_lt p.x (c + n))) (list_any (covers s.corner p) ps) (slice_index old (place g p)))
