-- Cells by their places: what stands at fixed distances, and rows that are written one after another.
use Rattle.std.proofs.Common.{◌≡◌, ℕ, suc, ◌+◌, ◌-◌, ◌*◌, ◌<◌, ◌≤◌, List, length, get_or, map, slice_index, Some, sym, ◌∙◌, ap, subst, inl, arith}
use Rattle.std.proofs.Math.ListN.{set}
use Rattle.std.proofs.Math.Nat.{mul-le-mul_right}
use Rattle.std.specs.List.{range_with_len}
use Rattle.std.proofs.lemmas.List.Edits.{fill_by_more}
use Rattle.std.proofs.lemmas.List.FromFn.{fill_by_all}
use Rattle.surf_lattice.specs.Grids.{Grid, IsInside, degree, shift_x, shift_y, neighbour, site_at, sites}
use Rattle.surf_lattice.proofs.Moves.{shift_x_small, shift_y_small}
use Rattle.surf_lattice.proofs.Neighbours.{neighbour_of}
use Rattle.surf_auto.specs.Locals.{gathered}
use Rattle.surf_auto.specs.Places.{IsNextBelow, beside, next_by_places}
use Rattle.surf_auto.specs.Sync.{Universe, seen, seen_at, state_at, next_state}
use Rattle.surf_auto.proofs.Cells.{map_map}
use Rattle.surf_auto.proofs.Phases.{site, site_place, gathered_same}

-- a cell that isn't at a side
record Inner (g : Grid) (x y : ℕ) : Type 0 where
  left : 0 < x
  right : x + 1 < g.width
  top : 0 < y
  bottom : y + 1 < g.height

inner_neighbour : (g : Grid) (x y : ℕ) → Inner g x y → (i : ℕ) → neighbour g (site x y) i ≡ Some (site (x + shift_x i - 1) (y + shift_y i - 1))
inner_neighbour g x y inner i =
    let a = inner.left in
    let b = inner.right in
    let c = inner.top in
    let d = inner.bottom in
    let u = shift_x_small i in
    let v = shift_y_small i in
    let inside : IsInside g (site x y) = (omega arith, omega arith) in
    neighbour_of g (site x y) i (site (x + shift_x i - 1) (y + shift_y i - 1)) inside (record {
      across = record { lands = omega arith; by = inl (omega arith) };
      down = record { lands = omega arith; by = inl (omega arith) };
    })

-- its place is a fixed distance away
inner_place : (width x y : ℕ) → 0 < x → 0 < y → (i : ℕ) → (y + shift_y i - 1) * width + (x + shift_x i - 1) ≡ beside width (y * width + x) i
inner_place width x y a b i =
    let v : suc (y + shift_y i - 1) * width ≡ (y + shift_y i) * width = ap (λ z. z * width) (let z : suc (y + shift_y i - 1) ≡ y + shift_y i = omega arith in z) in
    omega arith

inner_seen : (U : Universe) (x y : ℕ) → Inner U.grid x y → (i : ℕ) → slice_index U.cells (beside U.grid.width (y * U.grid.width + x) i) ≡ seen U (state_at U) (site x y) i
inner_seen U x y inner i =
    ap (slice_index U.cells) (sym (inner_place U.grid.width x y inner.left inner.top i))
    ∙ ap (seen_at U.edge (state_at U)) (sym (inner_neighbour U.grid x y inner i))

inner_next : (U : Universe) (f x y : ℕ) → U.rule.degree ≡ degree U.grid.kind → Inner U.grid x y →
    next_by_places U.rule f U.cells U.grid.width (y * U.grid.width + x) ≡ next_state U f (state_at U) (site x y)
inner_next U f x y same inner =
    let see : ℕ → ℕ = λ i. slice_index U.cells (beside U.grid.width (y * U.grid.width + x) i) in
    let own : ℕ = slice_index U.cells (y * U.grid.width + x) in
    ap (U.rule.finish f own) (gathered_same U.rule f see (seen U (state_at U) (site x y)) (inner_seen U x y inner) U.rule.degree)
    ∙ ap (λ d. U.rule.finish f own (gathered U.rule f (seen U (state_at U) (site x y)) d)) same

-- the next state by places is the next state
pub inner_written : (U : Universe) (f width row x : ℕ) → U.rule.degree ≡ degree U.grid.kind → width ≡ U.grid.width → 0 < row → row + 1 < U.grid.height → 0 < x → x + 1 < width →
    next_by_places U.rule f U.cells width (row * width + x) ≡ next_state U f (state_at U) (site_at U.grid (row * width + x))
inner_written U f width row x same side top bottom left right =
    let narrow : x + 1 < U.grid.width = omega arith in
    let inside : IsInside U.grid (site x row) = (omega arith, omega arith) in
    let at : next_by_places U.rule f U.cells U.grid.width (row * U.grid.width + x) ≡ next_state U f (state_at U) (site_at U.grid (row * U.grid.width + x)) =
    inner_next U f x row same (record { left = left; right = narrow; top = top; bottom = bottom })
    ∙ ap (next_state U f (state_at U)) (sym (site_place U.grid (site x row) inside)) in
    subst (λ w. next_by_places U.rule f U.cells w (row * w + x) ≡ next_state U f (state_at U) (site_at U.grid (row * w + x))) (sym side) at

-- ---- one place more is written

pub row_place : (width height row x count : ℕ) → row < height → x < width → count ≡ width * height → row * width + x < count
row_place width height row x count a b size = let m : suc row * width ≤ height * width = mul-le-mul_right width a in omega arith

abbrev pub next_place : Universe → ℕ → ℕ → ℕ
next_place U f i = next_state U f (state_at U) (site_at U.grid i)

pub written_more : (U : Universe) (f : ℕ) (next : List ℕ) (first x state : ℕ) → first + x < length next → IsNextBelow U f next (first + x) → state ≡ next_place U f (first + x) →
    IsNextBelow U f (set next (first + x) state) (first + (x + 1))
written_more U f next first x state lt below e = λ k h.
    let l : k < first + x + 1 = omega arith in
    subst (λ v. get_or (set next (first + x) v) k 0 ≡ next_place U f k) (sym e) (fill_by_more (next_place U f) next (first + x) 0 lt below k l)

-- all places are written
pub all_written : (U : Universe) (f : ℕ) (next : List ℕ) → length next ≡ U.grid.width * U.grid.height → IsNextBelow U f next (U.grid.width * U.grid.height) → next ≡ map (next_state U f (state_at U)) (sites U.grid)
all_written U f next size all =
    fill_by_all (next_place U f) next (U.grid.width * U.grid.height) 0 size all
    ∙ sym (map_map (next_state U f (state_at U)) (site_at U.grid) (range_with_len 0 (U.grid.width * U.grid.height)))
