-- The rows of inputs, gates and outputs, one after another.
use Rattle.std.proofs.Common.{◌≡◌, ℕ, zero, suc, ◌+◌, ◌-◌, ◌<◌, ◌≤◌, Some, List, [], ◌∷◌, ◌++◌, map, length, drop, get_or, refl, sym, ap, ◌∙◌, arith}
use Rattle.std.specs.Prelude.{slice_get}
use Rattle.std.specs.List.{flat_map, range_with_len}
use Rattle.surf_tiles.specs.declared.netlist.Gate.{Gate}
use Rattle.surf_tiles.specs.declared.tile.Tile.TheVariants.{Input as Inputs}
use Rattle.surf_tiles.specs.Netlists.{NetlistOf}
use Rattle.surf_place.specs.Drawing.{Row, Source, Ends, input_rows, gate_rows, rows_of}
use Rattle.surf_place.specs.Placed.{PlacedOf, placement_of, tiles_of}
use Rattle.surf_route.specs.declared.line.Line.{Line}
use Rattle.surf_route.specs.declared.sheet.Sheet.{Sheet}
use Rattle.surf_route.specs.Routing.{line_of, IsNext, AreNext, IsSheet, band_of, gates_below, tiles_in_row}
use Rattle.surf_route.proofs.Lines.{drop_get, drop_after, drop_all, band_first, next_is}

-- the line of one of the rows that come next
pub line_next : (N : NetlistOf) (first r i : ℕ) (rows : List Row) (row : Row) (line : Line) → AreNext N first rows → slice_get rows i ≡ Some row → r ≡ first + i → line_of row ≡ line → IsNext N r line
line_next N first r i rows row line next at is said = rw is (next_is N (first + i) row line (next i row at) said)

-- rows that the rest begins with come next
pub are_next : (N : NetlistOf) (r : ℕ) (rows rest : List Row) → drop r (rows_of N) ≡ rows ++ rest → AreNext N r rows
are_next N r rows rest is i row at = drop_get (rows_of N) rows rest r i row is at

drop_next : {X : Type 0} (xs : List X) (k : ℕ) (d : X) → k < length xs → drop k xs ≡ get_or xs k d ∷ drop (k + 1) xs
drop_next [] k d b = absurd (omega (arith, b))
drop_next (x ∷ xs) zero d b = refl
drop_next (x ∷ xs) (suc k) d b = let e : suc k + 1 ≡ suc (k + 1) = omega arith in rw e (drop_next xs k d (omega (arith, b)))

-- inputs
pub inputs_first : (N : NetlistOf) → rows_of N ≡ input_rows (N.inputs - 0) 0 (gates_below N 0)
inputs_first N =
    let e : N.inputs ≡ N.inputs + 0 = omega arith in
    let f : N.inputs ≡ N.inputs - 0 = omega arith in
    ap (λ n. input_rows N.inputs 0 (gate_rows n N.gates (map Ends N.outputs))) e ∙ ap (λ n. input_rows n 0 (gates_below N 0)) f

pub input_next : (N : NetlistOf) (net : ℕ) → net < N.inputs → input_rows (N.inputs - net) net (gates_below N 0) ≡ Source net Inputs ∷ input_rows (N.inputs - (net + 1)) (net + 1) (gates_below N 0)
input_next N net b = let e : N.inputs - net ≡ suc (N.inputs - (net + 1)) = omega (arith, b) in rw e refl

pub inputs_last : (N : NetlistOf) (net : ℕ) → N.inputs ≤ net → input_rows (N.inputs - net) net (gates_below N 0) ≡ gates_below N 0
inputs_last N net b = let e : N.inputs - net ≡ 0 = omega (arith, b) in rw e refl

-- gates
pub gate_next : (N : NetlistOf) (gates : List Gate) (j : ℕ) (d : Gate) → gates ≡ N.gates → j < length gates → gates_below N j ≡ band_of (N.inputs + j) (get_or gates j d) ++ gates_below N (j + 1)
gate_next N gates j d all b =
    let e : N.inputs + j + 1 ≡ N.inputs + (j + 1) = omega arith in
    let below = map Ends N.outputs in
    ap (λ gs. gate_rows (N.inputs + j) (drop j gs) below) (sym all)
    ∙ ap (λ gs. gate_rows (N.inputs + j) gs below) (drop_next gates j d b)
    ∙ band_first (N.inputs + j) (get_or gates j d) (drop (j + 1) gates) below
    ∙ ap (λ n. band_of (N.inputs + j) (get_or gates j d) ++ gate_rows n (drop (j + 1) gates) below) e
    ∙ ap (λ gs. band_of (N.inputs + j) (get_or gates j d) ++ gate_rows (N.inputs + (j + 1)) (drop (j + 1) gs) below) all

drop_past : {X : Type 0} (xs : List X) (k : ℕ) → length xs ≤ k → drop k xs ≡ []
drop_past [] zero b = refl
drop_past [] (suc k) b = refl
drop_past (x ∷ xs) zero b = absurd (omega (arith, b))
drop_past (x ∷ xs) (suc k) b = drop_past xs k (omega (arith, b))

pub gates_last : (N : NetlistOf) (gates : List Gate) (j : ℕ) → gates ≡ N.gates → length gates ≤ j → gates_below N j ≡ map Ends N.outputs
gates_last N gates j all b =
    ap (λ gs. gate_rows (N.inputs + j) gs (map Ends N.outputs)) (ap (drop j) (sym all) ∙ drop_past gates j b)

-- outputs
pub output_next : (outputs : List ℕ) (k d : ℕ) → k < length outputs → map Ends (drop k outputs) ≡ Ends (get_or outputs k d) ∷ map Ends (drop (k + 1) outputs)
output_next outputs k d b = ap (map Ends) (drop_next outputs k d b)

pub outputs_last : (outputs : List ℕ) (k : ℕ) → length outputs ≤ k → map Ends (drop k outputs) ≡ []
outputs_last outputs k b = ap (map Ends) (drop_past outputs k b)

-- what is left after rows
pub rest_after : (N : NetlistOf) (r m : ℕ) (rows rest : List Row) → drop r (rows_of N) ≡ rows ++ rest → m ≡ r + length rows → drop m (rows_of N) ≡ rest
rest_after N r m rows rest is at = drop_after (rows_of N) rows rest r m is (sym at)

-- a sheet with nothing left has all tiles
pub all_tiles : (d : PlacedOf) (s : Sheet) → IsSheet d s → drop s.row (rows_of d.netlist) ≡ [] → s.tiles.items ≡ tiles_of d.netlist (placement_of d)
all_tiles d s sheet none =
    let past = drop_all (rows_of d.netlist) s.row none in
    let e : s.row ≡ length (rows_of d.netlist) = omega (arith, past, sheet.within) in
    sheet.tiles ∙ ap (λ n. flat_map (tiles_in_row d.netlist (placement_of d)) (range_with_len 0 n)) e

-- the same of one row
pub head_next : (N : NetlistOf) (r : ℕ) (row : Row) (rest : List Row) (line : Line) → drop r (rows_of N) ≡ row ∷ rest → line_of row ≡ line → IsNext N r line
head_next N r row rest line is said = line_next N r r 0 (row ∷ []) row line (are_next N r (row ∷ []) rest is) refl (omega arith) said

pub rest_one : (N : NetlistOf) (r m : ℕ) (row : Row) (rest : List Row) → drop r (rows_of N) ≡ row ∷ rest → m ≡ r + 1 → drop m (rows_of N) ≡ rest
rest_one N r m row rest is at = rest_after N r m (row ∷ []) rest is at
