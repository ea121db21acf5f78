-- The tile at a place of the list of all tiles.
use Rattle.std.proofs.Common.{◌≡◌, ℕ, ◌+◌, ◌*◌, ◌<◌, List, [], ◌∷◌, map, take, length, get_or, sym, ap, ◌∙◌, arith}
use Rattle.std.specs.List.{flat_map, range_with_len}
use Rattle.std.proofs.lemmas.List.{length-append, length-take}
use Rattle.std.proofs.lemmas.List.Concat.{get_or-flat_map}
use Rattle.std.proofs.lemmas.List.FromFn.{length-map-range_with_len, length-range_with_len, get_or-map-range_with_len, get_or-range_with_len}
use Rattle.std.proofs.lemmas.Nat.{mul-add-lt}
use Rattle.std.proofs.Math.Nat.{suc-mul}
use Rattle.surf_tiles.specs.declared.tile.Tile.{Tile}
use Rattle.surf_tiles.specs.Netlists.{NetlistOf}
use Rattle.surf_place.specs.Drawing.{rows_of, Placement, tile_of}
use Rattle.surf_place.specs.Placed.{tiles_of}

-- pieces of one length
pieces_long : {X A : Type 0} (f : X → List A) (n : ℕ) (xs : List X) → ((x : X) → length (f x) ≡ n) → length (flat_map f xs) ≡ length xs * n
pieces_long f n [] same = omega arith
pieces_long f n (x ∷ xs) same =
    let h = pieces_long f n xs same in
    let e = same x in
    let a = length-append (f x) (flat_map f xs) in
    let m = suc-mul (length xs) n in omega (arith, h, e, a, m)

pub record HasTile (N : NetlistOf) (p : Placement) (c r : ℕ) : Type 0 where
  pub within : r * p.columns + c < length (tiles_of N p)
  pub at : (d : Tile) → get_or (tiles_of N p) (r * p.columns + c) d ≡ tile_of N p c r

pub has_tile : (N : NetlistOf) (p : Placement) (c r : ℕ) → c < p.columns → r < length (rows_of N) → HasTile N p c r
has_tile N p c r b h = record {
  within = (let l = pieces_long row p.columns rows row_long in let k = mul-add-lt r p.columns c (length rows) (omega (arith, rows_long, h)) b in omega (arith, l, k));
  at = λ d.
      let l : length (flat_map row (take r rows)) ≡ r * p.columns = pieces_long row p.columns (take r rows) row_long ∙ ap (λ (n : ℕ). n * p.columns) (taken) in
      let e : get_or rows r 0 ≡ r = get_or-range_with_len 0 (length (rows_of N)) r 0 h ∙ (omega arith) in
      ap (λ (n : ℕ). get_or (tiles_of N p) (n + c) d) (sym l)
      ∙ get_or-flat_map row rows r c 0 d (omega (arith, rows_long, h)) (let k = row_long (get_or rows r 0) in omega (arith, k, b))
      ∙ ap (λ (n : ℕ). get_or (row n) c d) e
      ∙ get_or-map-range_with_len (λ x. tile_of N p x r) 0 p.columns c c d b (omega arith);
}
  where
    row : ℕ → List Tile
    row r' = map (λ c'. tile_of N p c' r') (range_with_len 0 p.columns)

    rows : List ℕ
    rows = range_with_len 0 (length (rows_of N))

    row_long : (r' : ℕ) → length (row r') ≡ p.columns
    row_long r' = length-map-range_with_len (λ c'. tile_of N p c' r') 0 p.columns

    rows_long : length rows ≡ length (rows_of N)
    rows_long = length-range_with_len 0 (length (rows_of N))

    taken : length (take r rows) ≡ r
    taken = (let l = length-take r rows in omega (arith, l, rows_long, h))
