-- The kinds of sites, made tile by tile.
use Rattle.std.proofs.Common.{◌≡◌, ℕ, zero, suc, ◌+◌, ◌*◌, ◌/◌, ◌%◌, ◌<◌, List, [], ◌∷◌, ◌++◌, map, length, get_or, refl, sym, ap, ◌∙◌, subst, arith, append_assoc}
use Rattle.std.specs.List.{range_with_len}
use Rattle.std.proofs.lemmas.List.FromFn.{map-range_with_len_more}
use Rattle.std.proofs.lemmas.Nat.{div-mul-add, mod-mul-add}
use Rattle.std.proofs.Math.Nat.{mul_comm}
use Rattle.surf_tiles.specs.declared.kind.Kind.{Kind}
use Rattle.surf_tiles.specs.declared.tile.Tile.{Tile}
use Rattle.surf_tiles.specs.Tiles.{columns_of, kind_in, sites_of, spot_of}
use Rattle.surf_place.specs.Drawing.{tile_of, rows_of}
use Rattle.surf_place.specs.Placed.{PlacedOf, placement_of}
use Rattle.surf_route.specs.Sealed.{kind_drawn}
use Rattle.surf_route.specs.Sealing.{AreKinds, line_start, width_of}

map_three : {X : Type 0} (f : ℕ → X) (n : ℕ) → map f (range_with_len 0 (n + 3)) ≡ map f (range_with_len 0 n) ++ f n ∷ f (n + 1) ∷ f (n + 2) ∷ []
map_three f n =
    let a : n + 3 ≡ n + 2 + 1 = omega arith in
    let b : n + 2 ≡ n + 1 + 1 = omega arith in
    ap (λ k. map f (range_with_len 0 k)) a ∙ map-range_with_len_more f 0 (n + 2) (n + 2) (omega arith)
    ∙ ap (λ xs. xs ++ f (n + 2) ∷ []) (ap (λ k. map f (range_with_len 0 k)) b ∙ map-range_with_len_more f 0 (n + 1) (n + 1) (omega arith)
    ∙ ap (λ xs. xs ++ f (n + 1) ∷ []) (map-range_with_len_more f 0 n n (omega arith)))
    ∙ ap (λ xs. xs ++ f (n + 2) ∷ []) (append_assoc (map f (range_with_len 0 n)) (f n ∷ []) (f (n + 1) ∷ []))
    ∙ append_assoc (map f (range_with_len 0 n)) (f n ∷ f (n + 1) ∷ []) (f (n + 2) ∷ [])

-- the kind of a site by its tile
kind_there : (d : PlacedOf) (row y column x n : ℕ) → column < (placement_of d).columns → y < 3 → x < 3 → n ≡ line_start d row y + (3 * column + x) →
    kind_drawn d.netlist (placement_of d) (width_of d) n ≡ kind_in (tile_of d.netlist (placement_of d) column row) (spot_of x y)
kind_there d row y column x n b c e is =
    let w = width_of d in
    let low : 3 * column + x < w = omega (arith, b, e) in
    let at : n ≡ (3 * row + y) * w + (3 * column + x) = is ∙ ap (λ k. k + (3 * column + x)) (mul_comm w (3 * row + y)) in
    let across : n % w ≡ 3 * column + x = ap (λ k. k % w) at ∙ mod-mul-add (3 * row + y) w (3 * column + x) low in
    let down : n / w ≡ 3 * row + y = ap (λ k. k / w) at ∙ div-mul-add (3 * row + y) w (3 * column + x) low in
    by_parts d (n % w) (n / w) row y column x across down c e
  where
    by_parts : (d : PlacedOf) (u v row y column x : ℕ) → u ≡ 3 * column + x → v ≡ 3 * row + y → y < 3 → x < 3 →
        kind_in (tile_of d.netlist (placement_of d) (u / 3) (v / 3)) (spot_of (u % 3) (v % 3)) ≡ kind_in (tile_of d.netlist (placement_of d) column row) (spot_of x y)
    by_parts d u v row y column x eu ev c e =
        let p : u / 3 ≡ column = omega (arith, eu, e) in
        let q : v / 3 ≡ row = omega (arith, ev, c) in
        let s : u % 3 ≡ x = omega (arith, eu, e) in
        let t : v % 3 ≡ y = omega (arith, ev, c) in
        rw (p, q, s, t) refl

row_of_sites : (t : Tile) (y : ℕ) (d : List Kind) → y < 3 → get_or (sites_of t) y d ≡ columns_of t y
row_of_sites t zero d b = refl
row_of_sites t (suc zero) d b = refl
row_of_sites t (suc (suc zero)) d b = refl
row_of_sites t (suc (suc (suc y))) d b = absurd (omega (arith, b))

-- one more tile's row of sites
pub kinds_more : (d : PlacedOf) (row y column : ℕ) (done three new : List Kind) → column < (placement_of d).columns → y < 3 → AreKinds d (line_start d row y + 3 * column) done → new ≡ done ++ three →
    three ≡ columns_of (tile_of d.netlist (placement_of d) column row) y → AreKinds d (line_start d row y + 3 * (column + 1)) new
kinds_more d row y column done three new b c so_far put is =
    let f = kind_drawn d.netlist (placement_of d) (width_of d) in
    let n = line_start d row y + 3 * column in
    let e : line_start d row y + 3 * (column + 1) ≡ n + 3 = omega arith in
    let first = kind_there d row y column 0 n b c (omega arith) (omega arith) in
    let second = kind_there d row y column 1 (n + 1) b c (omega arith) (omega arith) in
    let third = kind_there d row y column 2 (n + 2) b c (omega arith) (omega arith) in
    let all : three ≡ f n ∷ f (n + 1) ∷ f (n + 2) ∷ [] = is ∙ sym (cc (first, second, third)) in
    put ∙ ap (λ ks. ks ++ three) so_far ∙ ap (λ ks. map f (range_with_len 0 n) ++ ks) all ∙ sym (map_three f n) ∙ ap (λ k. map f (range_with_len 0 k)) (sym e)

pub kinds_at : (d : PlacedOf) (m n : ℕ) (ks : List Kind) → AreKinds d m ks → m ≡ n → AreKinds d n ks
kinds_at d m n ks h e = subst (λ k. AreKinds d k ks) e h

pub tile_row : (t : Tile) (y : ℕ) (d : List Kind) → y < 3 → get_or (sites_of t) y d ≡ columns_of t y
tile_row t y d b = row_of_sites t y d b

-- where rows of sites begin
pub next_line : (d : PlacedOf) (row y : ℕ) → line_start d row y + 3 * (placement_of d).columns ≡ line_start d row (y + 1)
next_line d row y = go (width_of d) (3 * row + y) (3 * row + (y + 1)) (omega arith)
  where
    go : (w a b : ℕ) → b ≡ a + 1 → w * a + w ≡ w * b
    go w a b e = rw e (grind arith)

pub next_row : (d : PlacedOf) (row : ℕ) → line_start d row 3 ≡ line_start d (row + 1) 0
next_row d row = let e : 3 * row + 3 ≡ 3 * (row + 1) + 0 = omega arith in ap (λ k. width_of d * k) e

pub no_line : (d : PlacedOf) → line_start d 0 0 ≡ 0
no_line d = omega arith

pub all_lines : (d : PlacedOf) → line_start d (length (rows_of d.netlist)) 0 ≡ 3 * (placement_of d).columns * (3 * length (rows_of d.netlist))
all_lines d = omega arith
