-- The board of a colony keeps the laws of boards.
use Rattle.std.proofs.lemmas.Bool.Decides.{nat_tests}
use Rattle.std.specs.Prelude.{min, if◌then◌else◌, ◌&&◌, ◌||◌, ◌==◌, not, nat_lt, nat_le, Option, None}
use Rattle.std.proofs.Common.{◌≡◌, ℕ, zero, suc, ◌+◌, ◌-◌, ◌*◌, ◌%◌, ◌<◌, ◌≤◌, Bool, true, false, ◌⊎◌, Some, sym, refl, ap, ◌∙◌, subst, inl, inr, arith}
use Rattle.std.proofs.lemmas.Bool.{cases_lt, cases_Bool, lt-ltb, le-leb, ltb-true, leb-true, and_parts, and_from, and_right}
use Rattle.std.proofs.lemmas.Nat.{mod-mul-add, div-mul-add, div-add-mod', mul-add-lt}
use Rattle.surf_lattice.specs.declared.site.Site.{Site}
use Rattle.surf_lattice.specs.declared.site.GridKind.{GridKind}
use Rattle.surf_lattice.specs.declared.site.GridKind.TheVariants.{Square, Hex}
use Rattle.surf_lattice.specs.Grids.{Grid, IsGrid, IsInside, colour, colours, degree, is_coloured, shift_x, shift_y, moved, site_from, neighbour, place, site_at}
use Rattle.surf_lattice.proofs.Moves.{Moves, moves_moved, wrapped, shift_x_small, shift_y_small, opposite, opposite_within}
use Rattle.surf_lattice.proofs.Neighbours.{neighbour_apart, neighbour_back}
use Rattle.surf_lattice.proofs.Colours.{colour_below, neighbour_coloured, one_coloured}
use Rattle.surf_sync.specs.Codes.{beside}
use Rattle.surf_colony.specs.Colonies.{border, framed, in_box}
use Rattle.surf_colony.proofs.Plans.{Board, IsBoard, IsWithin, cells_to}

abbrev pub place_or : Grid → ℕ → Option Site → ℕ
place_or g p None = p
place_or g p (Some t) = place g t

-- the places of the colony of this box
unfoldable pub board_of : Grid → Board
board_of g = record {
  places = (framed g).width * (framed g).height;
  cell = λ p. in_box g (site_at (framed g) p);
  neighbour = λ p i. place_or (framed g) p (neighbour (framed g) (site_at (framed g) p) i);
  colour = λ p. colour (framed g) (site_at (framed g) p);
}

-- a box whose colouring closes
pub record IsBox (g : Grid) : Type 0 where
  pub is_grid : IsGrid g
  pub coloured : is_coloured g ≡ true

coloured_by : (wrap : Bool) (c width height : ℕ) → (not wrap || ((width % c == 0) && (height % c == 0))) ≡ true → (not wrap || (((width + 2 * border wrap) % c == 0) && ((height + 2 * border wrap) % c == 0))) ≡ true
coloured_by true c width height h =
    let a : width + 0 ≡ width = omega arith in
    let b : height + 0 ≡ height = omega arith in
    rw (a, b) h
coloured_by false c width height h = refl

framed_coloured : (g : Grid) → IsBox g → is_coloured (framed g) ≡ true
framed_coloured g is = coloured_by g.wrap (colours g) g.width g.height is.coloured

framed_grid : (g : Grid) → IsBox g → IsGrid (framed g)
framed_grid g is = record {
  wide = let w = is.is_grid.wide in omega arith;
  high = let h = is.is_grid.high in omega arith;
  joined = λ e. let j = is.is_grid.joined e in let a = j.0 in let b = j.1 in (omega arith, omega arith);
}

pub record InBox (g : Grid) (s : Site) : Type 0 where
  pub x_low : border g.wrap ≤ s.x
  pub x_high : s.x < g.width + border g.wrap
  pub y_low : border g.wrap ≤ s.y
  pub y_high : s.y < g.height + border g.wrap

pub box_from : (g : Grid) (s : Site) → in_box g s ≡ true → InBox g s
box_from g s e =
    let w = and_parts _ _ e in
    let u = and_parts _ _ w.0 in
    let v = and_parts _ _ w.1 in
    record { x_low = leb-true _ _ u.0; x_high = ltb-true _ _ u.1; y_low = leb-true _ _ v.0; y_high = ltb-true _ _ v.1 }

pub box_to : (g : Grid) (s : Site) → InBox g s → in_box g s ≡ true
box_to g s b = and_from _ _ (and_from _ _ (le-leb _ _ b.x_low) (lt-ltb _ _ b.x_high)) (and_from _ _ (le-leb _ _ b.y_low) (lt-ltb _ _ b.y_high))

pub site-place : (g : Grid) (s : Site) → s.x < g.width → site_at g (place g s) ≡ s
site-place g s h = rw (mod-mul-add s.y g.width s.x h, div-mul-add s.y g.width s.x h) refl

pub place-site : (g : Grid) (p : ℕ) → place g (site_at g p) ≡ p
place-site g p = div-add-mod' p g.width

goes : (wrap : Bool) (width x shift : ℕ) → border wrap ≤ x → x < width + border wrap → shift ≤ 2 → (z : ℕ) × Moves wrap (width + 2 * border wrap) x shift z
goes true width x shift low high two = wrapped (width + 0) x shift high two
goes false width x shift low high two = (x + shift - 1, record { lands = omega arith; by = inl (omega arith) })

some_colours : (kind : GridKind) → 3 ≤ degree kind
some_colours kind = elim kind as (λ k. 3 ≤ degree k) [ Square ↦ omega arith | Hex ↦ omega arith ]

pub record Next (g : Grid) (s : Site) (i : ℕ) : Type 0 where
  pub site : Site
  pub across : Moves g.wrap (framed g).width s.x (shift_x i) site.x
  pub down : Moves g.wrap (framed g).height s.y (shift_y i) site.y
  pub is : neighbour (framed g) s i ≡ Some site

pub moves_neighbour : (g : Grid) (s t : Site) (i : ℕ) → s.x < (framed g).width → s.y < (framed g).height → Moves g.wrap (framed g).width s.x (shift_x i) t.x → Moves g.wrap (framed g).height s.y (shift_y i) t.y → neighbour (framed g) s i ≡ Some t
moves_neighbour g s t i a b m n =
    ap (λ u. site_from u (moved g.wrap (framed g).height s.y (shift_y i))) (moves_moved g.wrap (framed g).width s.x (shift_x i) t.x a (shift_x_small i) m)
    ∙ ap (λ v. site_from (Some t.x) v) (moves_moved g.wrap (framed g).height s.y (shift_y i) t.y b (shift_y_small i) n)

pub next_of : (g : Grid) (s : Site) → InBox g s → (i : ℕ) → Next g s i
next_of g s b i =
    let m = goes g.wrap g.width s.x (shift_x i) b.x_low b.x_high (shift_x_small i) in
    let n = goes g.wrap g.height s.y (shift_y i) b.y_low b.y_high (shift_y_small i) in
    let t : Site = record { x = m.0; y = n.0 } in
    record {
      site = t;
      across = m.1;
      down = n.1;
      is = moves_neighbour g s t i (let h = b.x_high in omega arith) (let h = b.y_high in omega arith) m.1 n.1;
    }

-- the neighbour of a cell, as a place
pub surface_next : (g : Grid) (p i : ℕ) (n : Next g (site_at (framed g) p) i) → (board_of g).neighbour p i ≡ place (framed g) n.site
unfolding board_of
surface_next g p i n = ap (place_or (framed g) p) n.is

pub cell_in_box : (g : Grid) (p : ℕ) → (board_of g).cell p ≡ true → InBox g (site_at (framed g) p)
unfolding board_of
cell_in_box g p h = box_from g (site_at (framed g) p) h

pub site_within : (g : Grid) (s : Site) → s.x < (framed g).width → s.y < (framed g).height → place (framed g) s < (framed g).width * (framed g).height
site_within g s a b = mul-add-lt s.y (framed g).width s.x (framed g).height b a

pub inside_of : (g : Grid) (s : Site) → InBox g s → IsInside (framed g) s
inside_of g s b = let x = b.x_high in let y = b.y_high in (omega arith, omega arith)

pub is_board : (g : Grid) → IsBox g → IsBoard (degree g.kind) (board_of g)
unfolding board_of beside
is_board g is = record {
  some_direction = let s = some_colours g.kind in omega arith;
  within = λ p cell.
      let b = inside_of g (site_at (framed g) p) (cell_in_box g p cell) in
      subst (λ q. q < (framed g).width * (framed g).height) (place-site (framed g) p) (site_within g (site_at (framed g) p) b.0 b.1);
  inside = λ p i cell below.
      let n = next_of g (site_at (framed g) p) (cell_in_box g p cell) i in
      subst (λ q. q < (framed g).width * (framed g).height) (sym (surface_next g p i n)) (site_within g n.site n.across.lands n.down.lands);
  apart = λ p i cell below same.
      let s : Site = site_at (framed g) p in
      let b = cell_in_box g p cell in
      let n = next_of g s b i in
      let e : n.site ≡ s = sym (site-place (framed g) n.site n.across.lands) ∙ ap (site_at (framed g)) (sym (surface_next g p i n) ∙ same) in
      neighbour_apart (framed g) (framed_grid g is) s i (inside_of g s b) (n.is ∙ ap (λ (t : Site). Some t) e);
  back = λ p i cell below there.
      let s : Site = site_at (framed g) p in
      let b = cell_in_box g p cell in
      let n = next_of g s b i in
      let e = surface_next g p i n in
      let t : site_at (framed g) (place (framed g) n.site) ≡ n.site = site-place (framed g) n.site n.across.lands in
      let m : neighbour (framed g) n.site (opposite i) ≡ Some s = neighbour_back (framed g) s i n.site (inside_of g s b) n.is in (
        opposite i,
        opposite_within g.kind i below,
        ap (λ q. (board_of g).neighbour q (opposite i)) e
            ∙ ap (λ u. place_or (framed g) (place (framed g) n.site) (neighbour (framed g) u (opposite i))) t
            ∙ ap (place_or (framed g) (place (framed g) n.site)) m
            ∙ place-site (framed g) p,
      );
  in_colours = λ p. colour_below (framed g) (site_at (framed g) p);
  coloured = λ p i cell below.
      let b = cell_in_box g p cell in
      let n = next_of g (site_at (framed g) p) b i in
      ap (λ q. colour (framed g) (site_at (framed g) q)) (surface_next g p i n)
      ∙ ap (colour (framed g)) (site-place (framed g) n.site n.across.lands)
      ∙ neighbour_coloured (framed g) (framed_coloured g is) (site_at (framed g) p) n.site i (inside_of g (site_at (framed g) p) b) n.is;
  one_direction = λ k i j known a b e. one_coloured (framed g) k i j a b e;
}

-- ---- how far two cells are apart

-- f falls by at most one from a cell to its neighbour
abbrev Gentle : Grid → (ℕ → ℕ) → Type 0
Gentle g f = (p i : ℕ) → (board_of g).cell p ≡ true → i < degree g.kind → (board_of g).cell ((board_of g).neighbour p i) ≡ true → f p ≤ suc (f ((board_of g).neighbour p i))

pub cell_at : (g : Grid) (s : Site) → InBox g s → (board_of g).cell (place (framed g) s) ≡ true
unfolding board_of
cell_at g s b = ap (in_box g) (site-place (framed g) s (let h = b.x_high in omega arith)) ∙ box_to g s b

gentle_step : (g : Grid) (f : ℕ → ℕ) → Gentle g f → (s t : Site) → InBox g s → InBox g t → (i : ℕ) → i < 4 → suc t.x ≡ s.x + shift_x i → suc t.y ≡ s.y + shift_y i → f (place (framed g) s) ≤ suc (f (place (framed g) t))
unfolding board_of
gentle_step g f soft s t a b i four ex ey =
    let x : s.x < (framed g).width = (let h = a.x_high in omega arith) in
    let y : s.y < (framed g).height = (let h = a.y_high in omega arith) in
    let tx : t.x < (framed g).width = (let h = b.x_high in omega arith) in
    let ty : t.y < (framed g).height = (let h = b.y_high in omega arith) in
    let n : neighbour (framed g) s i ≡ Some t = moves_neighbour g s t i x y (record { lands = tx; by = inl ex }) (record { lands = ty; by = inl ey }) in
    let at : site_at (framed g) (place (framed g) s) ≡ s = site-place (framed g) s x in
    let e : (board_of g).neighbour (place (framed g) s) i ≡ place (framed g) t =
    ap (λ u. place_or (framed g) (place (framed g) s) (neighbour (framed g) u i)) at ∙ ap (place_or (framed g) (place (framed g) s)) n in
    let below : i < degree g.kind = elim g.kind as (λ k. i < degree k) [ Square ↦ omega arith | Hex ↦ omega arith ] in
    subst (λ q. f (place (framed g) s) ≤ suc (f q)) e
    (soft (place (framed g) s) i (cell_at g s a) below (subst (λ q. (board_of g).cell q ≡ true) (sym e) (cell_at g t b)))

abbrev at : ℕ → ℕ → Site
at x y = record { x = x; y = y }

walk_x : (g : Grid) (f : ℕ → ℕ) → Gentle g f → (n x y : ℕ) → InBox g (at x y) → InBox g (at (x + n) y) → (f (place (framed g) (at (x + n) y)) ≤ f (place (framed g) (at x y)) + n) × (f (place (framed g) (at x y)) ≤ f (place (framed g) (at (x + n) y)) + n)
walk_x g f soft zero x y a b =
    let e : x + 0 ≡ x = omega arith in
    rw e (omega arith)
walk_x g f soft (suc n) x y a b =
    let low = a.x_low in
    let high = b.x_high in
    let mid : InBox g (at (x + n) y) = record { x_low = omega arith; x_high = omega arith; y_low = a.y_low; y_high = a.y_high } in
    let i = walk_x g f soft n x y a mid in
    let west : f (place (framed g) (at (x + suc n) y)) ≤ suc (f (place (framed g) (at (x + n) y))) = gentle_step g f soft (at (x + suc n) y) (at (x + n) y) b mid 0 (omega arith) (omega arith) (omega arith) in
    let east : f (place (framed g) (at (x + n) y)) ≤ suc (f (place (framed g) (at (x + suc n) y))) = gentle_step g f soft (at (x + n) y) (at (x + suc n) y) mid b 1 (omega arith) (omega arith) (omega arith) in
    let i0 = i.0 in
    let i1 = i.1 in
    (omega arith, omega arith)

walk_y : (g : Grid) (f : ℕ → ℕ) → Gentle g f → (n x y : ℕ) → InBox g (at x y) → InBox g (at x (y + n)) → (f (place (framed g) (at x (y + n))) ≤ f (place (framed g) (at x y)) + n) × (f (place (framed g) (at x y)) ≤ f (place (framed g) (at x (y + n))) + n)
walk_y g f soft zero x y a b =
    let e : y + 0 ≡ y = omega arith in
    rw e (omega arith)
walk_y g f soft (suc n) x y a b =
    let low = a.y_low in
    let high = b.y_high in
    let mid : InBox g (at x (y + n)) = record { x_low = a.x_low; x_high = a.x_high; y_low = omega arith; y_high = omega arith } in
    let i = walk_y g f soft n x y a mid in
    let north : f (place (framed g) (at x (y + suc n))) ≤ suc (f (place (framed g) (at x (y + n)))) = gentle_step g f soft (at x (y + suc n)) (at x (y + n)) b mid 2 (omega arith) (omega arith) (omega arith) in
    let south : f (place (framed g) (at x (y + n))) ≤ suc (f (place (framed g) (at x (y + suc n)))) = gentle_step g f soft (at x (y + n)) (at x (y + suc n)) mid b 3 (omega arith) (omega arith) (omega arith) in
    let i0 = i.0 in
    let i1 = i.1 in
    (omega arith, omega arith)

gap_x : (g : Grid) (f : ℕ → ℕ) → Gentle g f → (x z y : ℕ) → InBox g (at x y) → InBox g (at z y) → f (place (framed g) (at x y)) ≤ f (place (framed g) (at z y)) + (g.width - 1)
gap_x g f soft x z y a b =
    let al = a.x_low in
    let ah = a.x_high in
    let bl = b.x_low in
    let bh = b.x_high in
    elim (cases_lt x z) [
      | inl l ↦
          let e : x + (z - x) ≡ z = omega arith in
          let w = (walk_x g f soft (z - x) x y a (subst (λ u. InBox g (at u y)) (sym e) b)).1 in
          let v : f (place (framed g) (at x y)) ≤ f (place (framed g) (at z y)) + (z - x) = subst (λ u. f (place (framed g) (at x y)) ≤ f (place (framed g) (at u y)) + (z - x)) e w in
          omega arith
      | inr l ↦
          let e : z + (x - z) ≡ x = omega arith in
          let w = (walk_x g f soft (x - z) z y b (subst (λ u. InBox g (at u y)) (sym e) a)).0 in
          let v : f (place (framed g) (at x y)) ≤ f (place (framed g) (at z y)) + (x - z) = subst (λ u. f (place (framed g) (at u y)) ≤ f (place (framed g) (at z y)) + (x - z)) e w in
          omega arith
    ]

gap_y : (g : Grid) (f : ℕ → ℕ) → Gentle g f → (x y z : ℕ) → InBox g (at x y) → InBox g (at x z) → f (place (framed g) (at x y)) ≤ f (place (framed g) (at x z)) + (g.height - 1)
gap_y g f soft x y z a b =
    let al = a.y_low in
    let ah = a.y_high in
    let bl = b.y_low in
    let bh = b.y_high in
    elim (cases_lt y z) [
      | inl l ↦
          let e : y + (z - y) ≡ z = omega arith in
          let w = (walk_y g f soft (z - y) x y a (subst (λ u. InBox g (at x u)) (sym e) b)).1 in
          let v : f (place (framed g) (at x y)) ≤ f (place (framed g) (at x z)) + (z - y) = subst (λ u. f (place (framed g) (at x y)) ≤ f (place (framed g) (at x u)) + (z - y)) e w in
          omega arith
      | inr l ↦
          let e : z + (y - z) ≡ y = omega arith in
          let w = (walk_y g f soft (y - z) x z b (subst (λ u. InBox g (at x u)) (sym e) a)).0 in
          let v : f (place (framed g) (at x y)) ≤ f (place (framed g) (at x z)) + (y - z) = subst (λ u. f (place (framed g) (at x u)) ≤ f (place (framed g) (at x z)) + (y - z)) e w in
          omega arith
    ]

pub is_within : (g : Grid) → IsBox g → IsWithin (degree g.kind) (board_of g) (g.width + g.height - 2)
is_within g is f gentle p q own other =
    let s : Site = site_at (framed g) p in
    let t : Site = site_at (framed g) q in
    let a = cell_in_box g p own in
    let b = cell_in_box g q other in
    let mid : InBox g (at t.x s.y) = record { x_low = b.x_low; x_high = b.x_high; y_low = a.y_low; y_high = a.y_high } in
    let u : f (place (framed g) (at s.x s.y)) ≤ f (place (framed g) (at t.x s.y)) + (g.width - 1) = gap_x g f gentle s.x t.x s.y a mid in
    let v : f (place (framed g) (at t.x s.y)) ≤ f (place (framed g) (at t.x t.y)) + (g.height - 1) = gap_y g f gentle t.x s.y t.y mid b in
    let w : f (place (framed g) s) ≤ f (place (framed g) t) + (g.width + g.height - 2) = (let x = is.is_grid.wide in let y = is.is_grid.high in omega arith) in
    subst (λ z. f z ≤ f q + (g.width + g.height - 2)) (place-site (framed g) p) (subst (λ z. f (place (framed g) s) ≤ f z + (g.width + g.height - 2)) (place-site (framed g) q) w)

-- ---- how many cells there are

row_count : ℕ → ℕ → Bool → ℕ → ℕ
row_count width b row n = if row then min n (width + b) - b else 0

in_rows : Grid → ℕ → Bool
in_rows g r = nat_le (border g.wrap) r && nat_lt r (g.height + border g.wrap)

in_columns : Grid → ℕ → Bool
in_columns g x = nat_le (border g.wrap) x && nat_lt x (g.width + border g.wrap)

cell_is : (g : Grid) (r n : ℕ) → n < (framed g).width → (board_of g).cell (r * (framed g).width + n) ≡ (in_columns g n && in_rows g r)
unfolding board_of in_rows in_columns
cell_is g r n h = ap (in_box g) (site-place (framed g) (at n r) h)

column_cases : (b n width : ℕ) → ((nat_le b n && nat_lt n (width + b)) ≡ true) × (min (suc n) (width + b) - b ≡ 1 + (min n (width + b) - b)) ⊎ ((nat_le b n && nat_lt n (width + b)) ≡ false) × (min (suc n) (width + b) - b ≡ min n (width + b) - b)
column_cases b n width = grind (arith, nat_tests)

-- one column more
one_more : (g : Grid) (r n : ℕ) → (if in_columns g n && in_rows g r then 1 else 0) + row_count g.width (border g.wrap) (in_rows g r) n ≡ row_count g.width (border g.wrap) (in_rows g r) (suc n)
unfolding row_count in_columns
one_more g r n = elim (cases_Bool (in_rows g r)) [
  | inl e ↦ rw e (elim (column_cases (border g.wrap) n g.width) [
    | inl w ↦ rw (w.0) (let v = w.1 in omega arith)
    | inr w ↦ rw (w.0) (let v = w.1 in omega arith)
  ])
  | inr e ↦ rw (e, and_right (in_columns g n) false refl) refl
]

row_none : (g : Grid) (r : ℕ) → row_count g.width (border g.wrap) (in_rows g r) 0 ≡ 0
unfolding row_count
row_none g r = elim (cases_Bool (in_rows g r)) [ inl e ↦ rw e (omega arith) | inr e ↦ rw e refl ]

row_cells : (g : Grid) (r n : ℕ) → n ≤ (framed g).width → cells_to (board_of g) (r * (framed g).width + n) ≡ row_count g.width (border g.wrap) (in_rows g r) n + cells_to (board_of g) (r * (framed g).width)
row_cells g r zero h =
    let e : r * (framed g).width + 0 ≡ r * (framed g).width = omega arith in
    ap (cells_to (board_of g)) e ∙ (let z = row_none g r in omega arith)
row_cells g r (suc n) h =
    let e : r * (framed g).width + suc n ≡ suc (r * (framed g).width + n) = omega arith in
    let i = row_cells g r n (omega arith) in
    let m = one_more g r n in
    let c : if◌then◌else◌ {A = ℕ} ((board_of g).cell (r * (framed g).width + n)) 1 0 ≡ if◌then◌else◌ {A = ℕ} (in_columns g n && in_rows g r) 1 0 = ap (λ (b : Bool). if◌then◌else◌ {A = ℕ} b 1 0) (cell_is g r n h) in
    let d : cells_to (board_of g) (suc (r * (framed g).width + n)) ≡ (if (board_of g).cell (r * (framed g).width + n) then 1 else 0) + cells_to (board_of g) (r * (framed g).width + n) = refl in
    ap (cells_to (board_of g)) e ∙ d ∙ (omega arith)

row_all : (g : Grid) (r : ℕ) → row_count g.width (border g.wrap) (in_rows g r) (framed g).width ≡ (if in_rows g r then g.width else 0)
unfolding row_count
row_all g r = elim (cases_Bool (in_rows g r)) [ inl e ↦ rw e (omega arith) | inr e ↦ rw e refl ]

rows_cells : (g : Grid) (r : ℕ) → r ≤ (framed g).height → cells_to (board_of g) (r * (framed g).width) ≡ (min r (g.height + border g.wrap) - border g.wrap) * g.width
unfolding in_rows
rows_cells g zero h =
    let e : 0 * (framed g).width ≡ 0 = omega arith in
    let z : min 0 (g.height + border g.wrap) - border g.wrap ≡ 0 = omega arith in
    rw (e, z) (omega arith)
rows_cells g (suc r) h =
    let e : suc r * (framed g).width ≡ r * (framed g).width + (framed g).width = omega arith in
    let i = rows_cells g r (omega arith) in
    let a = row_all g r in
    let c = row_cells g r (framed g).width (omega arith) in
    ap (cells_to (board_of g)) e ∙ c ∙ elim (column_cases (border g.wrap) r g.height) [
      | inl w ↦
          let v : min (suc r) (g.height + border g.wrap) - border g.wrap ≡ 1 + (min r (g.height + border g.wrap) - border g.wrap) = w.1 in
          let t : (if in_rows g r then g.width else 0) ≡ g.width = ap (λ b. if b then g.width else 0) w.0 in
          rw v (omega arith)
      | inr w ↦
          let v : min (suc r) (g.height + border g.wrap) - border g.wrap ≡ min r (g.height + border g.wrap) - border g.wrap = w.1 in
          let t : (if in_rows g r then g.width else 0) ≡ 0 = ap (λ b. if b then g.width else 0) w.0 in
          rw v (omega arith)
    ]

pub count_cells : (g : Grid) → cells_to (board_of g) (board_of g).places ≡ g.width * g.height
unfolding board_of
count_cells g =
    let e : (framed g).width * (framed g).height ≡ (framed g).height * (framed g).width = omega arith in
    let r = rows_cells g (framed g).height (omega arith) in
    let h : min (framed g).height (g.height + border g.wrap) - border g.wrap ≡ g.height = omega arith in
    let p : g.height * g.width ≡ g.width * g.height = omega arith in
    ap (cells_to (board_of g)) e ∙ r ∙ rw h p

-- a board has a cell
pub some_cell_of : (g : Grid) → IsBox g → (p : ℕ) × ((board_of g).cell p ≡ true)
some_cell_of g is =
    let s : Site = at (border g.wrap) (border g.wrap) in
    let a = is.is_grid.wide in
    let b = is.is_grid.high in
    (place (framed g) s, cell_at g s (record { x_low = omega arith; x_high = omega arith; y_low = omega arith; y_high = omega arith }))

pub place_within : (g : Grid) (s : Site) → s.x < (framed g).width → s.y < (framed g).height → place (framed g) s < (board_of g).places
unfolding board_of
place_within g s a b = site_within g s a b
