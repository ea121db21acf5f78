-- The laws of neighbours, for each kind of grid, with and without joined sides.
use Rattle.std.specs.List.{Contains}
use Rattle.std.proofs.Common.{◌≡◌, ℕ, ◌<◌, ◌≤◌, ◌≢◌, true, Option, Some, None, sym, ◌∙◌, ap, subst, inl, inr, arith}
use Rattle.surf_lattice.specs.declared.site.Site.{Site}
use Rattle.surf_lattice.specs.declared.site.GridKind.{GridKind}
use Rattle.surf_lattice.specs.declared.site.GridKind.TheVariants.{Square, Hex}
use Rattle.surf_lattice.specs.Grids.{Grid, IsGrid, degree, shift_x, shift_y, moved, site_from, neighbour, neighbours, IsInside, Adjacent}
use Rattle.surf_lattice.proofs.Moves.{Moves, moves_moved, moved_moves, moves_back, moves_apart, same_shift, shift_x_small, shift_y_small, shifts, opposite, opposite_x, opposite_y, opposite_within, same_direction}
use Rattle.surf_lattice.proofs.Listing.{listed_from, from_listed}

-- q is p moved in direction i
pub record Step (g : Grid) (p : Site) (i : ℕ) (q : Site) : Type 0 where
  pub across : Moves g.wrap g.width p.x (shift_x i) q.x
  pub down : Moves g.wrap g.height p.y (shift_y i) q.y

record Parts (ox oy : Option ℕ) (q : Site) : Type 0 where
  x_is : ox ≡ Some q.x
  y_is : oy ≡ Some q.y

parts : (ox oy : Option ℕ) (q : Site) → site_from ox oy ≡ Some q → Parts ox oy q
parts (Some x) (Some y) q e = let same : record { x = x; y = y } ≡ q = cc in record { x_is = ap (λ (s : Site). Some s.x) same; y_is = ap (λ (s : Site). Some s.y) same }
parts None (Some y) q e = cc
parts (Some x) None q e = cc
parts None None q e = cc

pub step_of : (g : Grid) (p : Site) (i : ℕ) (q : Site) → IsInside g p → neighbour g p i ≡ Some q → Step g p i q
step_of g p i q inside e =
    let s = parts (moved g.wrap g.width p.x (shift_x i)) (moved g.wrap g.height p.y (shift_y i)) q e in
    record {
      across = moved_moves g.wrap g.width p.x (shift_x i) q.x inside.0 (shift_x_small i) s.x_is;
      down = moved_moves g.wrap g.height p.y (shift_y i) q.y inside.1 (shift_y_small i) s.y_is;
    }

pub neighbour_of : (g : Grid) (p : Site) (i : ℕ) (q : Site) → IsInside g p → Step g p i q → neighbour g p i ≡ Some q
neighbour_of g p i q inside s =
    ap (λ u. site_from u (moved g.wrap g.height p.y (shift_y i))) (moves_moved g.wrap g.width p.x (shift_x i) q.x inside.0 (shift_x_small i) s.across)
    ∙ ap (λ v. site_from (Some q.x) v) (moves_moved g.wrap g.height p.y (shift_y i) q.y inside.1 (shift_y_small i) s.down)

-- a neighbour is inside
pub neighbour_inside : (g : Grid) (p : Site) (i : ℕ) (q : Site) → IsInside g p → neighbour g p i ≡ Some q → IsInside g q
neighbour_inside g p i q inside e = let s = step_of g p i q inside e in (s.across.lands, s.down.lands)

pub adjacent_from : (g : Grid) (p : Site) (i : ℕ) (q : Site) → IsInside g p → i < degree g.kind → neighbour g p i ≡ Some q → Adjacent g p q
adjacent_from g p i q inside below e = record { first = inside; second = neighbour_inside g p i q inside e; direction = i; listed = below; moves = e }

-- the way back is the opposite direction
pub neighbour_back : (g : Grid) (p : Site) (i : ℕ) (q : Site) → IsInside g p → neighbour g p i ≡ Some q → neighbour g q (opposite i) ≡ Some p
neighbour_back g p i q inside e =
    let s = step_of g p i q inside e in
    neighbour_of g q (opposite i) p (s.across.lands, s.down.lands) (record {
      across = subst (λ z. Moves g.wrap g.width q.x z p.x) (sym (opposite_x i)) (moves_back g.wrap g.width p.x (shift_x i) q.x inside.0 (shift_x_small i) s.across);
      down = subst (λ z. Moves g.wrap g.height q.y z p.y) (sym (opposite_y i)) (moves_back g.wrap g.height p.y (shift_y i) q.y inside.1 (shift_y_small i) s.down);
    })

pub adjacent_back : (g : Grid) (p q : Site) → Adjacent g p q → Adjacent g q p
adjacent_back g p q a = record {
  first = a.second;
  second = a.first;
  direction = opposite a.direction;
  listed = opposite_within g.kind a.direction a.listed;
  moves = neighbour_back g p a.direction q a.first a.moves;
}

long_x : (g : Grid) → IsGrid g → g.wrap ≡ true → 3 ≤ g.width
long_x g is e = (is.joined e).0

long_y : (g : Grid) → IsGrid g → g.wrap ≡ true → 3 ≤ g.height
long_y g is e = (is.joined e).1

-- a neighbour is another site
pub neighbour_apart : (g : Grid) → IsGrid g → (p : Site) (i : ℕ) → IsInside g p → neighbour g p i ≡ Some p → ⊥
neighbour_apart g is p i inside e =
    let s = step_of g p i p inside e in
    elim (shifts i) [
      | inl h ↦ moves_apart g.wrap g.width p.x (shift_x i) (long_x g is) (shift_x_small i) h s.across
      | inr h ↦ moves_apart g.wrap g.height p.y (shift_y i) (long_y g is) (shift_y_small i) h s.down
    ]

pub adjacent_apart : (g : Grid) → IsGrid g → (p q : Site) → Adjacent g p q → p ≢ q
adjacent_apart g is p q a same = neighbour_apart g is p a.direction a.first (a.moves ∙ ap Some (sym same))

below_six : (kind : GridKind) (i : ℕ) → i < degree kind → i < 6
below_six Square i h = omega arith
below_six Hex i h = h

-- a neighbour stands in one direction
pub one_direction : (g : Grid) → IsGrid g → (p q : Site) (i j : ℕ) → IsInside g p → i < degree g.kind → j < degree g.kind → neighbour g p i ≡ Some q → neighbour g p j ≡ Some q → i ≡ j
one_direction g is p q i j inside a b e f =
    let s = step_of g p i q inside e in
    let t = step_of g p j q inside f in
    let x : shift_x i ≡ shift_x j = same_shift g.wrap g.width p.x (shift_x i) (shift_x j) q.x (long_x g is) (shift_x_small i) (shift_x_small j) s.across t.across in
    let y : shift_y i ≡ shift_y j = same_shift g.wrap g.height p.y (shift_y i) (shift_y j) q.y (long_y g is) (shift_y_small i) (shift_y_small j) s.down t.down in
    same_direction i j (below_six g.kind i a) (below_six g.kind j b) (omega (arith, x, y))

-- other directions, other sites
pub neighbours_apart : (g : Grid) → IsGrid g → (p q r : Site) (i j : ℕ) → IsInside g p → i < degree g.kind → j < degree g.kind → i ≢ j → neighbour g p i ≡ Some q → neighbour g p j ≡ Some r → q ≢ r
neighbours_apart g is p q r i j inside a b other e f same = other (one_direction g is p q i j inside a b e (f ∙ ap Some (sym same)))

-- the listed neighbours are the adjacent sites
pub listed_adjacent : (g : Grid) (p q : Site) → IsInside g p → Contains (neighbours g p) q → Adjacent g p q
listed_adjacent g p q inside c =
    let r = listed_from (neighbour g p) 0 (degree g.kind) q c in
    adjacent_from g p r.number q inside (let h = r.high in omega arith) r.is

pub adjacent_listed : (g : Grid) (p q : Site) → Adjacent g p q → Contains (neighbours g p) q
adjacent_listed g p q a = from_listed (neighbour g p) 0 (degree g.kind) a.direction q (omega arith) (let h = a.listed in omega arith) a.moves
