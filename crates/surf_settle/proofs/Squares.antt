-- On a square grid without wrap an adjacent site is one step to the west, the east, the north or the south.
use Rattle.std.proofs.Common.{◌≡◌, ℕ, zero, suc, ◌+◌, ◌*◌, ◌<◌, true, false, ◌⊎◌, inl, inr, arith}
use Rattle.surf_lattice.specs.declared.site.Site.{Site}
use Rattle.surf_lattice.specs.Grids.{IsInside, Adjacent, shift_x, shift_y}
use Rattle.surf_lattice.proofs.Moves.{Moves}
use Rattle.surf_lattice.proofs.Neighbours.{step_of, neighbour_of}
use Rattle.surf_settle.specs.Law.{square_grid}

abbrev pub place_of : ℕ → Site → ℕ
place_of width p = p.y * width + p.x

-- q is p moved to the west, the east, the north or the south
abbrev pub IsMoved : Site → Site → Type 0
IsMoved p q =
    (q.x + 1 ≡ p.x) × (q.y ≡ p.y) ⊎ (q.x ≡ p.x + 1) × (q.y ≡ p.y) ⊎ (q.x ≡ p.x) × (q.y + 1 ≡ p.y) ⊎ (q.x ≡ p.x) × (q.y ≡ p.y + 1)

-- two places are near where their sites are adjacent
pub record Near (width height : ℕ) (p q : ℕ) : Type 0 where
  pub first : Site
  pub second : Site
  pub adjacent : Adjacent (square_grid width height) first second
  pub at_first : place_of width first ≡ p
  pub at_second : place_of width second ≡ q

-- on a side without wrap, a shift of 0, 1 or 2 is a step back, none or a step on
abbrev Goes : (side x shift z : ℕ) → Type 0
Goes side x shift z = (z < side) × (suc z ≡ x + shift)

goes : (side x shift z : ℕ) → Moves false side x shift z → Goes side x shift z
goes side x shift z m = (
  m.lands,
  elim m.by [
    | inl e ↦ e
    | inr w ↦ elim w [ inl v ↦ absurd (let f : false ≡ true = v.0 in cc) | inr v ↦ absurd (let f : false ≡ true = v.0 in cc) ]
  ],
)

moved_by : (p q : Site) (i : ℕ) → i < 4 → suc q.x ≡ p.x + shift_x i → suc q.y ≡ p.y + shift_y i → IsMoved p q
moved_by p q zero b ex ey = inl (omega arith, omega arith)
moved_by p q (suc zero) b ex ey = inr (inl (omega arith, omega arith))
moved_by p q (suc (suc zero)) b ex ey = inr (inr (inl (omega arith, omega arith)))
moved_by p q (suc (suc (suc zero))) b ex ey = inr (inr (inr (omega arith, omega arith)))
moved_by p q (suc (suc (suc (suc i)))) b ex ey = absurd (omega (arith, b))

pub adjacent_moved : (width height : ℕ) (p q : Site) → Adjacent (square_grid width height) p q → IsMoved p q
adjacent_moved width height p q a =
    let s = step_of (square_grid width height) p a.direction q a.first a.moves in
    moved_by p q a.direction a.listed (goes width p.x (shift_x a.direction) q.x s.across).1 (goes height p.y (shift_y a.direction) q.y s.down).1

made : (width height : ℕ) (p q : Site) (i : ℕ) → IsInside (square_grid width height) p → IsInside (square_grid width height) q → i < 4 → suc q.x ≡ p.x + shift_x i → suc q.y ≡ p.y + shift_y i → Adjacent (square_grid width height) p q
made width height p q i inside within b ex ey = record {
  first = inside;
  second = within;
  direction = i;
  listed = b;
  moves = neighbour_of (square_grid width height) p i q inside (record { across = record { lands = within.0; by = inl ex }; down = record { lands = within.1; by = inl ey } });
}

pub moved_adjacent : (width height : ℕ) (p q : Site) → IsInside (square_grid width height) p → IsInside (square_grid width height) q → IsMoved p q → Adjacent (square_grid width height) p q
moved_adjacent width height p q inside within m =
    elim m [
      | inl w ↦ made width height p q 0 inside within (omega arith) (omega (arith, w.0)) (omega (arith, w.1))
      | inr m' ↦ elim m' [
        | inl e ↦ made width height p q 1 inside within (omega arith) (omega (arith, e.0)) (omega (arith, e.1))
        | inr m'' ↦ elim m'' [
          | inl n ↦ made width height p q 2 inside within (omega arith) (omega (arith, n.0)) (omega (arith, n.1))
          | inr s ↦ made width height p q 3 inside within (omega arith) (omega (arith, s.0)) (omega (arith, s.1))
        ]
      ]
    ]
