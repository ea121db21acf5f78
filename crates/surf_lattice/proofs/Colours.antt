-- The laws of colours.
use Rattle.std.specs.Prelude.{not, ◌||◌, ◌&&◌, ◌==◌}
use Rattle.std.proofs.Common.{◌≡◌, ℕ, zero, suc, ◌+◌, ◌-◌, ◌*◌, ◌/◌, ◌%◌, ◌<◌, ◌≤◌, ◌≢◌, Bool, true, false, Some, sym, ◌∙◌, ap, inl, inr, arith}
use Rattle.std.proofs.lemmas.Bool.{and_parts, eqb-true}
use Rattle.std.proofs.lemmas.Nat.{div-add-mod', mod_below}
use Rattle.std.proofs.Math.Nat.{mod-add-mod}
use Rattle.surf_lattice.specs.declared.site.Site.{Site}
use Rattle.surf_lattice.specs.declared.site.GridKind.{GridKind}
use Rattle.surf_lattice.specs.declared.site.GridKind.TheVariants.{Square, Hex}
use Rattle.surf_lattice.specs.Grids.{Grid, degree, shift_x, shift_y, neighbour, IsInside, Adjacent, colours, colour, difference, is_coloured}
use Rattle.surf_lattice.specs.Laws.{IsNear}
use Rattle.surf_lattice.proofs.Moves.{moves_modulo, same_modulo, same_from_modulo, shift_x_small, shift_y_small, same_direction}
use Rattle.surf_lattice.proofs.Neighbours.{step_of, adjacent_back}

eq_from : (a b : ℕ) → (a == b) ≡ true → a ≡ b
eq_from a b e = eqb-true a b e

multiple : (n m : ℕ) → (n % m == 0) ≡ true → (q : ℕ) × (n ≡ m * q)
multiple n m e = let d : n / m * m + n % m ≡ n = div-add-mod' n m in let z : n % m ≡ 0 = eq_from (n % m) 0 e in (n / m, omega (arith, d, z))

record Whole (g : Grid) : Type 0 where
  wide : g.wrap ≡ true → (q : ℕ) × (g.width ≡ colours g * q)
  high : g.wrap ≡ true → (q : ℕ) × (g.height ≡ colours g * q)

either_part : (wrap a b : Bool) → (not wrap || (a && b)) ≡ true → wrap ≡ true → (a ≡ true) × (b ≡ true)
either_part true a b e w = and_parts a b e
either_part false a b e w = cc

whole : (g : Grid) → is_coloured g ≡ true → Whole g
whole g is = record {
  wide = λ w. multiple g.width (colours g) (either_part g.wrap (g.width % colours g == 0) (g.height % colours g == 0) is w).0;
  high = λ w. multiple g.height (colours g) (either_part g.wrap (g.width % colours g == 0) (g.height % colours g == 0) is w).1;
}

some_degree : (kind : GridKind) → 3 ≤ degree kind
some_degree Square = omega arith
some_degree Hex = omega arith

pub colour_below : (g : Grid) (p : Site) → colour g p < colours g
colour_below g p = mod_below _ _ (omega arith)

-- the colour of the neighbour in a direction
pub neighbour_coloured : (g : Grid) → is_coloured g ≡ true → (p q : Site) (i : ℕ) → IsInside g p → neighbour g p i ≡ Some q → colour g q ≡ (colour g p + difference g i) % colours g
neighbour_coloured g is p q i inside e =
    let s = step_of g p i q inside e in
    let w = whole g is in
    let some : 3 ≤ degree g.kind = some_degree g.kind in
    let u = moves_modulo (suc (degree g.kind)) g.wrap g.width p.x (shift_x i) q.x w.wide s.across in
    let v = moves_modulo (suc (degree g.kind)) g.wrap g.height p.y (shift_y i) q.y w.high s.down in
    let eu : suc q.x + suc (degree g.kind) * u.0 ≡ p.x + shift_x i + suc (degree g.kind) * u.1 = u.2 in
    let ev : suc q.y + suc (degree g.kind) * v.0 ≡ p.y + shift_y i + suc (degree g.kind) * v.1 = v.2 in
    same_modulo (suc (degree g.kind)) (q.x + 2 * q.y) (p.x + 2 * p.y + difference g i) (u.0 + 2 * v.0 + 1) (u.1 + 2 * v.1) (omega arith)
    ∙ sym (mod-add-mod (p.x + 2 * p.y) (suc (degree g.kind)) (difference g i))

narrow : (i : ℕ) → i < 4 → (1 ≤ shift_x i + 2 * shift_y i) × (shift_x i + 2 * shift_y i ≤ 5)
narrow zero h = omega arith
narrow (suc zero) h = omega arith
narrow (suc (suc zero)) h = omega arith
narrow (suc (suc (suc zero))) h = omega arith
narrow (suc (suc (suc (suc n)))) h = absurd (omega arith)

abbrev added : GridKind → ℕ → ℕ
added kind i = suc (degree kind) + shift_x i + 2 * shift_y i - 3

one_way : (kind : GridKind) (k i j : ℕ) → i < degree kind → j < degree kind → (k + added kind i) % suc (degree kind) ≡ (k + added kind j) % suc (degree kind) → i ≡ j
one_way Hex k i j a b e =
    let xi = shift_x_small i in
    let yi = shift_y_small i in
    let xj = shift_x_small j in
    let yj = shift_y_small j in
    let s : k + added Hex i ≡ k + added Hex j = same_from_modulo 7 (k + added Hex i) (k + added Hex j) (omega arith) (omega arith) e in
    same_direction i j a b (omega arith)
one_way Square k i j a b e =
    let xi = narrow i a in
    let xj = narrow j b in
    let s : k + added Square i ≡ k + added Square j = same_from_modulo 5 (k + added Square i) (k + added Square j) (omega arith) (omega arith) e in
    same_direction i j (omega arith) (omega arith) (omega arith)

-- different directions lead to different colours
pub one_coloured : (g : Grid) (k i j : ℕ) → i < degree g.kind → j < degree g.kind → (k + difference g i) % colours g ≡ (k + difference g j) % colours g → i ≡ j
one_coloured g k i j a b e = one_way g.kind k i j a b e

-- no direction stays
moves_on : (i : ℕ) → i < 6 → shift_x i + 2 * shift_y i ≢ 3
moves_on zero h = omega arith
moves_on (suc zero) h = omega arith
moves_on (suc (suc zero)) h = omega arith
moves_on (suc (suc (suc zero))) h = omega arith
moves_on (suc (suc (suc (suc zero)))) h = omega arith
moves_on (suc (suc (suc (suc (suc n))))) h = omega arith

other_way : (kind : GridKind) (k i : ℕ) → i < degree kind → (k + added kind i) % suc (degree kind) ≡ k % suc (degree kind) → ⊥
other_way Hex k i h e =
    let x = shift_x_small i in
    let y = shift_y_small i in
    let s : k + added Hex i ≡ k + 7 = same_from_modulo 7 (k + added Hex i) (k + 7) (omega arith) (omega arith) (e ∙ same_modulo 7 k (k + 7) 1 0 (omega arith)) in
    moves_on i h (omega arith)
other_way Square k i h e =
    let x = narrow i h in
    let s : k + added Square i ≡ k + 5 = same_from_modulo 5 (k + added Square i) (k + 5) (omega arith) (omega arith) (e ∙ same_modulo 5 k (k + 5) 1 0 (omega arith)) in
    moves_on i (omega arith) (omega arith)

-- adjacent sites differ in colour
pub adjacent_differ : (g : Grid) → is_coloured g ≡ true → (p q : Site) → Adjacent g p q → colour g p ≢ colour g q
adjacent_differ g is p q a e =
    let c = neighbour_coloured g is p q a.direction a.first a.moves in
    other_way g.kind (p.x + 2 * p.y) a.direction a.listed (sym (mod-add-mod (p.x + 2 * p.y) (suc (degree g.kind)) (difference g a.direction)) ∙ sym c ∙ sym e)

-- and so do two neighbours of one site
pub neighbours_differ : (g : Grid) → is_coloured g ≡ true → (s p q : Site) → p ≢ q → Adjacent g s p → Adjacent g s q → colour g p ≢ colour g q
neighbours_differ g is s p q other a b e =
    let c = neighbour_coloured g is s p a.direction a.first a.moves in
    let d = neighbour_coloured g is s q b.direction b.first b.moves in
    let same : a.direction ≡ b.direction = one_coloured g (colour g s) a.direction b.direction a.listed b.listed (sym c ∙ e ∙ d) in
    let both : Some p ≡ Some q = sym a.moves ∙ ap (neighbour g s) same ∙ b.moves in
    other (let is : p ≡ q = cc in is)

pub near_differ : (g : Grid) → is_coloured g ≡ true → (p q : Site) → p ≢ q → IsNear g p q → colour g p ≢ colour g q
near_differ g is p q other near = elim near [
  | inl a ↦ adjacent_differ g is p q a
  | inr t ↦ neighbours_differ g is t.0 p q other (adjacent_back g p t.0 t.1) t.2
]
