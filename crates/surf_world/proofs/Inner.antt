-- The neighbours of a site at no border, by their places.
use Rattle.std.specs.List.{flat_map, range_with_len, sum_by}
use Rattle.std.proofs.Common.{ℕ, ◌≡◌, ◌+◌, ◌-◌, ◌*◌, ◌<◌, ◌≤◌, inl, List, length, Some, slice_get, nat_eq, refl, sym, ◌∙◌, ap, arith}
use Rattle.std.proofs.Math.Nat.{mul-le-mul_right}
use Rattle.surf_lattice.specs.declared.site.Site.{Site}
use Rattle.surf_lattice.specs.declared.site.GridKind.{GridKind}
use Rattle.surf_lattice.specs.declared.site.GridKind.TheVariants.{Square, Hex}
use Rattle.surf_lattice.specs.Grids.{Grid, IsInside, Adjacent, degree, neighbour, place, shift_x, shift_y}
use Rattle.surf_lattice.proofs.Moves.{shift_x_small, shift_y_small}
use Rattle.surf_lattice.proofs.Neighbours.{neighbour_of, neighbour_inside, adjacent_from}
use Rattle.surf_world.specs.Inner.{IsInner}
use Rattle.surf_world.specs.Systems.{Surface}
use Rattle.surf_world.specs.Choices.{enabled_test, events_on, events_toward}
use Rattle.surf_world.specs.Picks.{rate_of}
use Rattle.surf_world.proofs.Places.{place_in}
use Rattle.surf_world.proofs.Sums.{directions_sum}

pub inner_inside : (g : Grid) (p : Site) → IsInner g p → IsInside g p
inner_inside g p i = let w = i.2 in let h = i.3 in (omega (arith, w), omega (arith, h))

-- where a direction leads
abbrev pub beside : Site → ℕ → Site
beside p i = record { x = p.x + shift_x i - 1; y = p.y + shift_y i - 1 }

pub inner_neighbour : (g : Grid) (p : Site) (i : ℕ) → IsInner g p → neighbour g p i ≡ Some (beside p i)
inner_neighbour g p i inner =
    let a : 0 < p.x = inner.0 in
    let b : 0 < p.y = inner.1 in
    let c : p.x + 1 < g.width = inner.2 in
    let d : p.y + 1 < g.height = inner.3 in
    let x = shift_x_small i in
    let y = shift_y_small i in
    neighbour_of g p i (beside p i) (inner_inside g p inner) (record {
      across = record { lands = omega (arith, a, c, x); by = inl (omega (arith, a)) };
      down = record { lands = omega (arith, b, d, y); by = inl (omega (arith, b)) };
    })

pub inner_place : (g : Grid) (p : Site) (i : ℕ) → IsInner g p → place g (beside p i) + 1 + g.width ≡ place g p + shift_x i + shift_y i * g.width
inner_place g p i inner =
    let a : 0 < p.x = inner.0 in
    let b : 0 < p.y = inner.1 in
    let row : (p.y + shift_y i - 1 + 1) * g.width ≡ (p.y + shift_y i) * g.width = ap (λ k. k * g.width) (let e : p.y + shift_y i - 1 + 1 ≡ p.y + shift_y i = omega (arith, b) in e) in
    omega (arith, row, a)

-- the row above has room for the site and one before it
pub row_above : (g : Grid) (p : Site) → IsInner g p → g.width + 1 ≤ place g p
row_above g p inner =
    let a : 0 < p.x = inner.0 in
    let b : 0 < p.y = inner.1 in
    let row : 1 * g.width ≤ p.y * g.width = mul-le-mul_right g.width (let le : 1 ≤ p.y = omega (arith, b) in le) in
    omega (arith, row, a)

-- the place where a direction leads is one of the grid
pub inner_within : (g : Grid) (p : Site) (i at n : ℕ) → IsInner g p → n ≡ g.width * g.height → at + 1 + g.width ≡ place g p + shift_x i + shift_y i * g.width → at < n
inner_within g p i at n inner long is =
    let lt = place_in g (beside p i) (neighbour_inside g p i (beside p i) (inner_inside g p inner) (inner_neighbour g p i inner)) in
    omega (arith, lt, long, is, inner_place g p i inner)

-- the sum of a site's name and the one at the place is that of the events in the direction
pub inner_toward : (S : Surface ℕ) (c : List ℕ) (p : Site) (i at a b s : ℕ) → IsInner S.grid p → i < degree S.grid.kind → at + 1 + S.grid.width ≡ place S.grid p + shift_x i + shift_y i * S.grid.width
    → Some a ≡ slice_get c (place S.grid p) → slice_get c at ≡ Some b
    → ((p : Site) (q : Site) → Adjacent S.grid p q → slice_get c (place S.grid p) ≡ Some a → slice_get c (place S.grid q) ≡ Some b → s ≡ sum_by (rate_of S) (events_on (enabled_test nat_eq S c) (length S.rules) p (Some q)))
    → s ≡ sum_by (rate_of S) (events_toward (enabled_test nat_eq S c) (length S.rules) p (neighbour S.grid p i))
inner_toward S c p i at a b s inner lt is own other sum =
    let there : neighbour S.grid p i ≡ Some (beside p i) = inner_neighbour S.grid p i inner in
    let same : place S.grid (beside p i) ≡ at = omega (arith, is, inner_place S.grid p i inner) in
    sum p (beside p i) (adjacent_from S.grid p i (beside p i) (inner_inside S.grid p inner) lt there) (sym own) (ap (slice_get c) same ∙ other)
    ∙ ap (λ o. sum_by (rate_of S) (events_toward (enabled_test nat_eq S c) (length S.rules) p o)) (sym there)

pub degree_six : (kind : GridKind) → (degree kind ≡ 4 → ⊥) → degree kind ≡ 6
degree_six Square ne = absurd (ne refl)
degree_six Hex ne = refl

-- the sums of four directions, and of six
pub four_sum : {X : Type 0} (rate : X → ℕ) (f : ℕ → List X) → sum_by rate (flat_map f (range_with_len 0 4)) ≡ sum_by rate (f 0) + sum_by rate (f 1) + sum_by rate (f 2) + sum_by rate (f 3)
four_sum rate f =
    let a : sum_by rate (flat_map f (range_with_len 0 1)) ≡ sum_by rate (flat_map f (range_with_len 0 0)) + sum_by rate (f 0) = directions_sum rate f 0 in
    let b : sum_by rate (flat_map f (range_with_len 0 2)) ≡ sum_by rate (flat_map f (range_with_len 0 1)) + sum_by rate (f 1) = directions_sum rate f 1 in
    let c : sum_by rate (flat_map f (range_with_len 0 3)) ≡ sum_by rate (flat_map f (range_with_len 0 2)) + sum_by rate (f 2) = directions_sum rate f 2 in
    let d : sum_by rate (flat_map f (range_with_len 0 4)) ≡ sum_by rate (flat_map f (range_with_len 0 3)) + sum_by rate (f 3) = directions_sum rate f 3 in
    let none : sum_by rate (flat_map f (range_with_len 0 0)) ≡ 0 = refl in
    omega (arith, a, b, c, d, none)

pub six_sum : {X : Type 0} (rate : X → ℕ) (f : ℕ → List X) → sum_by rate (flat_map f (range_with_len 0 6)) ≡ sum_by rate (f 0) + sum_by rate (f 1) + sum_by rate (f 2) + sum_by rate (f 3) + sum_by rate (f 4) + sum_by rate (f 5)
six_sum rate f =
    let a = four_sum rate f in
    let b : sum_by rate (flat_map f (range_with_len 0 5)) ≡ sum_by rate (flat_map f (range_with_len 0 4)) + sum_by rate (f 4) = directions_sum rate f 4 in
    let c : sum_by rate (flat_map f (range_with_len 0 6)) ≡ sum_by rate (flat_map f (range_with_len 0 5)) + sum_by rate (f 5) = directions_sum rate f 5 in
    omega (arith, a, b, c)
