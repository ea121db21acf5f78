-- The cells of a grid in a phase: what each sees and gathers.
use Rattle.std.proofs.Common.{ℕ, zero, suc, ◌≡◌, ◌+◌, ◌*◌, ◌<◌, ◌≤◌, List, [], ◌∷◌, map, Option, Some, None, refl, sym, ap, subst, arith, inl, inr}
use Rattle.std.proofs.lemmas.Bool.{cases_lt}
use Rattle.std.proofs.Math.Nat.{mul-le-mul_left, mod-lt, div-add-mod, div-lt_iff_lt-mul}
use Rattle.surf_lattice.specs.declared.site.Site.{Site}
use Rattle.surf_lattice.specs.Grids.{Grid, IsInside, neighbour, place, site_at}
use Rattle.surf_lattice.proofs.Neighbours.{neighbour_inside}
use Rattle.surf_auto.specs.Locals.{LocalRule, IsLocal, gathered}
use Rattle.surf_auto.specs.Sync.{Universe, StandsIn, seen_at, seen, state_at}

pub place_in : (g : Grid) (p : Site) → IsInside g p → place g p < g.width * g.height
place_in g p i = let x = i.0 in omega (arith, x, mul-le-mul_left g.width (let y = i.1 in let le : p.y + 1 ≤ g.height = omega (arith, y) in le))

-- the site at a place is inside, and the place is its own
pub site_inside : (g : Grid) (i : ℕ) → i < g.width * g.height → IsInside g (site_at g i)
site_inside g i lt = elim (cases_lt 0 g.width) [
  | inl some ↦ (mod-lt i some, (div-lt_iff_lt-mul some).1 (let l : i < g.height * g.width = omega (arith, lt) in l))
  | inr none ↦ absurd (let e : g.width * g.height ≡ 0 * g.height = ap (λ v. v * g.height) (let z : g.width ≡ 0 = omega (arith, none) in z) in omega (arith, lt, e))
]

pub place_site : (g : Grid) (i : ℕ) → place g (site_at g i) ≡ i
place_site g i = let e = div-add-mod i g.width in omega (arith, e)

seen_in : (U : Universe) (f : ℕ) → StandsIn U f → (s : Site) → IsInside U.grid s → (i : ℕ) (o : Option Site) → neighbour U.grid s i ≡ o → seen_at U.edge (state_at U) o < U.rule.states f
seen_in U f stands s inside i None e = stands.edge_within
seen_in U f stands s inside i (Some t) e =
    let p = place_in U.grid t (neighbour_inside U.grid s i t inside e) in
    let size = stands.one_per_site in
    stands.cells_within (place U.grid t) (omega arith)

-- what a cell sees is a state
pub seen_within : (U : Universe) (f : ℕ) → StandsIn U f → (s : Site) → IsInside U.grid s → (i : ℕ) → seen U (state_at U) s i < U.rule.states f
seen_within U f stands s inside i = seen_in U f stands s inside i (neighbour U.grid s i) refl

-- and what it gathers is in range
pub gathered_within : (R : LocalRule) → IsLocal R → (f : ℕ) → f < R.phases → (see : ℕ → ℕ) → ((i : ℕ) → see i < R.states f) → (n : ℕ) → n ≤ R.degree → gathered R f see n < R.accs f n
gathered_within R is f h see states zero le = is.start_within f h
gathered_within R is f h see states (suc n) le =
    is.add_within f (gathered R f see n) n (see n) h (gathered_within R is f h see states n (omega arith)) (omega arith) (states n)

pub map_map : {X Y Z : Type 0} (f : Y → Z) (g : X → Y) (xs : List X) → map f (map g xs) ≡ map (λ x. f (g x)) xs
map_map f g [] = refl
map_map f g (x ∷ xs) = ap (λ v. f (g x) ∷ v) (map_map f g xs)

-- the place of a neighbour is one of the cells
pub seen_place : (g : Grid) (s : Site) (i : ℕ) (t : Site) → IsInside g s → neighbour g s i ≡ Some t → (width count : ℕ) → width ≡ g.width → count ≡ g.width * g.height → t.y * width + t.x < count
seen_place g s i t inside e width count same size =
    let p = place_in g t (neighbour_inside g s i t inside e) in
    let below : t.y * g.width + t.x < count = omega arith in
    subst (λ w. t.y * w + t.x < count) (sym same) below
