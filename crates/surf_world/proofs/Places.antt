-- The places of sites in row-major order.
use Rattle.std.specs.List.{range_with_len}
use Rattle.std.proofs.Common.{ℕ, ◌≡◌, ◌+◌, ◌*◌, ◌%◌, ◌/◌, ◌<◌, ◌≤◌, length, map, Some, slice_get, sym, ◌∙◌, ap, arith, inl, inr}
use Rattle.std.proofs.lemmas.Bool.{cases_lt}
use Rattle.std.proofs.lemmas.Nat.{div-mul-add, mod-mul-add}
use Rattle.std.proofs.lemmas.Option.{slice_get-get_or}
use Rattle.std.proofs.lemmas.List.FromFn.{length-map-range_with_len, get_or-map-range_with_len}
use Rattle.std.proofs.Math.Nat.{mul-le-mul_left, mod-lt, div-add-mod, div-lt_iff_lt-mul}
use Rattle.surf_lattice.specs.declared.site.Site.{Site}
use Rattle.surf_lattice.specs.Grids.{Grid, IsInside, place, site_at, sites}

-- an element of a list that a function of the index makes
pub made_at : {X : Type 0} (f : ℕ → X) (n k : ℕ) → k < n → slice_get (map f (range_with_len 0 n)) k ≡ Some (f k)
made_at f n k lt =
    slice_get-get_or (map f (range_with_len 0 n)) k (f k) (omega (arith, length-map-range_with_len f 0 n))
    ∙ ap (λ v. Some v) (get_or-map-range_with_len f 0 n k k (f k) lt (omega arith))

pub sites_length : (g : Grid) → length (sites g) ≡ g.width * g.height
sites_length g = length-map-range_with_len (site_at g) 0 (g.width * g.height)

pub site_of : (g : Grid) (i : ℕ) → i < g.width * g.height → slice_get (sites g) i ≡ Some (site_at g i)
site_of g i lt = made_at (site_at g) (g.width * g.height) i lt

pub place_in : (g : Grid) (p : Site) → IsInside g p → place g p < g.width * g.height
place_in g p i = let x = i.0 in omega (arith, x, mul-le-mul_left g.width (let y = i.1 in let le : p.y + 1 ≤ g.height = omega (arith, y) in le))

abbrev site : ℕ → ℕ → Site
site x y = record { x = x; y = y }

-- the site at the place of a site
pub site_place : (g : Grid) (p : Site) → IsInside g p → site_at g (place g p) ≡ p
site_place g p i =
    let x : place g p % g.width ≡ p.x = mod-mul-add p.y g.width p.x i.0 in
    let y : place g p / g.width ≡ p.y = div-mul-add p.y g.width p.x i.0 in
    let same : site (place g p % g.width) (place g p / g.width) ≡ site p.x p.y = cc in
    same

pub listed : (g : Grid) (p : Site) → IsInside g p → slice_get (sites g) (place g p) ≡ Some p
listed g p i = site_of g (place g p) (place_in g p i) ∙ ap (λ (v : Site). Some v) (site_place g p i)

-- sites of one place are one
pub one_place : (g : Grid) (p q : Site) → IsInside g p → IsInside g q → place g p ≡ place g q → p ≡ q
one_place g p q i j same = sym (site_place g p i) ∙ ap (site_at g) same ∙ site_place g q j

-- the site at a place is inside, and the place is its own
pub site_inside : (g : Grid) (i : ℕ) → i < g.width * g.height → IsInside g (site_at g i)
site_inside g i lt = elim (cases_lt 0 g.width) [
  | inl some ↦ (mod-lt i some, (div-lt_iff_lt-mul some).1 (let l : i < g.height * g.width = omega (arith, lt) in l))
  | inr none ↦ absurd (let e : g.width * g.height ≡ 0 * g.height = ap (λ v. v * g.height) (let z : g.width ≡ 0 = omega (arith, none) in z) in omega (arith, lt, e))
]

pub place_site : (g : Grid) (i : ℕ) → place g (site_at g i) ≡ i
place_site g i = let e = div-add-mod i g.width in omega (arith, e)
