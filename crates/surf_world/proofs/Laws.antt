-- Sums over lists end to end, and the choice of a number in two steps.
use Rattle.std.proofs.Common.{ℕ, ◌≡◌, ◌+◌, ◌-◌, ◌<◌, ◌≤◌, List, [], ◌∷◌, ◌++◌, map, take, sum, Some, slice_get, refl, sym, ◌∙◌, ap, arith, zero, suc, nat_eq, ⊎_elim}
use Rattle.std.specs.List.{flat_map, sum_by}
use Rattle.std.proofs.lemmas.List.Sums.{sum_by-cons, sum_by-append}
use Rattle.std.proofs.lemmas.Bool.{cases_lt, lt-ltb, le-ltb}
use Rattle.surf_lattice.specs.Grids.{sites}
use Rattle.surf_world.specs.Worlds.{Placed}
use Rattle.surf_world.specs.Choices.{choices_at, choices}
use Rattle.surf_world.specs.Picks.{rate_of, pick, weights_of}

pub sum_along : {X Y : Type 0} (f : Y → ℕ) (g : X → List Y) (xs : List X) → sum_by f (flat_map g xs) ≡ sum (map (λ x. sum_by f (g x)) xs)
sum_along f g [] = refl
sum_along f g (x ∷ xs) = omega (arith, sum_by-append f (g x) (flat_map g xs), sum_along f g xs, sum_by-cons (λ y. y) (sum_by f (g x)) (map (λ x. sum_by f (g x)) xs))

-- the weights of the sites sum to the rates of the choices
pub weights_sum : (w : Placed) → sum (weights_of w) ≡ sum_by (rate_of w.surface) (choices nat_eq w.surface w.names)
weights_sum w = sym (sum_along (rate_of w.surface) (choices_at nat_eq w.surface w.names) (sites w.surface.grid))

pub pick_here : {X : Type 0} (rate : X → ℕ) (x : X) (xs : List X) (r : ℕ) → r < rate x → pick rate (x ∷ xs) r ≡ Some x
pick_here rate x xs r lt = rw (lt-ltb r (rate x) lt) refl

pub pick_later : {X : Type 0} (rate : X → ℕ) (x : X) (xs : List X) (r : ℕ) → rate x ≤ r → pick rate (x ∷ xs) r ≡ pick rate xs (r - rate x)
pick_later rate x xs r le = rw (le-ltb r (rate x) le) refl

pub pick_first : {X : Type 0} (rate : X → ℕ) (xs ys : List X) (r : ℕ) → r < sum_by rate xs → pick rate (xs ++ ys) r ≡ pick rate xs r
pick_first rate [] ys r lt = absurd (omega (arith, lt))
pick_first rate (x ∷ xs) ys r lt = ⊎_elim
    (λ here. pick_here rate x (xs ++ ys) r here ∙ sym (pick_here rate x xs r here))
    (λ later. pick_later rate x (xs ++ ys) r later ∙ pick_first rate xs ys (r - rate x) (omega (arith, lt, later, sum_by-cons rate x xs)) ∙ sym (pick_later rate x xs r later))
    (cases_lt r (rate x))

pub pick_second : {X : Type 0} (rate : X → ℕ) (xs ys : List X) (r : ℕ) → pick rate (xs ++ ys) (sum_by rate xs + r) ≡ pick rate ys r
pick_second rate [] ys r = ap (λ n. pick rate ys n) (let e : 0 + r ≡ r = omega arith in e)
pick_second rate (x ∷ xs) ys r =
    let s = sum_by-cons rate x xs in
    let n = sum_by rate (x ∷ xs) + r in
    pick_later rate x (xs ++ ys) n (omega (arith, s))
    ∙ ap (λ m. pick rate (xs ++ ys) m) (let e : n - rate x ≡ sum_by rate xs + r = omega (arith, s) in e)
    ∙ pick_second rate xs ys r

-- a place found by the weights, and the choice there of what is left
pub pick_along : {X Y : Type 0} (rate : Y → ℕ) (g : X → List Y) (xs : List X) (place : ℕ) (x : X) (rest r : ℕ) → slice_get xs place ≡ Some x → sum (take place (map (λ x. sum_by rate (g x)) xs)) + rest ≡ r → rest < sum_by rate (g x)
    → pick rate (flat_map g xs) r ≡ pick rate (g x) rest
pick_along rate g [] place x rest r is before less = cc
pick_along rate g (y ∷ ys) zero x rest r is before less =
    let same : y ≡ x = cc in
    let e : r ≡ rest = omega (arith, before) in
    rw (same, e) (pick_first rate (g x) (flat_map g ys) rest less)
pick_along rate g (y ∷ ys) (suc k) x rest r is before less =
    let s = sum_by-cons (λ n. n) (sum_by rate (g y)) (take k (map (λ x. sum_by rate (g x)) ys)) in
    let m = sum (take k (map (λ x. sum_by rate (g x)) ys)) + rest in
    let e : r ≡ sum_by rate (g y) + m = omega (arith, before, s) in
    ap (λ n. pick rate (g y ++ flat_map g ys) n) e ∙ pick_second rate (g y) (flat_map g ys) m ∙ pick_along rate g ys k x rest m is refl less

pub pick_some : {X : Type 0} (rate : X → ℕ) (xs ys : List X) (r : ℕ) (x : X) → pick rate xs r ≡ Some x → pick rate (xs ++ ys) r ≡ Some x
pick_some rate [] ys r x is = cc
pick_some rate (y ∷ xs) ys r x is = ⊎_elim
    (λ here. pick_here rate y (xs ++ ys) r here ∙ sym (pick_here rate y xs r here) ∙ is)
    (λ later. pick_later rate y (xs ++ ys) r later ∙ pick_some rate xs ys (r - rate y) x (sym (pick_later rate y xs r later) ∙ is))
    (cases_lt r (rate y))
