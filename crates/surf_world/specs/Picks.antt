-- Rates, the choice of a number, and the weights of sites.
use Rattle.std.specs.Prelude.{ℕ, ◌+◌, ◌-◌, ◌≡◌, ◌<◌, nat_lt, nat_eq, Bool, List, [], ◌∷◌, ◌++◌, map, flat_map, sum_by, Option, Some, None, slice_get, slice_set, Result, Ok, Err, if◌then◌else◌}
use Rattle.std.specs.Option.{option_map_or, option_to_list}
use Rattle.surf_lattice.specs.declared.site.Site.{Site}
use Rattle.surf_lattice.specs.Grids.{Grid, neighbours, place, sites}
use Rattle.surf_world.specs.declared.event.Event.{Event}
use Rattle.surf_world.specs.Systems.{Rule, Surface}
use Rattle.surf_world.specs.Worlds.{Placed}
use Rattle.surf_world.specs.Choices.{choices_at, choices}

abbrev pub rate_at : {N : Type 0} → List (Rule N) → ℕ → ℕ
rate_at rules k = option_map_or (λ r. r.rate) (slice_get rules k) 0

-- the rate of an event's rule
abbrev pub rate_of : {N : Type 0} → Surface N → Event → ℕ
rate_of S e = rate_at S.rules e.rule

-- the first element at which the running sum of rates exceeds r
abbrev pub pick : {X : Type 0} → (X → ℕ) → List X → ℕ → Option X
pick rate [] r = None
pick rate (x ∷ xs) r = if nat_lt r (rate x) then Some x else pick rate xs (r - rate x)

-- the choice of a number
abbrev pub pick_of : {N : Type 0} → (N → N → Bool) → Surface N → List N → ℕ → Option Event
pick_of eq S c r = pick (rate_of S) (choices eq S c) r

-- the sum of the rates of the choices that begin at a site
abbrev pub weight_of : Surface ℕ → List ℕ → Site → ℕ
weight_of S c p = sum_by (rate_of S) (choices_at nat_eq S c p)

-- the weights of the sites in row-major order
abbrev pub weights_of : Placed → List ℕ
weights_of w = map (weight_of w.surface w.names) (sites w.surface.grid)

-- the choice of a number among elements, or what is left of the number behind them
abbrev pub Picked : {X : Type 0} → (X → ℕ) → List X → ℕ → Result X ℕ → Type 0
Picked rate xs r (Ok x) = pick rate xs r ≡ Some x
Picked rate xs r (Err rest) = sum_by rate xs + rest ≡ r

-- a site and its neighbours
abbrev pub around : Grid → Site → List Site
around g p = p ∷ neighbours g p

-- the sites of an event and their neighbours
abbrev pub around_event : Grid → Event → List Site
around_event g e = around g e.first ++ flat_map (around g) (option_to_list e.second)

-- the weights after each of these sites got its weight anew
abbrev pub refreshed : Surface ℕ → List ℕ → List Site → List ℕ → List ℕ
refreshed S c [] ws = ws
refreshed S c (p ∷ ps) ws = refreshed S c ps (slice_set ws (place S.grid p) (weight_of S c p))

-- no rule of rate above 0 has this name as the first of two
abbrev pub IsSingle : List (Rule ℕ) → ℕ → Type 0
IsSingle rules a = (k : ℕ) (r : Rule ℕ) → slice_get rules k ≡ Some r → 0 < r.rate → r.left ≡ a →
    r.right ≡ None
