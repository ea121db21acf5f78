-- The choices of a configuration: all enabled events, in order. `eq` is a test that two names are
-- the same.
use Rattle.std.specs.Prelude.{ℕ, Bool, true, false, ◌&&◌, ◌==◌, nat_lt, List, [], ◌++◌, length, map, filter, flat_map, Option, Some, None, slice_get}
use Rattle.std.specs.List.{range_with_len, list_any}
use Rattle.surf_lattice.specs.declared.site.Site.{Site}
use Rattle.surf_lattice.specs.Grids.{Grid, neighbour, directions, place, sites}
use Rattle.surf_world.specs.declared.event.Event.{Event}
use Rattle.surf_world.specs.Systems.{Rule, Surface}

abbrev pub inside_test : Grid → Site → Bool
inside_test g p = nat_lt p.x g.width && nat_lt p.y g.height

abbrev pub is_site : Option Site → Site → Bool
is_site None q = false
is_site (Some p) q = (p.x == q.x) && (p.y == q.y)

abbrev pub adjacent_test : Grid → Site → Site → Bool
adjacent_test g p q =
    inside_test g p
    && (inside_test g q && list_any (λ i. is_site (neighbour g p i) q) (directions g))

abbrev pub is_name : {N : Type 0} → (N → N → Bool) → Option N → N → Bool
is_name eq None b = false
is_name eq (Some a) b = eq a b

abbrev pub holds_test : {N : Type 0} → (N → N → Bool) → Grid → List N → Site → N → Bool
holds_test eq g c p a = inside_test g p && is_name eq (slice_get c (place g p)) a

abbrev pub second_test : {N : Type 0} → (N → N → Bool) → Grid → List N → Site → Option N →
    Option Site → Bool
second_test eq g c p None None = true
second_test eq g c p (Some b) (Some q) = adjacent_test g p q && holds_test eq g c q b
second_test eq g c p None (Some q) = false
second_test eq g c p (Some b) None = false

abbrev pub fits_test : {N : Type 0} → (N → N → Bool) → Grid → List N → Event → Option (Rule N) →
    Bool
fits_test eq g c e None = false
fits_test eq g c e (Some r) =
    nat_lt 0 r.rate && (holds_test eq g c e.first r.left
    && second_test eq g c e.first r.right e.second)

-- whether the event is enabled
abbrev pub enabled_test : {N : Type 0} → (N → N → Bool) → Surface N → List N → Event → Bool
enabled_test eq S c e = fits_test eq S.grid c e (slice_get S.rules e.rule)

abbrev pub event_of : Site → Option Site → ℕ → Event
event_of p q k = record { rule = k; first = p; second = q }

-- the events at these sites that pass the test, by rule
abbrev pub events_on : (Event → Bool) → ℕ → Site → Option Site → List Event
events_on test rules p q = filter test (map (event_of p q) (range_with_len 0 rules))

abbrev pub events_toward : (Event → Bool) → ℕ → Site → Option Site → List Event
events_toward test rules p None = []
events_toward test rules p (Some q) = events_on test rules p (Some q)

-- the events that begin at a site and pass: at it alone by rule, then by direction and rule
abbrev pub events_at : (Event → Bool) → Grid → ℕ → Site → List Event
events_at test g rules p =
    events_on test rules p None ++ flat_map (λ i. events_toward test rules p (neighbour g p i))
    (directions g)

-- the choices that begin at a site
abbrev pub choices_at : {N : Type 0} → (N → N → Bool) → Surface N → List N → Site → List Event
choices_at eq S c p = events_at (enabled_test eq S c) S.grid (length S.rules) p

-- all choices, by the first site in row-major order
abbrev pub choices : {N : Type 0} → (N → N → Bool) → Surface N → List N → List Event
choices eq S c = flat_map (choices_at eq S c) (sites S.grid)
