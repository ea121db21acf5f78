-- The sites of which an event sets the weights again.
use Rattle.std.specs.Prelude.{ℕ, ◌≡◌, ◌==◌, ◌&&◌, Bool, not, List, ◌++◌, filter, flat_map, Contains, Option, Some, slice_get, slice_index}
use Rattle.std.specs.List.{list_any}
use Rattle.std.specs.Option.{option_to_list}
use Rattle.surf_lattice.specs.declared.site.Site.{Site}
use Rattle.surf_lattice.specs.Grids.{Grid, IsInside, place}
use Rattle.surf_world.specs.declared.event.Event.{Event}
use Rattle.surf_world.specs.Systems.{Surface}
use Rattle.surf_world.specs.Picks.{weight_of, around, IsSingle}

abbrev pub same_site : Site → Site → Bool
same_site p q = (p.x == q.x) && (p.y == q.y)

-- whether q is neither p nor a neighbour of it
abbrev pub is_new : Grid → Site → Site → Bool
is_new g p q = not (list_any (same_site q) (around g p))

-- the sites of an event and their neighbours, each once: those around the first site, and then the
-- others around the second
abbrev pub touched : Grid → Event → List Site
touched g e =
    around g e.first ++ filter (is_new g e.first) (flat_map (around g) (option_to_list e.second))

-- no site stands twice
abbrev pub IsOnceEach : List Site → Type 0
IsOnceEach ps = (i j : ℕ) (p : Site) → slice_get ps i ≡ Some p → slice_get ps j ≡ Some p → i ≡ j

-- these sites have the weights that are theirs
abbrev pub AreRight : Surface ℕ → List ℕ → List Site → List ℕ → Type 0
AreRight S c ps ws = (p : Site) → Contains ps p → slice_index ws (place S.grid p) ≡ weight_of S c p

-- but for these sites, those whose name begins no pair have the weights that are theirs
abbrev pub AreSettled : Surface ℕ → List ℕ → List Site → List ℕ → Type 0
AreSettled S c changed ws = (p : Site) (a : ℕ) → IsInside S.grid p →
    slice_get c (place S.grid p) ≡ Some a → IsSingle S.rules a → (Contains changed p → ⊥) →
    slice_index ws (place S.grid p) ≡ weight_of S c p

-- the site's name begins no pair, and the site isn't the changed one
abbrev pub IsSettled : Surface ℕ → List ℕ → Option Site → Site → Type 0
IsSettled S c changed p =
    (a : ℕ) × (slice_get c (place S.grid p) ≡ Some a) × IsSingle S.rules a
    × (changed ≡ Some p → ⊥)
