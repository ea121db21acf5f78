-- A site keeps its choices where its name and the names of its neighbours stay.
use Rattle.std.specs.Prelude.{nat_lt}
use Rattle.std.specs.List.{filter, range_with_len, sum_by}
use Rattle.std.proofs.Common.{ℕ, ◌≡◌, ◌<◌, Bool, ◌&&◌, List, [], ◌∷◌, length, map, Option, Some, None, slice_get, refl, ap, ◌∙◌, arith, nat_eq}
use Rattle.surf_lattice.specs.declared.site.Site.{Site}
use Rattle.surf_lattice.specs.Grids.{Grid, neighbour, degree, place}
use Rattle.surf_world.specs.declared.event.Event.{Event}
use Rattle.surf_world.specs.Systems.{Rule, Surface}
use Rattle.surf_world.specs.Choices.{is_name, inside_test, adjacent_test, holds_test, second_test, fits_test, enabled_test, event_of, events_on, events_toward, choices_at}
use Rattle.surf_world.specs.Picks.{rate_of, weight_of}
use Rattle.surf_world.proofs.Members.{same_along}

-- the same name stands at a site
abbrev pub SameAt : Grid → List ℕ → List ℕ → Site → Type 0
SameAt g c d p = slice_get c (place g p) ≡ slice_get d (place g p)

-- at a second site, where there is one
abbrev pub SameThere : Grid → List ℕ → List ℕ → Option Site → Type 0
SameThere g c d None = Unit {0}
SameThere g c d (Some q) = SameAt g c d q

same_holds : (g : Grid) (c d : List ℕ) (p : Site) (a : ℕ) → SameAt g c d p → holds_test nat_eq g c p a ≡ holds_test nat_eq g d p a
same_holds g c d p a same = ap (λ o. inside_test g p && is_name nat_eq o a) same

same_second : (g : Grid) (c d : List ℕ) (p : Site) (b : Option ℕ) (q : Option Site) → SameThere g c d q → second_test nat_eq g c p b q ≡ second_test nat_eq g d p b q
same_second g c d p None None there = refl
same_second g c d p None (Some q) there = refl
same_second g c d p (Some b) None there = refl
same_second g c d p (Some b) (Some q) there = ap (λ t. adjacent_test g p q && t) (same_holds g c d q b there)

same_fits : (g : Grid) (c d : List ℕ) (e : Event) (o : Option (Rule ℕ)) → SameAt g c d e.first → SameThere g c d e.second → fits_test nat_eq g c e o ≡ fits_test nat_eq g d e o
same_fits g c d e None same there = refl
same_fits g c d e (Some r) same there =
    let a = same_holds g c d e.first r.left same in
    let b = same_second g c d e.first r.right e.second there in
    ap (λ t. nat_lt 0 r.rate && (t && second_test nat_eq g c e.first r.right e.second)) a ∙ ap (λ t. nat_lt 0 r.rate && (holds_test nat_eq g d e.first r.left && t)) b

pub same_on : (S : Surface ℕ) (c d : List ℕ) (n : ℕ) (p : Site) (q : Option Site) → SameAt S.grid c d p → SameThere S.grid c d q → events_on (enabled_test nat_eq S c) n p q ≡ events_on (enabled_test nat_eq S d) n p q
same_on S c d n p q same there = same_filter_map (enabled_test nat_eq S c) (enabled_test nat_eq S d) (event_of p q) (range_with_len 0 n) (λ k. same_fits S.grid c d (event_of p q k) (slice_get S.rules k) same there)
  where
    same_filter_map : {X Y : Type 0} (f g : Y → Bool) (h : X → Y) (xs : List X) → ((x : X) → f (h x) ≡ g (h x)) → filter f (map h xs) ≡ filter g (map h xs)
    same_filter_map f g h [] same = refl
    same_filter_map f g h (x ∷ xs) same = cc (same x, same_filter_map f g h xs same)

same_toward : (S : Surface ℕ) (c d : List ℕ) (n : ℕ) (p : Site) (q : Option Site) → SameAt S.grid c d p → SameThere S.grid c d q → events_toward (enabled_test nat_eq S c) n p q ≡ events_toward (enabled_test nat_eq S d) n p q
same_toward S c d n p None same there = refl
same_toward S c d n p (Some q) same there = same_on S c d n p (Some q) same there

-- the choices at a site are read from its name and its neighbours' names
pub same_choices : (S : Surface ℕ) (c d : List ℕ) (p : Site) → SameAt S.grid c d p → ((i : ℕ) → i < degree S.grid.kind → SameThere S.grid c d (neighbour S.grid p i)) → choices_at nat_eq S c p ≡ choices_at nat_eq S d p
same_choices S c d p same there =
    let n = length S.rules in
    let alone = same_on S c d n p None same tt in
    let toward = same_along (λ i. events_toward (enabled_test nat_eq S c) n p (neighbour S.grid p i)) (λ i. events_toward (enabled_test nat_eq S d) n p (neighbour S.grid p i)) 0 (degree S.grid.kind) (λ i low high. same_toward S c d n p (neighbour S.grid p i) same (there i (omega (arith, high)))) in
    cc (alone, toward)

pub same_weight : (S : Surface ℕ) (c d : List ℕ) (p : Site) → SameAt S.grid c d p → ((i : ℕ) → i < degree S.grid.kind → SameThere S.grid c d (neighbour S.grid p i)) → weight_of S c p ≡ weight_of S d p
same_weight S c d p same there = ap (λ es. sum_by (rate_of S) es) (same_choices S c d p same there)
