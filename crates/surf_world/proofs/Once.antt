-- Each choice is listed once.
use Rattle.std.specs.Prelude.{Contains, AllPairs}
use Rattle.std.specs.List.{filter, flat_map, range_with_len}
use Rattle.std.proofs.Common.{ℕ, zero, suc, ◌≡◌, ◌≢◌, ◌+◌, ◌*◌, inl, inr, Bool, true, false, cond, List, [], ◌∷◌, ◌++◌, length, map, Option, Some, None, refl, sym, ◌∙◌, ap, subst, arith}
use Rattle.std.proofs.lemmas.List.Elements.{Contains-get_or, Contains-append_cases}
use Rattle.std.proofs.lemmas.List.Kept.{AllPairs-cons}
use Rattle.surf_lattice.specs.declared.site.Site.{Site}
use Rattle.surf_lattice.specs.Grids.{Grid, IsGrid, IsInside, neighbour, degree, directions, site_at, place, sites}
use Rattle.surf_lattice.proofs.Neighbours.{one_direction}
use Rattle.surf_world.specs.declared.event.Event.{Event}
use Rattle.surf_world.specs.Systems.{Surface}
use Rattle.surf_world.specs.Choices.{enabled_test, event_of, events_on, events_toward, events_at, choices_at, choices}
use Rattle.surf_world.proofs.Members.{has_here, has_later, has_none, filter_has, map_has, flat_has, range_has}
use Rattle.surf_world.proofs.Places.{site_inside, place_site}

-- no element is listed again
abbrev Once : {X : Type 0} → List X → Type 0
Once [] = Unit {0}
Once (x ∷ xs) = (Contains xs x → ⊥) × Once xs

all_apart : {X : Type 0} (xs : List X) → Once xs → AllPairs (λ x y. x ≢ y) xs
all_apart [] o = λ i j d below within. absurd (omega (arith, within))
all_apart (x ∷ xs) o = AllPairs-cons (λ x y. x ≢ y) x xs (λ k d lt e. o.0 (subst (Contains xs) (sym e) (Contains-get_or xs k d lt))) (all_apart xs o.1)

once_filter : {X : Type 0} (test : X → Bool) (xs : List X) → Once xs → Once (filter test xs)
once_filter test [] o = tt
once_filter test (x ∷ xs) o = once_kept (test x) x (filter test xs) (λ c. o.0 (filter_has test xs x c).0) (once_filter test xs o.1)
  where
    once_kept : {X : Type 0} (b : Bool) (x : X) (xs : List X) → (Contains xs x → ⊥) → Once xs → Once (cond b (x ∷ xs) xs)
    once_kept true x xs never o = (never, o)
    once_kept false x xs never o = o

once_map : {X Y : Type 0} (f : X → Y) (xs : List X) → ((x y : X) → f x ≡ f y → x ≡ y) → Once xs → Once (map f xs)
once_map f [] one o = tt
once_map f (x ∷ xs) one o = (λ c. let m = map_has f xs (f x) c in o.0 (subst (Contains xs) (one m.0 x m.2) m.1), once_map f xs one o.1)

once_range : (a n : ℕ) → Once (range_with_len a n)
once_range a zero = tt
once_range a (suc n) = (λ c. let low = (range_has (a + 1) n a c).0 in omega (arith, low), once_range (a + 1) n)

once_append : {X : Type 0} (xs ys : List X) → Once xs → Once ys → ((x : X) → Contains xs x → Contains ys x → ⊥) → Once (xs ++ ys)
once_append [] ys o p apart = p
once_append (x ∷ xs) ys o p apart = (
  λ c. elim (Contains-append_cases xs ys x c) [ inl a ↦ o.0 a | inr b ↦ apart x (has_here x xs) b ],
  once_append xs ys o.1 p (λ y a b. apart y (has_later x xs y a) b),
)

once_flat : {X Y : Type 0} (f : X → List Y) (xs : List X) → Once xs → ((x : X) → Contains xs x → Once (f x)) → ((x y : X) (z : Y) → Contains xs x → Contains xs y → Contains (f x) z → Contains (f y) z → x ≡ y) → Once (flat_map f xs)
once_flat f [] o each one = tt
once_flat f (x ∷ xs) o each one =
    once_append (f x) (flat_map f xs) (each x (has_here x xs)) (once_flat f xs o.1 (λ y a. each y (has_later x xs y a)) (λ y z w a b. one y z w (has_later x xs y a) (has_later x xs z b)))
    (λ w a b. let m = flat_has f xs w b in o.0 (subst (Contains xs) (sym (one x m.0 w (has_here x xs) (has_later x xs m.0 m.1) a m.2)) m.1))

-- ---- the sites of a listed event

pub on_sites : (test : Event → Bool) (n : ℕ) (p : Site) (q : Option Site) (e : Event) → Contains (events_on test n p q) e → (e.first ≡ p) × (e.second ≡ q)
on_sites test n p q e c =
    let m = map_has (event_of p q) (range_with_len 0 n) e (filter_has test (map (event_of p q) (range_with_len 0 n)) e c).0 in
    (ap (λ (d : Event). d.first) (sym m.2), ap (λ (d : Event). d.second) (sym m.2))

toward_sites : (test : Event → Bool) (n : ℕ) (p : Site) (o : Option Site) (e : Event) → Contains (events_toward test n p o) e → (e.first ≡ p) × ((q : Site) × (e.second ≡ Some q) × (o ≡ Some q))
toward_sites test n p None e c = absurd (has_none e c)
toward_sites test n p (Some q) e c = let s = on_sites test n p (Some q) e c in (s.0, (q, s.1, refl))

pub at_first : (test : Event → Bool) (g : Grid) (n : ℕ) (p : Site) (e : Event) → Contains (events_at test g n p) e → e.first ≡ p
at_first test g n p e c = elim (Contains-append_cases (events_on test n p None) (flat_map (λ i. events_toward test n p (neighbour g p i)) (directions g)) e c) [
  | inl a ↦ (on_sites test n p None e a).0
  | inr b ↦ let m = flat_has (λ i. events_toward test n p (neighbour g p i)) (directions g) e b in (toward_sites test n p (neighbour g p m.0) e m.2).0
]

-- ---- each event is listed once

once_on : (test : Event → Bool) (n : ℕ) (p : Site) (q : Option Site) → Once (events_on test n p q)
once_on test n p q = once_filter test (map (event_of p q) (range_with_len 0 n)) (once_map (event_of p q) (range_with_len 0 n) (λ j k e. ap (λ (d : Event). d.rule) e) (once_range 0 n))

once_toward : (test : Event → Bool) (n : ℕ) (p : Site) (o : Option Site) → Once (events_toward test n p o)
once_toward test n p None = tt
once_toward test n p (Some q) = once_on test n p (Some q)

alone_or_pair : (e : Event) (q : Site) → e.second ≡ None → e.second ≡ Some q → ⊥
alone_or_pair e q a b = let c = sym a ∙ b in cc

once_at : (test : Event → Bool) (g : Grid) (n : ℕ) (p : Site) → IsGrid g → IsInside g p → Once (events_at test g n p)
once_at test g n p is inside =
    let toward = λ (i : ℕ). events_toward test n p (neighbour g p i) in
    once_append (events_on test n p None) (flat_map toward (directions g)) (once_on test n p None)
    (once_flat toward (directions g) (once_range 0 (degree g.kind)) (λ i c. once_toward test n p (neighbour g p i))
    (λ i j e a b c d.
    let s = (toward_sites test n p (neighbour g p i) e c).1 in
    let t = (toward_sites test n p (neighbour g p j) e d).1 in
    let same : neighbour g p j ≡ Some s.0 = t.2 ∙ sym t.1 ∙ s.1 in
    let low = (range_has 0 (degree g.kind) i a).1 in
    let high = (range_has 0 (degree g.kind) j b).1 in
    one_direction g is p s.0 i j inside (omega (arith, low)) (omega (arith, high)) s.2 same))
    (λ e a b.
    let m = flat_has toward (directions g) e b in
    let s = (toward_sites test n p (neighbour g p m.0) e m.2).1 in
    alone_or_pair e s.0 (on_sites test n p None e a).1 s.1)

listed_inside : (g : Grid) (p : Site) → Contains (sites g) p → IsInside g p
listed_inside g p c =
    let m = map_has (site_at g) (range_with_len 0 (g.width * g.height)) p c in
    let below = (range_has 0 (g.width * g.height) m.0 m.1).1 in
    subst (IsInside g) m.2 (site_inside g m.0 (omega (arith, below)))

once_sites : (g : Grid) → Once (sites g)
once_sites g = once_map (site_at g) (range_with_len 0 (g.width * g.height)) (λ i j e. sym (place_site g i) ∙ ap (place g) e ∙ place_site g j) (once_range 0 (g.width * g.height))

pub listed_once : {N : Type 0} (eq : N → N → Bool) (S : Surface N) (c : List N) → IsGrid S.grid → AllPairs (λ d e. d ≢ e) (choices eq S c)
listed_once eq S c is = all_apart (choices eq S c) (once_flat (choices_at eq S c) (sites S.grid) (once_sites S.grid)
    (λ p h. once_at (enabled_test eq S c) S.grid (length S.rules) p is (listed_inside S.grid p h))
    (λ p q e a b h k. sym (at_first (enabled_test eq S c) S.grid (length S.rules) p e h) ∙ at_first (enabled_test eq S c) S.grid (length S.rules) q e k))
