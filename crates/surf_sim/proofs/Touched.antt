-- The sites that an event touches: at most fourteen, each once, and all around its sites.
use Rattle.std.specs.Prelude.{Contains, ◌||◌, not}
use Rattle.std.specs.List.{filter, filter_map, flat_map, cons_option, list_any, range_with_len}
use Rattle.std.specs.Option.{option_to_list}
use Rattle.std.proofs.Common.{ℕ, zero, suc, ◌≡◌, ◌+◌, ◌<◌, ◌≤◌, ◌⊎◌, ◌↔◌, inl, inr, Bool, true, false, cond, List, [], ◌∷◌, ◌++◌, length, length-append, IfSome, Option, Some, None, slice_get, refl, sym, ◌∙◌, ap, arith}
use Rattle.std.proofs.lemmas.Bool.{cases_Bool, and_parts, and_from, or_cases, eqb-true, eq-eqb, false≢true}
use Rattle.std.proofs.lemmas.List.Elements.{Contains-append_left, Contains-append_right, Contains-append_cases}
use Rattle.surf_lattice.specs.declared.site.Site.{Site}
use Rattle.surf_lattice.specs.declared.site.GridKind.{GridKind}
use Rattle.surf_lattice.specs.declared.site.GridKind.TheVariants.{Square, Hex}
use Rattle.surf_lattice.specs.Grids.{Grid, IsGrid, IsInside, Adjacent, degree, neighbour, neighbours}
use Rattle.surf_lattice.proofs.Listing.{listed_from}
use Rattle.surf_lattice.proofs.Neighbours.{adjacent_apart, adjacent_listed, listed_adjacent, one_direction}
use Rattle.surf_world.specs.declared.event.Event.{Event}
use Rattle.surf_world.specs.Picks.{around, around_event}
use Rattle.surf_world.proofs.Members.{has_here, has_first, has_later, has_cases, has_none, has_at, has_filter, filter_has}
use Rattle.surf_sim.specs.Touched.{same_site, is_new, touched, IsOnceEach}

abbrev site : ℕ → ℕ → Site
site x y = record { x = x; y = y }

same_to : (p q : Site) → same_site p q ≡ true → p ≡ q
same_to p q t =
    let h = and_parts _ _ t in
    let x : p.x ≡ q.x = eqb-true p.x q.x h.0 in
    let y : p.y ≡ q.y = eqb-true p.y q.y h.1 in
    let same : site p.x p.y ≡ site q.x q.y = cc in
    same

same_own : (p : Site) → same_site p p ≡ true
same_own p = and_from _ _ (eq-eqb p.x p.x refl) (eq-eqb p.y p.y refl)

-- the test of membership
among_to : (q : Site) (ps : List Site) → list_any (same_site q) ps ≡ true → Contains ps q
among_to q [] t = absurd (false≢true t)
among_to q (p ∷ ps) t = elim (or_cases _ _ t) [
  | inl e ↦ has_first p ps q (sym (same_to q p e))
  | inr r ↦ has_later p ps q (among_to q ps r)
]

or_left : (a b : Bool) → a ≡ true → (a || b) ≡ true
or_left true b e = refl
or_left false b e = absurd (false≢true e)

or_right : (a b : Bool) → b ≡ true → (a || b) ≡ true
or_right true b e = refl
or_right false b e = e

among_from : (q : Site) (ps : List Site) → Contains ps q → list_any (same_site q) ps ≡ true
among_from q [] c = absurd (has_none q c)
among_from q (p ∷ ps) c = elim (has_cases p ps q c) [
  | inl e ↦ or_left (same_site q p) (list_any (same_site q) ps) (ap (λ s. same_site q s) e ∙ same_own q)
  | inr d ↦ or_right (same_site q p) (list_any (same_site q) ps) (among_from q ps d)
]

pub not_new : (g : Grid) (p q : Site) → Contains (around g p) q → is_new g p q ≡ false
not_new g p q c = ap not (among_from q (around g p) c)

pub new_out : (g : Grid) (p q : Site) → is_new g p q ≡ true → Contains (around g p) q → ⊥
new_out g p q new c = false≢true (sym (not_new g p q c) ∙ new)

pub new_or_not : (g : Grid) (p q : Site) → (is_new g p q ≡ true) ⊎ Contains (around g p) q
new_or_not g p q = elim (cases_Bool (list_any (same_site q) (around g p))) [
  | inl t ↦ inr (among_to q (around g p) t)
  | inr f ↦ inl (ap not f)
]

pub out_new : (g : Grid) (p q : Site) → (Contains (around g p) q → ⊥) → is_new g p q ≡ true
out_new g p q out = elim (new_or_not g p q) [ inl t ↦ t | inr c ↦ absurd (out c) ]

-- how many there are
kept_few : {X : Type 0} (b : Bool) (x : X) (ys : List X) (n : ℕ) → length ys ≤ n → length (cond b (x ∷ ys) ys) ≤ suc n
kept_few true x ys n le = omega (arith, le)
kept_few false x ys n le = omega (arith, le)

pub filter_few : {X : Type 0} (test : X → Bool) (xs : List X) → length (filter test xs) ≤ length xs
filter_few test [] = omega arith
filter_few test (x ∷ xs) = kept_few (test x) x (filter test xs) (length xs) (filter_few test xs)

found_few : {Y : Type 0} (o : Option Y) (ys : List Y) (n : ℕ) → length ys ≤ n → length (cons_option o ys) ≤ suc n
found_few None ys n le = omega (arith, le)
found_few (Some y) ys n le = omega (arith, le)

pub found_at_most : {Y : Type 0} (f : ℕ → Option Y) (a n : ℕ) → length (filter_map f (range_with_len a n)) ≤ n
found_at_most f a zero = omega arith
found_at_most f a (suc n) = found_few (f a) (filter_map f (range_with_len (a + 1) n)) n (found_at_most f (a + 1) n)

degree_few : (kind : GridKind) → degree kind ≤ 6
degree_few Square = omega arith
degree_few Hex = omega arith

around_few : (g : Grid) (p : Site) → length (around g p) ≤ 7
around_few g p = omega (arith, found_at_most (neighbour g p) 0 (degree g.kind), degree_few g.kind)

second_few : (g : Grid) (o : Option Site) → length (flat_map (around g) (option_to_list o)) ≤ 7
second_few g None = omega arith
second_few g (Some q) = omega (arith, length-append (around g q) [], around_few g q)

pub touched_few : (g : Grid) (e : Event) → length (touched g e) ≤ 14
touched_few g e =
    let rest = flat_map (around g) (option_to_list e.second) in
    omega (arith, length-append (around g e.first) (filter (is_new g e.first) rest), around_few g e.first, filter_few (is_new g e.first) rest, second_few g e.second)

-- they are those around the sites of the event
pub touched_around : (g : Grid) (e : Event) (p : Site) → Contains (touched g e) p ↔ Contains (around_event g e) p
touched_around g e p =
    let first = around g e.first in
    let rest = flat_map (around g) (option_to_list e.second) in
    let news = filter (is_new g e.first) rest in (
      λ c. elim (Contains-append_cases first news p c) [
        | inl d ↦ Contains-append_left first rest p d
        | inr d ↦ Contains-append_right first rest p (filter_has (is_new g e.first) rest p d).0
      ],
      λ c. elim (Contains-append_cases first rest p c) [
        | inl d ↦ Contains-append_left first news p d
        | inr d ↦ elim (new_or_not g e.first p) [
          | inl new ↦ Contains-append_right first news p (has_filter (is_new g e.first) rest p d new)
          | inr old ↦ Contains-append_left first news p old
        ]
      ],
    )

-- no element is equal to one behind it
abbrev Apart : {X : Type 0} → List X → Type 0
Apart [] = Unit
Apart (x ∷ xs) = (Contains xs x → ⊥) × Apart xs

apart_append : {X : Type 0} (xs ys : List X) → Apart xs → Apart ys → ((x : X) → Contains xs x → Contains ys x → ⊥) → Apart (xs ++ ys)
apart_append [] ys a b off = b
apart_append (x ∷ xs) ys a b off = (
  λ c. elim (Contains-append_cases xs ys x c) [ inl d ↦ a.0 d | inr d ↦ off x (has_here x xs) d ],
  apart_append xs ys a.1 b (λ y c d. off y (has_later x xs y c) d),
)

apart_kept : {X : Type 0} (b : Bool) (x : X) (ys : List X) → (Contains ys x → ⊥) → Apart ys → Apart (cond b (x ∷ ys) ys)
apart_kept true x ys off a = (off, a)
apart_kept false x ys off a = a

apart_filter : {X : Type 0} (test : X → Bool) (xs : List X) → Apart xs → Apart (filter test xs)
apart_filter test [] a = tt
apart_filter test (x ∷ xs) a = apart_kept (test x) x (filter test xs) (λ c. a.0 (filter_has test xs x c).0) (apart_filter test xs a.1)

apart_found : {Y : Type 0} (o : Option Y) (ys : List Y) → ((y : Y) → o ≡ Some y → Contains ys y → ⊥) → Apart ys → Apart (cons_option o ys)
apart_found None ys off a = a
apart_found (Some y) ys off a = (off y refl, a)

apart_range : {Y : Type 0} (f : ℕ → Option Y) (a n m : ℕ) → a + n ≡ m → ((i j : ℕ) (y : Y) → i < m → j < m → f i ≡ Some y → f j ≡ Some y → i ≡ j) → Apart (filter_map f (range_with_len a n))
apart_range f a zero m e one = tt
apart_range f a (suc n) m e one =
    apart_found (f a) (filter_map f (range_with_len (a + 1) n))
    (λ y here c.
    let r = listed_from f (a + 1) n y c in
    let low = r.low in
    let high = r.high in
    let same = one a r.number y (omega (arith, e)) (omega (arith, e, high)) here r.is in
    absurd (omega (arith, low, same)))
    (apart_range f (a + 1) n m (omega (arith, e)) one)

around_apart : (g : Grid) → IsGrid g → (p : Site) → IsInside g p → Apart (around g p)
around_apart g is p inside = (
  λ c. adjacent_apart g is p p (listed_adjacent g p p inside c) refl,
  apart_range (neighbour g p) 0 (degree g.kind) (degree g.kind) (omega arith) (λ i j q a b e f. one_direction g is p q i j inside a b e f),
)

second_apart : (g : Grid) → IsGrid g → (o : Option Site) → IfSome o (IsInside g) → Apart (flat_map (around g) (option_to_list o))
second_apart g is None inside = tt
second_apart g is (Some q) inside = apart_append (around g q) [] (around_apart g is q inside) tt (λ s c d. has_none s d)

touched_apart : (g : Grid) (e : Event) → IsGrid g → IsInside g e.first → IfSome e.second (IsInside g) → Apart (touched g e)
touched_apart g e is first second =
    let rest = flat_map (around g) (option_to_list e.second) in
    apart_append (around g e.first) (filter (is_new g e.first) rest) (around_apart g is e.first first) (apart_filter (is_new g e.first) rest (second_apart g is e.second second))
    (λ s c d. new_out g e.first s (filter_has (is_new g e.first) rest s d).1 c)

one_place : {X : Type 0} (xs : List X) → Apart xs → (i j : ℕ) (x : X) → slice_get xs i ≡ Some x → slice_get xs j ≡ Some x → i ≡ j
one_place [] a i j x e f = cc
one_place (y ∷ ys) a zero zero x e f = refl
one_place (y ∷ ys) a zero (suc j) x e f = absurd (a.0 (has_at ys j y (f ∙ sym e)))
one_place (y ∷ ys) a (suc i) zero x e f = absurd (a.0 (has_at ys i y (e ∙ sym f)))
one_place (y ∷ ys) a (suc i) (suc j) x e f = ap (λ n. suc n) (one_place ys a.1 i j x e f)

pub touched_once : (g : Grid) (e : Event) → IsGrid g → IsInside g e.first → IfSome e.second (IsInside g) → IsOnceEach (touched g e)
touched_once g e is first second = one_place (touched g e) (touched_apart g e is first second)

-- the test of the program
pub other_of : (p q : Site) (n : Bool) → n ≡ not (same_site q p) → n ≡ true → q ≡ p → ⊥
other_of p q n is holds same = false≢true (sym (ap not (ap (λ s. same_site s p) same ∙ same_own p)) ∙ sym is ∙ holds)

pub beside_new : (g : Grid) (p q : Site) (a : Bool) → IsInside g p → (q ≡ p → ⊥) → (a ≡ true → Adjacent g p q) → (Adjacent g p q → a ≡ true) → not a ≡ is_new g p q
beside_new g p q true inside other to from = sym (not_new g p q (has_later p (neighbours g p) q (adjacent_listed g p q (to refl))))
beside_new g p q false inside other to from = sym (out_new g p q (λ c. elim (has_cases p (neighbours g p) q c) [
  | inl e ↦ other (sym e)
  | inr d ↦ false≢true (from (listed_adjacent g p q inside d))
]))
