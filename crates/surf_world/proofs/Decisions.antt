-- The tests say what the facts say, for any kind of name whose test is equality.
use Rattle.std.proofs.Common.{ℕ, ◌≡◌, ◌+◌, ◌<◌, ◌≤◌, Bool, true, false, List, Option, Some, None, slice_get, refl, ap, arith, ◌↔◌, ⊎_elim, inl, inr, nat_eq, zero, suc}
use Rattle.std.specs.List.{list_any, range_with_len}
use Rattle.std.proofs.lemmas.Bool.{cases_eq, and_parts, and_from, or_cases, ltb-true, lt-ltb, eqb-true, eq-eqb, false≢true, cases_Bool}
use Rattle.std.proofs.Math.Bool.{or-true}
use Rattle.surf_lattice.specs.declared.site.Site.{Site}
use Rattle.surf_lattice.specs.Grids.{Grid, IsInside, Adjacent, neighbour, degree}
use Rattle.surf_world.specs.declared.event.Event.{Event}
use Rattle.surf_world.specs.Systems.{Rule, Surface, Holds, FitsSecond, Fits, Enabled}
use Rattle.surf_world.specs.Choices.{inside_test, is_site, adjacent_test, is_name, holds_test, second_test, fits_test, enabled_test}

pub inside_to : (g : Grid) (p : Site) → inside_test g p ≡ true → IsInside g p
inside_to g p t = let h = and_parts _ _ t in (ltb-true p.x g.width h.0, ltb-true p.y g.height h.1)

pub inside_from : (g : Grid) (p : Site) → IsInside g p → inside_test g p ≡ true
inside_from g p i = and_from _ _ (lt-ltb p.x g.width i.0) (lt-ltb p.y g.height i.1)

abbrev site : ℕ → ℕ → Site
site x y = record { x = x; y = y }

site_to : (o : Option Site) (q : Site) → is_site o q ≡ true → o ≡ Some q
site_to None q t = absurd (false≢true t)
site_to (Some s) q t =
    let h = and_parts _ _ t in
    let x : s.x ≡ q.x = eqb-true s.x q.x h.0 in
    let y : s.y ≡ q.y = eqb-true s.y q.y h.1 in
    let same : site s.x s.y ≡ site q.x q.y = cc in
    ap (λ (v : Site). Some v) same

site_from : (o : Option Site) (q : Site) → o ≡ Some q → is_site o q ≡ true
site_from o q is = rw is (and_from _ _ (eq-eqb q.x q.x refl) (eq-eqb q.y q.y refl))

-- a test that holds of some number of a range
any_to : (test : ℕ → Bool) (a n : ℕ) → list_any test (range_with_len a n) ≡ true → (i : ℕ) × (i < a + n) × (test i ≡ true)
any_to test a zero t = absurd (false≢true t)
any_to test a (suc n) t = ⊎_elim
    (λ here. (a, omega arith, here))
    (λ later. let r = any_to test (a + 1) n later in let lt = r.1 in (r.0, omega (arith, lt), r.2))
    (or_cases _ _ t)

any_from : (test : ℕ → Bool) (a n i : ℕ) → a ≤ i → i < a + n → test i ≡ true → list_any test (range_with_len a n) ≡ true
any_from test a zero i le lt t = absurd (omega (arith, le, lt))
any_from test a (suc n) i le lt t = elim (cases_eq a i) [
  | inl e ↦ rw (e, t) refl
  | inr ne ↦ rw (any_from test (a + 1) n i (omega arith) (omega arith) t) (or-true (test a))
]

pub adjacent_to : (g : Grid) (p q : Site) → adjacent_test g p q ≡ true → Adjacent g p q
adjacent_to g p q t =
    let h = and_parts _ _ t in
    let k = and_parts _ _ h.1 in
    let m = any_to (λ i. is_site (neighbour g p i) q) 0 (degree g.kind) k.1 in
    let lt = m.1 in
    record { first = inside_to g p h.0; second = inside_to g q k.0; direction = m.0; listed = omega (arith, lt); moves = site_to (neighbour g p m.0) q m.2 }

pub adjacent_from : (g : Grid) (p q : Site) → Adjacent g p q → adjacent_test g p q ≡ true
adjacent_from g p q a =
    let lt = a.listed in
    and_from _ _ (inside_from g p a.first) (and_from _ _ (inside_from g q a.second)
    (any_from (λ i. is_site (neighbour g p i) q) 0 (degree g.kind) a.direction (omega arith) (omega (arith, lt)) (site_from (neighbour g p a.direction) q a.moves)))

module _ {N : Type 0} (eq : N → N → Bool) (to : (a b : N) → eq a b ≡ true → a ≡ b) (from : (a : N) → eq a a ≡ true) where
  name_to : (o : Option N) (b : N) → is_name eq o b ≡ true → o ≡ Some b
  name_to None b t = absurd (false≢true t)
  name_to (Some a) b t = ap (λ (v : N). Some v) (to a b t)

  name_from : (o : Option N) (b : N) → o ≡ Some b → is_name eq o b ≡ true
  name_from o b is = rw is (from b)

  holds_to : (g : Grid) (c : List N) (p : Site) (a : N) → holds_test eq g c p a ≡ true → Holds g c p a
  holds_to g c p a t = let h = and_parts _ _ t in (inside_to g p h.0, name_to _ a h.1)

  holds_from : (g : Grid) (c : List N) (p : Site) (a : N) → Holds g c p a → holds_test eq g c p a ≡ true
  holds_from g c p a h = and_from _ _ (inside_from g p h.0) (name_from _ a h.1)

  second_to : (g : Grid) (c : List N) (p : Site) (b : Option N) (q : Option Site) → second_test eq g c p b q ≡ true → FitsSecond g c p b q
  second_to g c p None None t = tt
  second_to g c p None (Some q) t = absurd (false≢true t)
  second_to g c p (Some b) None t = absurd (false≢true t)
  second_to g c p (Some b) (Some q) t = let h = and_parts _ _ t in (adjacent_to g p q h.0, holds_to g c q b h.1)

  second_from : (g : Grid) (c : List N) (p : Site) (b : Option N) (q : Option Site) → FitsSecond g c p b q → second_test eq g c p b q ≡ true
  second_from g c p None None f = refl
  second_from g c p None (Some q) f = absurd f
  second_from g c p (Some b) None f = absurd f
  second_from g c p (Some b) (Some q) f = and_from _ _ (adjacent_from g p q f.0) (holds_from g c q b f.1)

  fits_to : (g : Grid) (c : List N) (e : Event) (o : Option (Rule N)) → fits_test eq g c e o ≡ true → Fits g c e o
  fits_to g c e None t = absurd (false≢true t)
  fits_to g c e (Some r) t =
      let h = and_parts _ _ t in
      let k = and_parts _ _ h.1 in
      (ltb-true 0 r.rate h.0, holds_to g c e.first r.left k.0, second_to g c e.first r.right e.second k.1)

  fits_from : (g : Grid) (c : List N) (e : Event) (o : Option (Rule N)) → Fits g c e o → fits_test eq g c e o ≡ true
  fits_from g c e None f = absurd f
  fits_from g c e (Some r) f = and_from _ _ (lt-ltb 0 r.rate f.0) (and_from _ _ (holds_from g c e.first r.left f.1) (second_from g c e.first r.right e.second f.2))

  pub enabled_to : (S : Surface N) (c : List N) (e : Event) → enabled_test eq S c e ≡ true → Enabled S c e
  enabled_to S c e t = fits_to S.grid c e (slice_get S.rules e.rule) t

  pub enabled_from : (S : Surface N) (c : List N) (e : Event) → Enabled S c e → enabled_test eq S c e ≡ true
  enabled_from S c e f = fits_from S.grid c e (slice_get S.rules e.rule) f

  pub enabled_fails : (S : Surface N) (c : List N) (e : Event) → (Enabled S c e → ⊥) → enabled_test eq S c e ≡ false
  enabled_fails S c e no_way = ⊎_elim (λ t. absurd (no_way (enabled_to S c e t))) (λ f. f) (cases_Bool (enabled_test eq S c e))

-- the test of numbers
pub number_to : (a b : ℕ) → nat_eq a b ≡ true → a ≡ b
number_to a b t = eqb-true a b t

pub number_from : (a : ℕ) → nat_eq a a ≡ true
number_from a = eq-eqb a a refl

pub enabled_by_number : (S : Surface ℕ) (c : List ℕ) (e : Event) → (enabled_test nat_eq S c e ≡ true) ↔ Enabled S c e
enabled_by_number S c e = (enabled_to nat_eq number_to number_from S c e, enabled_from nat_eq number_to number_from S c e)
