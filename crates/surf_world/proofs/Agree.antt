-- The events at a site, and at two, come from the rules of their left side.
use Rattle.std.specs.Prelude.{nat_lt, ◌==◌, is_none, filter}
use Rattle.std.specs.List.{range_with_len}
use Rattle.std.specs.Option.{option_map, option_map_or}
use Rattle.std.proofs.Common.{ℕ, ◌≡◌, inl, inr, Bool, true, false, ◌&&◌, List, length, map, Option, Some, None, slice_get, refl, sym, ◌∙◌, ap, subst, nat_eq}
use Rattle.std.proofs.lemmas.Bool.{cases_eq, eq-eqb, ne_eqb}
use Rattle.std.proofs.lemmas.List.{length-map}
use Rattle.std.proofs.lemmas.Option.{slice_get-map}
use Rattle.surf_lattice.specs.declared.site.Site.{Site}
use Rattle.surf_lattice.specs.Grids.{Grid, IsInside, Adjacent, place}
use Rattle.surf_rules.specs.declared.rule.Rule.{Rule}
use Rattle.surf_rules.specs.Books.{is_alone, is_pair, alone_of, pair_of}
use Rattle.surf_world.specs.declared.event.Event.{Event}
use Rattle.surf_world.specs.Systems as systems
use Rattle.surf_world.specs.Systems.{Surface}
use Rattle.surf_world.specs.Worlds.{rule_of}
use Rattle.surf_world.specs.Choices.{is_name, holds_test, second_test, fits_test, enabled_test, event_of, events_on}
use Rattle.surf_world.proofs.Decisions.{inside_from, adjacent_from}
use Rattle.surf_world.proofs.Members.{same_filter, filter_map_swap}

eq_swap : (a b : ℕ) → nat_eq a b ≡ nat_eq b a
eq_swap a b = elim (cases_eq a b) [
  | inl e ↦ eq-eqb a b e ∙ sym (eq-eqb b a (sym e))
  | inr ne ↦ ne_eqb a b ne ∙ sym (ne_eqb b a (λ e. ne (sym e)))
]

and_true : (b : Bool) → b && true ≡ b
and_true true = refl
and_true false = refl

and_false : (b : Bool) → b && false ≡ false
and_false true = refl
and_false false = refl

and_swap : (a b : Bool) → a && b ≡ b && a
and_swap true true = refl
and_swap true false = refl
and_swap false true = refl
and_swap false false = refl

-- a site that is inside and holds a holds b exactly where they are the same
holds_is : (g : Grid) (c : List ℕ) (p : Site) (a b : ℕ) → IsInside g p → slice_get c (place g p) ≡ Some a → holds_test nat_eq g c p b ≡ (b == a)
holds_is g c p a b i at = ap (λ t. t && is_name nat_eq (slice_get c (place g p)) b) (inside_from g p i) ∙ ap (λ o. is_name nat_eq o b) at ∙ eq_swap a b

alone_second : (g : Grid) (c : List ℕ) (p : Site) (right : Option ℕ) → second_test nat_eq g c p right None ≡ is_none right
alone_second g c p None = refl
alone_second g c p (Some b) = refl

alone_fits : (g : Grid) (c : List ℕ) (p : Site) (a k : ℕ) (o : Option Rule) → IsInside g p → slice_get c (place g p) ≡ Some a → fits_test nat_eq g c (event_of p None k) (option_map rule_of o) ≡ option_map_or (is_alone a) o false
alone_fits g c p a k None i at = refl
alone_fits g c p a k (Some r) i at =
    ap (λ t. nat_lt 0 r.rate && (t && second_test nat_eq g c p r.right None)) (holds_is g c p a r.left i at)
    ∙ ap (λ t. nat_lt 0 r.rate && ((r.left == a) && t)) (alone_second g c p r.right)
    ∙ ap (λ t. nat_lt 0 r.rate && t) (and_swap (r.left == a) (is_none r.right))

pair_second : (g : Grid) (c : List ℕ) (p q : Site) (b : ℕ) (right : Option ℕ) → Adjacent g p q → slice_get c (place g q) ≡ Some b → second_test nat_eq g c p right (Some q) ≡ option_map_or (λ x. x == b) right false
pair_second g c p q b None adj at = refl
pair_second g c p q b (Some x) adj at = ap (λ t. t && holds_test nat_eq g c q x) (adjacent_from g p q adj) ∙ holds_is g c q b x (adj.second) at

pair_fits : (g : Grid) (c : List ℕ) (p q : Site) (a b k : ℕ) (o : Option Rule) → Adjacent g p q → slice_get c (place g p) ≡ Some a → slice_get c (place g q) ≡ Some b
    → fits_test nat_eq g c (event_of p (Some q) k) (option_map rule_of o) ≡ option_map_or (is_pair a b) o false
pair_fits g c p q a b k None adj at there = refl
pair_fits g c p q a b k (Some r) adj at there =
    ap (λ t. nat_lt 0 r.rate && (t && second_test nat_eq g c p r.right (Some q))) (holds_is g c p a r.left (adj.first) at)
    ∙ ap (λ t. nat_lt 0 r.rate && ((r.left == a) && t)) (pair_second g c p q b r.right adj there)
    ∙ ap (λ t. nat_lt 0 r.rate && t) (and_swap (r.left == a) (option_map_or (λ x. x == b) r.right false))

on_agrees : (test : Event → Bool) (own : ℕ → Bool) (n m : ℕ) (p : Site) (q : Option Site) → n ≡ m → ((k : ℕ) → test (event_of p q k) ≡ own k) → events_on test n p q ≡ map (event_of p q) (filter own (range_with_len 0 m))
on_agrees test own n m p q is same =
    ap (λ l. events_on test l p q) is
    ∙ filter_map_swap test (event_of p q) (range_with_len 0 m)
    ∙ ap (map (event_of p q)) (same_filter (λ k. test (event_of p q k)) own (range_with_len 0 m) same)

-- the surface of a grid and the rules of a book
abbrev pub surface_of : Grid → List Rule → Surface ℕ
surface_of g rules = record { grid = g; rules = map rule_of rules }

pub alone_agrees : (g : Grid) (rules : List Rule) (c : List ℕ) (p : Site) (a : ℕ) → IsInside g p → slice_get c (place g p) ≡ Some a
    → events_on (enabled_test nat_eq (surface_of g rules) c) (length (map rule_of rules)) p None ≡ map (event_of p None) (alone_of rules a)
alone_agrees g rules c p a i at =
    on_agrees (enabled_test nat_eq (surface_of g rules) c) (λ k. option_map_or (is_alone a) (slice_get rules k) false) (length (map rule_of rules)) (length rules) p None (length-map rules rule_of)
    (λ k. ap (fits_test nat_eq g c (event_of p None k)) (slice_get-map rule_of rules k) ∙ alone_fits g c p a k (slice_get rules k) i at)

pub pair_agrees : (g : Grid) (rules : List Rule) (c : List ℕ) (p q : Site) (a b : ℕ) → Adjacent g p q → slice_get c (place g p) ≡ Some a → slice_get c (place g q) ≡ Some b
    → events_on (enabled_test nat_eq (surface_of g rules) c) (length (map rule_of rules)) p (Some q) ≡ map (event_of p (Some q)) (pair_of rules a b)
pair_agrees g rules c p q a b adj at there =
    on_agrees (enabled_test nat_eq (surface_of g rules) c) (λ k. option_map_or (is_pair a b) (slice_get rules k) false) (length (map rule_of rules)) (length rules) p (Some q) (length-map rules rule_of)
    (λ k. ap (fits_test nat_eq g c (event_of p (Some q) k)) (slice_get-map rule_of rules k) ∙ pair_fits g c p q a b k (slice_get rules k) adj at there)

-- the same at the surface of a world
module _ (S : Surface ℕ) (rules : List Rule) (same : map rule_of rules ≡ S.rules) where
  pub alone_events : (c : List ℕ) (p : Site) (a : ℕ) (ks : List ℕ) → IsInside S.grid p → slice_get c (place S.grid p) ≡ Some a → ks ≡ alone_of rules a
      → events_on (enabled_test nat_eq S c) (length S.rules) p None ≡ map (event_of p None) ks
  alone_events c p a ks i at is =
      subst (λ (R : List (systems.Rule ℕ)). events_on (enabled_test nat_eq (record { grid = S.grid; rules = R }) c) (length R) p None ≡ map (event_of p None) (alone_of rules a)) same (alone_agrees S.grid rules c p a i at)
      ∙ ap (map (event_of p None)) (sym is)

  pub pair_events : (c : List ℕ) (p q : Site) (a b : ℕ) (ks : List ℕ) → Adjacent S.grid p q → slice_get c (place S.grid p) ≡ Some a → slice_get c (place S.grid q) ≡ Some b → ks ≡ pair_of rules a b
      → events_on (enabled_test nat_eq S c) (length S.rules) p (Some q) ≡ map (event_of p (Some q)) ks
  pair_events c p q a b ks adj at there is =
      subst (λ (R : List (systems.Rule ℕ)). events_on (enabled_test nat_eq (record { grid = S.grid; rules = R }) c) (length R) p (Some q) ≡ map (event_of p (Some q)) (pair_of rules a b)) same (pair_agrees S.grid rules c p q a b adj at there)
      ∙ ap (map (event_of p (Some q))) (sym is)
