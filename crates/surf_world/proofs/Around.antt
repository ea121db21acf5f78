-- After an event only its sites and their neighbours need new weights.
use Rattle.std.specs.Prelude.{Contains, slice_index, slice_set}
use Rattle.std.specs.List.{flat_map}
use Rattle.std.specs.Option.{option_to_list}
use Rattle.std.proofs.Common.{ℕ, zero, suc, ◌≡◌, ◌*◌, ◌<◌, ◌⊎◌, inl, inr, List, [], ◌∷◌, ◌++◌, length, map, Option, Some, None, slice_get, set, refl, sym, ◌∙◌, ap, subst, arith, length-set}
use Rattle.std.proofs.lemmas.Bool.{cases_eq}
use Rattle.std.proofs.lemmas.List.{get_or-set_other, get_or-set_same, ext_get_or, length-map}
use Rattle.std.proofs.lemmas.List.Elements.{Contains-append_left, Contains-append_right, Contains-append_cases}
use Rattle.surf_lattice.specs.declared.site.Site.{Site}
use Rattle.surf_lattice.specs.Grids.{Grid, IsInside, Adjacent, neighbour, neighbours, place, site_at, sites}
use Rattle.surf_lattice.proofs.Neighbours.{adjacent_from, adjacent_back, adjacent_listed, listed_adjacent}
use Rattle.surf_world.specs.declared.event.Event.{Event}
use Rattle.surf_world.specs.Systems.{Rule, Surface, FitsSecond, Enabled, after, with_rule, with_second}
use Rattle.surf_world.specs.Picks.{weight_of, around, around_event, refreshed}
use Rattle.surf_world.proofs.Members.{has_here, has_later, has_cases, has_first, has_none, has_flat, flat_has}
use Rattle.surf_world.proofs.Places.{site_of, sites_length, one_place, site_inside, place_site}
use Rattle.surf_world.proofs.Listed.{fitting, second_adjacent}
use Rattle.surf_world.proofs.Local.{SameAt, SameThere, same_weight}

-- what setting the weights of some sites does to one place
pub refreshed_length : (S : Surface ℕ) (d : List ℕ) (ps : List Site) (ws : List ℕ) → length (refreshed S d ps ws) ≡ length ws
refreshed_length S d [] ws = refl
refreshed_length S d (p ∷ ps) ws = refreshed_length S d ps _ ∙ length-set ws (place S.grid p) (weight_of S d p)

pub refreshed_append : (S : Surface ℕ) (d : List ℕ) (ps qs : List Site) (ws : List ℕ) → refreshed S d (ps ++ qs) ws ≡ refreshed S d qs (refreshed S d ps ws)
refreshed_append S d [] qs ws = refl
refreshed_append S d (p ∷ ps) qs ws = refreshed_append S d ps qs _

refreshed_at : (S : Surface ℕ) (d : List ℕ) (ps : List Site) (ws : List ℕ) (i v : ℕ) → i < length ws → ((p : Site) → Contains ps p → place S.grid p ≡ i → weight_of S d p ≡ v)
    → (((p : Site) → Contains ps p → place S.grid p ≡ i → ⊥) → slice_index ws i ≡ v) → slice_index (refreshed S d ps ws) i ≡ v
refreshed_at S d [] ws i v lt right other = other (λ p c e. has_none p c)
refreshed_at S d (p ∷ ps) ws i v lt right other =
    let j = place S.grid p in
    let w = weight_of S d p in
    refreshed_at S d ps (slice_set ws j w) i v (omega (arith, lt, length-set ws j w)) (λ q c. right q (has_later p ps q c))
    (λ no_more. elim (cases_eq j i) [
      | inl e ↦ ap (λ n. slice_index (slice_set ws n w) i) e ∙ get_or-set_same ws i w 0 lt ∙ right p (has_here p ps) e
      | inr ne ↦
          get_or-set_other ws j i w 0 (λ e. ne (sym e))
          ∙ other (λ q c same. elim (has_cases p ps q c) [ inl e ↦ ne (ap (place S.grid) e ∙ same) | inr r ↦ no_more q r same ])
    ])

-- what a list has elsewhere than it was set
get_set_other : {X : Type 0} (xs : List X) (j k : ℕ) (x : X) → (j ≡ k → ⊥) → slice_get (set xs j x) k ≡ slice_get xs k
get_set_other [] zero k x ne = refl
get_set_other [] (suc j) k x ne = refl
get_set_other (y ∷ ys) zero zero x ne = absurd (ne refl)
get_set_other (y ∷ ys) zero (suc k) x ne = refl
get_set_other (y ∷ ys) (suc j) zero x ne = refl
get_set_other (y ∷ ys) (suc j) (suc k) x ne = get_set_other ys j k x (λ e. ne (ap (λ n. suc n) e))

-- the event is at this site
abbrev pub IsAt : Event → Site → Type 0
IsAt e p = (e.first ≡ p) ⊎ (e.second ≡ Some p)

second_other : (g : Grid) (c : List ℕ) (b : Option ℕ) (o : Option Site) (k : ℕ) → ((q : Site) → o ≡ Some q → place g q ≡ k → ⊥) → slice_get (with_second g c b o) k ≡ slice_get c k
second_other g c None o k off = refl
second_other g c (Some b) None k off = refl
second_other g c (Some b) (Some q) k off = get_set_other c (place g q) k b (off q refl)

rule_other : (g : Grid) (c : List ℕ) (e : Event) (o : Option (Rule ℕ)) (k : ℕ) → ((p : Site) → IsAt e p → place g p ≡ k → ⊥) → slice_get (with_rule g c e o) k ≡ slice_get c k
rule_other g c e None k off = refl
rule_other g c e (Some r) k off =
    second_other g (set c (place g e.first) r.left_after) r.right_after e.second k (λ q is. off q (inr is))
    ∙ get_set_other c (place g e.first) k r.left_after (off e.first (inl refl))

-- an event changes its own sites alone
pub after_other : (S : Surface ℕ) (c : List ℕ) (e : Event) (k : ℕ) → ((p : Site) → IsAt e p → place S.grid p ≡ k → ⊥) → slice_get (after S c e) k ≡ slice_get c k
after_other S c e k off = rule_other S.grid c e (slice_get S.rules e.rule) k off

-- the sites of an event are inside
pub event_inside : (S : Surface ℕ) (c : List ℕ) (e : Event) → Enabled S c e → (p : Site) → IsAt e p → IsInside S.grid p
event_inside S c e f p (inl is) = let r = fitting S c e f in subst (IsInside S.grid) is (r.first).0
event_inside S c e f p (inr is) =
    let r = fitting S c e f in
    (second_adjacent S.grid c e.first r.rule.right p (subst (λ o. FitsSecond S.grid c e.first r.rule.right o) is r.second)).second

in_second : (o : Option Site) (p : Site) → o ≡ Some p → Contains (option_to_list o) p
in_second None p e = cc
in_second (Some q) p e = has_first q [] p (let same : q ≡ p = cc in same)

second_in : (o : Option Site) (p : Site) → Contains (option_to_list o) p → o ≡ Some p
second_in None p c = absurd (has_none p c)
second_in (Some q) p c = elim (has_cases q [] p c) [ inl e ↦ ap (λ (v : Site). Some v) e | inr d ↦ absurd (has_none p d) ]

-- what stands around an event
has_around : (g : Grid) (e : Event) (p s : Site) → IsAt e p → Contains (around g p) s → Contains (around_event g e) s
has_around g e p s (inl is) c = Contains-append_left (around g e.first) (flat_map (around g) (option_to_list e.second)) s (subst (λ q. Contains (around g q) s) (sym is) c)
has_around g e p s (inr is) c =
    Contains-append_right (around g e.first) (flat_map (around g) (option_to_list e.second)) s
    (has_flat (around g) (option_to_list e.second) p s (in_second e.second p is) c)

around_has : (g : Grid) (e : Event) (s : Site) → Contains (around_event g e) s → (p : Site) × IsAt e p × Contains (around g p) s
around_has g e s c = elim (Contains-append_cases (around g e.first) (flat_map (around g) (option_to_list e.second)) s c) [
  | inl a ↦ (e.first, inl refl, a)
  | inr b ↦ let m = flat_has (around g) (option_to_list e.second) s b in (m.0, inr (second_in e.second m.0 m.1), m.2)
]

around_inside : (g : Grid) (p s : Site) → IsInside g p → Contains (around g p) s → IsInside g s
around_inside g p s i c = elim (has_cases p (neighbours g p) s c) [
  | inl e ↦ subst (IsInside g) e i
  | inr d ↦ (listed_adjacent g p s i d).second
]

there_same : (g : Grid) (c d : List ℕ) (o : Option Site) → ((q : Site) → o ≡ Some q → SameAt g c d q) → SameThere g c d o
there_same g c d None h = tt
there_same g c d (Some q) h = h q refl

-- a site that is not around an event keeps its weight
pub keeps_weight : (S : Surface ℕ) (c : List ℕ) (e : Event) (s : Site) → Enabled S c e → IsInside S.grid s → ((p : Site) → Contains (around_event S.grid e) p → place S.grid p ≡ place S.grid s → ⊥)
    → weight_of S c s ≡ weight_of S (after S c e) s
keeps_weight S c e s f inside off =
    let g = S.grid in
    same_weight S c (after S c e) s
    (sym (after_other S c e (place g s) (λ p at. off p (has_around g e p p at (has_here p (neighbours g p))))))
    (λ i below. there_same g c (after S c e) (neighbour g s i) (λ q is.
    sym (after_other S c e (place g q) (λ p at same.
    let a = adjacent_from g s i q inside below is in
    let one : p ≡ q = one_place g p q (event_inside S c e f p at) (a.second) same in
    let back : Adjacent g p s = subst (λ r. Adjacent g r s) (sym one) (adjacent_back g s q a) in
    off s (has_around g e p s at (has_later p (neighbours g p) s (adjacent_listed g p s back))) refl))))

map_at : {X : Type 0} (f : X → ℕ) (xs : List X) (k : ℕ) (x : X) → slice_get xs k ≡ Some x → slice_index (map f xs) k ≡ f x
map_at f [] k x is = cc
map_at f (y ∷ ys) zero x is = ap f (let same : y ≡ x = cc in same)
map_at f (y ∷ ys) (suc k) x is = map_at f ys k x is

-- once the sites of an event and their neighbours got their weights anew, all weights are right
pub refreshed_is : (S : Surface ℕ) (c : List ℕ) (e : Event) (ws : List ℕ) → Enabled S c e → ws ≡ map (weight_of S c) (sites S.grid)
    → refreshed S (after S c e) (around_event S.grid e) ws ≡ map (weight_of S (after S c e)) (sites S.grid)
refreshed_is S c e ws f is =
    let g = S.grid in
    let d = after S c e in
    let ps = around_event g e in
    let n : length ws ≡ g.width * g.height = ap length is ∙ length-map (sites g) (weight_of S c) ∙ sites_length g in
    let m : length (map (weight_of S (after S c e)) (sites S.grid)) ≡ g.width * g.height = length-map (sites g) (weight_of S d) ∙ sites_length g in
    ext_get_or 0 _ _ (refreshed_length S d ps ws ∙ n ∙ sym m) (λ i lt.
    let within : i < g.width * g.height = omega (arith, lt, refreshed_length S d ps ws, n) in
    let s = site_at g i in
    let inside = site_inside g i within in
    let here = place_site g i in
    let at = site_of g i within in
    refreshed_at S d ps ws i (weight_of S d s) (omega (arith, within, n))
    (λ p has same.
    let a = around_has g e p has in
    let p_inside = around_inside g a.0 p (event_inside S c e f a.0 a.1) a.2 in
    ap (weight_of S d) (one_place g p s p_inside inside (same ∙ sym here)))
    (λ off.
    ap (λ v. slice_index v i) is ∙ map_at (weight_of S c) (sites g) i s at
    ∙ keeps_weight S c e s f inside (λ p has same. off p has (same ∙ here)))
    ∙ sym (map_at (weight_of S d) (sites g) i s at))
