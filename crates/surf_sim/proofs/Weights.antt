-- Setting weights, one after another.
use Rattle.std.proofs.Common.{inl, inr, ℕ, ◌≡◌, ◌+◌, ◌*◌, List, [], ◌∷◌, ◌++◌, map, Option, Some, None, IfSome, refl, sym, ◌∙◌, ap, arith, suc}
use Rattle.std.specs.List.{filter_map, range_with_len}
use Rattle.std.specs.Option.{option_to_list}
use Rattle.std.proofs.lemmas.List.FromFn.{map-range_with_len_more}
use Rattle.surf_lattice.specs.declared.site.Site.{Site}
use Rattle.surf_lattice.specs.Grids.{Grid, IsInside, neighbour, degree, site_at}
use Rattle.surf_lattice.proofs.Listing.{found_more}
use Rattle.surf_lattice.proofs.Neighbours.{neighbour_inside}
use Rattle.surf_world.specs.declared.event.Event.{Event}
use Rattle.surf_world.specs.Systems.{Surface, Enabled}
use Rattle.surf_world.specs.Worlds.{Placed}
use Rattle.surf_world.specs.Picks.{weight_of, weights_of, around, refreshed}
use Rattle.surf_world.proofs.Around.{refreshed_append, event_inside}

pub around_more : (S : Surface ℕ) (c : List ℕ) (p : Site) (d : ℕ) (old mid new : List ℕ)
    → mid ≡ refreshed S c (p ∷ filter_map (neighbour S.grid p) (range_with_len 0 d)) old → new ≡ refreshed S c (option_to_list (neighbour S.grid p d)) mid
    → new ≡ refreshed S c (p ∷ filter_map (neighbour S.grid p) (range_with_len 0 (d + 1))) old
around_more S c p d old mid new m n =
    n ∙ ap (λ v. refreshed S c (option_to_list (neighbour S.grid p d)) v) m
    ∙ sym (refreshed_append S c (p ∷ filter_map (neighbour S.grid p) (range_with_len 0 d)) (option_to_list (neighbour S.grid p d)) old)
    ∙ ap (λ v. refreshed S c (p ∷ v) old)
    (sym (found_more (neighbour S.grid p) 0 d d (omega arith)) ∙ ap (λ k. filter_map (neighbour S.grid p) (range_with_len 0 k)) (let e : suc d ≡ d + 1 = omega arith in e))

pub around_all : (S : Surface ℕ) (c : List ℕ) (p : Site) (d : ℕ) (old new : List ℕ) → d ≡ degree S.grid.kind
    → new ≡ refreshed S c (p ∷ filter_map (neighbour S.grid p) (range_with_len 0 d)) old → new ≡ refreshed S c (around S.grid p) old
around_all S c p d old new whole is = is ∙ ap (λ k. refreshed S c (p ∷ filter_map (neighbour S.grid p) (range_with_len 0 k)) old) whole

neighbour_if : (g : Grid) (p : Site) (d : ℕ) (q : Option Site) → IsInside g p → neighbour g p d ≡ q → IfSome q (IsInside g)
neighbour_if g p d None inside is = tt
neighbour_if g p d (Some q) inside is = neighbour_inside g p d q inside is

pub neighbour_in : (g h : Grid) (p : Site) (d : ℕ) (q : Option Site) → h ≡ g → IsInside g p → q ≡ neighbour h p d → IfSome q (IsInside g)
neighbour_in g h p d q same inside is = neighbour_if g p d q inside (sym (is ∙ ap (λ k. neighbour k p d) same))

-- the sites of an event are inside
pub first_inside : (S : Surface ℕ) (c : List ℕ) (e : Event) → Enabled S c e → IsInside S.grid e.first
first_inside S c e f = event_inside S c e f e.first (inl refl)

second_if : (S : Surface ℕ) (c : List ℕ) (e : Event) (o : Option Site) → Enabled S c e → e.second ≡ o → IfSome o (IsInside S.grid)
second_if S c e None f is = tt
second_if S c e (Some q) f is = event_inside S c e f q (inr is)

pub second_inside : (S : Surface ℕ) (c : List ℕ) (e : Event) → Enabled S c e → IfSome e.second (IsInside S.grid)
second_inside S c e f = second_if S c e e.second f refl

-- the weights of the first places
abbrev pub first_weights : Placed → ℕ → List ℕ
first_weights w k = map (λ i. weight_of w.surface w.names (site_at w.surface.grid i)) (range_with_len 0 k)

pub weights_more : (w : Placed) (k : ℕ) (old new : List ℕ) (x : ℕ) → old ≡ first_weights w k → x ≡ weight_of w.surface w.names (site_at w.surface.grid k) → new ≡ old ++ x ∷ [] → new ≡ first_weights w (k + 1)
weights_more w k old new x is here pushed =
    pushed ∙ ap (λ v. v ++ x ∷ []) is ∙ ap (λ y. first_weights w k ++ y ∷ []) here
    ∙ sym (map-range_with_len_more (λ i. weight_of w.surface w.names (site_at w.surface.grid i)) 0 k k (omega arith))

map_twice : {X Y Z : Type 0} (f : Y → Z) (g : X → Y) (xs : List X) → map f (map g xs) ≡ map (λ x. f (g x)) xs
map_twice f g [] = refl
map_twice f g (x ∷ xs) = ap (λ v. f (g x) ∷ v) (map_twice f g xs)

pub weights_all : (w : Placed) (k : ℕ) (ws : List ℕ) → k ≡ w.surface.grid.width * w.surface.grid.height → ws ≡ first_weights w k → ws ≡ weights_of w
weights_all w k ws whole is =
    is ∙ ap (first_weights w) whole ∙ sym (map_twice (weight_of w.surface w.names) (site_at w.surface.grid) (range_with_len 0 (w.surface.grid.width * w.surface.grid.height)))
