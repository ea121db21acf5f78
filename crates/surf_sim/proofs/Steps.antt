-- A step is the next event, and keeps the weights right.
use Rattle.std.proofs.Common.{ℕ, ◌≡◌, ◌+◌, ◌<◌, List, [], ◌∷◌, take, map, sum, sum_by, slice_index, inl, inr, Option, Some, None, slice_get, nat_eq, sym, ◌∙◌, ap, subst, arith, zero, suc}
use Rattle.std.specs.Prelude.{Contains}
use Rattle.std.specs.Option.{option_map, option_to_list}
use Rattle.rand_core.specs.Stream.{Stream}
use Rattle.surf_lattice.specs.declared.site.Site.{Site}
use Rattle.surf_lattice.specs.Grids.{place, sites}
use Rattle.surf_world.specs.declared.event.Event.{Event}
use Rattle.surf_world.specs.Systems.{Enabled, after}
use Rattle.surf_world.specs.Worlds.{Placed}
use Rattle.surf_world.specs.Choices.{choices_at, choices}
use Rattle.surf_world.specs.Picks.{rate_of, pick, weight_of, weights_of, around_event, refreshed}
use Rattle.surf_world.proofs.Around.{refreshed_is, after_other, event_inside}
use Rattle.surf_world.proofs.Members.{has_first, has_later}
use Rattle.surf_world.proofs.Places.{one_place, listed}
use Rattle.surf_world.proofs.Singles.{single_keeps}
use Rattle.surf_sim.specs.Touched.{AreSettled}
use Rattle.surf_world.proofs.Laws.{pick_along, weights_sum}
use Rattle.surf_world.proofs.Chosen.{none_left}
use Rattle.surf_pick.specs.Draws.{draw_below}
use Rattle.surf_pick.specs.Finds.{Finds}
use Rattle.surf_sim.specs.Simulations.{next_among, next_of}

map_at : {X : Type 0} (f : X → ℕ) (xs : List X) (k : ℕ) (x : X) → slice_get xs k ≡ Some x → slice_index (map f xs) k ≡ f x
map_at f [] k x is = cc
map_at f (y ∷ ys) zero x is = ap f (let same : y ≡ x = cc in same)
map_at f (y ∷ ys) (suc k) x is = map_at f ys k x is

among : (rate : Event → ℕ) (es : List Event) (s : Stream) (total r : ℕ) (t : Stream) (e : Event) → total ≡ sum_by rate es → (r, t) ≡ draw_below total s → pick rate es r ≡ Some e → next_among rate es s ≡ Some (e, t)
among rate [] s total r t e is draw picked = cc
among rate (x ∷ es) s total r t e is draw picked =
    let d : draw_below (sum_by rate (x ∷ es)) s ≡ (r, t) = ap (λ n. draw_below n s) (sym is) ∙ sym draw in
    ap (λ (p : ℕ × Stream). option_map (λ (f : Event). (f, p.1)) (pick rate (x ∷ es) p.0)) d ∙ ap (λ (o : Option Event). option_map (λ (f : Event). (f, t)) o) picked

-- what is left of a number is below the weight of the site that was found
pub rest_below : (w : Placed) (ws : List ℕ) (r place rest : ℕ) (p : Site) → ws ≡ weights_of w → Finds ws r place rest → slice_get (sites w.surface.grid) place ≡ Some p → rest < weight_of w.surface w.names p
rest_below w ws r place rest p is f at = omega (arith, f.exceeds, ap (λ v. slice_index v place) is, map_at (weight_of w.surface w.names) (sites w.surface.grid) place p at)

pub next_is : (w : Placed) (ws : List ℕ) (s t : Stream) (total r place rest : ℕ) (p : Site) (e : Event) → ws ≡ weights_of w → total ≡ sum ws → (r, t) ≡ draw_below total s → Finds ws r place rest
    → slice_get (sites w.surface.grid) place ≡ Some p → pick (rate_of w.surface) (choices_at nat_eq w.surface w.names p) rest ≡ Some e
    → next_of nat_eq w.surface w.names s ≡ Some (e, t)
next_is w ws s t total r place rest p e is whole draw f at found =
    let before : sum (take place (weights_of w)) + rest ≡ r = ap (λ v. sum (take place v) + rest) (sym is) ∙ f.before in
    among (rate_of w.surface) (choices nat_eq w.surface w.names) s total r t e (whole ∙ ap sum is ∙ weights_sum w) draw
    (pick_along (rate_of w.surface) (choices_at nat_eq w.surface w.names) (sites w.surface.grid) place p rest r at before (rest_below w ws r place rest p is f at) ∙ found)

-- where the weights sum to 0 there are no choices
pub none_is : (w : Placed) (ws : List ℕ) (total : ℕ) → ws ≡ weights_of w → total ≡ sum ws → total ≡ 0 → choices nat_eq w.surface w.names ≡ []
none_is w ws total is whole z = none_left w.surface w.names (sym (weights_sum w) ∙ ap sum (sym is) ∙ sym whole ∙ z)

pub none_next : (w : Placed) (s : Stream) → choices nat_eq w.surface w.names ≡ [] → next_of nat_eq w.surface w.names s ≡ None
none_next w s none = ap (λ es. next_among (rate_of w.surface) es s) none

-- the weights after an event
pub right_again : (w new : Placed) (e : Event) (ws vs : List ℕ) → new ≡ record w { names = after w.surface w.names e } → Enabled w.surface w.names e → ws ≡ weights_of w
    → vs ≡ refreshed new.surface new.names (around_event new.surface.grid e) ws → vs ≡ weights_of new
right_again w new e ws vs is f right set =
    subst (λ (n : Placed). vs ≡ refreshed n.surface n.names (around_event n.surface.grid e) ws) is set
    ∙ refreshed_is w.surface w.names e ws f right
    ∙ ap weights_of (sym is)

in_option : (o : Option Site) (p : Site) → o ≡ Some p → Contains (option_to_list o) p
in_option None p e = cc
in_option (Some q) p e = has_first q [] p (let same : q ≡ p = cc in same)

-- after an event, names that begin no pair have their weights, but for the event's own sites
pub settled_after : (w new : Placed) (e : Event) (ws : List ℕ) → new ≡ record w { names = after w.surface w.names e } → Enabled w.surface w.names e → ws ≡ weights_of w
    → AreSettled new.surface new.names (e.first ∷ option_to_list e.second) ws
settled_after w new e ws is f right =
    subst (λ (n : Placed). AreSettled n.surface n.names (e.first ∷ option_to_list e.second) ws) (sym is) (λ p a inside at single out.
    let S = w.surface in
    let own = map_at (weight_of S w.names) (sites S.grid) (place S.grid p) p (listed S.grid p inside) in
    let stays = after_other S w.names e (place S.grid p) (λ q at_q same.
    let one = one_place S.grid q p (event_inside S w.names e f q at_q) inside same in
    out (elim at_q [
      | inl x ↦ has_first e.first (option_to_list e.second) p (x ∙ one)
      | inr x ↦ has_later e.first (option_to_list e.second) p (in_option e.second p (x ∙ ap (λ (v : Site). Some v) one))
    ])) in
    ap (λ v. slice_index v (place S.grid p)) right ∙ own ∙ single_keeps S w.names (after S w.names e) p a (sym stays ∙ at) at single)
