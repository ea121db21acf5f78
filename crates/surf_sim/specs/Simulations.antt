-- The events of a simulation: at each turn the choice of a number that is drawn below the sum of
-- the rates.
use Rattle.std.specs.Prelude.{ℕ, zero, suc, ◌*◌, ◌≤◌, ◌≡◌, nat_eq, Bool, List, [], ◌∷◌, length, sum_by, All, Option, Some, None}
use Rattle.std.specs.Option.{option_map}
use Rattle.rand_core.specs.Stream.{Stream}
use Rattle.rand_pcg.specs.Lcg.{Lcg}
use Rattle.surf_world.specs.declared.event.Event.{Event}
use Rattle.surf_world.specs.Systems.{Surface, after}
use Rattle.surf_world.specs.Worlds.{Placed}
use Rattle.surf_world.specs.Choices.{choices}
use Rattle.surf_world.specs.Picks.{rate_of, pick}
use Rattle.surf_pick.specs.Draws.{words_of, draw_below}
use Rattle.surf_sim.specs.Totals.{most_weight}

-- the choice among events of a number that is drawn, and the words after the draw; no word is used
-- where there are no events
abbrev pub next_among : (Event → ℕ) → List Event → Stream → Option (Event × Stream)
next_among rate [] s = None
next_among rate (e ∷ es) s =
    let d = draw_below (sum_by rate (e ∷ es)) s in
    option_map (λ f. (f, d.1)) (pick rate (e ∷ es) d.0)

-- the next event and the words after it, if there is one
abbrev pub next_of : {N : Type 0} → (N → N → Bool) → Surface N → List N → Stream →
    Option (Event × Stream)
next_of eq S c s = next_among (rate_of S) (choices eq S c) s

abbrev pub event_then : Option (Event × Stream) → (Event → Stream → List Event) → List Event
event_then None rest = []
event_then (Some n) rest = n.0 ∷ rest n.0 n.1

-- the events that the words give from a configuration on: at most so many, and fewer only where
-- there is no next one
abbrev pub sim_events : {N : Type 0} → (N → N → Bool) → Surface N → List N → Stream → ℕ → List Event
sim_events eq S c s zero = []
sim_events eq S c s (suc n) =
    event_then (next_of eq S c s) (λ e t. sim_events eq S (after S c e) t n)

-- a simulation: its world, the weights of the sites, how often one was set, and its generator
pub record Simulation : Type 0 where
  pub placed : Placed
  pub weights : List ℕ
  pub sets : ℕ
  pub generator : Lcg

-- one step: the next event, or nothing where there is none
abbrev pub IsStep : Simulation → Simulation → Option Event → Type 0
IsStep old new None =
    (next_of nat_eq old.placed.surface old.placed.names (words_of old.generator) ≡ None)
    × (new ≡ old)
IsStep old new (Some e) =
    (next_of nat_eq old.placed.surface old.placed.names (words_of old.generator)
    ≡ Some (e, words_of new.generator))
    × (new.placed ≡ record old.placed { names = after old.placed.surface old.placed.names e })

-- one weight for each site, which is not too great
pub record AreWeights (S : Surface ℕ) (ws : List ℕ) : Type 0 where
  pub count : length ws ≡ S.grid.width * S.grid.height
  pub small : All (λ w. w ≤ most_weight S) ws
