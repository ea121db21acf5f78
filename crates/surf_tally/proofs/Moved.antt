-- Where a simulation stands while it goes on.
use Rattle.std.proofs.Common.{ℕ, suc, ◌≡◌, ◌+◌, ◌*◌, ◌-◌, ◌<◌, ◌≤◌, nat_eq, [], length, Some, None, refl, sym, ◌∙◌, ap, arith}
use Rattle.surf_world.specs.declared.event.Event.{Event}
use Rattle.surf_world.specs.Worlds.{Placed}
use Rattle.surf_pick.specs.Draws.{words_of}
use Rattle.surf_sim.specs.Simulations.{Simulation, IsStep, next_of}
use Rattle.surf_trace.specs.Replays.{left_world}
use Rattle.surf_tally.specs.Simulated.{IsAfter, events_from, words_after, words_from, words_then}
use Rattle.surf_tally.proofs.Followed.{next}
use Rattle.surf_tally.proofs.Going.{no_more, one_more}

-- after n of at most so many events: what the events to come leave is what all of them leave
pub record Moved (sim : Simulation) (count n : ℕ) (now : Simulation) : Type 0 where
  pub world : left_world now.placed (events_from now (count - n)) ≡ left_world sim.placed (events_from sim count)
  pub words : words_from now (count - n) ≡ words_from sim count
  pub counted : sim.sets ≤ now.sets
  pub few : now.sets ≤ sim.sets + 14 * n

one_word : (now new : Simulation) (e : Event) (m : ℕ) → IsStep now new (Some e) → words_from now (suc m) ≡ words_from new m
one_word now new e m step =
    ap (λ o. words_then o (words_of now.generator) (λ f t. words_after now.placed.surface (next now.placed f).names t m)) step.0
    ∙ ap (λ (v : Placed). words_after v.surface v.names (words_of new.generator) m) (sym step.1)

no_word : (now : Simulation) (m : ℕ) → next_of nat_eq now.placed.surface now.placed.names (words_of now.generator) ≡ None → words_from now (suc m) ≡ words_of now.generator
no_word now m none = ap (λ o. words_then o (words_of now.generator) (λ f t. words_after now.placed.surface (next now.placed f).names t m)) none

module _ (sim : Simulation) (count : ℕ) where
  pub unmoved : Moved sim count 0 sim
  unmoved = let all : count - 0 ≡ count = omega arith in record {
    world = ap (λ m. left_world sim.placed (events_from sim m)) all;
    words = ap (words_from sim) all;
    counted = omega arith;
    few = omega arith;
  }

  module _ (n : ℕ) (now : Simulation) (moved : Moved sim count n now) where
    pub moved_on : n < count → (new : Simulation) (e : Event) → IsStep now new (Some e) → now.sets ≤ new.sets → new.sets ≤ now.sets + 14 → Moved sim count (n + 1) new
    moved_on lt new e step least most =
        let left : count - n ≡ suc (count - (n + 1)) = omega (arith, lt) in
        let rest = ap (events_from now) left ∙ one_more now new e (count - (n + 1)) step in
        let counted = moved.counted in
        let few = moved.few in
        record {
          world = ap (λ (v : Placed). left_world v (events_from new (count - (n + 1)))) step.1 ∙ ap (left_world now.placed) (sym rest) ∙ moved.world;
          words = sym (one_word now new e (count - (n + 1)) step) ∙ ap (words_from now) (sym left) ∙ moved.words;
          counted = omega (arith, counted, least);
          few = omega (arith, few, most);
        }

    -- no event is left
    ended : events_from now (count - n) ≡ [] → words_from now (count - n) ≡ words_of now.generator → n ≡ length (events_from sim count) → (new : Simulation) → new ≡ now → IsAfter sim count new
    ended none words long new same =
        let counted = moved.counted in
        let few = moved.few in
        let sets : new.sets ≡ now.sets = ap (λ (s : Simulation). s.sets) same in
        record {
          world = ap (λ (s : Simulation). s.placed) same ∙ ap (left_world now.placed) (sym none) ∙ moved.world;
          words = ap (λ (s : Simulation). words_of s.generator) same ∙ sym words ∙ moved.words;
          counted = omega (arith, counted, sets);
          few = omega (arith, few, sets, long);
        }

    pub stopped_there : n < count → (new : Simulation) → IsStep now new None → n ≡ length (events_from sim count) → IsAfter sim count new
    stopped_there lt new step long =
        let left : count - n ≡ suc (count - (n + 1)) = omega (arith, lt) in
        ended (ap (events_from now) left ∙ no_more now (count - (n + 1)) step.0) (ap (words_from now) left ∙ no_word now (count - (n + 1)) step.0) long new step.1

    pub counted_there : count ≤ n → n ≡ length (events_from sim count) → IsAfter sim count now
    counted_there le long =
        let left : count - n ≡ 0 = omega (arith, le) in
        ended (ap (events_from now) left) (ap (words_from now) left) long now refl
