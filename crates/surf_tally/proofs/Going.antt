-- What is counted while a simulation goes on.
use Rattle.std.specs.Option.{option_map}
use Rattle.std.proofs.Common.{ℕ, suc, ◌≡◌, ◌+◌, ◌-◌, ◌<◌, ◌≤◌, nat_eq, List, [], ◌∷◌, length, Option, Some, None, slice_get, refl, sym, ◌∙◌, ap, subst, arith}
use Rattle.std.proofs.lemmas.Option.{same_Some}
use Rattle.surf_world.specs.declared.event.Event.{Event}
use Rattle.surf_world.specs.Renamings.{AreBelow}
use Rattle.surf_world.specs.Worlds.{Placed}
use Rattle.surf_pick.specs.Draws.{words_of}
use Rattle.surf_sim.specs.Simulations.{Simulation, IsStep, event_then, next_of, sim_events}
use Rattle.surf_sync.specs.Spelling.{shown_at}
use Rattle.surf_tally.specs.declared.counts.Count.{Count}
use Rattle.surf_tally.specs.declared.shown.Shown.{Shown}
use Rattle.surf_tally.specs.Counting.{Going, Outcome, ended, noted, outcome}
use Rattle.surf_tally.specs.Showings.{look_at, look_some, show_by, showing}
use Rattle.surf_tally.specs.Simulated.{events_from}
use Rattle.surf_tally.proofs.Followed.{IsNoted, few_next, next}
use Rattle.surf_tally.proofs.Noted.{outcome_end, outcome_on, shown_noted}

looked : (table : List (Option Shown)) (o : Option ℕ) → shown_at (show_by table) o ≡ showing (look_some table o)
looked table None = refl
looked table (Some m) = refl

pub one_more : (now new : Simulation) (e : Event) (m : ℕ) → IsStep now new (Some e) → events_from now (suc m) ≡ e ∷ events_from new m
one_more now new e m step =
    ap (λ o. event_then o (λ f t. sim_events nat_eq now.placed.surface (next now.placed f).names t m)) step.0
    ∙ ap (λ (v : Placed). e ∷ sim_events nat_eq v.surface v.names (words_of new.generator) m) (sym step.1)

pub no_more : (now : Simulation) (m : ℕ) → next_of nat_eq now.placed.surface now.placed.names (words_of now.generator) ≡ None → events_from now (suc m) ≡ []
no_more now m none = ap (λ o. event_then o (λ f t. sim_events nat_eq now.placed.surface (next now.placed f).names t m)) none

module _ (table : List (Option Shown)) (watched count : ℕ) where
  abbrev told_by : Simulation → List Event → ℕ → Count → Outcome
  told_by s es p = outcome (show_by table) s.placed.surface s.placed.names es watched p

  pub begun : (sim : Simulation) (first : List Count) → AreBelow (length table) sim.placed.surface sim.placed.names → length first ≡ length sim.placed.names
      → ((p : ℕ) (x : Count) → slice_get first p ≡ Some x → x.reached ≡ 0) → ((p : ℕ) (x : Count) → slice_get first p ≡ Some x → x.shown ≡ look_at table sim.placed p) → Going table watched count 0 sim sim first first
  begun sim first below sites none right = let all : count ≡ count - 0 = omega arith in record {
    within = omega arith;
    below = below;
    sites = sites;
    few = λ p x at. let is = none p x at in omega (arith, is);
    right = right;
    number = let same : length (events_from sim count) ≡ length (events_from sim (count - 0)) = ap (λ m. length (events_from sim m)) all in omega (arith, same);
    told = λ p. ap (λ m. option_map (told_by sim (events_from sim m) p) (slice_get first p)) (sym all);
  }

  module _ (n : ℕ) (sim now : Simulation) (first counts : List Count) (going : Going table watched count n sim now first counts) where
    -- no event is left
    over : events_from now (count - n) ≡ [] → (new : List Count) → new ≡ counts → (n ≡ length (events_from sim count)) × ((p : ℕ) → option_map (ended watched) (slice_get new p) ≡ option_map (told_by sim (events_from sim count) p) (slice_get first p))
    over none new same = (
      let number = going.number in let zero_left : length (events_from now (count - n)) ≡ 0 = ap (λ (es : List Event). length es) none in omega (arith, number, zero_left),
      λ p. ap (λ (cs : List Count). option_map (ended watched) (slice_get cs p)) same
          ∙ last p (slice_get counts p)
          ∙ ap (λ (es : List Event). option_map (told_by now es p) (slice_get counts p)) (sym none)
          ∙ going.told p,
    )
      where
        last : (p : ℕ) (o : Option Count) → option_map (ended watched) o ≡ option_map (told_by now [] p) o
        last p None = refl
        last p (Some x) = ap (λ (y : Outcome). Some y) (outcome_end (show_by table) now.placed.surface now.placed.names watched p x)

    pub stopped : n < count → next_of nat_eq now.placed.surface now.placed.names (words_of now.generator) ≡ None → (new : List Count) → new ≡ counts
        → (n ≡ length (events_from sim count)) × ((p : ℕ) → option_map (ended watched) (slice_get new p) ≡ option_map (told_by sim (events_from sim count) p) (slice_get first p))
    stopped lt none = over (ap (events_from now) (let left : count - n ≡ suc (count - (n + 1)) = omega (arith, lt) in left) ∙ no_more now (count - (n + 1)) none)

    pub counted : count ≤ n → (count ≡ length (events_from sim count)) × ((p : ℕ) → option_map (ended watched) (slice_get counts p) ≡ option_map (told_by sim (events_from sim count) p) (slice_get first p))
    counted le =
        let all = over (ap (events_from now) (let left : count - n ≡ 0 = omega (arith, le) in left)) counts refl in
        (let number = all.0 in let within = going.within in omega (arith, number, le, within), all.1)

    module _ (new : Simulation) (e : Event) (step : IsStep now new (Some e)) (more : List Count) (lt : n < count) where
      rest : events_from now (count - n) ≡ e ∷ events_from new (count - (n + 1))
      rest = ap (events_from now) (let left : count - n ≡ suc (count - (n + 1)) = omega (arith, lt) in left) ∙ one_more now new e (count - (n + 1)) step

      -- what the event makes of a count
      on : (p : ℕ) (o : Option Count) → ((x : Count) → o ≡ Some x → x.shown ≡ look_at table now.placed p)
          → option_map (told_by new (events_from new (count - (n + 1))) p) (option_map (noted watched (look_at table new.placed p)) o) ≡ option_map (told_by now (e ∷ events_from new (count - (n + 1))) p) o
      on p None right = refl
      on p (Some x) right = ap (λ (y : Outcome). Some y) (subst P (sym step.1) there)
        where
          es : List Event
          es = events_from new (count - (n + 1))

          P : Placed → Type 0
          P v = outcome (show_by table) v.surface v.names (events_from new (count - (n + 1))) watched p (noted watched (look_at table v p) x) ≡ told_by now (e ∷ events_from new (count - (n + 1))) p x

          there : P (next now.placed e)
          there = outcome_on (show_by table) now.placed.surface now.placed.names e (events_from new (count - (n + 1))) watched p x (look_at table (next now.placed e) p)
              (looked table (slice_get now.placed.names p) ∙ ap showing (sym (right x refl)))
              (looked table (slice_get (next now.placed e).names p))

      shown_some : (p : ℕ) (o : Option Count) (y : Count) → option_map (noted watched (look_at table new.placed p)) o ≡ Some y → y.shown ≡ look_at table new.placed p
      shown_some p None y at = absurd (let no : None ≡ Some y = at in cc)
      shown_some p (Some x) y at =
          ap (λ (z : Count). z.shown) (sym (same_Some (noted watched (look_at table new.placed p) x) y at)) ∙ shown_noted watched (look_at table new.placed p) x

      -- one more event
      pub went_on : ((p : ℕ) → IsNoted watched table new.placed counts more p) → AreBelow (length table) new.placed.surface new.placed.names → length more ≡ length new.placed.names → Going table watched count (n + 1) sim new first more
      went_on notes below sites = record {
        within = omega (arith, lt);
        below = below;
        sites = sites;
        few = λ p y at. few_next watched n (look_at table new.placed p) counts more p y (notes p) (λ x was. going.few p x was) at;
        right = λ p y at. shown_some p (slice_get counts p) y (sym (notes p) ∙ at);
        number = let number = going.number in let longer : length (events_from now (count - n)) ≡ suc (length (events_from new (count - (n + 1)))) = ap (λ (es : List Event). length es) rest in omega (arith, number, longer);
        told = λ p.
            ap (option_map (told_by new (events_from new (count - (n + 1))) p)) (notes p)
            ∙ on p (slice_get counts p) (λ x was. going.right p x was)
            ∙ ap (λ (es : List Event). option_map (told_by now es p) (slice_get counts p)) (sym rest)
            ∙ going.told p;
      }
