-- The events of a simulation are a run, and the same under other names.
use Rattle.std.proofs.Common.{ℕ, ◌≡◌, ◌+◌, ◌<◌, ◌≤◌, ◌⊎◌, inl, inr, List, [], ◌∷◌, length, map, sum_by, nat_eq, Bool, Option, Some, None, refl, sym, ◌∙◌, ap, subst, arith, zero, suc}
use Rattle.std.specs.Prelude.{bytes_eq}
use Rattle.std.specs.List.{Contains}
use Rattle.std.specs.Option.{option_map}
use Rattle.std.proofs.Math.Path.{fun_ext}
use Rattle.std.proofs.lemmas.List.Sums.{sum_by-cons}
use Rattle.rand_core.specs.Stream.{Stream}
use Rattle.surf_world.specs.declared.event.Event.{Event}
use Rattle.surf_world.specs.Systems.{Surface, Enabled, after, IsRun, left_by, Stuck}
use Rattle.surf_world.specs.Choices.{choices}
use Rattle.surf_world.specs.Picks.{rate_of}
use Rattle.surf_world.specs.Renamings.{renamed, AreBelow, IsOneToOne}
use Rattle.surf_world.proofs.Members.{has_here}
use Rattle.surf_world.proofs.Listed.{listed_enabled}
use Rattle.surf_world.proofs.Decisions.{number_to, number_from}
use Rattle.surf_world.proofs.Chosen.{pick_has, pick_below, rate_some, stuck_from_none, none_from_stuck}
use Rattle.surf_world.proofs.Renamed.{after_renamed, after_below, choices_renamed, rate_renamed, bytes_to, bytes_from}
use Rattle.surf_pick.specs.Draws.{draw_below}
use Rattle.surf_sim.specs.Simulations.{next_among, next_of, event_then, sim_events}

-- a next event, and the words after it
pub record Next {N : Type 0} (eq : N → N → Bool) (S : Surface N) (c : List N) (s : Stream) : Type 0 where
  pub event : Event
  pub words : Stream
  pub is : next_of eq S c s ≡ Some (event, words)
  pub enabled : Enabled S c event

-- what is drawn is below a number that is not 0
drawn_below : (n : ℕ) (s : Stream) → 0 < n → (draw_below n s).0 < n
drawn_below n s some = omega (arith, some)

-- one of some events is next, where all have a rate
next_listed : (rate : Event → ℕ) (x : Event) (xs : List Event) (s : Stream) → 0 < rate x → (e : Event) × (t : Stream) × (next_among rate (x ∷ xs) s ≡ Some (e, t)) × Contains (x ∷ xs) e
next_listed rate x xs s some =
    let whole : sum_by rate (x ∷ xs) ≡ rate x + sum_by rate xs = sum_by-cons rate x xs in
    let d = draw_below (sum_by rate (x ∷ xs)) s in
    let h = pick_below rate (x ∷ xs) (draw_below (sum_by rate (x ∷ xs)) s).0 (drawn_below (sum_by rate (x ∷ xs)) s (omega (arith, some, whole))) in
    (h.0, d.1, ap (λ (o : Option Event). option_map (λ (f : Event). (f, (draw_below (sum_by rate (x ∷ xs)) s).1)) o) h.1, pick_has rate (x ∷ xs) (draw_below (sum_by rate (x ∷ xs)) s).0 h.0 h.1)

enabled_of : (S : Surface ℕ) (c : List ℕ) (es : List Event) (e : Event) → choices nat_eq S c ≡ es → Contains es e → Enabled S c e
enabled_of S c es e is h = listed_enabled nat_eq number_to number_from S c e (subst (λ (v : List Event). Contains v e) (sym is) h)

-- there is a next event, or the surface is stuck
next_cases_of : (S : Surface ℕ) (c : List ℕ) (s : Stream) (es : List Event) → choices nat_eq S c ≡ es → ((next_of nat_eq S c s ≡ None) × Stuck S c) ⊎ Next nat_eq S c s
next_cases_of S c s [] is = inl (ap (λ es. next_among (rate_of S) es s) is, stuck_from_none S c is)
next_cases_of S c s (x ∷ xs) is =
    let h = next_listed (rate_of S) x xs s (rate_some S c x (enabled_of S c (x ∷ xs) x is (has_here x xs))) in
    inr (record {
      event = h.0;
      words = h.1;
      is = ap (λ es. next_among (rate_of S) es s) is ∙ h.2;
      enabled = enabled_of S c (x ∷ xs) h.0 is h.3;
    })

pub next_cases : (S : Surface ℕ) (c : List ℕ) (s : Stream) → ((next_of nat_eq S c s ≡ None) × Stuck S c) ⊎ Next nat_eq S c s
next_cases S c s = next_cases_of S c s (choices nat_eq S c) refl

none_some : (o : Option (Event × Stream)) (n : Event × Stream) → o ≡ None → o ≡ Some n → ⊥
none_some o n none some = let both : None ≡ Some n = sym none ∙ some in cc

same_event : (o : Option (Event × Stream)) (n m : Event × Stream) → o ≡ Some n → o ≡ Some m → n.0 ≡ m.0
same_event o n m is other =
    let both : Some n ≡ Some m = sym is ∙ other in
    let same : n ≡ m = cc in
    ap (λ (x : Event × Stream). x.0) same

pub idle_stuck : (S : Surface ℕ) (c : List ℕ) (s : Stream) → next_of nat_eq S c s ≡ None → Stuck S c
idle_stuck S c s none = elim (next_cases S c s) [
  | inl h ↦ h.1
  | inr n ↦ absurd (none_some (next_of nat_eq S c s) (n.event, n.words) none n.is)
]

pub stuck_idle : (S : Surface ℕ) (c : List ℕ) (s : Stream) → Stuck S c → next_of nat_eq S c s ≡ None
stuck_idle S c s stuck = ap (λ es. next_among (rate_of S) es s) (none_from_stuck S c stuck)

pub next_enabled : (S : Surface ℕ) (c : List ℕ) (s t : Stream) (e : Event) → next_of nat_eq S c s ≡ Some (e, t) → Enabled S c e
next_enabled S c s t e is = elim (next_cases S c s) [
  | inl h ↦ absurd (none_some (next_of nat_eq S c s) (e, t) h.0 is)
  | inr n ↦ subst (Enabled S c) (same_event (next_of nat_eq S c s) (n.event, n.words) (e, t) n.is is) n.enabled
]

pub no_events : {N : Type 0} (eq : N → N → Bool) (S : Surface N) (c : List N) (s : Stream) (n : ℕ) → next_of eq S c s ≡ None → sim_events eq S c s n ≡ []
no_events eq S c s zero is = refl
no_events eq S c s (suc n) is = ap (λ o. event_then o (λ e t. sim_events eq S (after S c e) t n)) is

pub one_event : {N : Type 0} (eq : N → N → Bool) (S : Surface N) (c : List N) (s t : Stream) (e : Event) (n : ℕ) → next_of eq S c s ≡ Some (e, t) → sim_events eq S c s (suc n) ≡ e ∷ sim_events eq S (after S c e) t n
one_event eq S c s t e n is = ap (λ o. event_then o (λ e t. sim_events eq S (after S c e) t n)) is

pub are_run : (S : Surface ℕ) (c : List ℕ) (s : Stream) (n : ℕ) → IsRun S c (sim_events nat_eq S c s n)
are_run S c s zero = tt
are_run S c s (suc n) = elim (next_cases S c s) [
  | inl h ↦ subst (IsRun S c) (sym (no_events nat_eq S c s (suc n) h.0)) tt
  | inr x ↦ subst (IsRun S c) (sym (one_event nat_eq S c s x.words x.event n x.is)) (x.enabled, are_run S (after S c x.event) x.words n)
]

pub are_few : (S : Surface ℕ) (c : List ℕ) (s : Stream) (n : ℕ) → length (sim_events nat_eq S c s n) ≤ n
are_few S c s zero = omega arith
are_few S c s (suc n) = elim (next_cases S c s) [
  | inl h ↦ omega (arith, ap length (no_events nat_eq S c s (suc n) h.0))
  | inr x ↦ omega (arith, ap length (one_event nat_eq S c s x.words x.event n x.is), are_few S (after S c x.event) x.words n)
]

-- a list of fewer events than asked leaves the surface stuck
abbrev EndsStuck : Surface ℕ → List ℕ → ℕ → List Event → Type 0
EndsStuck S c n es = length es < n → Stuck S (left_by S c es)

pub ends_stuck : (S : Surface ℕ) (c : List ℕ) (s : Stream) (n : ℕ) → EndsStuck S c n (sim_events nat_eq S c s n)
ends_stuck S c s zero = λ less. absurd (omega (arith, less))
ends_stuck S c s (suc n) = elim (next_cases S c s) [
  | inl h ↦ subst (EndsStuck S c (suc n)) (sym (no_events nat_eq S c s (suc n) h.0)) (λ less. h.1)
  | inr x ↦ subst (EndsStuck S c (suc n)) (sym (one_event nat_eq S c s x.words x.event n x.is)) (λ less. ends_stuck S (after S c x.event) x.words n (omega (arith, less)))
]

same_then : (o : Option (Event × Stream)) (f g : Event → Stream → List Event) → ((e : Event) (t : Stream) → f e t ≡ g e t) → event_then o f ≡ event_then o g
same_then None f g same = refl
same_then (Some n) f g same = ap (λ es. n.0 ∷ es) (same n.0 n.1)

module _ (f : ℕ → List ℕ) (k : ℕ) (one : IsOneToOne k f) (S : Surface ℕ) where
  next_renamed : (c : List ℕ) (s : Stream) → AreBelow k S c → next_of bytes_eq (renamed f S) (map f c) s ≡ next_of nat_eq S c s
  next_renamed c s below =
      ap (λ es. next_among (rate_of (renamed f S)) es s) (choices_renamed k f one S bytes_eq bytes_to bytes_from c below)
      ∙ ap (λ rate. next_among rate (choices nat_eq S c) s) (fun_ext (rate_renamed f S))

  pub events_renamed : (c : List ℕ) (s : Stream) (n : ℕ) → AreBelow k S c → sim_events bytes_eq (renamed f S) (map f c) s n ≡ sim_events nat_eq S c s n
  events_renamed c s zero below = refl
  events_renamed c s (suc n) below =
      ap (λ o. event_then o (λ e t. sim_events bytes_eq (renamed f S) (after (renamed f S) (map f c) e) t n)) (next_renamed c s below)
      ∙ same_then (next_of nat_eq S c s) _ _ (λ e t. ap (λ d. sim_events bytes_eq (renamed f S) d t n) (after_renamed f S c e) ∙ events_renamed (after S c e) t n (after_below k S c e below))
