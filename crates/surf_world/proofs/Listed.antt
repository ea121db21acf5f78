-- The choices are the enabled events, and there are none exactly where the surface is stuck.
use Rattle.std.specs.Prelude.{Contains}
use Rattle.std.specs.List.{flat_map, range_with_len}
use Rattle.std.proofs.Common.{ℕ, ◌≡◌, ◌*◌, ◌<◌, inl, inr, Bool, true, List, [], length, map, Option, Some, None, slice_get, refl, sym, subst, arith}
use Rattle.std.proofs.lemmas.List.Elements.{Contains-append_left, Contains-append_right, Contains-append_cases}
use Rattle.std.proofs.lemmas.Option.{slice_get_within, same_Some}
use Rattle.surf_lattice.specs.declared.site.Site.{Site}
use Rattle.surf_lattice.specs.Grids.{Grid, Adjacent, neighbour, degree, directions, place, site_at, sites}
use Rattle.surf_lattice.proofs.Neighbours.{adjacent_back}
use Rattle.surf_world.specs.declared.event.Event.{Event}
use Rattle.surf_world.specs.Systems.{Rule, Surface, Holds, FitsSecond, Fits, Enabled, Stuck}
use Rattle.surf_world.specs.Choices.{enabled_test, event_of, events_on, events_toward, events_at, choices_at, choices}
use Rattle.surf_world.proofs.Decisions.{enabled_to, enabled_from}
use Rattle.surf_world.proofs.Places.{listed}
use Rattle.surf_world.proofs.Members.{has_filter, filter_has, has_map, map_has, has_flat, flat_has, has_range, range_has, has_at, nothing_in, empty_has}

pub on_passes : (test : Event → Bool) (n : ℕ) (p : Site) (q : Option Site) (e : Event) → Contains (events_on test n p q) e → test e ≡ true
on_passes test n p q e c = (filter_has test (map (event_of p q) (range_with_len 0 n)) e c).1

toward_passes : (test : Event → Bool) (n : ℕ) (p : Site) (q : Option Site) (e : Event) → Contains (events_toward test n p q) e → test e ≡ true
toward_passes test n p None e c = absurd (empty_has [] e refl c)
toward_passes test n p (Some q) e c = on_passes test n p (Some q) e c

pub at_passes : (test : Event → Bool) (g : Grid) (n : ℕ) (p : Site) (e : Event) → Contains (events_at test g n p) e → test e ≡ true
at_passes test g n p e c = elim (Contains-append_cases (events_on test n p None) (flat_map (λ i. events_toward test n p (neighbour g p i)) (directions g)) e c) [
  | inl a ↦ on_passes test n p None e a
  | inr b ↦ let m = flat_has (λ i. events_toward test n p (neighbour g p i)) (directions g) e b in toward_passes test n p (neighbour g p m.0) e m.2
]

has_on : (test : Event → Bool) (n : ℕ) (e : Event) → e.rule < n → test e ≡ true → Contains (events_on test n e.first e.second) e
has_on test n e lt t = has_filter test (map (event_of e.first e.second) (range_with_len 0 n)) e (has_map (event_of e.first e.second) (range_with_len 0 n) e.rule (has_range 0 n e.rule (omega arith) (omega (arith, lt)))) t

-- a rule and what it fits
pub record Fitting {N : Type 0} (S : Surface N) (c : List N) (e : Event) : Type 0 where
  pub rule : Rule N
  pub found : slice_get S.rules e.rule ≡ Some rule
  pub rate : 0 < rule.rate
  pub first : Holds S.grid c e.first rule.left
  pub second : FitsSecond S.grid c e.first rule.right e.second

fitting_at : {N : Type 0} (S : Surface N) (c : List N) (e : Event) (o : Option (Rule N)) → slice_get S.rules e.rule ≡ o → Fits S.grid c e o → Fitting S c e
fitting_at S c e None is f = absurd f
fitting_at S c e (Some r) is f = record { rule = r; found = is; rate = f.0; first = f.1; second = f.2 }

pub fitting : {N : Type 0} (S : Surface N) (c : List N) (e : Event) → Enabled S c e → Fitting S c e
fitting S c e f = fitting_at S c e (slice_get S.rules e.rule) refl f

pub second_adjacent : {N : Type 0} (g : Grid) (c : List N) (p : Site) (b : Option N) (q : Site) → FitsSecond g c p b (Some q) → Adjacent g p q
second_adjacent g c p None q f = absurd f
second_adjacent g c p (Some b) q f = f.0

has_at_second : (test : Event → Bool) (g : Grid) (n : ℕ) (e : Event) (o : Option Site) → e.second ≡ o → ((q : Site) → o ≡ Some q → Adjacent g e.first q) → e.rule < n → test e ≡ true → Contains (events_at test g n e.first) e
has_at_second test g n e None is a lt t =
    Contains-append_left (events_on test n e.first None) (flat_map (λ i. events_toward test n e.first (neighbour g e.first i)) (directions g)) e
    (subst (λ o. Contains (events_on test n e.first o) e) is (has_on test n e lt t))
has_at_second test g n e (Some q) is a lt t =
    let b = a q refl in
    let below = b.listed in
    Contains-append_right (events_on test n e.first None) (flat_map (λ i. events_toward test n e.first (neighbour g e.first i)) (directions g)) e
    (has_flat (λ i. events_toward test n e.first (neighbour g e.first i)) (directions g) b.direction e (has_range 0 (degree g.kind) b.direction (omega arith) (omega (arith, below)))
    (subst (λ o. Contains (events_toward test n e.first o) e) (sym b.moves) (subst (λ o. Contains (events_on test n e.first o) e) is (has_on test n e lt t))))

module _ {N : Type 0} (eq : N → N → Bool) (to : (a b : N) → eq a b ≡ true → a ≡ b) (from : (a : N) → eq a a ≡ true) where
  pub listed_enabled : (S : Surface N) (c : List N) (e : Event) → Contains (choices eq S c) e → Enabled S c e
  listed_enabled S c e h =
      let m = flat_has (choices_at eq S c) (sites S.grid) e h in
      enabled_to eq to from S c e (at_passes (enabled_test eq S c) S.grid (length S.rules) m.0 e m.2)

  pub enabled_listed : (S : Surface N) (c : List N) (e : Event) → Enabled S c e → Contains (choices eq S c) e
  enabled_listed S c e f =
      let r = fitting S c e f in
      has_flat (choices_at eq S c) (sites S.grid) e.first e (has_at (sites S.grid) (place S.grid e.first) e.first (listed S.grid e.first (r.first).0))
      (has_at_second (enabled_test eq S c) S.grid (length S.rules) e e.second refl
      (λ q is. second_adjacent S.grid c e.first r.rule.right q (subst (λ o. FitsSecond S.grid c e.first r.rule.right o) is r.second))
      (slice_get_within S.rules e.rule r.rule r.found) (enabled_from eq to from S c e f))

  -- no choices: stuck
  pub none_stuck : (S : Surface N) (c : List N) → choices eq S c ≡ [] → Stuck S c
  none_stuck S c none e f = empty_has (choices eq S c) e none (enabled_listed S c e f)

  pub stuck_none : (S : Surface N) (c : List N) → Stuck S c → choices eq S c ≡ []
  stuck_none S c s = nothing_in (choices eq S c) (λ e h. s e (listed_enabled S c e h))

  pub stuck_idle : (S : Surface N) (c : List N) (p : Site) → Stuck S c → choices_at eq S c p ≡ []
  stuck_idle S c p s = nothing_in (choices_at eq S c p) (λ e h. s e (enabled_to eq to from S c e (at_passes (enabled_test eq S c) S.grid (length S.rules) p e h)))

  pub idle_stuck : (S : Surface N) (c : List N) → ((k : ℕ) → k < S.grid.width * S.grid.height → choices_at eq S c (site_at S.grid k) ≡ []) → Stuck S c
  idle_stuck S c idle = none_stuck S c (nothing_in (choices eq S c) (λ e h.
      let m = flat_has (choices_at eq S c) (sites S.grid) e h in
      let k = map_has (site_at S.grid) (range_with_len 0 (S.grid.width * S.grid.height)) m.0 m.1 in
      let below = (range_has 0 (S.grid.width * S.grid.height) k.0 k.1).1 in
      empty_has (choices_at eq S c m.0) e (subst (λ p. choices_at eq S c p ≡ []) k.2 (idle k.0 (omega (arith, below)))) m.2))

-- a rule of one name twice may be used in both orders
twice_at : {N : Type 0} (g : Grid) (c : List N) (a : N) (p q : Site) (right : Option N) → right ≡ Some a → Holds g c p a → FitsSecond g c p right (Some q) → FitsSecond g c q right (Some p)
twice_at g c a p q None is h f = absurd f
twice_at g c a p q (Some b) is h f = (adjacent_back g p q f.0, rw (same_Some b a is) h)

second_holds : {N : Type 0} (g : Grid) (c : List N) (a : N) (p q : Site) (right : Option N) → right ≡ Some a → FitsSecond g c p right (Some q) → Holds g c q a
second_holds g c a p q None is f = absurd f
second_holds g c a p q (Some b) is f = rw (sym (same_Some b a is)) f.1

pub both_orders : {N : Type 0} (S : Surface N) (c : List N) (r : Rule N) (k : ℕ) (p q : Site) → slice_get S.rules k ≡ Some r → r.right ≡ Some r.left → Enabled S c (event_of p (Some q) k) → Enabled S c (event_of q (Some p) k)
both_orders S c r k p q at twice f =
    let h = subst (Fits S.grid c (event_of p (Some q) k)) at f in
    subst (Fits S.grid c (event_of q (Some p) k)) (sym at) (h.0, second_holds S.grid c r.left p q r.right twice h.2, twice_at S.grid c r.left p q r.right twice h.1 h.2)
