-- A choice of a number is enabled, and there is one below the sum of the rates.
use Rattle.std.specs.Prelude.{Contains}
use Rattle.std.specs.List.{sum_by}
use Rattle.std.specs.Option.{option_map_or}
use Rattle.std.proofs.Common.{ℕ, ◌≡◌, ◌-◌, ◌<◌, inl, inr, List, [], ◌∷◌, length, Some, refl, sym, ◌∙◌, ap, arith, nat_eq}
use Rattle.std.proofs.lemmas.Bool.{cases_lt}
use Rattle.std.proofs.lemmas.Option.{same_Some}
use Rattle.std.proofs.lemmas.List.Sums.{sum_by-cons}
use Rattle.surf_lattice.specs.declared.site.Site.{Site}
use Rattle.surf_world.specs.declared.event.Event.{Event}
use Rattle.surf_world.specs.Systems.{Surface, Enabled, Stuck}
use Rattle.surf_world.specs.Choices.{enabled_test, choices_at, choices}
use Rattle.surf_world.specs.Picks.{rate_of, pick}
use Rattle.surf_world.proofs.Decisions.{enabled_to, number_to, number_from}
use Rattle.surf_world.proofs.Members.{has_first, has_later}
use Rattle.surf_world.proofs.Listed.{fitting, at_passes, listed_enabled, none_stuck, stuck_none}
use Rattle.surf_world.proofs.Laws.{pick_here, pick_later}

-- what a number picks is listed
pub pick_has : {X : Type 0} (rate : X → ℕ) (xs : List X) (r : ℕ) (x : X) → pick rate xs r ≡ Some x → Contains xs x
pick_has rate [] r x is = cc
pick_has rate (y ∷ ys) r x is = elim (cases_lt r (rate y)) [
  | inl here ↦ has_first y ys x (same_Some y x (sym (pick_here rate y ys r here) ∙ is))
  | inr later ↦ has_later y ys x (pick_has rate ys (r - rate y) x (sym (pick_later rate y ys r later) ∙ is))
]

-- a number below the sum picks
pub pick_below : {X : Type 0} (rate : X → ℕ) (xs : List X) (r : ℕ) → r < sum_by rate xs → (x : X) × (pick rate xs r ≡ Some x)
pick_below rate [] r lt = absurd (omega (arith, lt))
pick_below rate (y ∷ ys) r lt = elim (cases_lt r (rate y)) [
  | inl here ↦ (y, pick_here rate y ys r here)
  | inr later ↦
      let m = pick_below rate ys (r - rate y) (omega (arith, lt, later, sum_by-cons rate y ys)) in
      (m.0, pick_later rate y ys r later ∙ m.1)
]

-- a choice at a site is enabled
pub chosen_enabled : (S : Surface ℕ) (c : List ℕ) (p : Site) (r : ℕ) (e : Event) → pick (rate_of S) (choices_at nat_eq S c p) r ≡ Some e → Enabled S c e
chosen_enabled S c p r e is =
    enabled_to nat_eq number_to number_from S c e (at_passes (enabled_test nat_eq S c) S.grid (length S.rules) p e (pick_has (rate_of S) (choices_at nat_eq S c p) r e is))

-- an enabled event has a rate above 0
pub rate_some : {N : Type 0} (S : Surface N) (c : List N) (e : Event) → Enabled S c e → 0 < rate_of S e
rate_some S c e f =
    let r = fitting S c e f in
    let is : rate_of S e ≡ (r.rule).rate = ap (λ o. option_map_or (λ r. r.rate) o 0) r.found in
    let some = r.rate in
    omega (arith, is, some)

no_sum : (S : Surface ℕ) (c : List ℕ) (es : List Event) → ((e : Event) → Contains es e → Enabled S c e) → sum_by (rate_of S) es ≡ 0 → es ≡ []
no_sum S c [] all z = refl
no_sum S c (e ∷ es) all z = absurd (omega (arith, z, sum_by-cons (rate_of S) e es, rate_some S c e (all e (has_first e es e refl))))

-- where the rates sum to 0 there are no choices
pub none_left : (S : Surface ℕ) (c : List ℕ) → sum_by (rate_of S) (choices nat_eq S c) ≡ 0 → choices nat_eq S c ≡ []
none_left S c z = no_sum S c (choices nat_eq S c) (listed_enabled nat_eq number_to number_from S c) z

-- stuck exactly where the choices are empty
pub stuck_from_none : (S : Surface ℕ) (c : List ℕ) → choices nat_eq S c ≡ [] → Stuck S c
stuck_from_none S c none = none_stuck nat_eq number_to number_from S c none

pub none_from_stuck : (S : Surface ℕ) (c : List ℕ) → Stuck S c → choices nat_eq S c ≡ []
none_from_stuck S c s = stuck_none nat_eq number_to number_from S c s
