-- No weight and no sum of weights is too great.
use Rattle.std.proofs.Common.{ℕ, ◌≡◌, ◌+◌, ◌*◌, ◌≤◌, Bool, true, false, cond, List, [], ◌∷◌, length, map, take, sum, sum_by, set, slice_get, Option, Some, None, nat_eq, refl, sym, ◌∙◌, ap, subst, arith, zero, suc, length-set}
use Rattle.std.specs.List.{All, filter, flat_map, range_with_len}
use Rattle.std.proofs.lemmas.List.Elements.{All-map, All-set}
use Rattle.std.proofs.lemmas.List.Sums.{sum_by-cons, sum_by-append, sum_by-le}
use Rattle.surf_lattice.specs.declared.site.Site.{Site}
use Rattle.surf_lattice.specs.Grids.{degree, neighbour, sites}
use Rattle.surf_world.specs.declared.event.Event.{Event}
use Rattle.surf_world.specs.Systems as systems
use Rattle.surf_world.specs.Systems.{Surface}
use Rattle.surf_world.specs.Worlds.{Placed}
use Rattle.surf_world.specs.Choices.{enabled_test, event_of, events_on, events_toward}
use Rattle.surf_world.specs.Picks.{rate_at, rate_of, weight_of, weights_of}
use Rattle.surf_world.proofs.Sums.{sum_map, sum_of_events, directions_sum}
use Rattle.surf_sim.specs.Simulations.{AreWeights}
use Rattle.surf_sim.specs.Totals.{sum_of_rates, most_weight, most_total}

filter_le : {X : Type 0} (rate : X → ℕ) (test : X → Bool) (xs : List X) → sum_by rate (filter test xs) ≤ sum_by rate xs
filter_le rate test [] = omega arith
filter_le rate test (x ∷ xs) = kept_le (test x) (filter_le rate test xs)
  where
    kept_le : (b : Bool) → sum_by rate (filter test xs) ≤ sum_by rate xs → sum_by rate (cond b (x ∷ filter test xs) (filter test xs)) ≤ sum_by rate (x ∷ xs)
    kept_le true le = omega (arith, le, sum_by-cons rate x (filter test xs), sum_by-cons rate x xs)
    kept_le false le = omega (arith, le, sum_by-cons rate x xs)

-- the rates by number are the rates
rates_from : (rules : List (systems.Rule ℕ)) (f : ℕ → ℕ) (a : ℕ) → ((k : ℕ) → f (a + k) ≡ rate_at rules k) → sum_by f (range_with_len a (length rules)) ≡ sum_by (λ r. r.rate) rules
rates_from [] f a are = refl
rates_from (r ∷ rules) f a are =
    let first : f a ≡ r.rate = (let e : a ≡ a + 0 = omega arith in ap f e) ∙ are 0 in
    let later : sum_by f (range_with_len (a + 1) (length rules)) ≡ sum_by (λ r. r.rate) rules =
    rates_from rules f (a + 1) (λ k. (let e : a + 1 + k ≡ a + suc k = omega arith in ap f e) ∙ are (suc k)) in
    omega (arith, first, later, sum_by-cons f a (range_with_len (a + 1) (length rules)), sum_by-cons (λ r. r.rate) r rules)

rates_are : (rules : List (systems.Rule ℕ)) → sum_by (rate_at rules) (range_with_len 0 (length rules)) ≡ sum_by (λ r. r.rate) rules
rates_are rules = rates_from rules (rate_at rules) 0 (λ k. (let e : 0 + k ≡ k = omega arith in ap (rate_at rules) e))

module _ (S : Surface ℕ) (test : Event → Bool) (p : Site) where
  on_le : (q : Option Site) → sum_by (rate_of S) (events_on test (length S.rules) p q) ≤ sum_of_rates S
  on_le q =
      let all = range_with_len 0 (length S.rules) in
      omega (arith, filter_le (rate_of S) test (map (event_of p q) all), sum_of_events S p q all, rates_are S.rules)

  toward_le : (q : Option Site) → sum_by (rate_of S) (events_toward test (length S.rules) p q) ≤ sum_of_rates S
  toward_le None = omega arith
  toward_le (Some q) = on_le (Some q)

  abbrev toward : ℕ → List Event
  toward i = events_toward test (length S.rules) p (neighbour S.grid p i)

  directions_le : (d : ℕ) → sum_by (rate_of S) (flat_map toward (range_with_len 0 d)) ≤ d * sum_of_rates S
  directions_le zero = omega arith
  directions_le (suc d) =
      let more : sum_by (rate_of S) (flat_map toward (range_with_len 0 (d + 1))) ≤ (d + 1) * sum_of_rates S =
      omega (arith, directions_sum (rate_of S) toward d, directions_le d, toward_le (neighbour S.grid p d)) in
      let e : d + 1 ≡ suc d = omega arith in
      subst (λ n. sum_by (rate_of S) (flat_map toward (range_with_len 0 n)) ≤ n * sum_of_rates S) e more

pub weight_le : (S : Surface ℕ) (c : List ℕ) (p : Site) → weight_of S c p ≤ most_weight S
weight_le S c p =
    let test = enabled_test nat_eq S c in
    omega (
      arith,
      sum_by-append (rate_of S) (events_on test (length S.rules) p None) (flat_map (toward S test p) (range_with_len 0 (degree S.grid.kind))),
      on_le S test p None,
      directions_le S test p (degree S.grid.kind),
    )

pub are_weights : (w : Placed) (ws : List ℕ) → length ws ≡ w.surface.grid.width * w.surface.grid.height → ws ≡ weights_of w → AreWeights w.surface ws
are_weights w ws count is = record {
  count = count;
  small = subst (λ v. All (λ x. x ≤ most_weight w.surface) v) (sym is)
      (All-map (λ x. x ≤ most_weight w.surface) (weight_of w.surface w.names) (sites w.surface.grid) (λ i d lt. weight_le w.surface w.names _));
}

pub sum_le : (S : Surface ℕ) (ws : List ℕ) → AreWeights S ws → sum ws ≤ most_total S
sum_le S ws are = omega (arith, sum_by-le (λ x. x) (most_weight S) ws are.small, ap (λ n. n * most_weight S) are.count)

-- and so after one weight is set
pub weights_set : (S : Surface ℕ) (ws : List ℕ) (i w : ℕ) → AreWeights S ws → w ≤ most_weight S → AreWeights S (set ws i w)
weights_set S ws i w are le = record {
  count = length-set ws i w ∙ are.count;
  small = All-set (λ x. x ≤ most_weight S) ws i w le are.small;
}

-- a running sum of rates
pub rate_more : {X : Type 0} (rate : X → ℕ) (xs : List X) (k : ℕ) (r : X) → slice_get xs k ≡ Some r → sum_by rate (take (k + 1) xs) ≡ sum_by rate (take k xs) + rate r
rate_more rate [] k r is = cc
rate_more rate (x ∷ xs) zero r is =
    let same : x ≡ r = cc in
    omega (arith, ap rate same, sum_by-cons rate x (take 0 xs))
rate_more rate (x ∷ xs) (suc k) r is =
    let e : suc k + 1 ≡ suc (k + 1) = omega arith in
    ap (λ n. sum_by rate (take n (x ∷ xs))) e
    ∙ omega (arith, rate_more rate xs k r is, sum_by-cons rate x (take (k + 1) xs), sum_by-cons rate x (take k xs))

pub whole_rates : {X : Type 0} (rule : X → systems.Rule ℕ) (xs : List X) (S : Surface ℕ) → map rule xs ≡ S.rules → sum_by (λ x. (rule x).rate) xs ≡ sum_of_rates S
whole_rates rule xs S same = sym (sum_map (λ r. r.rate) rule xs) ∙ ap (sum_by (λ r. r.rate)) same
