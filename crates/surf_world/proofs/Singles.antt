-- The rates of a book are those of the events, and names that begin no pair.
use Rattle.std.specs.Prelude.{IsTrue, All, ◌≢◌, ◌↔◌}
use Rattle.std.specs.List.{flat_map, range_with_len, sum_by}
use Rattle.std.specs.Option.{option_map, option_map_or}
use Rattle.std.proofs.Common.{ℕ, zero, suc, ◌≡◌, ◌+◌, ◌*◌, ◌<◌, ◌≤◌, Bool, true, false, ◌&&◌, ◌==◌, nat_lt, nat_eq, List, [], ◌∷◌, ◌++◌, length, map, Option, Some, None, slice_get, refl, sym, ◌∙◌, ap, subst, arith}
use Rattle.std.proofs.Math.Path.{fun_ext}
use Rattle.std.proofs.lemmas.Bool.{and_from, lt-ltb, eq-eqb, false≢true}
use Rattle.std.proofs.lemmas.Option.{slice_get-map, slice_get_within}
use Rattle.surf_lattice.specs.declared.site.Site.{Site}
use Rattle.surf_lattice.specs.Grids.{Adjacent, IsInside, neighbour, degree, directions, place}
use Rattle.surf_rules.specs.declared.rule.Rule.{Rule}
use Rattle.surf_rules.specs.Books.{is_alone, is_pair, alone_of, pair_of, rate_in}
use Rattle.surf_rules.proofs.Totals.{sum_small}
use Rattle.surf_world.specs.declared.event.Event.{Event}
use Rattle.surf_world.specs.Systems as systems
use Rattle.surf_world.specs.Systems.{Surface, FitsSecond}
use Rattle.surf_world.specs.Worlds.{rule_of}
use Rattle.surf_world.specs.Choices.{enabled_test, events_on, events_toward}
use Rattle.surf_world.specs.Picks.{rate_at, rate_of, weight_of, IsSingle}
use Rattle.surf_world.proofs.Agree.{alone_events, pair_events}
use Rattle.surf_world.proofs.Decisions.{enabled_to, number_to, number_from}
use Rattle.surf_world.proofs.Listed.{fitting, on_passes}
use Rattle.surf_world.proofs.Local.{same_on}
use Rattle.surf_world.proofs.Members.{nothing_in, empty_has, has_filter, has_range}
use Rattle.surf_world.proofs.Once.{on_sites}
use Rattle.surf_world.proofs.Sums.{sum_of_events}

-- ---- rates

rate_found : (o : Option Rule) → option_map_or (λ (r : systems.Rule ℕ). r.rate) (option_map rule_of o) 0 ≡ option_map_or (λ (r : Rule). r.rate) o 0
rate_found None = refl
rate_found (Some r) = refl

module _ (S : Surface ℕ) (rules : List Rule) (same : map rule_of rules ≡ S.rules) where
  rate_same : (k : ℕ) → rate_at S.rules k ≡ rate_in rules k
  rate_same k =
      ap (λ (l : List (systems.Rule ℕ)). rate_at l k) (sym same)
      ∙ ap (λ o. option_map_or (λ (r : systems.Rule ℕ). r.rate) o 0) (slice_get-map rule_of rules k) ∙ rate_found (slice_get rules k)

  sum_same : (ks : List ℕ) → sum_by (rate_at S.rules) ks ≡ sum_by (rate_in rules) ks
  sum_same ks = ap (λ (f : ℕ → ℕ). sum_by f ks) (fun_ext rate_same)

  -- the sum of a name alone is that of the events there
  pub alone_rates : (c : List ℕ) (p : Site) (a s : ℕ) → IsInside S.grid p → slice_get c (place S.grid p) ≡ Some a → s ≡ sum_by (rate_in rules) (alone_of rules a)
      → s ≡ sum_by (rate_of S) (events_on (enabled_test nat_eq S c) (length S.rules) p None)
  alone_rates c p a s i at is =
      is ∙ sym (sum_same (alone_of rules a)) ∙ sym (sum_of_events S p None (alone_of rules a))
      ∙ sym (ap (sum_by (rate_of S)) (alone_events S rules same c p a (alone_of rules a) i at refl))

  pub pair_rates : (c : List ℕ) (p q : Site) (a b s : ℕ) → Adjacent S.grid p q → slice_get c (place S.grid p) ≡ Some a → slice_get c (place S.grid q) ≡ Some b → s ≡ sum_by (rate_in rules) (pair_of rules a b)
      → s ≡ sum_by (rate_of S) (events_on (enabled_test nat_eq S c) (length S.rules) p (Some q))
  pair_rates c p q a b s adj at there is =
      is ∙ sym (sum_same (pair_of rules a b)) ∙ sym (sum_of_events S p (Some q) (pair_of rules a b))
      ∙ sym (ap (sum_by (rate_of S)) (pair_events S rules same c p q a b (pair_of rules a b) adj at there refl))

pub alone_small : (rules : List Rule) (a s : ℕ) → All (λ r. r.rate ≤ 1000000000000) rules → length rules ≤ 1048576 → s ≡ sum_by (rate_in rules) (alone_of rules a) → s ≤ 1048576 * 1000000000000
alone_small rules a s all few is = omega (arith, is, sum_small rules (is_alone a) (length rules) all (omega arith), few)

pub pair_small : (rules : List Rule) (a b s : ℕ) → All (λ r. r.rate ≤ 1000000000000) rules → length rules ≤ 1048576 → s ≡ sum_by (rate_in rules) (pair_of rules a b) → s ≤ 1048576 * 1000000000000
pair_small rules a b s all few is = omega (arith, is, sum_small rules (is_pair a b) (length rules) all (omega arith), few)

-- ---- names that begin no pair

nothing_from : (xs : List ℕ) → (xs ≢ [] → ⊥) → xs ≡ []
nothing_from [] some = refl
nothing_from (x ∷ xs) some = absurd (some (λ e. cc))

rule_found : (o : Option Rule) (r : systems.Rule ℕ) → option_map rule_of o ≡ Some r → (x : Rule) × (o ≡ Some x) × (rule_of x ≡ r)
rule_found None r is = cc
rule_found (Some x) r is = (x, refl, cc)

pair_passes : (a b left rate : ℕ) (right : Option ℕ) → 0 < rate → left ≡ a → right ≡ Some b → (nat_lt 0 rate && (option_map_or (λ c. c == b) right false && (left == a))) ≡ true
pair_passes a b left rate None some is has = cc
pair_passes a b left rate (Some c) some is has =
    let twin : c ≡ b = cc in
    and_from (nat_lt 0 rate) ((c == b) && (left == a)) (lt-ltb 0 rate some) (and_from (c == b) (left == a) (eq-eqb c b twin) (eq-eqb left a is))

none_right : (rules : List Rule) (a k : ℕ) (x : Rule) (right : Option ℕ) → x.right ≡ right → slice_get rules k ≡ Some x → 0 < x.rate → x.left ≡ a → ((b : ℕ) → pair_of rules a b ≡ []) → right ≡ None
none_right rules a k x None e is rate left none = refl
none_right rules a k x (Some b) e is rate left none =
    let lt = slice_get_within rules k x is in
    absurd (empty_has (pair_of rules a b) k (none b)
    (has_filter (λ j. option_map_or (is_pair a b) (slice_get rules j) false) (range_with_len 0 (length rules)) k (has_range 0 (length rules) k (omega arith) (omega (arith, lt)))
    (ap (λ o. option_map_or (is_pair a b) o false) is ∙ pair_passes a b x.left x.rate x.right rate left e)))

single_of : (rules : List Rule) (a : ℕ) → ((b : ℕ) → pair_of rules a b ≡ []) → IsSingle (map rule_of rules) a
single_of rules a none k r is rate left =
    let h = rule_found (slice_get rules k) r (sym (slice_get-map rule_of rules k) ∙ is) in
    let x : Rule = h.0 in
    sym (ap (λ (v : systems.Rule ℕ). v.right) h.2)
    ∙ none_right rules a k x x.right refl h.1 (subst (λ (v : systems.Rule ℕ). 0 < v.rate) (sym h.2) rate) (ap (λ (v : systems.Rule ℕ). v.left) h.2 ∙ left) none

-- what the book says of a name that begins no pair
pub book_single : (rules : List Rule) (R : List (systems.Rule ℕ)) (a : ℕ) (t : Bool) → map rule_of rules ≡ R → (IsTrue t ↔ ((b : ℕ) × (pair_of rules a b ≢ []))) → t ≡ false → IsSingle R a
book_single rules R a t same says off =
    subst (λ (l : List (systems.Rule ℕ)). IsSingle l a) same
    (single_of rules a (λ b. nothing_from (pair_of rules a b) (λ some. false≢true (sym off ∙ says.1 (b, some)))))

single_toward : (S : Surface ℕ) (c : List ℕ) (p : Site) (a : ℕ) (o : Option Site) → slice_get c (place S.grid p) ≡ Some a → IsSingle S.rules a → events_toward (enabled_test nat_eq S c) (length S.rules) p o ≡ []
single_toward S c p a None at single = refl
single_toward S c p a (Some q) at single = nothing_in (events_on (enabled_test nat_eq S c) (length S.rules) p (Some q)) (λ e has.
    let test : Event → Bool = enabled_test nat_eq S c in
    let fit = fitting S c e (enabled_to nat_eq number_to number_from S c e (on_passes (enabled_test nat_eq S c) (length S.rules) p (Some q) e has)) in
    let at_sites = on_sites (enabled_test nat_eq S c) (length S.rules) p (Some q) e has in
    let here : slice_get c (place S.grid p) ≡ Some fit.rule.left = subst (λ s. slice_get c (place S.grid s) ≡ Some fit.rule.left) at_sites.0 (fit.first).1 in
    let left : Some fit.rule.left ≡ Some a = sym here ∙ at in
    let none : fit.rule.right ≡ None = single e.rule fit.rule fit.found fit.rate (let l : fit.rule.left ≡ a = cc in l) in
    subst (λ o. FitsSecond S.grid c e.first None o) at_sites.1 (subst (λ b. FitsSecond S.grid c e.first b e.second) none fit.second))

none_along : {X : Type 0} (f : ℕ → List X) (a n : ℕ) → ((i : ℕ) → f i ≡ []) → flat_map f (range_with_len a n) ≡ []
none_along f a zero none = refl
none_along f a (suc n) none = rw (none a) (none_along f (a + 1) n none)

single_directions : (S : Surface ℕ) (c : List ℕ) (p : Site) (a : ℕ) → slice_get c (place S.grid p) ≡ Some a → IsSingle S.rules a
    → flat_map (λ i. events_toward (enabled_test nat_eq S c) (length S.rules) p (neighbour S.grid p i)) (directions S.grid) ≡ []
single_directions S c p a at single = none_along (λ i. events_toward (enabled_test nat_eq S c) (length S.rules) p (neighbour S.grid p i)) 0 (degree S.grid.kind) (λ i. single_toward S c p a (neighbour S.grid p i) at single)

pub single_sum : (S : Surface ℕ) (c : List ℕ) (p : Site) (a : ℕ) → slice_get c (place S.grid p) ≡ Some a → IsSingle S.rules a
    → 0 ≡ sum_by (rate_of S) (flat_map (λ i. events_toward (enabled_test nat_eq S c) (length S.rules) p (neighbour S.grid p i)) (directions S.grid))
single_sum S c p a at single = sym (ap (sum_by (rate_of S)) (single_directions S c p a at single))

-- such a name keeps its weight, whatever becomes of others
pub single_keeps : (S : Surface ℕ) (c d : List ℕ) (p : Site) (a : ℕ) → slice_get c (place S.grid p) ≡ Some a → slice_get d (place S.grid p) ≡ Some a → IsSingle S.rules a → weight_of S c p ≡ weight_of S d p
single_keeps S c d p a at later single =
    let alone = same_on S c d (length S.rules) p None (at ∙ sym later) tt in
    let before = single_directions S c p a at single in
    let after = single_directions S d p a later single in
    both_sums (rate_of S) _ _ _ _ alone (before ∙ sym after)
  where
    both_sums : {X : Type 0} (f : X → ℕ) (xs ys us vs : List X) → xs ≡ us → ys ≡ vs → sum_by f (xs ++ ys) ≡ sum_by f (us ++ vs)
    both_sums f xs ys us vs a b = ap (λ l. sum_by f (l ++ ys)) a ∙ ap (λ l. sum_by f (us ++ l)) b
