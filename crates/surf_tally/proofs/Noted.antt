-- What is noted at a place when it shows something new.
use Rattle.std.specs.Prelude.{nat_lt, if◌then◌else◌, ◌==◌}
use Rattle.std.specs.Option.{option_map}
use Rattle.std.proofs.Common.{ℕ, zero, suc, ◌≡◌, ◌+◌, ◌-◌, ◌<◌, ◌≤◌, Bool, true, false, List, [], ◌∷◌, Option, Some, None, slice_get, inl, inr, refl, sym, ◌∙◌, ap, subst, arith}
use Rattle.std.proofs.lemmas.Bool.{cases_lt, eq-eqb, ne_eqb, lt-ltb, le-ltb}
use Rattle.surf_world.specs.declared.event.Event.{Event}
use Rattle.surf_world.specs.Systems.{Surface, after}
use Rattle.surf_sync.specs.Spelling.{Showing, shown_at}
use Rattle.surf_trace.specs.Generations.{changed, generation, observed, state_of}
use Rattle.surf_tally.specs.declared.counts.Count.{Count}
use Rattle.surf_tally.specs.declared.shown.Shown.{Shown}
use Rattle.surf_tally.specs.Counting.{Outcome, differs, ended, noted, outcome, with_state}
use Rattle.surf_tally.specs.Showings.{showing}

differs_same : (a : Option Shown) → differs a a ≡ None
differs_same None = refl
differs_same (Some s) = ap (λ (b : Bool). if b then None else Some s.state) (eq-eqb s.generation s.generation refl)

-- the same is shown
pub noted_same : (watched : ℕ) (now : Option Shown) (x : Count) → x.shown ≡ now → noted watched now x ≡ x
noted_same watched now x is =
    ap (λ o. with_state watched o now x) (ap (λ a. differs a now) is ∙ differs_same now)
    ∙ ap (λ (a : Option Shown). with_state watched None a x) (sym is)

shown_with : (watched : ℕ) (o : Option ℕ) (now : Option Shown) (x : Count) → (with_state watched o now x).shown ≡ now
shown_with watched None now x = refl
shown_with watched (Some state) now x = refl

pub shown_noted : (watched : ℕ) (now : Option Shown) (x : Count) → (noted watched now x).shown ≡ now
shown_noted watched now x = shown_with watched (differs x.shown now) now x

pub noted_twice : (watched : ℕ) (now : Option Shown) (o : Option Count) → option_map (noted watched now) (option_map (noted watched now) o) ≡ option_map (noted watched now) o
noted_twice watched now None = refl
noted_twice watched now (Some x) = ap (λ (y : Count). Some y) (noted_same watched now (noted watched now x) (shown_noted watched now x))

reached_with : (watched : ℕ) (o : Option ℕ) (now : Option Shown) (x : Count) → (with_state watched o now x).reached ≤ x.reached + 1
reached_with watched None now x = omega arith
reached_with watched (Some state) now x = omega arith

-- one more generation at most
pub reached_noted : (watched : ℕ) (now : Option Shown) (x : Count) → (noted watched now x).reached ≤ x.reached + 1
reached_noted watched now x = reached_with watched (differs x.shown now) now x

-- what differs is what changed
abbrev Steps : Option ℕ → Option Showing → ℕ → Type 0
Steps None b n = n ≡ 0
Steps (Some state) b n = (n ≡ 1) × (state_of b ≡ Some state)

steps_if : (t : Bool) (state : ℕ) (b : Option Showing) → state_of b ≡ Some state → Steps (if t then None else Some state) b (if t then 0 else 1)
steps_if true state b is = refl
steps_if false state b is = (refl, is)

steps : (a b : Option Shown) → Steps (differs a b) (showing b) (changed (showing a) (showing b))
steps None None = refl
steps None (Some b) = refl
steps (Some a) None = refl
steps (Some a) (Some b) = steps_if (a.generation == b.generation) b.state (showing (Some b)) refl

abbrev pub made_of : ℕ → Option ℕ → Outcome
made_of r a = record { reached = r; state = a }

pub made : (r s : ℕ) (a b : Option ℕ) → r ≡ s → a ≡ b → made_of r a ≡ made_of s b
made r s a b same is = ap (λ n. made_of n a) same ∙ ap (made_of s) is

module _ {N : Type 0} (show : N → Option Showing) (S : Surface N) (c : List N) (e : Event) (es : List Event) (watched p : ℕ) where
  abbrev before : Option Showing
  before = shown_at show (slice_get c p)

  abbrev behind : Option Showing
  behind = shown_at show (slice_get (after S c e) p)

  observed_now : observed show S (after S c e) es p zero ≡ state_of behind
  observed_now = now es
    where
      now : (fs : List Event) → observed show S (after S c e) fs p zero ≡ state_of (shown_at show (slice_get (after S c e) p))
      now [] = refl
      now (f ∷ fs) = refl

  -- the state that is seen from here on
  abbrev seen : List N → List Event → ℕ → ℕ → Option ℕ
  seen d fs r state = if nat_lt r watched then observed show S d fs p (watched - r) else Some state

  seen_open : (d : List N) (fs : List Event) (r state k : ℕ) → r < watched → watched - r ≡ k → seen d fs r state ≡ observed show S d fs p k
  seen_open d fs r state k lt left =
      ap (λ (b : Bool). if b then observed show S d fs p (watched - r) else Some state) (lt-ltb r watched lt)
      ∙ ap (observed show S d fs p) left

  seen_closed : (d : List N) (fs : List Event) (r state : ℕ) → watched ≤ r → seen d fs r state ≡ Some state
  seen_closed d fs r state le = ap (λ (b : Bool). if b then observed show S d fs p (watched - r) else Some state) (le-ltb r watched le)

  passed : (k n : ℕ) → changed before behind ≡ n → observed show S c (e ∷ es) p (suc k) ≡ (if n == 0 then observed show S (after S c e) es p (suc k) else observed show S (after S c e) es p k)
  passed k n is = ap (λ (m : ℕ). if m == 0 then observed show S (after S c e) es p (suc k) else observed show S (after S c e) es p k) is

  same_state : (r state : ℕ) → changed before behind ≡ 0 → seen (after S c e) es r state ≡ seen c (e ∷ es) r state
  same_state r state none = elim (cases_lt r watched) [
    | inl lt ↦
        let k = watched - (r + 1) in
        let left : watched - r ≡ suc k = omega (arith, lt) in
        seen_open (after S c e) es r state (suc k) lt left ∙ sym (passed k 0 none) ∙ sym (seen_open c (e ∷ es) r state (suc k) lt left)
    | inr le ↦ seen_closed (after S c e) es r state le ∙ sym (seen_closed c (e ∷ es) r state le)
  ]

  next_state : (r state old : ℕ) → changed before behind ≡ 1 → state_of behind ≡ Some state → seen (after S c e) es (r + 1) (if r + 1 == watched then state else old) ≡ seen c (e ∷ es) r old
  next_state r state old one is = elim (cases_lt (r + 1) watched) [
    | inl lt ↦
        let k = watched - (r + 1) in
        let here : r < watched = omega (arith, lt) in
        let left : watched - r ≡ suc k = omega (arith, lt) in
        seen_open (after S c e) es (r + 1) (if r + 1 == watched then state else old) k lt refl ∙ sym (passed k 1 one) ∙ sym (seen_open c (e ∷ es) r old (suc k) here left)
    | inr le ↦ elim (cases_lt r watched) [
      | inl lt ↦
          let left : watched - r ≡ suc zero = omega (arith, lt, le) in
          let last : r + 1 ≡ watched = omega (arith, lt, le) in
          seen_closed (after S c e) es (r + 1) (if r + 1 == watched then state else old) le
          ∙ ap (λ (b : Bool). Some (if b then state else old)) (eq-eqb (r + 1) watched last)
          ∙ sym is ∙ sym observed_now
          ∙ sym (passed zero 1 one) ∙ sym (seen_open c (e ∷ es) r old (suc zero) lt left)
      | inr more ↦
          seen_closed (after S c e) es (r + 1) (if r + 1 == watched then state else old) le
          ∙ ap (λ (b : Bool). Some (if b then state else old)) (ne_eqb (r + 1) watched (λ same. absurd (omega (arith, same, more))))
          ∙ sym (seen_closed c (e ∷ es) r old more)
    ]
  ]

  -- an event is noted
  stepped : (x : Count) (o : Option ℕ) (now : Option Shown) → Steps o behind (changed before behind) → outcome show S (after S c e) es watched p (with_state watched o now x) ≡ outcome show S c (e ∷ es) watched p x
  stepped x None now none =
      let gen = generation show S (after S c e) es p in
      let less : x.reached + gen ≡ x.reached + (0 + gen) = omega arith in
      made (x.reached + gen) (x.reached + (changed before behind + gen)) (seen (after S c e) es x.reached x.state) (seen c (e ∷ es) x.reached x.state)
      (less ∙ ap (λ n. x.reached + (n + gen)) (sym none)) (same_state x.reached x.state none)
  stepped x (Some state) now one =
      let gen = generation show S (after S c e) es p in
      let more : x.reached + 1 + gen ≡ x.reached + (1 + gen) = omega arith in
      made (x.reached + 1 + gen) (x.reached + (changed before behind + gen)) (seen (after S c e) es (x.reached + 1) (if x.reached + 1 == watched then state else x.state)) (seen c (e ∷ es) x.reached x.state)
      (more ∙ ap (λ n. x.reached + (n + gen)) (sym one.0)) (next_state x.reached state x.state one.0 one.1)

  pub outcome_on : (x : Count) (now : Option Shown) → before ≡ showing x.shown → behind ≡ showing now → outcome show S (after S c e) es watched p (noted watched now x) ≡ outcome show S c (e ∷ es) watched p x
  outcome_on x now was is =
      stepped x (differs x.shown now) now
      (subst (λ (b : Option Showing). Steps (differs x.shown now) b (changed before b)) (sym is)
      (subst (λ (a : Option Showing). Steps (differs x.shown now) (showing now) (changed a (showing now))) (sym was) (steps x.shown now)))

-- no event is left
module _ {N : Type 0} (show : N → Option Showing) (S : Surface N) (c : List N) (watched p : ℕ) where
  none_seen : (r state : ℕ) → (if nat_lt r watched then observed show S c [] p (watched - r) else Some state) ≡ (if nat_lt r watched then None else Some state)
  none_seen r state = elim (cases_lt r watched) [
    | inl lt ↦
        let left : watched - r ≡ suc (watched - (r + 1)) = omega (arith, lt) in
        let yes = lt-ltb r watched lt in
        ap (λ (b : Bool). if b then observed show S c [] p (watched - r) else Some state) yes
        ∙ ap (observed show S c [] p) left
        ∙ sym (ap (λ (b : Bool). if b then None else Some state) yes)
    | inr le ↦
        let no = le-ltb r watched le in
        ap (λ (b : Bool). if b then observed show S c [] p (watched - r) else Some state) no
        ∙ sym (ap (λ (b : Bool). if b then None else Some state) no)
  ]

  pub outcome_end : (x : Count) → ended watched x ≡ outcome show S c [] watched p x
  outcome_end x = made _ _ _ _ (let same : x.reached ≡ x.reached + 0 = omega arith in same) (sym (none_seen x.reached x.state))
