-- What is kept of a site tells what an observer reads there.
use Rattle.std.specs.Prelude.{◌==◌, if◌then◌else◌}
use Rattle.std.specs.Option.{option_map}
use Rattle.std.proofs.Common.{ℕ, zero, suc, ◌≡◌, ◌<◌, Bool, true, false, List, [], ◌∷◌, length, map, Option, Some, None, slice_get, get_or, inl, inr, refl, sym, ◌∙◌, ap, subst, arith}
use Rattle.std.proofs.lemmas.Bool.{cases_lt, eq-eqb, ne_eqb}
use Rattle.std.proofs.lemmas.List.FromFn.{length-map-range_with_len}
use Rattle.std.proofs.lemmas.Option.{slice_get-map, slice_get-get_or, slice_get_past, same_Some}
use Rattle.surf_world.specs.declared.event.Event.{Event}
use Rattle.surf_world.specs.Systems.{Surface, after}
use Rattle.surf_world.proofs.Places.{made_at}
use Rattle.surf_sync.specs.Spelling.{Showing, shown_at}
use Rattle.surf_trace.specs.Generations.{changed, observed, state_of, if_shown, read_off}
use Rattle.surf_trace.specs.declared.watch.Kept.{Kept}
use Rattle.surf_trace.specs.Observations.{readings}
use Rattle.surf_trace.specs.Watching.{kept, first_kept, counted, noted, told_from, told, IsOpen}

-- nothing is noted where the same is shown
unchanged : (a : Option Showing) → changed a a ≡ 0
unchanged None = refl
unchanged (Some s) = ap (λ (b : Bool). if b then 0 else 1) (eq-eqb s.generation s.generation refl)

pub noted_same : (x : Kept) (a b : Option Showing) → a ≡ b → noted x a b ≡ x
noted_same x a b is =
    ap (λ (n : ℕ). if n == 0 then x else counted x.left x.state (state_of b)) (ap (λ d. changed d b) is ∙ unchanged b)

-- a state stands only where no change is to come
open_counted : (left : ℕ) (old state : Option ℕ) → (0 < left → old ≡ None) → IsOpen (counted left old state)
open_counted zero old state empty = λ lt. absurd (omega (arith, lt))
open_counted (suc zero) old state empty = λ lt. absurd (omega (arith, lt))
open_counted (suc (suc n)) old state empty = λ lt. ap (λ (b : Bool). if b then state else old) (ne_eqb (suc n) 0 (λ e. absurd (omega (arith, e)))) ∙ empty (omega arith)

pub open_noted : (x : Kept) (a b : Option Showing) → IsOpen x → IsOpen (noted x a b)
open_noted x a b empty = go (changed a b == 0)
  where
    go : (t : Bool) → IsOpen (if t then x else counted x.left x.state (state_of b))
    go true = empty
    go false = open_counted x.left x.state (state_of b) empty

pub open_first : (a : Option Showing) (k : ℕ) → IsOpen (first_kept a k)
open_first None k = λ lt. refl
open_first (Some s) zero = λ lt. absurd (omega (arith, lt))
open_first (Some s) (suc k) = λ lt. refl

module _ {N : Type 0} (show : N → Option Showing) (S : Surface N) where
  observed_now : (c : List N) (es : List Event) (p : ℕ) → observed show S c es p zero ≡ state_of (shown_at show (slice_get c p))
  observed_now c [] p = refl
  observed_now c (e ∷ es) p = refl

  told_first : (c : List N) (es : List Event) (p k : ℕ) (a : Option Showing) → shown_at show (slice_get c p) ≡ a → told show S c es p (first_kept a k) ≡ read_off show S c es p k
  told_first c es p k None is = sym (ap (λ d. if_shown d (observed show S c es p k)) is)
  told_first c es p zero (Some s) is = sym (ap (λ d. if_shown d (observed show S c es p zero)) is ∙ observed_now c es p ∙ ap state_of is)
  told_first c es p (suc k) (Some s) is = sym (ap (λ d. if_shown d (observed show S c es p (suc k))) is)

  told_step : (c : List N) (e : Event) (es : List Event) (p left : ℕ) (state : Option ℕ) (t : Bool) →
      (changed (shown_at show (slice_get c p)) (shown_at show (slice_get (after S c e) p)) == 0) ≡ t →
      told_from show S c (e ∷ es) p left state
      ≡ told show S (after S c e) es p (if t then kept left state else counted left state (state_of (shown_at show (slice_get (after S c e) p))))
  told_step c e es p zero state true is = refl
  told_step c e es p zero state false is = refl
  told_step c e es p (suc n) state true is = ap (λ (b : Bool). if b then observed show S (after S c e) es p (suc n) else observed show S (after S c e) es p n) is
  told_step c e es p (suc zero) state false is = ap (λ (b : Bool). if b then observed show S (after S c e) es p 1 else observed show S (after S c e) es p zero) is ∙ observed_now (after S c e) es p
  told_step c e es p (suc (suc n)) state false is = ap (λ (b : Bool). if b then observed show S (after S c e) es p (suc (suc n)) else observed show S (after S c e) es p (suc n)) is

  -- an event is noted
  pub told_on : (c : List N) (e : Event) (es : List Event) (p : ℕ) (o : Option Kept) →
      option_map (told show S c (e ∷ es) p) o
      ≡ option_map (told show S (after S c e) es p) (option_map (λ x. noted x (shown_at show (slice_get c p)) (shown_at show (slice_get (after S c e) p))) o)
  told_on c e es p None = refl
  told_on c e es p (Some x) = ap Some (told_step c e es p x.left x.state (changed (shown_at show (slice_get c p)) (shown_at show (slice_get (after S c e) p)) == 0) refl)

  -- no event is left
  told_none : (c : List N) (p left : ℕ) (state : Option ℕ) → (0 < left → state ≡ None) → told_from show S c [] p left state ≡ state
  told_none c p zero state empty = refl
  told_none c p (suc n) state empty = sym (empty (omega arith))

  pub told_end : (c : List N) (p : ℕ) (o : Option Kept) → ((x : Kept) → o ≡ Some x → IsOpen x) → option_map (told show S c [] p) o ≡ option_map (λ x. x.state) o
  told_end c p None empty = refl
  told_end c p (Some x) empty = ap Some (told_none c p x.left x.state (empty x refl))

-- lists with the same elements are one
same_list : {X : Type 0} (xs ys : List X) → ((p : ℕ) → slice_get xs p ≡ slice_get ys p) → xs ≡ ys
same_list [] [] same = refl
same_list [] (y ∷ ys) same = absurd (let no : None ≡ Some y = same zero in cc)
same_list (x ∷ xs) [] same = absurd (let no : Some x ≡ None = same zero in cc)
same_list (x ∷ xs) (y ∷ ys) same = let rest = same_list xs ys (λ p. same (suc p)) in let first = same_Some x y (same zero) in cc

module _ (show : ℕ → Option Showing) (S : Surface ℕ) (c : List ℕ) (es : List Event) (k : ℕ) where
  read_at : (p : ℕ) → option_map (told show S c es p) (option_map (λ m. first_kept (show m) k) (slice_get c p)) ≡ slice_get (readings show S c es k) p
  read_at p = elim (cases_lt p (length c)) [
    | inl lt ↦
        let here = slice_get-get_or c p 0 lt in
        ap (λ o. option_map (told show S c es p) (option_map (λ m. first_kept (show m) k) o)) here
        ∙ ap Some (told_first show S c es p k (show (get_or c p 0)) (ap (shown_at show) here))
        ∙ sym (made_at (λ q. read_off show S c es q k) (length c) p lt)
    | inr le ↦
        ap (λ o. option_map (told show S c es p) (option_map (λ m. first_kept (show m) k) o)) (slice_get_past c p le)
        ∙ sym (slice_get_past (readings show S c es k) p (let long = length-map-range_with_len (λ q. read_off show S c es q k) 0 (length c) in omega (arith, le, long)))
  ]

  -- what is kept in the end is what is read off
  pub all_read : (first last : List Kept) → first ≡ map (λ m. first_kept (show m) k) c → ((p : ℕ) → option_map (λ x. x.state) (slice_get last p) ≡ option_map (told show S c es p) (slice_get first p)) → map (λ x. x.state) last ≡ readings show S c es k
  all_read first last is tells = same_list (map (λ x. x.state) last) (readings show S c es k) (λ p.
      slice_get-map (λ x. x.state) last p
      ∙ tells p
      ∙ ap (λ (xs : List Kept). option_map (told show S c es p) (slice_get xs p)) is
      ∙ ap (option_map (told show S c es p)) (slice_get-map (λ m. first_kept (show m) k) c p)
      ∙ read_at p)

  opens : (p : ℕ) (x : Kept) (o : Option ℕ) → option_map (λ m. first_kept (show m) k) o ≡ Some x → IsOpen x
  opens p x None at = absurd (let no : None ≡ Some x = at in cc)
  opens p x (Some m) at = subst IsOpen (same_Some (first_kept (show m) k) x at) (open_first (show m) k)

  pub all_open : (first : List Kept) → first ≡ map (λ m. first_kept (show m) k) c → (p : ℕ) (x : Kept) → slice_get first p ≡ Some x → IsOpen x
  all_open first is p x at = opens p x (slice_get c p) (sym (ap (λ (xs : List Kept). slice_get xs p) is ∙ slice_get-map (λ m. first_kept (show m) k) c p) ∙ at)
