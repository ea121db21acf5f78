-- What stable sorts keep.
use Rattle.std.proofs.Common.{◌-◌, Some, slice_get, ℕ, ◌≡◌, ◌+◌, ◌<◌, ◌≤◌, ◌==◌, Bool, true, false, not, ◌&&◌, cond, List, [], ◌∷◌, length, map, slice_index_or, refl, sym, ◌∙◌, ap, arith, zero, suc, ⊎_elim, All}
use Rattle.std.specs.List.{filter}
use Rattle.std.specs.List.Sorted.{IsNonDecreasing, IsNonDecreasingBy, IsStableByKey, ties}
use Rattle.std.specs.Ordering.{nat_cmp, is_lt}
use Rattle.std.proofs.Common.{◌-◌, Some, slice_get, Equal, Greater}
use Rattle.std.proofs.lemmas.Bool.{cases_eq, cases_lt, eq-eqb, ne_eqb, lt-ltb, le-ltb}
use Rattle.std.proofs.lemmas.Option.{get_or_from_slice_get}
use Rattle.std.proofs.lemmas.List.Elements.{filter_agree, All-filter}
use Rattle.std.proofs.lemmas.List.Sorted.{IsNonDecreasingBy-from_default}

no_less : (b : Bool) → is_lt (cond b Equal Greater) ≡ false
no_less true = refl
no_less false = refl

less_is : (a b : ℕ) → a < b → is_lt (nat_cmp a b) ≡ true
less_is a b lt = rw (lt-ltb a b lt) refl

not_less : (a b : ℕ) → b ≤ a → is_lt (nat_cmp a b) ≡ false
not_less a b le = rw (le-ltb a b le) (no_less _)

ties_is : {X : Type 0} (n : X → ℕ) (x e : X) → ties (λ y z. is_lt (nat_cmp (n y) (n z))) x e ≡ (n e == n x)
ties_is n x e = ⊎_elim
    (λ same. ap (λ b. not b && not (is_lt (nat_cmp (n e) (n x)))) (not_less (n x) (n e) (omega (arith, same))) ∙ ap (λ b. not b) (not_less (n e) (n x) (omega (arith, same))) ∙ sym (eq-eqb (n e) (n x) same))
    (λ differ. ⊎_elim
    (λ lt. ap (λ b. not b && not (is_lt (nat_cmp (n e) (n x)))) (less_is (n x) (n e) lt) ∙ sym (ne_eqb (n e) (n x) differ))
    (λ le. ap (λ b. not b && not (is_lt (nat_cmp (n e) (n x)))) (not_less (n x) (n e) le) ∙ ap (λ b. not b) (less_is (n e) (n x) (omega (arith, le, differ))) ∙ sym (ne_eqb (n e) (n x) differ))
    (cases_lt (n x) (n e)))
    (cases_eq (n e) (n x))

-- the elements of a key stay in their order; x is any element of that key
pub stable_is : {X : Type 0} (n : X → ℕ) (x : X) (old new : List X) → IsStableByKey n nat_cmp old new → filter (λ e. n e == n x) new ≡ filter (λ e. n e == n x) old
stable_is n x old new stable =
    sym (filter_agree _ _ (ties_is n x) new) ∙ stable x ∙ filter_agree _ _ (ties_is n x) old

cons_rises : {X : Type 0} (n : X → ℕ) (x : X) (ys : List X) → All (λ y. n x ≤ n y) ys → IsNonDecreasingBy n ys → IsNonDecreasingBy n (x ∷ ys)
cons_rises n x ys all up zero zero d le lt = omega arith
cons_rises n x ys all up zero (suc j) d le lt = all j d (omega (arith, lt))
cons_rises n x ys all up (suc i) zero d le lt = absurd (omega (arith, le))
cons_rises n x ys all up (suc i) (suc j) d le lt = up i j d (omega (arith, le)) (omega (arith, lt))

rises_if : {X : Type 0} (n : X → ℕ) (b : Bool) (x : X) (ys : List X) → All (λ y. n x ≤ n y) ys → IsNonDecreasingBy n ys → IsNonDecreasingBy n (cond b (x ∷ ys) ys)
rises_if n true x ys all up = cons_rises n x ys all up
rises_if n false x ys all up = up

-- a part of a list that rises does
pub filter_rises : {X : Type 0} (n : X → ℕ) (p : X → Bool) (xs : List X) → IsNonDecreasingBy n xs → IsNonDecreasingBy n (filter p xs)
filter_rises n p [] up = up
filter_rises n p (x ∷ xs) up =
    rises_if n (p x) x (filter p xs)
    (All-filter p (λ y. n x ≤ n y) xs (λ k d lt. up 0 (suc k) d (omega arith) (omega (arith, lt))))
    (filter_rises n p xs (λ i j d le lt. up (suc i) (suc j) d (omega (arith, le)) (omega (arith, lt))))

pub key_at : {X : Type 0} (n : X → ℕ) (es : List X) (i : ℕ) (d : X) → slice_index_or (map n es) i (n d) ≡ n (slice_index_or es i d)
key_at n [] i d = refl
key_at n (e ∷ es) zero d = refl
key_at n (e ∷ es) (suc i) d = key_at n es i d

pub map_length : {X Y : Type 0} (f : X → Y) (xs : List X) → length (map f xs) ≡ length xs
map_length f [] = refl
map_length f (x ∷ xs) = ap (λ n. suc n) (map_length f xs)

-- the keys rise as the elements do; d is any element
pub keys_rise : {X : Type 0} (n : X → ℕ) (es : List X) (d : X) → IsNonDecreasingBy n es → IsNonDecreasing (map n es)
keys_rise n es d up = IsNonDecreasingBy-from_default (λ m. m) (map n es) (n d) (λ i j le lt.
    omega (arith, key_at n es i d, key_at n es j d, up i j d le (omega (arith, lt, map_length n es))))

-- the last element of a list that rises has the greatest key
pub last_greatest : {X : Type 0} (n : X → ℕ) (xs : List X) (x : X) → IsNonDecreasingBy n xs → Some x ≡ slice_get xs (length xs - 1) → (k : ℕ) (d : X) → k < length xs → n (slice_index_or xs k d) < n x + 1
last_greatest n xs x up is k d lt =
    omega (arith, up k (length xs - 1) d (omega (arith, lt)) (omega (arith, lt)), ap n (get_or_from_slice_get xs (length xs - 1) x d (sym is)))
