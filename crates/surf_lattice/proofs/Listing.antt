-- What a list of the values of a partial function holds.
use Rattle.std.specs.Option.{option_to_list}
use Rattle.std.specs.List.{filter_map, cons_option, range_with_len, Contains}
use Rattle.std.proofs.Common.{◌≡◌, ℕ, zero, suc, ◌+◌, ◌<◌, ◌≤◌, ◌⊎◌, List, [], ◌∷◌, ◌++◌, length, length-append, refl, Option, Some, None, ◌∙◌, ap, inl, inr, arith}
use Rattle.std.proofs.lemmas.Bool.{cases_eq}

some_is : {Y : Type 0} (a b : Y) → Some a ≡ Some b → a ≡ b
some_is a b e = cc

pub in_rest : {Y : Type 0} (o : Option Y) (ys : List Y) (y : Y) → Contains ys y → Contains (cons_option o ys) y
in_rest None ys y c = c
in_rest (Some x) ys y c = (suc c.0, (let h = c.1 in omega arith), c.2)

pub in_first : {Y : Type 0} (o : Option Y) (ys : List Y) (y : Y) → o ≡ Some y → Contains (cons_option o ys) y
in_first None ys y e = cc
in_first (Some x) ys y e = (0, omega arith, some_is x y e)

pub first_or_rest : {Y : Type 0} (o : Option Y) (ys : List Y) (y : Y) → Contains (cons_option o ys) y → (o ≡ Some y) ⊎ Contains ys y
first_or_rest None ys y c = inr c
first_or_rest (Some x) ys y (zero, h, e) = inl (ap Some e)
first_or_rest (Some x) ys y (suc k, h, e) = inr (k, omega arith, e)

-- a value that the list holds comes from a number of the range
pub record From {Y : Type 0} (f : ℕ → Option Y) (a n : ℕ) (y : Y) : Type 0 where
  pub number : ℕ
  pub low : a ≤ number
  pub high : number < a + n
  pub is : f number ≡ Some y

pub listed_from : {Y : Type 0} (f : ℕ → Option Y) (a n : ℕ) (y : Y) → Contains (filter_map f (range_with_len a n)) y → From f a n y
listed_from f a zero y c = absurd (let h = c.1 in omega arith)
listed_from f a (suc n) y c = elim (first_or_rest (f a) (filter_map f (range_with_len (a + 1) n)) y c) [
  | inl e ↦ record { number = a; low = omega arith; high = omega arith; is = e }
  | inr d ↦
      let r = listed_from f (a + 1) n y d in
      let low = r.low in
      let high = r.high in
      record { number = r.number; low = omega arith; high = omega arith; is = r.is }
]

pub from_listed : {Y : Type 0} (f : ℕ → Option Y) (a n i : ℕ) (y : Y) → a ≤ i → i < a + n → f i ≡ Some y → Contains (filter_map f (range_with_len a n)) y
from_listed f a zero i y low high e = absurd (omega arith)
from_listed f a (suc n) i y low high e = elim (cases_eq a i) [
  | inl same ↦ in_first (f a) (filter_map f (range_with_len (a + 1) n)) y (ap f same ∙ e)
  | inr other ↦ in_rest (f a) (filter_map f (range_with_len (a + 1) n)) y (from_listed f (a + 1) n i y (omega arith) (omega arith) e)
]

one : {Y : Type 0} (o : Option Y) → cons_option o [] ≡ option_to_list o
one None = refl
one (Some y) = refl

cons_append : {Y : Type 0} (o : Option Y) (ys bs cs : List Y) → ys ≡ bs ++ cs → cons_option o ys ≡ cons_option o bs ++ cs
cons_append None ys bs cs e = e
cons_append (Some y) ys bs cs e = ap (λ v. y ∷ v) e

-- one number more
pub found_more : {Y : Type 0} (f : ℕ → Option Y) (a n j : ℕ) → a + n ≡ j → filter_map f (range_with_len a (suc n)) ≡ filter_map f (range_with_len a n) ++ option_to_list (f j)
found_more f a zero j e = one (f a) ∙ ap (λ i. option_to_list (f i)) (let s : a ≡ j = omega (arith, e) in s)
found_more f a (suc n) j e = cons_append (f a) (filter_map f (range_with_len (a + 1) (suc n))) (filter_map f (range_with_len (a + 1) n)) (option_to_list (f j)) (found_more f (a + 1) n j (omega (arith, e)))

length_option : {Y : Type 0} (o : Option Y) → length (option_to_list o) ≤ 1
length_option None = omega arith
length_option (Some y) = omega arith

-- no more found than numbers were tried
pub few_more : {Y : Type 0} (old new : List Y) (o : Option Y) → new ≡ old ++ option_to_list o → (d : ℕ) → length old ≤ d → length new ≤ d + 1
few_more old new o e d le = omega (arith, ap length e, length-append old (option_to_list o), length_option o, le)
