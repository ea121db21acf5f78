-- What lists that are filtered, mapped or put end to end hold.
use Rattle.std.specs.Prelude.{Contains}
use Rattle.std.specs.List.{filter, flat_map, range_with_len}
use Rattle.std.proofs.Common.{ℕ, zero, suc, ◌≡◌, ◌+◌, ◌<◌, ◌≤◌, ◌⊎◌, inl, inr, ⊎_elim, Bool, true, false, cond, List, [], ◌∷◌, map, Some, slice_get, refl, sym, ◌∙◌, ap, arith}
use Rattle.std.proofs.lemmas.Bool.{cases_Bool, cases_eq}
use Rattle.std.proofs.lemmas.Option.{slice_get_within, get_or_from_slice_get}
use Rattle.std.proofs.lemmas.List.Elements.{Contains-append_left, Contains-append_right, Contains-append_cases}

pub has_here : {X : Type 0} (x : X) (xs : List X) → Contains (x ∷ xs) x
has_here x xs = (0, omega arith, refl)

pub has_first : {X : Type 0} (x : X) (xs : List X) (y : X) → x ≡ y → Contains (x ∷ xs) y
has_first x xs y e = (0, omega arith, e)

pub has_later : {X : Type 0} (x : X) (xs : List X) (y : X) → Contains xs y → Contains (x ∷ xs) y
has_later x xs y c = (suc c.0, (let h = c.1 in omega arith), c.2)

pub has_cases : {X : Type 0} (x : X) (xs : List X) (y : X) → Contains (x ∷ xs) y → (x ≡ y) ⊎ Contains xs y
has_cases x xs y (zero, h, e) = inl e
has_cases x xs y (suc k, h, e) = inr (k, omega arith, e)

pub has_none : {X : Type 0} (y : X) → Contains [] y → ⊥
has_none y c = let h = c.1 in omega arith

pub has_at : {X : Type 0} (xs : List X) (k : ℕ) (x : X) → slice_get xs k ≡ Some x → Contains xs x
has_at xs k x is = (k, slice_get_within xs k x is, get_or_from_slice_get xs k x x is)

has_kept : {X : Type 0} (b : Bool) (x : X) (xs : List X) (y : X) → Contains xs y → Contains (cond b (x ∷ xs) xs) y
has_kept true x xs y c = has_later x xs y c
has_kept false x xs y c = c

pub has_filter : {X : Type 0} (test : X → Bool) (xs : List X) (y : X) → Contains xs y → test y ≡ true → Contains (filter test xs) y
has_filter test [] y c t = absurd (has_none y c)
has_filter test (x ∷ xs) y c t = elim (has_cases x xs y c) [
  | inl e ↦ (let passes : test x ≡ true = ap test e ∙ t in rw passes (has_first x (filter test xs) y e))
  | inr d ↦ has_kept (test x) x (filter test xs) y (has_filter test xs y d t)
]

kept_has : {X : Type 0} (b : Bool) (x : X) (xs : List X) (y : X) → Contains (cond b (x ∷ xs) xs) y → ((b ≡ true) × (x ≡ y)) ⊎ Contains xs y
kept_has true x xs y c = ⊎_elim (λ e. inl (refl, e)) (λ d. inr d) (has_cases x xs y c)
kept_has false x xs y c = inr c

pub filter_has : {X : Type 0} (test : X → Bool) (xs : List X) (y : X) → Contains (filter test xs) y → Contains xs y × (test y ≡ true)
filter_has test [] y c = absurd (has_none y c)
filter_has test (x ∷ xs) y c = elim (kept_has (test x) x (filter test xs) y c) [
  | inl h ↦ (has_first x xs y h.1, ap test (sym h.1) ∙ h.0)
  | inr d ↦ let r = filter_has test xs y d in (has_later x xs y r.0, r.1)
]

pub has_map : {X Y : Type 0} (f : X → Y) (xs : List X) (x : X) → Contains xs x → Contains (map f xs) (f x)
has_map f [] x c = absurd (has_none x c)
has_map f (z ∷ zs) x c = elim (has_cases z zs x c) [
  | inl e ↦ has_first (f z) (map f zs) (f x) (ap f e)
  | inr d ↦ has_later (f z) (map f zs) (f x) (has_map f zs x d)
]

pub map_has : {X Y : Type 0} (f : X → Y) (xs : List X) (y : Y) → Contains (map f xs) y → (x : X) × Contains xs x × (f x ≡ y)
map_has f [] y c = absurd (has_none y c)
map_has f (z ∷ zs) y c = elim (has_cases (f z) (map f zs) y c) [
  | inl e ↦ (z, has_here z zs, e)
  | inr d ↦ let r = map_has f zs y d in (r.0, has_later z zs r.0 r.1, r.2)
]

pub has_flat : {X Y : Type 0} (f : X → List Y) (xs : List X) (x : X) (y : Y) → Contains xs x → Contains (f x) y → Contains (flat_map f xs) y
has_flat f [] x y c d = absurd (has_none x c)
has_flat f (z ∷ zs) x y c d = elim (has_cases z zs x c) [
  | inl e ↦ Contains-append_left (f z) (flat_map f zs) y (rw e d)
  | inr b ↦ Contains-append_right (f z) (flat_map f zs) y (has_flat f zs x y b d)
]

pub flat_has : {X Y : Type 0} (f : X → List Y) (xs : List X) (y : Y) → Contains (flat_map f xs) y → (x : X) × Contains xs x × Contains (f x) y
flat_has f [] y c = absurd (has_none y c)
flat_has f (z ∷ zs) y c = elim (Contains-append_cases (f z) (flat_map f zs) y c) [
  | inl d ↦ (z, has_here z zs, d)
  | inr d ↦ let r = flat_has f zs y d in (r.0, has_later z zs r.0 r.1, r.2)
]

pub has_range : (a n k : ℕ) → a ≤ k → k < a + n → Contains (range_with_len a n) k
has_range a zero k low high = absurd (omega arith)
has_range a (suc n) k low high = elim (cases_eq a k) [
  | inl e ↦ has_first a (range_with_len (a + 1) n) k e
  | inr ne ↦ has_later a (range_with_len (a + 1) n) k (has_range (a + 1) n k (omega arith) (omega arith))
]

pub range_has : (a n k : ℕ) → Contains (range_with_len a n) k → (a ≤ k) × (k < a + n)
range_has a zero k c = absurd (has_none k c)
range_has a (suc n) k c = elim (has_cases a (range_with_len (a + 1) n) k c) [
  | inl e ↦ (omega arith, omega arith)
  | inr d ↦ let r = range_has (a + 1) n k d in let low = r.0 in let high = r.1 in (omega (arith, low), omega (arith, high))
]

-- a list without elements is empty
pub nothing_in : {X : Type 0} (xs : List X) → ((x : X) → Contains xs x → ⊥) → xs ≡ []
nothing_in [] never = refl
nothing_in (x ∷ xs) never = absurd (never x (has_here x xs))

pub empty_has : {X : Type 0} (xs : List X) (x : X) → xs ≡ [] → Contains xs x → ⊥
empty_has xs x e c = has_none x (rw e at c)

-- two tests that agree keep the same
pub same_filter : {X : Type 0} (f g : X → Bool) (xs : List X) → ((x : X) → f x ≡ g x) → filter f xs ≡ filter g xs
same_filter f g [] same = refl
same_filter f g (x ∷ xs) same = cc (same x, same_filter f g xs same)

pub filter_map_swap : {X Y : Type 0} (test : Y → Bool) (f : X → Y) (xs : List X) → filter test (map f xs) ≡ map f (filter (λ x. test (f x)) xs)
filter_map_swap test f [] = refl
filter_map_swap test f (x ∷ xs) = elim (cases_Bool (test (f x))) [
  | inl t ↦ rw t (ap (λ ys. f x ∷ ys) (filter_map_swap test f xs))
  | inr t ↦ rw t (filter_map_swap test f xs)
]

pub same_along : {X : Type 0} (f g : ℕ → List X) (a n : ℕ) → ((i : ℕ) → a ≤ i → i < a + n → f i ≡ g i) → flat_map f (range_with_len a n) ≡ flat_map g (range_with_len a n)
same_along f g a zero same = refl
same_along f g a (suc n) same = cc (same a (omega arith) (omega arith), same_along f g (a + 1) n (λ i low high. same i (omega arith) (omega arith)))

pub same_flat : {X Y : Type 0} (f g : X → List Y) (xs : List X) → ((x : X) → f x ≡ g x) → flat_map f xs ≡ flat_map g xs
same_flat f g [] same = refl
same_flat f g (x ∷ xs) same = cc (same x, same_flat f g xs same)
