-- What a list made of lists holds.
use Rattle.std.specs.Prelude.{slice_get}
use Rattle.std.specs.List.{range_with_len, flat_map}
use Rattle.std.proofs.lemmas.Bool.{cases_eq}
use Rattle.std.proofs.Common.{◌≡◌, ℕ, zero, suc, ◌+◌, ◌*◌, ◌<◌, ◌≤◌, ◌⊎◌, List, [], ◌∷◌, ◌++◌, map, length, Some, sym, refl, ap, ◌∙◌, subst, inl, inr, arith}

abbrev pub Has : {X : Type 0} → List X → X → Type 0
Has xs x = (k : ℕ) × (slice_get xs k ≡ Some x)

has_here : {X : Type 0} (x : X) (xs : List X) → Has (x ∷ xs) x
has_here x xs = (0, refl)

pub has_later : {X : Type 0} (y : X) (xs : List X) (x : X) → Has xs x → Has (y ∷ xs) x
has_later y xs x h = (suc h.0, h.1)

pub has_cons : {X : Type 0} (y : X) (xs : List X) (x : X) → Has (y ∷ xs) x → (x ≡ y) ⊎ Has xs x
has_cons y xs x (zero, e) = inl cc
has_cons y xs x (suc k, e) = inr (k, e)

pub has_none : {X : Type 0} (x : X) → Has [] x → ⊥
has_none x h = absurd (let e = h.1 in cc)

pub has_left : {X : Type 0} (xs ys : List X) (x : X) → Has xs x → Has (xs ++ ys) x
has_left [] ys x h = absurd (has_none x h)
has_left (y ∷ xs) ys x h = elim (has_cons y xs x h) [
  | inl e ↦ (0, ap Some (sym e))
  | inr t ↦ has_later y (xs ++ ys) x (has_left xs ys x t)
]

pub has_right : {X : Type 0} (xs ys : List X) (x : X) → Has ys x → Has (xs ++ ys) x
has_right [] ys x h = h
has_right (y ∷ xs) ys x h = has_later y (xs ++ ys) x (has_right xs ys x h)

pub has_append : {X : Type 0} (xs ys : List X) (x : X) → Has (xs ++ ys) x → Has xs x ⊎ Has ys x
has_append [] ys x h = inr h
has_append (y ∷ xs) ys x h = elim (has_cons y (xs ++ ys) x h) [
  | inl e ↦ inl (0, ap Some (sym e))
  | inr t ↦ elim (has_append xs ys x t) [ inl a ↦ inl (has_later y xs x a) | inr b ↦ inr b ]
]

pub has_map : {X Y : Type 0} (f : X → Y) (xs : List X) (x : X) → Has xs x → Has (map f xs) (f x)
has_map f [] x h = absurd (has_none x h)
has_map f (y ∷ xs) x h = elim (has_cons y xs x h) [
  | inl e ↦ (0, ap (λ z. Some (f z)) (sym e))
  | inr t ↦ has_later (f y) (map f xs) (f x) (has_map f xs x t)
]

pub map_has : {X Y : Type 0} (f : X → Y) (xs : List X) (y : Y) → Has (map f xs) y → (x : X) × Has xs x × (y ≡ f x)
map_has f [] y h = absurd (has_none y h)
map_has f (x ∷ xs) y h = elim (has_cons (f x) (map f xs) y h) [
  | inl e ↦ (x, (0, refl), e)
  | inr t ↦ let w = map_has f xs y t in (w.0, has_later x xs w.0 w.1, w.2)
]

pub has_flat : {X Y : Type 0} (f : X → List Y) (xs : List X) (x : X) (y : Y) → Has xs x → Has (f x) y → Has (flat_map f xs) y
has_flat f [] x y h g = absurd (has_none x h)
has_flat f (z ∷ xs) x y h g = elim (has_cons z xs x h) [
  | inl e ↦ has_left (f z) (flat_map f xs) y (subst (λ u. Has (f u) y) e g)
  | inr t ↦ has_right (f z) (flat_map f xs) y (has_flat f xs x y t g)
]

pub flat_has : {X Y : Type 0} (f : X → List Y) (xs : List X) (y : Y) → Has (flat_map f xs) y → (x : X) × Has xs x × Has (f x) y
flat_has f [] y h = absurd (has_none y h)
flat_has f (z ∷ xs) y h = elim (has_append (f z) (flat_map f xs) y h) [
  | inl a ↦ (z, (0, refl), a)
  | inr b ↦ let w = flat_has f xs y b in (w.0, has_later z xs w.0 w.1, w.2)
]

pub has_range : (a n i : ℕ) → a ≤ i → i < a + n → Has (range_with_len a n) i
has_range a zero i low high = absurd (omega arith)
has_range a (suc n) i low high = elim (cases_eq i a) [
  | inl e ↦ (0, ap Some (sym e))
  | inr d ↦ has_later a (range_with_len (a + 1) n) i (has_range (a + 1) n i (omega arith) (omega arith))
]

pub range_has : (a n i : ℕ) → Has (range_with_len a n) i → (a ≤ i) × (i < a + n)
range_has a zero i h = absurd (has_none i h)
range_has a (suc n) i h = elim (has_cons a (range_with_len (a + 1) n) i h) [
  | inl e ↦ (omega arith, omega arith)
  | inr t ↦ let w = range_has (a + 1) n i t in let l = w.0 in let r = w.1 in (omega arith, omega arith)
]

pub below_has : (n i : ℕ) → Has (range_with_len 0 n) i → i < n
below_has n i h = let w = range_has 0 n i h in let r = w.1 in omega arith

-- the parts of a list of lists of one length, by quotient and remainder
pub get-append_left : {X : Type 0} (xs ys : List X) (k : ℕ) → k < length xs → slice_get (xs ++ ys) k ≡ slice_get xs k
get-append_left [] ys k h = absurd (omega arith)
get-append_left (x ∷ xs) ys zero h = refl
get-append_left (x ∷ xs) ys (suc k) h = get-append_left xs ys k (omega arith)

pub get-append_right : {X : Type 0} (xs ys : List X) (k : ℕ) → slice_get (xs ++ ys) (length xs + k) ≡ slice_get ys k
get-append_right [] ys k = ap (slice_get ys) (let e : 0 + k ≡ k = omega arith in e)
get-append_right (x ∷ xs) ys k =
    let e : suc (length xs) + k ≡ suc (length xs + k) = omega arith in
    rw e (get-append_right xs ys k)

pub numbered : {X Y : Type 0} (f : X → List Y) (m : ℕ) → ((x : X) → length (f x) ≡ m) → (xs : List X) (i : ℕ) (x : X) (j : ℕ) → slice_get xs i ≡ Some x → j < m → slice_get (flat_map f xs) (i * m + j) ≡ slice_get (f x) j
numbered f m all [] i x j e h = absurd cc
numbered f m all (z ∷ xs) zero x j e h =
    let s : z ≡ x = cc in
    let k : 0 * m + j ≡ j = omega arith in
    let l : length (f z) ≡ m = all z in
    rw k (get-append_left (f z) (flat_map f xs) j (omega arith) ∙ ap (λ u. slice_get (f u) j) s)
numbered f m all (z ∷ xs) (suc i) x j e h =
    let l : length (f z) ≡ m = all z in
    let k : suc i * m + j ≡ length (f z) + (i * m + j) = omega arith in
    rw k (get-append_right (f z) (flat_map f xs) (i * m + j) ∙ numbered f m all xs i x j e h)
