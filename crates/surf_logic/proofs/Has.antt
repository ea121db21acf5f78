-- Names in lists, for any test that is equality.
use Rattle.std.proofs.Common.{◌≡◌, ◌⊎◌, inl, inr, Bool, true, false, ◌||◌, ◌&&◌, List, [], ◌∷◌, ◌++◌, map, refl, sym, ◌∙◌, ap, subst, ⊎_elim, Some, None, if◌then◌else◌}
use Rattle.std.specs.List.{list_any, list_all, flat_map}
use Rattle.std.proofs.lemmas.Bool.{or_cases, and_parts, both_ways, cases_Bool, false≢true, true≢false}
use Rattle.std.proofs.Math.Bool.{or-true}
use Rattle.surf_logic.specs.Order.{has, first_missing}

-- an element of a list
abbrev pub In : {X : Type 0} → List X → X → Type 0
In [] x = ⊥
In (y ∷ ys) x = (y ≡ x) ⊎ In ys x

pub or_left : (a b : Bool) → a ≡ true → (a || b) ≡ true
or_left a b t = rw t refl

pub or_right : (a b : Bool) → b ≡ true → (a || b) ≡ true
or_right a b t = rw t (or-true a)

pub or_none : (a b : Bool) → (a || b) ≡ false → (a ≡ false) × (b ≡ false)
or_none true b f = absurd (true≢false f)
or_none false b f = (refl, f)

pub any_in : {X : Type 0} (test : X → Bool) (xs : List X) → list_any test xs ≡ true → (x : X) × In xs x × (test x ≡ true)
any_in test [] t = absurd (false≢true t)
any_in test (x ∷ xs) t = ⊎_elim
    (λ here. (x, inl refl, here))
    (λ later. let r = any_in test xs later in (r.0, inr r.1, r.2))
    (or_cases _ _ t)

pub any_from : {X : Type 0} (test : X → Bool) (xs : List X) (x : X) → In xs x → test x ≡ true → list_any test xs ≡ true
any_from test [] x i t = absurd i
any_from test (y ∷ ys) x i t = ⊎_elim
    (λ same. or_left _ _ (ap test same ∙ t))
    (λ later. or_right _ _ (any_from test ys x later t))
    i

pub none_in : {X : Type 0} (test : X → Bool) (xs : List X) (x : X) → list_any test xs ≡ false → In xs x → test x ≡ false
none_in test xs x none i = ⊎_elim (λ t. absurd (both_ways _ none (any_from test xs x i t))) (λ f. f) (cases_Bool (test x))

pub not_all : {X : Type 0} (test : X → Bool) (xs : List X) → list_all test xs ≡ false → (x : X) × In xs x × (test x ≡ false)
not_all test [] f = absurd (true≢false f)
not_all test (x ∷ xs) f = ⊎_elim
    (λ t. let r = not_all test xs (ap (λ b. b && list_all test xs) (sym t) ∙ f) in (r.0, inr r.1, r.2))
    (λ g. (x, inl refl, g))
    (cases_Bool (test x))

pub all_in : {X : Type 0} (test : X → Bool) (xs : List X) (x : X) → list_all test xs ≡ true → In xs x → test x ≡ true
all_in test [] x t i = absurd i
all_in test (y ∷ ys) x t i = let h = and_parts _ _ t in ⊎_elim (λ same. ap test (sym same) ∙ h.0) (λ later. all_in test ys x h.1 later) i

pub in_append : {X : Type 0} (xs ys : List X) (x : X) → In (xs ++ ys) x → In xs x ⊎ In ys x
in_append [] ys x i = inr i
in_append (z ∷ xs) ys x i = ⊎_elim
    (λ same. inl (inl same))
    (λ later. ⊎_elim (λ l. inl (inr l)) (λ r. inr r) (in_append xs ys x later))
    i

pub in_left : {X : Type 0} (xs ys : List X) (x : X) → In xs x → In (xs ++ ys) x
in_left [] ys x i = absurd i
in_left (z ∷ xs) ys x i = ⊎_elim (λ same. inl same) (λ later. inr (in_left xs ys x later)) i

pub in_right : {X : Type 0} (xs ys : List X) (x : X) → In ys x → In (xs ++ ys) x
in_right [] ys x i = i
in_right (z ∷ xs) ys x i = inr (in_right xs ys x i)

pub in_map : {X Y : Type 0} (f : X → Y) (xs : List X) (x : X) → In xs x → In (map f xs) (f x)
in_map f [] x i = absurd i
in_map f (y ∷ ys) x i = ⊎_elim (λ same. inl (ap f same)) (λ later. inr (in_map f ys x later)) i

pub from_map : {X Y : Type 0} (f : X → Y) (xs : List X) (y : Y) → In (map f xs) y → (x : X) × In xs x × (f x ≡ y)
from_map f [] y i = absurd i
from_map f (x ∷ xs) y i = ⊎_elim (λ same. (x, inl refl, same)) (λ later. let r = from_map f xs y later in (r.0, inr r.1, r.2)) i

pub in_flat : {X Y : Type 0} (f : X → List Y) (xs : List X) (x : X) (y : Y) → In xs x → In (f x) y → In (flat_map f xs) y
in_flat f [] x y i j = absurd i
in_flat f (z ∷ zs) x y i j = ⊎_elim
    (λ same. in_left (f z) (flat_map f zs) y (subst (λ t. In (f t) y) (sym same) j))
    (λ later. in_right (f z) (flat_map f zs) y (in_flat f zs x y later j))
    i

module _ {N : Type 0} (eq : N → N → Bool) (to : (a b : N) → eq a b ≡ true → a ≡ b) (from : (a : N) → eq a a ≡ true) where
  pub has_in : (ns : List N) (n : N) → has eq ns n ≡ true → In ns n
  has_in ns n t = let r = any_in (eq n) ns t in subst (λ m. In ns m) (sym (to n r.0 r.2)) r.1

  pub has_from : (ns : List N) (n : N) → In ns n → has eq ns n ≡ true
  has_from ns n i = any_from (eq n) ns n i (from n)

  pub hasnt : (ns : List N) (n : N) → (In ns n → ⊥) → has eq ns n ≡ false
  hasnt ns n no_ = ⊎_elim (λ t. absurd (no_ (has_in ns n t))) (λ f. f) (cases_Bool (has eq ns n))

  pub found_first : (known ns : List N) → first_missing eq known ns ≡ None → (n : N) → In ns n → has eq known n ≡ true
  found_first known [] none n i = absurd i
  found_first known (k ∷ ks) none n i = ⊎_elim
      (λ t. ⊎_elim (λ same. ap (has eq known) (sym same) ∙ t) (λ later. found_first known ks (ap (λ b. if b then first_missing eq known ks else Some k) (sym t) ∙ none) n later) i)
      (λ f. let bad : Some k ≡ None = ap (λ b. if b then first_missing eq known ks else Some k) (sym f) ∙ none in cc)
      (cases_Bool (has eq known k))
