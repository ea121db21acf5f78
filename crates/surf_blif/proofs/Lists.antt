-- Lists from their ends.
use Rattle.std.proofs.Common.{ℕ, zero, suc, ◌≡◌, ◌+◌, ◌-◌, List, [], ◌∷◌, ◌++◌, length, map, sum, refl, sym, ◌∙◌, ap, arith, set, get_or}
use Rattle.std.proofs.lemmas.List.Sums.{fold-append}
use Rattle.surf_blif.specs.Logical.{last_of, front_of}
use Rattle.surf_blif.specs.Steps.{on_last}

pub front_put : {X : Type 0} (xs : List X) (x : X) → front_of (xs ++ x ∷ []) ≡ xs
front_put [] x = refl
front_put (y ∷ []) x = refl
front_put (y ∷ z ∷ zs) x = ap (λ v. y ∷ v) (front_put (z ∷ zs) x)

pub last_put : {X : Type 0} (d : X) (xs : List X) (x : X) → last_of d (xs ++ x ∷ []) ≡ x
last_put d [] x = refl
last_put d (y ∷ ys) x = last_put y ys x

pub front_length : {X : Type 0} (xs : List X) → length (front_of xs) ≡ length xs - 1
front_length [] = refl
front_length (x ∷ []) = refl
front_length (x ∷ y ∷ ys) = omega (arith, front_length (y ∷ ys))

pub on_last_put : {X : Type 0} (f : X → X) (xs : List X) (x : X) → on_last f (xs ++ x ∷ []) ≡ xs ++ f x ∷ []
on_last_put f [] x = refl
on_last_put f (y ∷ []) x = refl
on_last_put f (y ∷ z ∷ zs) x = ap (λ v. y ∷ v) (on_last_put f (z ∷ zs) x)

pub map_put : {X Y : Type 0} (f : X → Y) (xs : List X) (x : X) → map f (xs ++ x ∷ []) ≡ map f xs ++ f x ∷ []
map_put f [] x = refl
map_put f (y ∷ ys) x = ap (λ v. f y ∷ v) (map_put f ys x)

pub sum_put : {X : Type 0} (f : X → ℕ) (xs : List X) (x : X) → sum (map f (xs ++ x ∷ [])) ≡ sum (map f xs) + f x
sum_put f xs x = ap sum (map_put f xs x) ∙ fold-append ◌+◌ 0 (map f xs) (f x ∷ [])

-- a map keeps what is done to the last
pub map_on_last : {X Y : Type 0} (f : X → Y) (g : X → X) (h : Y → Y) → ((x : X) → f (g x) ≡ h (f x)) → (xs : List X) → map f (on_last g xs) ≡ on_last h (map f xs)
map_on_last f g h same [] = refl
map_on_last f g h same (x ∷ []) = ap (λ v. v ∷ []) (same x)
map_on_last f g h same (x ∷ y ∷ ys) = ap (λ v. f x ∷ v) (map_on_last f g h same (y ∷ ys))

-- a new last
pub on_last_set : {X : Type 0} (f : X → X) (xs : List X) (d y : X) (m : ℕ) → length xs ≡ suc m → f (get_or xs m d) ≡ y → set xs m y ≡ on_last f xs
on_last_set f [] d y m is to = absurd (omega (arith, is))
on_last_set f (a ∷ []) d y zero is to = ap (λ v. v ∷ []) (sym to)
on_last_set f (a ∷ []) d y (suc m) is to = absurd (omega (arith, is))
on_last_set f (a ∷ b ∷ bs) d y zero is to = absurd (omega (arith, is))
on_last_set f (a ∷ b ∷ bs) d y (suc m) is to = ap (λ v. a ∷ v) (on_last_set f (b ∷ bs) d y m (omega (arith, is)) to)
