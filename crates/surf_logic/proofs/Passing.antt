-- How many of the first inputs of equations are known.
use Rattle.std.proofs.Common.{ℕ, ◌≡◌, ◌+◌, ◌<◌, Bool, true, false, ◌||◌, ◌&&◌, List, [], ◌∷◌, ◌++◌, length, refl, sym, ◌∙◌, ap, subst, arith, zero, suc, get_or, take}
use Rattle.std.specs.List.{list_all, list_any, remove}
use Rattle.std.proofs.lemmas.Bool.{and_parts, and_from}
use Rattle.std.proofs.Math.ListN.{set, replicate}
use Rattle.surf_logic.specs.Equations.{EquationOf, at}
use Rattle.surf_logic.specs.Marks.{IsPassed, ArePassed}
use Rattle.surf_logic.proofs.Marking.{set_at}
use Rattle.surf_logic.proofs.Has.{or_right, or_none}

all_take : (flags : List Bool) (names : List ℕ) (i : ℕ) → i < length names → list_all (at flags) (take i names) ≡ true → at flags (get_or names i 0) ≡ true → list_all (at flags) (take (suc i) names) ≡ true
all_take flags [] i lt all t = absurd (omega arith)
all_take flags (n ∷ ns) zero lt all t = and_from _ _ t refl
all_take flags (n ∷ ns) (suc i) lt all t = let h = and_parts _ _ all in and_from _ _ h.0 (all_take flags ns i (omega arith) h.1 t)

pub passed_more : (flags : List Bool) (names : List ℕ) (i : ℕ) → i < length names → IsPassed flags names i → at flags (get_or names i 0) ≡ true → IsPassed flags names (i + 1)
passed_more flags names i lt p t =
    let next : i + 1 ≡ suc i = omega arith in
    record { within = omega arith; known = subst (λ k. list_all (at flags) (take k names) ≡ true) (sym next) (all_take flags names i lt p.known t) }

-- one that isn't known is among all
pub not_all_at : (flags : List Bool) (names : List ℕ) (i : ℕ) → i < length names → at flags (get_or names i 0) ≡ false → list_all (at flags) names ≡ false
not_all_at flags [] i lt f = absurd (omega arith)
not_all_at flags (n ∷ ns) zero lt f = ap (λ b. b && list_all (at flags) ns) f
not_all_at flags (n ∷ ns) (suc i) lt f = ap (λ b. at flags n && b) (not_all_at flags ns i (omega arith) f) ∙ and_no (at flags n)
  where
    and_no : (b : Bool) → (b && false) ≡ false
    and_no true = refl
    and_no false = refl

take_whole : (flags : List Bool) (names : List ℕ) (i : ℕ) → i ≡ length names → list_all (at flags) (take i names) ≡ true → list_all (at flags) names ≡ true
take_whole flags [] zero is t = refl
take_whole flags [] (suc i) is t = refl
take_whole flags (n ∷ ns) zero is t = absurd (omega (arith, is))
take_whole flags (n ∷ ns) (suc i) is t = let h = and_parts _ _ t in and_from _ _ h.0 (take_whole flags ns i (omega (arith, is)) h.1)

pub passed_all : (flags : List Bool) (names : List ℕ) (i : ℕ) → i ≡ length names → IsPassed flags names i → list_all (at flags) names ≡ true
passed_all flags names i is p = take_whole flags names i is p.known

pub passed_length : (flags : List Bool) (qs : List (EquationOf ℕ)) (counts : List ℕ) → ArePassed flags qs counts → length counts ≡ length qs
passed_length flags [] [] p = refl
passed_length flags [] (c ∷ cs) p = absurd p
passed_length flags (q ∷ qs) [] p = absurd p
passed_length flags (q ∷ qs) (c ∷ cs) p = ap suc (passed_length flags qs cs p.1)

pub passed_at : (flags : List Bool) (qs : List (EquationOf ℕ)) (counts : List ℕ) (i : ℕ) (q : EquationOf ℕ) → ArePassed flags qs counts → i < length qs → IsPassed flags (get_or qs i q).inputs (get_or counts i 0)
passed_at flags [] cs i d p lt = absurd (omega arith)
passed_at flags (q ∷ qs) [] i d p lt = absurd p
passed_at flags (q ∷ qs) (c ∷ cs) zero d p lt = p.0
passed_at flags (q ∷ qs) (c ∷ cs) (suc i) d p lt = passed_at flags qs cs i d p.1 (omega arith)

pub passed_set : (flags : List Bool) (qs : List (EquationOf ℕ)) (counts : List ℕ) (i : ℕ) (q : EquationOf ℕ) (count : ℕ) → ArePassed flags qs counts → i < length qs → IsPassed flags (get_or qs i q).inputs count → ArePassed flags qs (set counts i count)
passed_set flags [] cs i d m p lt h = absurd (omega arith)
passed_set flags (q ∷ qs) [] i d m p lt h = absurd p
passed_set flags (q ∷ qs) (c ∷ cs) zero d m p lt h = (h, p.1)
passed_set flags (q ∷ qs) (c ∷ cs) (suc i) d m p lt h = (p.0, passed_set flags qs cs i d m p.1 (omega arith) h)

pub passed_remove : (flags : List Bool) (qs : List (EquationOf ℕ)) (counts : List ℕ) (i : ℕ) → ArePassed flags qs counts → ArePassed flags (remove qs i) (remove counts i)
passed_remove flags [] [] zero p = tt
passed_remove flags [] [] (suc i) p = tt
passed_remove flags [] (c ∷ cs) i p = absurd p
passed_remove flags (q ∷ qs) [] i p = absurd p
passed_remove flags (q ∷ qs) (c ∷ cs) zero p = p.1
passed_remove flags (q ∷ qs) (c ∷ cs) (suc i) p = (p.0, passed_remove flags qs cs i p.1)

-- one more that doesn't meet the test
pub none_more : {X : Type 0} (test : X → Bool) (xs : List X) (i : ℕ) (d : X) → i < length xs → list_any test (take i xs) ≡ false → test (get_or xs i d) ≡ false → list_any test (take (i + 1) xs) ≡ false
none_more test xs i d lt none f = subst (λ k. list_any test (take k xs) ≡ false) (let e : suc i ≡ i + 1 = omega arith in e) (next test xs i d lt none f)
  where
    next : {X : Type 0} (test : X → Bool) (xs : List X) (i : ℕ) (d : X) → i < length xs → list_any test (take i xs) ≡ false → test (get_or xs i d) ≡ false → list_any test (take (suc i) xs) ≡ false
    next test [] i d lt none f = absurd (omega arith)
    next test (x ∷ xs) zero d lt none f = ap (λ b. b || false) f
    next test (x ∷ xs) (suc i) d lt none f = let h = or_none (test x) _ none in ap (λ b. b || list_any test (take (suc i) xs)) h.0 ∙ next test xs i d (omega arith) h.1 f

-- known names stay known
all_stay : (flags : List Bool) (m : ℕ) (names : List ℕ) → m < length flags → list_all (at flags) names ≡ true → list_all (at (set flags m true)) names ≡ true
all_stay flags m [] lt t = refl
all_stay flags m (n ∷ ns) lt t = let h = and_parts _ _ t in and_from _ _ (set_at flags m n lt ∙ or_right _ _ h.0) (all_stay flags m ns lt h.1)

pub passed_stay : (flags : List Bool) (m : ℕ) (qs : List (EquationOf ℕ)) (counts : List ℕ) → m < length flags → ArePassed flags qs counts → ArePassed (set flags m true) qs counts
passed_stay flags m [] [] lt p = tt
passed_stay flags m [] (c ∷ cs) lt p = absurd p
passed_stay flags m (q ∷ qs) [] lt p = absurd p
passed_stay flags m (q ∷ qs) (c ∷ cs) lt p = (record { within = p.0.within; known = all_stay flags m (take c q.inputs) lt p.0.known }, passed_stay flags m qs cs lt p.1)

-- at first none is looked at
pub none_passed : (flags : List Bool) (qs : List (EquationOf ℕ)) → ArePassed flags qs (replicate (length qs) 0)
none_passed flags [] = tt
none_passed flags (q ∷ qs) = (record { within = omega arith; known = refl }, none_passed flags qs)

-- a list in front of another
pub front_is : {X : Type 0} (xs ys : List X) (n : ℕ) → length xs ≡ n → take n (xs ++ ys) ≡ xs
front_is [] ys zero is = refl
front_is [] ys (suc n) is = absurd (omega (arith, is))
front_is (x ∷ xs) ys zero is = absurd (omega (arith, is))
front_is (x ∷ xs) ys (suc n) is = ap (λ v. x ∷ v) (front_is xs ys n (omega (arith, is)))
