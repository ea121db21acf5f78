-- Lines that are cut.
use Rattle.std.proofs.Common.{ℕ, ◌≡◌, ◌≤◌, Bool, true, false, List, [], ◌∷◌, length, get_or, take, refl, ◌∙◌, ap, arith, zero, suc, if◌then◌else◌, sym, ◌==◌}
use Rattle.std.proofs.lemmas.Bool.{ne_eqb, eq-eqb}
use Rattle.surf_text.specs.Bytes.{before, is_blank, unless_last, without_front, without_end}
use Rattle.surf_blif.specs.Logical.{cut, last_of, front_of, goes_on}

rest_if : (c : Bool) (b : ℕ) (xs bs : List ℕ) → length xs ≤ length bs → length (if c then xs else b ∷ bs) ≤ suc (length bs)
rest_if true b xs bs h = omega (arith, h)
rest_if false b xs bs h = omega arith

front_within : (p : ℕ → Bool) (line : List ℕ) → length (without_front p line) ≤ length line
front_within p [] = omega arith
front_within p (b ∷ bs) = rest_if (p b) b (without_front p bs) bs (front_within p bs)

one_if : (c : Bool) (b : ℕ) → length (if c then [] else b ∷ []) ≤ 1
one_if true b = omega arith
one_if false b = omega arith

unless_within : (p : ℕ → Bool) (b : ℕ) (bs : List ℕ) → length (unless_last p b bs) ≤ suc (length bs)
unless_within p b [] = one_if (p b) b
unless_within p b (d ∷ ds) = omega arith

end_within : (p : ℕ → Bool) (line : List ℕ) → length (without_end p line) ≤ length line
end_within p [] = omega arith
end_within p (b ∷ bs) = omega (arith, unless_within p b (without_end p bs), end_within p bs)

before_if : (c : Bool) (b n : ℕ) (bs : List ℕ) → length bs ≤ n → length (if c then [] else b ∷ bs) ≤ suc n
before_if true b n bs h = omega arith
before_if false b n bs h = omega (arith, h)

before_within : (c : ℕ) (line : List ℕ) → length (before c line) ≤ length line
before_within c [] = omega arith
before_within c (b ∷ bs) = before_if (b == c) b (length bs) (before c bs) (before_within c bs)

pub cut_within : (line : List ℕ) → length (cut line) ≤ length line
cut_within line =
    let front : List ℕ = without_front is_blank (before 35 line) in
    omega (arith, end_within is_blank front, front_within is_blank (before 35 line), before_within 35 line)

pub last_is : (piece : List ℕ) (x m : ℕ) → length piece ≡ suc m → last_of x piece ≡ get_or piece m 0
last_is [] x m is = absurd (omega (arith, is))
last_is (b ∷ []) x zero is = refl
last_is (b ∷ []) x (suc m) is = absurd (omega (arith, is))
last_is (b ∷ c ∷ cs) x zero is = absurd (omega (arith, is))
last_is (b ∷ c ∷ cs) x (suc m) is = last_is (c ∷ cs) b m (omega (arith, is))

pub front_is : (piece : List ℕ) (m : ℕ) → length piece ≡ suc m → take m piece ≡ front_of piece
front_is [] m is = absurd (omega (arith, is))
front_is (b ∷ []) zero is = refl
front_is (b ∷ []) (suc m) is = absurd (omega (arith, is))
front_is (b ∷ c ∷ cs) zero is = absurd (omega (arith, is))
front_is (b ∷ c ∷ cs) (suc m) is = ap (λ v. b ∷ v) (front_is (c ∷ cs) m (omega (arith, is)))

pub goes : (piece : List ℕ) (m : ℕ) → length piece ≡ suc m → get_or piece m 0 ≡ 92 → goes_on piece ≡ true
goes piece m is at = eq-eqb (last_of 0 piece) 92 (last_is piece 0 m is ∙ at)

pub stays : (piece : List ℕ) (m : ℕ) → length piece ≡ suc m → (get_or piece m 0 ≡ 92 → ⊥) → goes_on piece ≡ false
stays piece m is other = ne_eqb (last_of 0 piece) 92 (λ e. other (sym (last_is piece 0 m is) ∙ e))
