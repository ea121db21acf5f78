-- A place of the sums holds the sum of the leaves below it.
use Rattle.std.proofs.Common.{ℕ, ◌≡◌, ◌+◌, ◌-◌, ◌*◌, ◌<◌, ◌≤◌, List, [], ◌∷◌, take, drop, sum, slice_index, refl, sym, ◌∙◌, ap, arith, zero, suc, ⊎_elim, subst}
use Rattle.std.proofs.lemmas.List.Sums.{sum_by-cons, sum_by-take-drop, sum_by-take-le}
use Rattle.std.proofs.lemmas.Bool.{cases_lt}
use Rattle.surf_pick.specs.Wides.{eight, first_sum, below, SumsFrom}

pub next_sum : (xs : List ℕ) (k : ℕ) → first_sum xs (suc k) ≡ first_sum xs k + slice_index xs k
next_sum [] zero = omega arith
next_sum [] (suc k) = omega arith
next_sum (x ∷ xs) zero = omega (arith, sum_by-cons (λ x. x) x (take 0 xs))
next_sum (x ∷ xs) (suc k) = omega (arith, next_sum xs k, sum_by-cons (λ x. x) x (take (suc k) xs), sum_by-cons (λ x. x) x (take k xs))

pub more_sum : (xs : List ℕ) (k : ℕ) → first_sum xs (k + 1) ≡ first_sum xs k + slice_index xs k
more_sum xs k = let e : k + 1 ≡ suc k = omega arith in ap (λ v. first_sum xs v) e ∙ next_sum xs k

pub first_le : (xs : List ℕ) (m n : ℕ) → m ≤ n → first_sum xs m ≤ first_sum xs n
first_le [] zero n le = omega arith
first_le [] (suc m) zero le = omega arith
first_le [] (suc m) (suc n) le = omega arith
first_le (x ∷ xs) zero n le = omega arith
first_le (x ∷ xs) (suc m) zero le = absurd (omega (arith, le))
first_le (x ∷ xs) (suc m) (suc n) le = omega (arith, first_le xs m n (omega (arith, le)), sum_by-cons (λ x. x) x (take m xs), sum_by-cons (λ x. x) x (take n xs))

-- eight numbers are the difference of two running sums
pub eight_is : (xs : List ℕ) (i : ℕ) → first_sum xs (i + 8) ≡ first_sum xs i + eight xs i
eight_is xs i =
    let s : (k : ℕ) → first_sum xs (i + suc k) ≡ first_sum xs (i + k) + slice_index xs (i + k) = λ k. (let e : i + suc k ≡ suc (i + k) = omega arith in ap (λ v. first_sum xs v) e ∙ next_sum xs (i + k)) in
    let z : first_sum xs (i + 1) ≡ first_sum xs i + slice_index xs i = more_sum xs i in
    omega (arith, z, s 1, s 2, s 3, s 4, s 5, s 6, s 7)

-- the sums before and behind a row of places are those of their parts
pub one_row : (S : List ℕ) (i n : ℕ) → ((e : ℕ) → i ≤ e → e < i + n → slice_index S e ≡ eight S (8 * e + 8))
    → first_sum S (8 * (i + n) + 8) + first_sum S i ≡ first_sum S (8 * i + 8) + first_sum S (i + n)
one_row S i zero right = let e : i + zero ≡ i = omega arith in rw (e) (omega arith)
one_row S i (suc n) right =
    let ih = one_row S i n (λ e low high. right e low (omega (arith, high))) in
    let here = right (i + n) (omega arith) (omega arith) in
    let e : i + suc n ≡ suc (i + n) = omega arith in
    let f : 8 * suc (i + n) + 8 ≡ 8 * (i + n) + 8 + 8 = omega arith in
    rw (e, f) (omega (arith, ih, here, eight_is S (8 * (i + n) + 8), next_sum S (i + n)))

-- rows below
pub below_le : (k i j : ℕ) → i ≤ j → below k i ≤ below k j
below_le zero i j le = le
below_le (suc k) i j le = below_le k (8 * i + 8) (8 * j + 8) (omega (arith, le))

pub below_more : (k i : ℕ) → i ≤ below k i
below_more zero i = omega arith
below_more (suc k) i = omega (arith, below_more k (8 * i + 8))

pub below_out : (k i : ℕ) → below (suc k) i ≡ 8 * below k i + 8
below_out zero i = refl
below_out (suc k) i = below_out k (8 * i + 8)

pub below_two : (m d i : ℕ) → below m (below d i) ≡ below (m + d) i
below_two m zero i = let e : m + zero ≡ m = omega arith in sym (ap (λ v. below v i) e)
below_two m (suc d) i = let e : m + suc d ≡ suc (m + d) = omega arith in below_two m d (8 * i + 8) ∙ sym (ap (λ v. below v i) e)

-- what has a row below it within the list stands before the leaves
pub under : (t k e : ℕ) → below (suc k) (e + 1) ≤ below (suc t) 0 → e < below t 0
under t k e le = ⊎_elim
    (λ lt. lt)
    (λ ge. absurd (omega (arith, le, ge, below_more k (8 * (e + 1) + 8), below_out t 0)))
    (cases_lt e (below t 0))

-- the sums before and behind a part of a row are those of the leaves below it
pub row : (S : List ℕ) (low t k i j : ℕ) → SumsFrom low (below t 0) S → low ≤ i → i ≤ j → below k j ≤ below (suc t) 0
    → first_sum S (below k j) + first_sum S i ≡ first_sum S (below k i) + first_sum S j
row S low t zero i j sums from le within = omega arith
row S low t (suc k) i j sums from le within =
    let ih = row S low t k (8 * i + 8) (8 * j + 8) sums (omega (arith, from)) (omega (arith, le)) within in
    let e : i + (j - i) ≡ j = omega (arith, le) in
    let one = one_row S i (j - i) (λ e lo hi. sums e (omega (arith, from, lo)) (under t k e (let le : below (suc k) (e + 1) ≤ below (suc k) j = below_le (suc k) (e + 1) j (omega (arith, hi, le)) in omega (arith, le, within)))) in
    let one2 : first_sum S (8 * j + 8) + first_sum S i ≡ first_sum S (8 * i + 8) + first_sum S j = subst (λ v. first_sum S (8 * v + 8) + first_sum S i ≡ first_sum S (8 * i + 8) + first_sum S v) e one in
    omega (arith, ih, one2)

-- a place before the leaves: its row d, and the number l of rows between it and the leaves
pub record Row (t q : ℕ) : Type 0 where
  pub d : ℕ
  pub l : ℕ
  pub rows : d + suc l ≡ t
  pub low : below d 0 ≤ q
  pub high : q < below (suc d) 0

pub row_of : (t q : ℕ) → q < below t 0 → Row t q
row_of zero q lt = absurd (omega (arith, lt))
row_of (suc t) q lt = ⊎_elim
    (λ less. let r = row_of t q less in record { d = r.d; l = suc r.l; rows = omega (arith, r.rows); low = r.low; high = r.high })
    (λ ge. record { d = t; l = 0; rows = omega arith; low = ge; high = lt })
    (cases_lt q (below t 0))

-- the parts of a place, below which all is right, are at most the sum of the leaves
pub eight_small : (S : List ℕ) (low t q : ℕ) → SumsFrom low (below t 0) S → low ≤ 8 * q + 8 → q < below t 0 → eight S (8 * q + 8) ≤ sum (drop (below t 0) S)
eight_small S low t q sums from lt =
    let r = row_of t q lt in
    let top : below (suc r.l) (q + 1) ≤ below (suc r.l) (below (suc r.d) 0) = below_le (suc r.l) (q + 1) (below (suc r.d) 0) (omega (arith, r.high)) in
    let e1 : suc r.l + suc r.d ≡ suc t = omega (arith, r.rows) in
    let top2 : below (suc r.l) (below (suc r.d) 0) ≡ below (suc t) 0 = below_two (suc r.l) (suc r.d) 0 ∙ ap (λ v. below v 0) e1 in
    let bottom : below (suc r.l) (below r.d 0) ≤ below (suc r.l) q = below_le (suc r.l) (below r.d 0) q r.low in
    let e2 : suc r.l + r.d ≡ t = omega (arith, r.rows) in
    let bottom2 : below (suc r.l) (below r.d 0) ≡ below t 0 = below_two (suc r.l) r.d 0 ∙ ap (λ v. below v 0) e2 in
    let e3 : 8 * (q + 1) + 8 ≡ 8 * q + 8 + 8 = omega arith in
    let within : below r.l (8 * q + 8 + 8) ≤ below (suc t) 0 = subst (λ v. below r.l v ≤ below (suc t) 0) e3 (omega (arith, top, top2)) in
    let part = row S low t r.l (8 * q + 8) (8 * q + 8 + 8) sums from (omega arith) within in
    let from_leaf = first_le S (below t 0) (below r.l (8 * q + 8)) (omega (arith, bottom, bottom2)) in
    omega (arith, part, from_leaf, eight_is S (8 * q + 8), sum_by-take-drop (λ x. x) S (below t 0), sum_by-take-le (λ x. x) S (below r.l (8 * q + 8 + 8)))

pub four_is : (xs : List ℕ) (i : ℕ) → first_sum xs (i + 4) ≡ first_sum xs i + slice_index xs i + slice_index xs (i + 1) + slice_index xs (i + 2) + slice_index xs (i + 3)
four_is xs i =
    let s : (k : ℕ) → first_sum xs (i + suc k) ≡ first_sum xs (i + k) + slice_index xs (i + k) = λ k. (let e : i + suc k ≡ suc (i + k) = omega arith in ap (λ v. first_sum xs v) e ∙ next_sum xs (i + k)) in
    omega (arith, more_sum xs i, s 1, s 2, s 3)
