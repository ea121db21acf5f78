-- What the picker keeps.
use Rattle.std.proofs.Common.{ℕ, ◌≡◌, ◌+◌, ◌-◌, ◌*◌, ◌/◌, ◌^◌, ◌<◌, ◌≤◌, List, [], ◌∷◌, ◌++◌, length, take, drop, sum, slice_index, set, replicate, refl, sym, ◌∙◌, ap, arith, zero, suc, ⊎_elim, length-append, length-set}
use Rattle.std.proofs.lemmas.List.{get_or-set_other, drop-set-add, set-append_left, length-replicate, get_or-replicate, get_or-drop, get_or-append_right, get_or_append_left, take_at, drop_at, take_all}
use Rattle.std.proofs.lemmas.List.Sums.{sum_by-cons, sum_by-append, sum_by-take-drop}
use Rattle.std.proofs.lemmas.List.Folds.{sum_by-replicate}
use Rattle.std.proofs.lemmas.Bool.{cases_lt}
use Rattle.std.proofs.Math.Nat.{one-le-pow}
use Rattle.std.specs.Prelude.{max}
use Rattle.std.specs.Int.{IsPowerOfTwo}
use Rattle.std.proofs.Math.Pow.{pow_mono}
use Rattle.surf_pick.specs.Trees.{InnerFrom, InnerBut, Rows, SameLeaves, Kept, IsKept}
use Rattle.surf_pick.specs.Finds.{Finds}
use Rattle.surf_pick.proofs.Spans.{first_sum, spans, double, Row, row_within}

-- the sum of weights and zeros
pub sum_padded : (ws : List ℕ) (n : ℕ) → sum (ws ++ replicate n 0) ≡ sum ws
sum_padded ws n = sum_by-append (λ x. x) ws (replicate n 0) ∙ (let z : sum (replicate n 0) ≡ n * 0 = sum_by-replicate (λ x. x) n 0 in omega (arith, z))

pub rows_of : (ws S : List ℕ) (half t : ℕ) → Kept ws S half t → Rows S half t
rows_of ws S half t k = record { power = k.power; size = k.size; small = omega (arith, ap sum k.leaves, sum_padded ws (half - length ws), k.small) }

pub some_half : (half t : ℕ) → half ≡ 2 ^ t → 1 ≤ half
some_half half t is = omega (arith, is, one-le-pow t 2 (omega arith))

-- place 1 holds the sum
pub top_is : (ws S : List ℕ) (half t : ℕ) → Kept ws S half t → InnerFrom 1 half S → slice_index S 1 ≡ sum ws
top_is ws S half t k inner =
    let a : half ≡ 1 * 2 ^ t = omega (arith, k.power) in
    let b : 2 * half ≡ (1 + 1) * 2 ^ t = omega (arith, k.power) in
    let s = spans S half 1 t 1 half (2 * half) k.size inner (omega arith) a b (omega arith) in
    let whole : first_sum S (2 * half) ≡ sum S = ap sum (take_all (2 * half) S (omega (arith, k.size))) in
    omega (arith, s, whole, sum_by-take-drop (λ x. x) S half, ap sum k.leaves, sum_padded ws (half - length ws))

-- a list of a row of zeros and these leaves
pub made : (ws S : List ℕ) (half t : ℕ) → half ≡ 2 ^ t → length ws ≤ half → ((k : ℕ) → length ws ≤ 2 ^ k → t ≤ k) → sum ws < 2 ^ 128 → S ≡ replicate half 0 ++ (ws ++ replicate (half - length ws) 0) → Kept ws S half t
made ws S half t power holds least small is =
    record {
      power = power;
      holds = holds;
      least = least;
      size = ap length is ∙ (let z : ℕ = 0 in omega (arith, length-append (replicate half 0) (ws ++ replicate (half - length ws) 0), length-append ws (replicate (half - length ws) 0), length-replicate half z, length-replicate (half - length ws) z, holds));
      unused = ap (λ v. slice_index v 0) is ∙ get_or_append_left (replicate half 0) _ 0 0 (let z : ℕ = 0 in omega (arith, length-replicate half z, some_half half t power)) ∙ get_or-replicate half 0 0 0 (some_half half t power);
      leaves = ap (λ v. drop half v) is ∙ drop_at (replicate half 0) _ half (let z : ℕ = 0 in length-replicate half z);
      small = small;
    }

pub same_kept : (ws old new : List ℕ) (half t : ℕ) → Kept ws old half t → SameLeaves old new half → Kept ws new half t
same_kept ws old new half t k same = record {
  power = k.power;
  holds = k.holds;
  least = k.least;
  size = same.size ∙ k.size;
  unused = same.unused ∙ k.unused;
  leaves = same.leaves ∙ k.leaves;
  small = k.small;
}

-- the weights are the front of the leaves
pub front_is : (ws S : List ℕ) (half t n : ℕ) → Kept ws S half t → length ws ≡ n → take n (drop half S) ≡ ws
front_is ws S half t n k is = ap (λ v. take n v) k.leaves ∙ take_at ws _ n is

-- no lesser power of two holds as many
least_power : (n half t : ℕ) → half ≡ 2 ^ t → half / 2 < max 1 n → (k : ℕ) → n ≤ 2 ^ k → t ≤ k
least_power n half zero power less k le = omega arith
least_power n half (suc s) power less k le = ⊎_elim
    (λ lt. let under : 2 ^ k ≤ 2 ^ s = pow_mono (let le : k ≤ s = omega (arith, lt) in le) in
    absurd (omega (arith, power, less, le, under, double s, one-le-pow s 2 (omega arith))))
    (λ ge. ge)
    (cases_lt k (suc s))

-- what a new picker keeps
pub built : (ws S new : List ℕ) (half n : ℕ) → IsPowerOfTwo half → length ws ≤ half → half / 2 < max 1 (length ws) → sum ws < 2 ^ 128 → S ≡ replicate half 0 ++ (ws ++ replicate (half - length ws) 0) → SameLeaves S new half → InnerFrom 1 half new → length ws ≡ n
    → IsKept (take n (drop half new)) new half × InnerFrom 1 half new × (length (take n (drop half new)) ≡ n)
built ws S new half n power holds less small is same inner count =
    let kept : Kept ws new half power.0 = same_kept ws S new half power.0 (made ws S half power.0 power.1 holds (least_power (length ws) half power.0 power.1 less) small is) same in
    let front : take n (drop half new) ≡ ws = front_is ws new half power.0 n kept count in
    ((power.0, rw front kept), inner, ap length front ∙ count)

-- one weight is set
pub set_kept : (ws S : List ℕ) (half t i w : ℕ) → Kept ws S half t → i < length ws → sum (set ws i w) < 2 ^ 128 → Kept (set ws i w) (set S (half + i) w) half t
set_kept ws S half t i w k lt small =
    let same = length-set ws i w in
    record {
      power = k.power;
      holds = omega (arith, same, k.holds);
      least = λ j le. k.least j (omega (arith, same, le));
      size = length-set S (half + i) w ∙ k.size;
      unused = get_or-set_other S (half + i) 0 w 0 (λ e. omega (arith, e, some_half half t k.power)) ∙ k.unused;
      leaves = drop-set-add half S i w ∙ ap (λ v. set v i w) k.leaves ∙ set-append_left ws (replicate (half - length ws) 0) i w lt ∙ ap (λ n. set ws i w ++ replicate (half - n) 0) (sym same);
      small = small;
    }

pub set_inner : (S : List ℕ) (half i w : ℕ) → length S ≡ 2 * half → InnerFrom 1 half S → i < half → InnerBut ((half + i) / 2) half (set S (half + i) w)
set_inner S half i w size inner lt j low high other =
    let here = get_or-set_other S (half + i) j w 0 (λ e. omega (arith, e, high)) in
    let even = get_or-set_other S (half + i) (2 * j) w 0 (λ e. other (omega (arith, e))) in
    let odd = get_or-set_other S (half + i) (2 * j + 1) w 0 (λ e. other (omega (arith, e))) in
    omega (arith, here, even, odd, inner j low high)

-- a place on the way down, the sum before its first leaf, and what is left
pub record Down (S : List ℕ) (t r place rest : ℕ) : Type 0 where
  pub k : ℕ
  pub l : ℕ
  pub rows : k + l ≡ t
  pub low : 2 ^ k ≤ place
  pub high : place < 2 * 2 ^ k
  pub before : first_sum S (place * 2 ^ l) + rest ≡ first_sum S (2 ^ t) + r
  pub less : rest < slice_index S place

pub down_first : (ws S : List ℕ) (half t r : ℕ) → Kept ws S half t → InnerFrom 1 half S → r < sum ws → Down S t r 1 r
down_first ws S half t r k inner lt = record {
  k = 0;
  l = t;
  rows = omega arith;
  low = omega arith;
  high = omega arith;
  before = (let e : 1 * 2 ^ t ≡ 2 ^ t = omega arith in ap (λ n. first_sum S n + r) e);
  less = omega (arith, top_is ws S half t k inner, lt);
}

-- the height of an inner place is above 0
height : (t i : ℕ) (k l : ℕ) → k + l ≡ t → 2 ^ k ≤ i → i < 2 ^ t → (m : ℕ) × (l ≡ suc m)
height t i k zero rows low lt = absurd (let e : 2 ^ k ≡ 2 ^ t = ap (λ v. 2 ^ v) (let s : k ≡ t = omega (arith, rows) in s) in omega (arith, e, low, lt))
height t i k (suc m) rows low lt = (m, refl)

pub down_left : (ws S : List ℕ) (half t r place rest : ℕ) → Kept ws S half t → InnerFrom 1 half S → Down S t r place rest → place < half → rest < slice_index S (place * 2) → Down S t r (place * 2) rest
down_left ws S half t r place rest kept inner d lt less =
    let h = height t place d.k d.l d.rows d.low (omega (arith, lt, kept.power)) in
    let e : place * 2 ^ d.l ≡ place * 2 * 2 ^ h.0 = ap (λ v. place * 2 ^ v) h.1 ∙ ap (λ v. place * v) (double h.0) ∙ (let e : place * (2 * 2 ^ h.0) ≡ place * 2 * 2 ^ h.0 = omega arith in e) in
    record {
      k = suc d.k;
      l = h.0;
      rows = omega (arith, h.1, d.rows);
      low = omega (arith, double d.k, d.low);
      high = omega (arith, double d.k, d.high);
      before = ap (λ n. first_sum S n + rest) (sym e) ∙ d.before;
      less = less;
    }

pub down_right : (ws S : List ℕ) (half t r place rest v : ℕ) → Kept ws S half t → InnerFrom 1 half S → Down S t r place rest → place < half → v ≡ slice_index S (place * 2) → v ≤ rest → Down S t r (place * 2 + 1) (rest - v)
down_right ws S half t r place rest v kept inner d lt is le =
    let h = height t place d.k d.l d.rows d.low (omega (arith, lt, kept.power)) in
    let w = 2 ^ h.0 in
    let e : place * 2 ^ d.l ≡ place * 2 * 2 ^ h.0 = ap (λ v. place * 2 ^ v) h.1 ∙ ap (λ v. place * v) (double h.0) ∙ (let e : place * (2 * 2 ^ h.0) ≡ place * 2 * 2 ^ h.0 = omega arith in e) in
    let high : place * 2 + 1 < 2 * 2 ^ suc d.k = omega (arith, double d.k, d.high) in
    let r1 : Row t (place * 2 + 1) = record { k = suc d.k; l = h.0; rows = omega (arith, h.1, d.rows); low = omega (arith, double d.k, d.low); high = high } in
    let mid = (place * 2 + 1) * 2 ^ h.0 in
    let within : mid ≤ 2 * half = omega (arith, row_within t (place * 2 + 1) r1, kept.power) in
    let s = spans S half 1 h.0 (place * 2) (place * 2 * 2 ^ h.0) mid kept.size inner (omega (arith, d.low, some_half (2 ^ d.k) d.k refl)) refl refl within in
    let b : first_sum S (place * 2 * 2 ^ h.0) + rest ≡ first_sum S (2 ^ t) + r = ap (λ n. first_sum S n + rest) (sym e) ∙ d.before in
    let two = inner place (omega (arith, d.low, some_half (2 ^ d.k) d.k refl)) lt in
    let same : slice_index S (2 * place) ≡ slice_index S (place * 2) = ap (λ n. slice_index S n) (let c : 2 * place ≡ place * 2 = omega arith in c) in
    let same1 : slice_index S (2 * place + 1) ≡ slice_index S (place * 2 + 1) = ap (λ n. slice_index S n) (let c : 2 * place + 1 ≡ place * 2 + 1 = omega arith in c) in
    record {
      k = suc d.k;
      l = h.0;
      rows = r1.rows;
      low = r1.low;
      high = high;
      before = omega (arith, s, b, is, le);
      less = omega (arith, two, same, same1, d.less, is, le);
    }

-- the end of the way
at_end : (t i k l : ℕ) → k + l ≡ t → i < 2 * 2 ^ k → 2 ^ t ≤ i → (k ≡ t) × (l ≡ 0)
at_end t i k zero rows high le = (omega (arith, rows), refl)
at_end t i k (suc m) rows high le = absurd (
    let e : 2 ^ t ≡ 2 * 2 ^ (k + m) = ap (λ v. 2 ^ v) (let s : t ≡ suc (k + m) = omega (arith, rows) in s) ∙ double (k + m) in
    let g : 2 ^ k ≤ 2 ^ (k + m) = pow_mono (let le : k ≤ k + m = omega arith in le) in
    omega (arith, e, g, high, le))

nil_sum : (n : ℕ) → first_sum [] n ≡ 0
nil_sum zero = refl
nil_sum (suc n) = refl

split_sum : (xs : List ℕ) (h j : ℕ) → first_sum xs (h + j) ≡ first_sum xs h + first_sum (drop h xs) j
split_sum xs zero j = let e : zero + j ≡ j = omega arith in ap (λ n. first_sum xs n) e ∙ (let z : first_sum xs j ≡ 0 + first_sum xs j = omega arith in z)
split_sum [] (suc h) zero = nil_sum (suc h + 0)
split_sum [] (suc h) (suc j) = nil_sum (suc h + suc j)
split_sum (x ∷ xs) (suc h) j =
    let e : suc h + j ≡ suc (h + j) = omega arith in
    ap (λ n. first_sum (x ∷ xs) n) e ∙ omega (arith, split_sum xs h j, sum_by-cons (λ x. x) x (take (h + j) xs), sum_by-cons (λ x. x) x (take h xs))

leaf_is : (ws S : List ℕ) (half t j : ℕ) → Kept ws S half t → slice_index S (half + j) ≡ slice_index (ws ++ replicate (half - length ws) 0) j
leaf_is ws S half t j kept = sym (get_or-drop half S j 0) ∙ ap (λ v. slice_index v j) kept.leaves

front_sum : (ws zs : List ℕ) (j : ℕ) → j ≤ length ws → first_sum (ws ++ zs) j ≡ first_sum ws j
front_sum ws zs zero le = refl
front_sum [] zs (suc j) le = absurd (omega (arith, le))
front_sum (w ∷ ws) zs (suc j) le = omega (arith, front_sum ws zs j (omega (arith, le)), sum_by-cons (λ x. x) w (take j (ws ++ zs)), sum_by-cons (λ x. x) w (take j ws))

zero_there : (n j : ℕ) → slice_index (replicate n 0) j ≡ 0
zero_there zero j = refl
zero_there (suc n) zero = refl
zero_there (suc n) (suc j) = zero_there n j

pub down_finds : (ws S : List ℕ) (half t r place rest : ℕ) → Kept ws S half t → Down S t r place rest → half ≤ place → Finds ws r (place - half) rest
down_finds ws S half t r place rest kept d le =
    let end = at_end t place d.k d.l d.rows d.high (omega (arith, le, kept.power)) in
    let j = place - half in
    let is : half + j ≡ place = omega (arith, le) in
    let leaf : slice_index S place ≡ slice_index (ws ++ replicate (half - length ws) 0) j = ap (λ n. slice_index S n) (sym is) ∙ leaf_is ws S half t j kept in
    let lt : j < length ws = ⊎_elim (λ lt. lt) (λ ge. absurd (omega (arith, d.less, leaf, get_or-append_right ws (replicate (half - length ws) 0) (length ws) j 0 refl ge, zero_there (half - length ws) (j - length ws)))) (cases_lt j (length ws)) in
    let here : slice_index (ws ++ replicate (half - length ws) 0) j ≡ slice_index ws j = get_or_append_left ws (replicate (half - length ws) 0) 0 j lt in
    let at : place * 2 ^ d.l ≡ place = ap (λ v. place * 2 ^ v) end.1 ∙ (let e : place * 2 ^ 0 ≡ place = omega arith in e) in
    let before : first_sum S place + rest ≡ first_sum S half + r = ap (λ n. first_sum S n + rest) (sym at) ∙ d.before ∙ ap (λ n. first_sum S n + r) (sym kept.power) in
    let split : first_sum S place ≡ first_sum S half + first_sum (drop half S) j = ap (λ n. first_sum S n) (sym is) ∙ split_sum S half j in
    let front : first_sum (drop half S) j ≡ first_sum ws j = ap (λ v. first_sum v j) kept.leaves ∙ front_sum ws (replicate (half - length ws) 0) j (omega (arith, lt)) in
    record { within = lt; before = omega (arith, before, split, front); exceeds = omega (arith, d.less, leaf, here) }

-- one weight is set, and the sums above it are mended
module _ (ws S new : List ℕ) (half t n i w : ℕ) (kept : Kept ws S half t) (is : length ws ≡ n) (lt : i < length ws) (small : sum (set ws i w) < 2 ^ 128) (same : SameLeaves (set S (half + i) w) new half) where
  pub set_is : take n (drop half new) ≡ set ws i w
  set_is = front_is (set ws i w) new half t n (same_kept _ _ new half t (set_kept ws S half t i w kept lt small) same) (length-set ws i w ∙ is)

  pub set_keeps : InnerFrom 1 half new → IsKept (take n (drop half new)) new half × InnerFrom 1 half new × (length (take n (drop half new)) ≡ n)
  set_keeps inner = ((t, rw set_is (same_kept _ _ new half t (set_kept ws S half t i w kept lt small) same)), inner, ap length set_is ∙ length-set ws i w ∙ is)
