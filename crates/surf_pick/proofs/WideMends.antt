-- The loops that mend and fill.
use Rattle.std.proofs.Common.{ℕ, ◌≡◌, ◌+◌, ◌-◌, ◌*◌, ◌/◌, ◌^◌, ◌<◌, ◌≤◌, List, [], ◌∷◌, length, take, drop, sum, slice_index, get_or, set, refl, sym, ◌∙◌, ap, arith, zero, suc, ⊎_elim, length-set, subst}
use Rattle.std.proofs.lemmas.List.{get_or-set_other, get_or-set_same, drop-set-lt, take_all}
use Rattle.std.proofs.lemmas.List.Sums.{sum_by-cons}
use Rattle.std.proofs.lemmas.Bool.{cases_lt, cases_eq}
use Rattle.surf_pick.specs.Wides.{eight, first_sum, below, SumsFrom, Rows, SameLeaves, Mending}
use Rattle.surf_pick.proofs.WideRows.{first_le, eight_is, more_sum, eight_small}

set_sum : (xs : List ℕ) (q v n : ℕ) → q < length xs → q < n → first_sum (set xs q v) n + slice_index xs q ≡ first_sum xs n + v
set_sum [] q v n lt less = absurd (omega (arith, lt))
set_sum (x ∷ xs) q v zero lt less = absurd (omega (arith, less))
set_sum (x ∷ xs) zero v (suc n) lt less = omega (arith, sum_by-cons (λ x. x) x (take n xs), sum_by-cons (λ x. x) v (take n xs))
set_sum (x ∷ xs) (suc q) v (suc n) lt less = omega (arith, set_sum xs q v n (omega (arith, lt)) (omega (arith, less)), sum_by-cons (λ x. x) x (take n xs), sum_by-cons (λ x. x) x (take n (set xs q v)))

set_before : (xs : List ℕ) (q v n : ℕ) → n ≤ q → first_sum (set xs q v) n ≡ first_sum xs n
set_before [] q v n le = refl
set_before (x ∷ xs) q v zero le = omega arith
set_before (x ∷ xs) zero v (suc n) le = absurd (omega (arith, le))
set_before (x ∷ xs) (suc q) v (suc n) le = omega (arith, set_before xs q v n (omega (arith, le)), sum_by-cons (λ x. x) x (take n xs), sum_by-cons (λ x. x) x (take n (set xs q v)))

eight_in : (S : List ℕ) (q v j : ℕ) → q < length S → j ≤ q → q < j + 8 → eight (set S q v) j + slice_index S q ≡ eight S j + v
eight_in S q v j within low high =
    omega (arith, eight_is S j, eight_is (set S q v) j, set_before S q v j low, set_sum S q v (j + 8) within high)

eight_behind : (S : List ℕ) (q v j : ℕ) → q < length S → q < j → eight (set S q v) j ≡ eight S j
eight_behind S q v j within low =
    omega (arith, eight_is S j, eight_is (set S q v) j, set_sum S q v j within low, set_sum S q v (j + 8) within (omega (arith, low)))

eight_before : (S : List ℕ) (q v j : ℕ) → j + 8 ≤ q → eight (set S q v) j ≡ eight S j
eight_before S q v j high =
    omega (arith, eight_is S j, eight_is (set S q v) j, set_before S q v j (omega (arith, high)), set_before S q v (j + 8) high)

eight_has : (S : List ℕ) (q j : ℕ) → j ≤ q → q < j + 8 → slice_index S q ≤ eight S j
eight_has S q j low high =
    omega (arith, eight_is S j, more_sum S q, first_le S j q low, first_le S (q + 1) (j + 8) (omega (arith, high)))

pub small_at : (S : List ℕ) (low leaf t q : ℕ) → leaf ≡ below t 0 → SumsFrom low leaf S → low ≤ 8 * q + 8 → q < leaf → eight S (8 * q + 8) ≤ sum (drop leaf S)
small_at S low leaf t q e sums from lt =
    let s : SumsFrom low (below t 0) S = subst (λ v. SumsFrom low v S) e sums in
    let l : eight S (8 * q + 8) ≤ sum (drop (below t 0) S) = eight_small S low t q s from (omega (arith, e, lt)) in
    subst (λ v. eight S (8 * q + 8) ≤ sum (drop v S)) (sym e) l

pub same_rows : (old S : List ℕ) (leaf : ℕ) → SameLeaves old S leaf → Rows old leaf → Rows S leaf
same_rows old S leaf same rows = record {
  depth = rows.depth;
  row = rows.row;
  groups = rows.groups;
  size = same.size ∙ rows.size;
  long = omega (arith, same.size, rows.long);
  holds = omega (arith, same.size, rows.holds);
  few = rows.few;
  small = omega (arith, ap sum same.leaves, rows.small);
}

pub put_same : (old S : List ℕ) (leaf q v : ℕ) → SameLeaves old S leaf → q < leaf → SameLeaves old (set S q v) leaf
put_same old S leaf q v same within = record {
  size = length-set S q v ∙ same.size;
  leaves = drop-set-lt leaf S q v within ∙ same.leaves;
}

-- the loop that mends
pub mend_fits : (S : List ℕ) (leaf at old new : ℕ) → Rows S leaf → Mending S leaf at old new → at < length S → 8 ≤ at
    → (old ≤ slice_index S (at / 8 - 1)) × (slice_index S (at / 8 - 1) - old + new < 2 ^ 64)
mend_fits S leaf at old new rows m within some =
    let q = at / 8 - 1 in
    let lt : q < leaf = omega (arith, rows.long, within, some) in
    let low : 8 * q + 8 ≤ at = omega (arith, some) in
    let high : at < 8 * q + 8 + 8 = omega (arith, some) in
    let e = m.wrong q lt low (omega (arith, high)) in
    let has = eight_has S at (8 * q + 8) low high in
    let sums : SumsFrom (q + 1) leaf S = λ i from less. m.right i less (λ a b. omega (arith, a, from, high)) in
    let small = small_at S (q + 1) leaf rows.depth q rows.row sums (omega arith) lt in
    (omega (arith, e, has, m.has), omega (arith, e, has, m.has, small, rows.small))

pub mend_more : (S : List ℕ) (leaf at old new : ℕ) → Rows S leaf → Mending S leaf at old new → at < length S → 8 ≤ at
    → Mending (set S (at / 8 - 1) (slice_index S (at / 8 - 1) - old + new)) leaf (at / 8 - 1) old new
mend_more S leaf at old new rows m within some =
    let q = at / 8 - 1 in
    let v = slice_index S q - old + new in
    let lt : q < leaf = omega (arith, rows.long, within, some) in
    let low : 8 * q + 8 ≤ at = omega (arith, some) in
    let high : at < 8 * q + 8 + 8 = omega (arith, some) in
    let inside : q < length S = omega (arith, lt, rows.holds) in
    let e = m.wrong q lt low (omega (arith, high)) in
    let fits = mend_fits S leaf at old new rows m within some in
    let here : slice_index (set S q v) q ≡ v = get_or-set_same S q v 0 inside in
    record {
      right = λ i less no. ⊎_elim
          (λ (is : i ≡ q). let a : slice_index (set S q v) i ≡ v = ap (λ k. slice_index (set S q v) k) is ∙ here in
          let b : eight (set S q v) (8 * i + 8) ≡ eight S (8 * q + 8) = ap (λ k. eight (set S q v) (8 * k + 8)) is ∙ eight_behind S q v (8 * q + 8) inside (omega arith) in
          omega (arith, a, b, e, fits.0))
          (λ ne. let a : slice_index (set S q v) i ≡ slice_index S i = get_or-set_other S q i v 0 ne in
          let b : eight (set S q v) (8 * i + 8) ≡ eight S (8 * i + 8) = ⊎_elim
          (λ (below : q < 8 * i + 8). eight_behind S q v (8 * i + 8) inside below)
          (λ ge. eight_before S q v (8 * i + 8) (⊎_elim (λ (lt2 : q < 8 * i + 16). absurd (no ge lt2)) (λ ge2. omega (arith, ge2)) (cases_lt q (8 * i + 16))))
          (cases_lt q (8 * i + 8)) in
          a ∙ m.right i less (λ x y. ne (omega (arith, x, y))) ∙ sym b)
          (cases_eq i q);
      wrong = λ i less x y. let ne : i ≡ q → ⊥ = λ is. omega (arith, is, x) in
          let a : slice_index (set S q v) i ≡ slice_index S i = get_or-set_other S q i v 0 ne in
          let b = eight_in S q v (8 * i + 8) inside x (omega (arith, y)) in
          let r = m.right i less (λ x y. ne (omega (arith, x, y))) in
          omega (arith, a, b, r, fits.0);
      has = omega (arith, here);
    }

-- at the top all is right
pub mend_done : (S : List ℕ) (leaf at old new : ℕ) → Mending S leaf at old new → at < 8 → SumsFrom 0 leaf S
mend_done S leaf at old new m top i from less = m.right i less (λ x y. omega (arith, x, top))

-- the loop that fills
pub fill_more : (S : List ℕ) (leaf q v : ℕ) → Rows S leaf → SumsFrom (q + 1) leaf S → q < leaf → v ≡ eight S (8 * q + 8) → SumsFrom q leaf (set S q v)
fill_more S leaf q v rows sums lt is i from less =
    let inside : q < length S = omega (arith, lt, rows.holds) in
    ⊎_elim
    (λ (e : i ≡ q). ap (λ k. slice_index (set S q v) k) e ∙ get_or-set_same S q v 0 inside ∙ is ∙ sym (ap (λ k. eight (set S q v) (8 * k + 8)) e ∙ eight_behind S q v (8 * q + 8) inside (omega arith)))
    (λ ne. get_or-set_other S q i v 0 ne ∙ sums i (omega (arith, from, ne)) less ∙ sym (eight_behind S q v (8 * i + 8) inside (omega (arith, from))))
    (cases_eq i q)

pub beyond : (xs : List ℕ) (n : ℕ) → length xs ≤ n → first_sum xs n ≡ sum xs
beyond xs n out = ap sum (take_all n xs out)

eight_out : (S : List ℕ) (j : ℕ) → length S ≤ j → eight S j ≡ 0
eight_out S j out = omega (arith, eight_is S j, beyond S j out, beyond S (j + 8) (omega (arith, out)))

-- a place whose parts are behind the end holds 0
pub fill_none : (S : List ℕ) (leaf q : ℕ) → SumsFrom (q + 1) leaf S → slice_index S q ≡ 0 → length S ≤ 8 * q + 8 → SumsFrom q leaf S
fill_none S leaf q sums none out i from less = ⊎_elim
    (λ (e : i ≡ q). ap (λ k. slice_index S k) e ∙ none ∙ sym (ap (λ k. eight S (8 * k + 8)) e ∙ eight_out S (8 * q + 8) out))
    (λ ne. sums i (omega (arith, from, ne)) less)
    (cases_eq i q)

-- what an index reads
pub read_is : (xs : List ℕ) (k x : ℕ) → x ≡ get_or xs k x → k < length xs → x ≡ slice_index xs k
read_is [] k x is lt = absurd (omega (arith, lt))
read_is (y ∷ ys) zero x is lt = is
read_is (y ∷ ys) (suc k) x is lt = read_is ys k x is (omega (arith, lt))

pub mend_read : (S : List ℕ) (leaf at old new x : ℕ) → x ≡ slice_index S (at / 8 - 1) → Rows S leaf → Mending S leaf at old new → at < length S → 8 ≤ at
    → Mending (set S (at / 8 - 1) (x - old + new)) leaf (at / 8 - 1) old new
mend_read S leaf at old new x is rows m within some = rw (is) (mend_more S leaf at old new rows m within some)

-- a weight that is put in its place
pub mend_new : (S : List ℕ) (leaf at v : ℕ) → SumsFrom 0 leaf S → leaf ≤ at → at < length S → Mending (set S at v) leaf at (slice_index S at) v
mend_new S leaf at v sums from within = record {
  right = λ i less no.
      let a : slice_index (set S at v) i ≡ slice_index S i = get_or-set_other S at i v 0 (λ e. omega (arith, e, less, from)) in
      let b : eight (set S at v) (8 * i + 8) ≡ eight S (8 * i + 8) = ⊎_elim
      (λ (below : at < 8 * i + 8). eight_behind S at v (8 * i + 8) within below)
      (λ ge. eight_before S at v (8 * i + 8) (⊎_elim (λ (lt2 : at < 8 * i + 16). absurd (no ge lt2)) (λ ge2. omega (arith, ge2)) (cases_lt at (8 * i + 16))))
      (cases_lt at (8 * i + 8)) in
      a ∙ sums i (omega arith) less ∙ sym b;
  wrong = λ i less x y.
      let a : slice_index (set S at v) i ≡ slice_index S i = get_or-set_other S at i v 0 (λ e. omega (arith, e, less, from)) in
      let b = eight_in S at v (8 * i + 8) within x (omega (arith, y)) in
      omega (arith, a, b, sums i (omega arith) less);
  has = let here : slice_index (set S at v) at ≡ v = get_or-set_same S at v 0 within in omega (arith, here);
}

pub sum_set : (ws : List ℕ) (k v : ℕ) → k < length ws → sum (set ws k v) + slice_index ws k ≡ sum ws + v
sum_set ws k v lt =
    let a = set_sum ws k v (length ws) lt lt in
    omega (arith, a, beyond ws (length ws) (omega arith), beyond (set ws k v) (length ws) (omega (arith, length-set ws k v)))

pub put_fits : (ws : List ℕ) (k v : ℕ) → k < length ws → v ≤ sum (set ws k v)
put_fits ws k v lt =
    let has : slice_index ws k ≤ sum ws = omega (arith, more_sum ws k, beyond ws (length ws) (omega arith), first_le ws (k + 1) (length ws) (omega (arith, lt))) in
    omega (arith, sum_set ws k v lt, has)
