-- What the picker keeps, and the way down to a weight.
use Rattle.std.proofs.Common.{ℕ, ◌≡◌, ◌+◌, ◌-◌, ◌*◌, ◌/◌, ◌^◌, ◌<◌, ◌≤◌, List, [], ◌∷◌, ◌++◌, length, take, drop, sum, slice_index, set, replicate, refl, sym, ◌∙◌, ap, arith, zero, suc, ⊎_elim, length-append, length-set, subst}
use Rattle.std.proofs.lemmas.List.{drop-set-add, set-append_left, length-replicate, get_or-drop, get_or-append_right, get_or_append_left, take_at, drop_at}
use Rattle.std.proofs.lemmas.List.Sums.{sum_by-cons, sum_by-append, sum_by-take-drop, sum_by-take-le}
use Rattle.std.proofs.lemmas.List.Folds.{sum_by-replicate}
use Rattle.std.proofs.lemmas.Bool.{cases_lt}
use Rattle.surf_pick.specs.Wides.{first_sum, below, SumsFrom, Rows, Kept, SameLeaves, Mending, Among, Part}
use Rattle.surf_pick.specs.Finds.{Finds}
use Rattle.surf_pick.proofs.WideRows.{first_le, more_sum, eight_is, below_le, below_out, under, row}
use Rattle.surf_pick.proofs.WideMends.{beyond, same_rows, mend_new, sum_set}

pub sum_padded : (ws : List ℕ) (n : ℕ) → sum (ws ++ replicate n 0) ≡ sum ws
sum_padded ws n = sum_by-append (λ x. x) ws (replicate n 0) ∙ (let z : sum (replicate n 0) ≡ n * 0 = sum_by-replicate (λ x. x) n 0 in omega (arith, z))

row_even : (t : ℕ) → (g : ℕ) × (below t 0 ≡ 8 * g)
row_even zero = (0, refl)
row_even (suc t) = (below t 0 + 1, omega (arith, below_out t 0))

-- a new list of zeros, weights and zeros
pub made_size : (ws S : List ℕ) (leaf : ℕ) → S ≡ replicate leaf 0 ++ (ws ++ replicate ((length ws + 7) / 8 * 8 - length ws) 0) → length S ≡ leaf + (length ws + 7) / 8 * 8
made_size ws S leaf is =
    let pad = (length ws + 7) / 8 * 8 - length ws in
    let z : ℕ = 0 in
    omega (arith, ap length is, length-append (replicate leaf 0) (ws ++ replicate pad 0), length-append ws (replicate pad 0), length-replicate leaf z, length-replicate pad z)

pub made : (ws S : List ℕ) (leaf t : ℕ) → leaf ≡ below t 0 → length ws ≤ 7 * leaf + 8 → leaf ≤ 2 ^ 60 → sum ws < 2 ^ 64
    → S ≡ replicate leaf 0 ++ (ws ++ replicate ((length ws + 7) / 8 * 8 - length ws) 0) → Rows S leaf
made ws S leaf t row_is room few small is =
    let g = row_even t in
    let size = made_size ws S leaf is in
    let z : ℕ = 0 in
    let leaves : drop leaf S ≡ ws ++ replicate ((length ws + 7) / 8 * 8 - length ws) 0 = ap (λ v. drop leaf v) is ∙ drop_at (replicate leaf 0) _ leaf (length-replicate leaf z) in
    record {
      depth = t;
      row = row_is;
      groups = g.0 + (length ws + 7) / 8;
      size = omega (arith, size, g.1, row_is);
      long = omega (arith, size, g.1, row_is, room);
      holds = omega (arith, size);
      few = few;
      small = omega (arith, ap sum leaves, sum_padded ws ((length ws + 7) / 8 * 8 - length ws), small);
    }

pub built : (ws S new : List ℕ) (leaf whole n : ℕ) → Rows S leaf → S ≡ replicate leaf 0 ++ (ws ++ replicate ((length ws + 7) / 8 * 8 - length ws) 0) → whole ≡ sum ws → SameLeaves S new leaf → SumsFrom 0 leaf new → length ws ≡ n
    → Kept (take n (drop leaf new)) new leaf whole × (length (take n (drop leaf new)) ≡ n)
built ws S new leaf whole n rows is total same sums count =
    let size = made_size ws S leaf is in
    let z : ℕ = 0 in
    let pad : (length ws + 7) / 8 * 8 - length ws ≡ length new - leaf - length ws = omega (arith, size, same.size) in
    let leaves : drop leaf new ≡ ws ++ replicate (length new - leaf - length ws) 0 = same.leaves ∙ ap (λ v. drop leaf v) is ∙ drop_at (replicate leaf 0) _ leaf (length-replicate leaf z) ∙ ap (λ n. ws ++ replicate n 0) pad in
    let kept : Kept ws new leaf whole = record { rows = same_rows S new leaf same rows; leaves = leaves; room = omega (arith, size, same.size); total = total; sums = sums } in
    let front : take n (drop leaf new) ≡ ws = ap (λ v. take n v) leaves ∙ take_at ws _ n count in
    (rw front kept, ap length front ∙ count)

-- one weight is set
module _ (ws S new : List ℕ) (leaf whole n i w : ℕ) (kept : Kept ws S leaf whole) (is : length ws ≡ n) (lt : i < length ws) (small : sum (set ws i w) < 2 ^ 64) where
  pub old_is : slice_index S (leaf + i) ≡ slice_index ws i
  old_is = sym (get_or-drop leaf S i 0) ∙ ap (λ v. slice_index v i) kept.leaves ∙ get_or_append_left ws (replicate (length S - leaf - length ws) 0) 0 i lt

  pub put_leaves : drop leaf (set S (leaf + i) w) ≡ set ws i w ++ replicate (length S - leaf - length ws) 0
  put_leaves = drop-set-add leaf S i w ∙ ap (λ v. set v i w) kept.leaves ∙ set-append_left ws (replicate (length S - leaf - length ws) 0) i w lt

  pub put_rows : Rows (set S (leaf + i) w) leaf
  put_rows = record {
    depth = kept.rows.depth;
    row = kept.rows.row;
    groups = kept.rows.groups;
    size = length-set S (leaf + i) w ∙ kept.rows.size;
    long = omega (arith, length-set S (leaf + i) w, kept.rows.long);
    holds = omega (arith, length-set S (leaf + i) w, kept.rows.holds);
    few = kept.rows.few;
    small = omega (arith, ap sum put_leaves, sum_padded (set ws i w) (length S - leaf - length ws), small);
  }

  pub put_mending : Mending (set S (leaf + i) w) leaf (leaf + i) (slice_index S (leaf + i)) w
  put_mending = mend_new S leaf (leaf + i) w kept.sums (omega arith) (omega (arith, kept.room, lt))

  -- the new whole sum
  pub put_total : whole - slice_index S (leaf + i) + w ≡ sum (set ws i w)
  put_total = omega (arith, old_is, sum_set ws i w lt, kept.total, sum_has)
    where
      sum_has : slice_index ws i ≤ sum ws
      sum_has = omega (arith, more_sum ws i, beyond ws (length ws) (omega arith), first_le ws (i + 1) (length ws) (omega (arith, lt)))

-- a group of parts on the way down, k rows above the leaves, and what is left of r there
pub record Down (S : List ℕ) (leaf r group rest : ℕ) : Type 0 where
  pub t : ℕ
  pub k : ℕ
  pub g : ℕ
  pub row_is : leaf ≡ below t 0
  pub whole_group : group ≡ 8 * g
  pub ends : below k (group + 8) ≤ below (suc t) 0
  pub before : first_sum S (below k group) + rest ≡ first_sum S leaf + r
  pub inside : first_sum S group + rest < first_sum S (group + 8)
  pub left : rest ≤ r

pub from_zero : (leaf t : ℕ) (S : List ℕ) → leaf ≡ below t 0 → SumsFrom 0 leaf S → SumsFrom 0 (below t 0) S
from_zero leaf t S e sums = subst (λ v. SumsFrom 0 v S) e sums

pub down_first : (ws S : List ℕ) (leaf whole r : ℕ) → Kept ws S leaf whole → r < sum ws → Down S leaf r 0 r
down_first ws S leaf whole r k lt =
    let t = k.rows.depth in
    let e = k.rows.row in
    let part = row S 0 t t 0 8 (from_zero leaf t S e k.sums) (omega arith) (omega arith) (omega arith) in
    let out : length S ≤ below t 8 = omega (arith, k.rows.long, e, below_out t 0) in
    let first : first_sum S (below t 0) ≡ first_sum S leaf = ap (λ v. first_sum S v) (sym e) in
    record {
      t = t;
      k = t;
      g = 0;
      row_is = e;
      whole_group = refl;
      ends = omega arith;
      before = omega (arith, first);
      inside = omega (arith, part, first, beyond S (below t 8) out, sum_by-take-drop (λ x. x) S leaf, ap sum k.leaves, sum_padded ws (length S - leaf - length ws), lt);
      left = omega arith;
    }

pub down_among : (ws S : List ℕ) (leaf whole r group rest : ℕ) → Kept ws S leaf whole → Down S leaf r group rest → Among S 8 group rest
down_among ws S leaf whole r group rest k d =
    let part = row S 0 d.t d.k group (group + 8) (from_zero leaf d.t S d.row_is k.sums) (omega arith) (omega arith) d.ends in
    record {
      within = ⊎_elim
          (λ (out : length S < group + 8). let short : length S ≤ group = omega (arith, out, d.whole_group, k.rows.size) in
          absurd (omega (arith, d.inside, beyond S group short, beyond S (group + 8) (omega (arith, short)))))
          (λ ge. ge)
          (cases_lt (length S) (group + 8));
      small = omega (arith, part, d.before, d.left, sum_by-take-le (λ x. x) S (below d.k (group + 8)), sum_by-take-drop (λ x. x) S leaf, k.rows.small);
      below = d.inside;
    }

-- behind the leaves' first place the way ends
end_height : (S : List ℕ) (leaf t k group place : ℕ) → leaf ≡ below t 0 → below k (group + 8) ≤ below (suc t) 0 → place + 1 ≤ group + 8 → leaf ≤ place → k ≡ 0
end_height S leaf t zero group place e ends high ge = refl
end_height S leaf t (suc k) group place e ends high ge =
    absurd (omega (arith, e, ge, under t k place (omega (arith, ends, below_le (suc k) (place + 1) (group + 8) high))))

-- before it there is a further row
next_height : (S : List ℕ) (leaf r k group rest place left : ℕ) → first_sum S (below k group) + rest ≡ first_sum S leaf + r → Part S 1 group rest (group + 8) place left → place < leaf → (m : ℕ) × (k ≡ suc m)
next_height S leaf r zero group rest place left before part lt = absurd (omega (arith, before, part.exact, part.below, first_le S (place + 1) leaf (omega (arith, lt))))
next_height S leaf r (suc m) group rest place left before part lt = (m, refl)

pub down_more : (ws S : List ℕ) (leaf whole r group rest place left : ℕ) → Kept ws S leaf whole → Down S leaf r group rest → Part S 1 group rest (group + 8) place left → place < leaf → Down S leaf r (8 * place + 8) left
down_more ws S leaf whole r group rest place left k d part lt =
    let h = next_height S leaf r d.k group rest place left d.before part lt in
    let ends : below (suc h.0) (group + 8) ≤ below (suc d.t) 0 = subst (λ v. below v (group + 8) ≤ below (suc d.t) 0) h.1 d.ends in
    let before : first_sum S (below (suc h.0) group) + rest ≡ first_sum S leaf + r = subst (λ v. first_sum S (below v group) + rest ≡ first_sum S leaf + r) h.1 d.before in
    let to_end = below_le (suc h.0) (place + 1) (group + 8) part.high in
    let to_place = below_le (suc h.0) place (group + 8) (omega (arith, part.high)) in
    let s = row S 0 d.t (suc h.0) group place (from_zero leaf d.t S d.row_is k.sums) (omega arith) part.low (omega (arith, to_place, ends)) in
    let e : 8 * (place + 1) + 8 ≡ 8 * place + 8 + 8 = omega arith in
    let ends2 : below h.0 (8 * place + 8 + 8) ≤ below (suc d.t) 0 = subst (λ v. below h.0 v ≤ below (suc d.t) 0) e (omega (arith, to_end, ends)) in
    record {
      t = d.t;
      k = h.0;
      g = place + 1;
      row_is = d.row_is;
      whole_group = omega arith;
      ends = ends2;
      before = omega (arith, s, before, part.exact);
      inside = omega (arith, eight_is S (8 * place + 8), k.sums place (omega arith) lt, more_sum S place, part.below);
      left = omega (arith, d.left, part.exact, first_le S group place part.low);
    }

split_sum : (xs : List ℕ) (h j : ℕ) → first_sum xs (h + j) ≡ first_sum xs h + first_sum (drop h xs) j
split_sum xs zero j = let e : zero + j ≡ j = omega arith in ap (λ n. first_sum xs n) e ∙ (let z : first_sum xs j ≡ 0 + first_sum xs j = omega arith in z)
split_sum [] (suc h) j = omega (arith, nil_sum (suc h + j), nil_sum (suc h), nil_sum j)
  where
    nil_sum : (n : ℕ) → first_sum [] n ≡ 0
    nil_sum zero = refl
    nil_sum (suc n) = refl
split_sum (x ∷ xs) (suc h) j =
    let e : suc h + j ≡ suc (h + j) = omega arith in
    ap (λ n. first_sum (x ∷ xs) n) e ∙ omega (arith, split_sum xs h j, sum_by-cons (λ x. x) x (take (h + j) xs), sum_by-cons (λ x. x) x (take h xs))

front_sum : (ws zs : List ℕ) (j : ℕ) → j ≤ length ws → first_sum (ws ++ zs) j ≡ first_sum ws j
front_sum ws zs zero le = refl
front_sum [] zs (suc j) le = absurd (omega (arith, le))
front_sum (w ∷ ws) zs (suc j) le = omega (arith, front_sum ws zs j (omega (arith, le)), sum_by-cons (λ x. x) w (take j (ws ++ zs)), sum_by-cons (λ x. x) w (take j ws))

zero_there : (n j : ℕ) → slice_index (replicate n 0) j ≡ 0
zero_there zero j = refl
zero_there (suc n) zero = refl
zero_there (suc n) (suc j) = zero_there n j

pub down_finds : (ws S : List ℕ) (leaf whole r group rest place left : ℕ) → Kept ws S leaf whole → Down S leaf r group rest → Part S 1 group rest (group + 8) place left → leaf ≤ place → Finds ws r (place - leaf) left
down_finds ws S leaf whole r group rest place left kept d part le =
    let n = length S - leaf - length ws in
    let end = end_height S leaf d.t d.k group place d.row_is d.ends part.high le in
    let at : first_sum S (below d.k group) ≡ first_sum S group = ap (λ v. first_sum S (below v group)) end in
    let j = place - leaf in
    let is : leaf + j ≡ place = omega (arith, le) in
    let has : slice_index S place ≡ slice_index (ws ++ replicate n 0) j = ap (λ n. slice_index S n) (sym is) ∙ sym (get_or-drop leaf S j 0) ∙ ap (λ v. slice_index v j) kept.leaves in
    let more = more_sum S place in
    let lt : j < length ws = ⊎_elim (λ lt. lt) (λ ge. absurd (omega (arith, part.below, more, has, get_or-append_right ws (replicate n 0) (length ws) j 0 refl ge, zero_there n (j - length ws)))) (cases_lt j (length ws)) in
    let here : slice_index (ws ++ replicate n 0) j ≡ slice_index ws j = get_or_append_left ws (replicate n 0) 0 j lt in
    let split : first_sum S place ≡ first_sum S leaf + first_sum (drop leaf S) j = ap (λ n. first_sum S n) (sym is) ∙ split_sum S leaf j in
    let front : first_sum (drop leaf S) j ≡ first_sum ws j = ap (λ v. first_sum v j) kept.leaves ∙ front_sum ws (replicate n 0) j (omega (arith, lt)) in
    record { within = lt; before = omega (arith, d.before, at, part.exact, split, front); exceeds = omega (arith, part.below, more, has, here) }

-- one weight is set, and the sums above it are mended
module _ (ws S new : List ℕ) (leaf whole n i w x : ℕ) (kept : Kept ws S leaf whole) (is : length ws ≡ n) (lt : i < length ws) (small : sum (set ws i w) < 2 ^ 64) (read : x ≡ slice_index S (leaf + i)) (same : SameLeaves (set S (leaf + i) w) new leaf) where
  leaves_are : drop leaf new ≡ set ws i w ++ replicate (length new - leaf - length (set ws i w)) 0
  leaves_are = same.leaves ∙ put_leaves ws S new leaf whole n i w kept is lt small
      ∙ ap (λ m. set ws i w ++ replicate m 0) (let e : length S - leaf - length ws ≡ length new - leaf - length (set ws i w) = omega (arith, same.size, length-set S (leaf + i) w, length-set ws i w) in e)

  pub set_is : take n (drop leaf new) ≡ set ws i w
  set_is = ap (λ v. take n v) leaves_are ∙ take_at (set ws i w) _ n (length-set ws i w ∙ is)

  pub set_keeps : SumsFrom 0 leaf new → Kept (take n (drop leaf new)) new leaf (whole - x + w) × (length (take n (drop leaf new)) ≡ n)
  set_keeps sums =
      let k : Kept (set ws i w) new leaf (whole - x + w) = record {
        rows = same_rows _ new leaf same (put_rows ws S new leaf whole n i w kept is lt small);
        leaves = leaves_are;
        room = omega (arith, same.size, length-set S (leaf + i) w, length-set ws i w, kept.room);
        total = ap (λ v. whole - v + w) read ∙ put_total ws S new leaf whole n i w kept is lt small;
        sums = sums;
      } in
      (rw set_is k, ap length set_is ∙ length-set ws i w ∙ is)

pub kept_small : (ws S : List ℕ) (leaf whole : ℕ) → Kept ws S leaf whole → sum ws < 2 ^ 64
kept_small ws S leaf whole k = omega (arith, ap sum k.leaves, sum_padded ws (length S - leaf - length ws), k.rows.small)
