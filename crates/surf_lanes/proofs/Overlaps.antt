-- Lanes that are each the least free one are as many as spans share a row.
use Rattle.std.proofs.Common.{◌≡◌, ℕ, zero, suc, ◌+◌, ◌<◌, ◌≤◌, Bool, true, false, cond, List, length, refl, sym, ap, ◌∙◌, subst, inl, inr, arith}
use Rattle.std.specs.Prelude.{nat_le, nat_lt, ◌&&◌, ◌⊎◌}
use Rattle.std.proofs.lemmas.Bool.{cases_lt, lt-ltb, le-ltb, ltb-true, le-leb, leb-true}
use Rattle.surf_lanes.specs.declared.lanes.Span.{Span}
use Rattle.surf_lanes.specs.Lanes.{span_at, IsIn, tally, holds_row, overlap, IsInOrder, LanesOf, lane_at, IsLaned, IsPacked, IsNewest}

pub tally-le : (test : ℕ → Bool) (n : ℕ) → tally test n ≤ n
tally-le test zero = omega arith
tally-le test (suc n) = let a = tally-le test n in let b = one_at_most (test n) in omega (arith, a, b)
  where
    one_at_most : (t : Bool) → cond t 1 0 ≤ 1
    one_at_most true = omega arith
    one_at_most false = omega arith

abbrev one_if : Bool → ℕ
one_if b = cond b 1 0

bit-le : (a b : Bool) → (a ≡ true → b ≡ true) → cond a 1 0 ≤ cond b 1 0
bit-le true b h = rw (h refl) (omega arith)
bit-le false true h = omega arith
bit-le false false h = omega arith

tally_within : (s t : ℕ → Bool) (n : ℕ) → ((m : ℕ) → m < n → s m ≡ true → t m ≡ true) → tally s n ≤ tally t n
tally_within s t zero h = omega arith
tally_within s t (suc n) h = let a = tally_within s t n (λ m b. h m (omega arith)) in let b = bit-le (s n) (t n) (h n (omega arith)) in omega (arith, a, b)

-- one more where the second test holds and the first does not
tally_more : (s t : ℕ → Bool) (n m : ℕ) → ((x : ℕ) → x < n → s x ≡ true → t x ≡ true) → m < n → s m ≡ false → t m ≡ true → tally s n < tally t n
tally_more s t zero m h b e f = absurd (omega arith)
tally_more s t (suc n) m h b e f =
    elim (cases_lt m n) as (λ x. tally s (suc n) < tally t (suc n)) [
      | inl l ↦ (let a = tally_more s t n m (λ x c. h x (omega arith)) l e f in let c = bit-le (s n) (t n) (h n (omega arith)) in omega (arith, a, c))
      | inr l ↦ (
          let k : m ≡ n = omega arith in
          let e' : ◌≡◌ {A = ℕ} (cond (s n) 1 0) 0 = ap one_if (subst (λ (x : ℕ). s x ≡ false) k e) in
          let f' : ◌≡◌ {A = ℕ} (cond (t n) 1 0) 1 = ap one_if (subst (λ (x : ℕ). t x ≡ true) k f) in
          let a = tally_within s t n (λ x c. h x (omega arith)) in omega (arith, a, e', f'))
    ]

tally_longer : (s : ℕ → Bool) (m n : ℕ) → m ≤ n → tally s m ≤ tally s n
tally_longer s m zero b = let e : m ≡ 0 = omega arith in subst (λ (x : ℕ). tally s x ≤ 0) (sym e) (omega arith)
tally_longer s m (suc n) b =
    elim (cases_lt n m) as (λ x. tally s m ≤ tally s (suc n)) [
      | inl l ↦ (let e : suc n ≡ m = omega arith in subst (λ (x : ℕ). tally s x ≤ tally s (suc n)) e (omega arith))
      | inr l ↦ (let a = tally_longer s m n l in omega (arith, a))
    ]

and_true : (a b : Bool) → a ≡ true → b ≡ true → (a && b) ≡ true
and_true true true e f = refl
and_true true false e f = absurd cc
and_true false b e f = absurd cc

and_false : (a b : Bool) → b ≡ false → (a && b) ≡ false
and_false true true f = absurd cc
and_false true false f = refl
and_false false b f = refl

and_from : (a b : Bool) → (a && b) ≡ true → (a ≡ true) × (b ≡ true)
and_from true true e = (refl, refl)
and_from true false e = absurd cc
and_from false b e = absurd cc

pub holds_is : (spans : List Span) (r i : ℕ) → IsIn r (span_at spans i) → holds_row spans r i ≡ true
holds_is spans r i h = and_true _ _ (le-leb _ _ h.0) (le-leb _ _ h.1)

pub holds_means : (spans : List Span) (r i : ℕ) → holds_row spans r i ≡ true → IsIn r (span_at spans i)
holds_means spans r i h = let (p, q) = and_from (nat_le (span_at spans i).from r) (nat_le r (span_at spans i).to) h in (leb-true (span_at spans i).from r p, leb-true r (span_at spans i).to q)

-- the earlier spans that hold the first row of span i, in lanes below k
abbrev in_lanes : List Span → LanesOf → (r k m : ℕ) → Bool
in_lanes spans l r k m = holds_row spans r m && nat_lt (lane_at l m) k

in_lanes_is : (spans : List Span) (l : LanesOf) (r k m : ℕ) → holds_row spans r m ≡ true → lane_at l m < k → in_lanes spans l r k m ≡ true
in_lanes_is spans l r k m h b = and_true (holds_row spans r m) (nat_lt (lane_at l m) k) h (lt-ltb (lane_at l m) k b)

in_lanes_from : (spans : List Span) (l : LanesOf) (r k m : ℕ) → in_lanes spans l r k m ≡ true → (holds_row spans r m ≡ true) × (lane_at l m < k)
in_lanes_from spans l r k m h = let (p, q) = and_from (holds_row spans r m) (nat_lt (lane_at l m) k) h in (p, ltb-true (lane_at l m) k q)

not_in_lanes : (spans : List Span) (l : LanesOf) (r k m : ℕ) → k ≤ lane_at l m → in_lanes spans l r k m ≡ false
not_in_lanes spans l r k m b = and_false (holds_row spans r m) (nat_lt (lane_at l m) k) (le-ltb (lane_at l m) k b)

filled_lanes : (spans : List Span) (l : LanesOf) → IsInOrder spans → IsLaned spans l → (i : ℕ) → i < length spans → (k : ℕ) → k ≤ lane_at l i → k ≤ tally (in_lanes spans l (span_at spans i).from k) i
filled_lanes spans l order law i b zero h = omega arith
filled_lanes spans l order law i b (suc k) h =
    let deep = filled_lanes spans l order law i b k (omega arith) in
    let r : ℕ = (span_at spans i).from in
    let e = law.least i k b (omega arith) in
    let o = order.ordered e.span i e.earlier b in
    let inside : IsIn r (span_at spans e.span) = (o, (let x = e.in_first in let y = e.in_second in omega (arith, x.1, y.0))) in
    let more = tally_more (in_lanes spans l r k) (in_lanes spans l r (suc k)) i e.span
    (λ x c t. let (p, q) = in_lanes_from spans l r k x t in in_lanes_is spans l r (suc k) x p (omega (arith, q)))
    e.earlier (not_in_lanes spans l r k e.span (let x = e.in_lane in omega (arith, x))) (in_lanes_is spans l r (suc k) e.span (holds_is spans r e.span inside) (let x = e.in_lane in omega (arith, x))) in
    omega (arith, deep, more)

-- the spans that hold the first row of a span are more than its lane
full_at : (spans : List Span) (l : LanesOf) → IsInOrder spans → IsLaned spans l → (i : ℕ) → i < length spans → lane_at l i + 1 ≤ overlap spans (span_at spans i).from
full_at spans l order law i b =
    let r : ℕ = (span_at spans i).from in
    let full = filled_lanes spans l order law i b (lane_at l i) (omega arith) in
    let within = tally_within (in_lanes spans l r (lane_at l i)) (holds_row spans r) i (λ m c t. (in_lanes_from spans l r (lane_at l i) m t).0) in
    let own : ◌≡◌ {A = ℕ} (cond (holds_row spans r i) 1 0) 1 = ap one_if (holds_is spans r i (omega arith, order.forward i b)) in
    let longer = tally_longer (holds_row spans r) (suc i) (length spans) b in omega (arith, full, within, own, longer)

-- every lane is below the count
pub lane_below : (spans : List Span) (l : LanesOf) → IsInOrder spans → IsPacked spans l → (i : ℕ) → i < length spans → lane_at l i < l.count
lane_below spans l order law i b = let full = full_at spans l order law.laned i b in let most = law.most (span_at spans i).from in omega (arith, full, most)

-- spans that share a row have different lanes
pub lanes_apart : (spans : List Span) (l : LanesOf) → IsLaned spans l → (i j r : ℕ) → i < length spans → j < length spans → IsIn r (span_at spans i) → IsIn r (span_at spans j) → lane_at l i ≡ lane_at l j → i ≡ j
lanes_apart spans l law i j r b c h k e =
    elim (cases_lt i j) as (λ x. i ≡ j) [
      | inl l' ↦ absurd (law.free j c (record { span = i; row = r; earlier = l'; in_lane = e; in_first = h; in_second = k }))
      | inr l' ↦ elim (cases_lt j i) as (λ x. i ≡ j) [
        | inl l'' ↦ absurd (law.free i b (record { span = j; row = r; earlier = l''; in_lane = sym e; in_first = k; in_second = h }))
        | inr l'' ↦ omega arith
      ]
    ]

-- at most one number more
tally_one : (s t : ℕ → Bool) (n : ℕ) → ((m m' : ℕ) → m < n → m' < n → t m ≡ true → s m ≡ false → t m' ≡ true → s m' ≡ false → m ≡ m') → tally t n ≤ tally s n + 1
tally_one s t zero one = omega arith
tally_one s t (suc n) one = go (tally_one s t n (λ m m' b c. one m m' (omega arith) (omega arith))) (t n) (s n) refl refl
  where
    go : tally t n ≤ tally s n + 1 → (a b : Bool) → t n ≡ a → s n ≡ b → tally t n + cond a 1 0 ≤ tally s n + cond b 1 0 + 1
    go deep true false e f =
        let a = tally_within t s n (λ m b e'. go' m b e' (s m) refl e f) in omega (arith, a)
      where
        go' : (m : ℕ) → m < n → t m ≡ true → (b : Bool) → s m ≡ b → t n ≡ true → s n ≡ false → s m ≡ true
        go' m b e' true g e'' f' = g
        go' m b e' false g e'' f' = (let z = one m n (omega arith) (omega arith) e' g e'' f' in absurd (omega arith))
    go deep true true e f = omega (arith, deep)
    go deep false true e f = omega (arith, deep)
    go deep false false e f = omega (arith, deep)

-- spans with different lanes below n are at most n
few_lanes : (spans : List Span) (l : LanesOf) (r len : ℕ) → IsLaned spans l → len ≤ length spans → (n : ℕ) → tally (in_lanes spans l r n) len ≤ n
few_lanes spans l r len law b zero = none len
  where
    none : (k : ℕ) → tally (in_lanes spans l r 0) k ≤ 0
    none zero = omega arith
    none (suc k) = let d = none k in let e : ◌≡◌ {A = ℕ} (cond (in_lanes spans l r 0 k) 1 0) 0 = ap one_if (not_in_lanes spans l r 0 k (omega arith)) in omega (arith, d, e)
few_lanes spans l r len law b (suc n) =
    let deep = few_lanes spans l r len law b n in
    let more = tally_one (in_lanes spans l r n) (in_lanes spans l r (suc n)) len (λ m m' c c' e f e' f'.
    let (h, k) = in_lanes_from spans l r (suc n) m e in
    let (h', k') = in_lanes_from spans l r (suc n) m' e' in
    lanes_apart spans l law m m' r (omega (arith, b, c)) (omega (arith, b, c')) (holds_means spans r m h) (holds_means spans r m' h') (the_last m h k f ∙ sym (the_last m' h' k' f'))) in
    omega (arith, deep, more)
  where
    the_last : (m : ℕ) → holds_row spans r m ≡ true → lane_at l m < suc n → in_lanes spans l r n m ≡ false → lane_at l m ≡ n
    the_last m h k f =
        elim (cases_lt (lane_at l m) n) as (λ x. lane_at l m ≡ n) [
          | inl c ↦ absurd (cc (sym (in_lanes_is spans l r n m h c) ∙ f))
          | inr c ↦ omega (arith, c, k)
        ]

overlap_below : (spans : List Span) (l : LanesOf) (r n : ℕ) → IsLaned spans l → ((i : ℕ) → i < length spans → holds_row spans r i ≡ true → lane_at l i < n) → overlap spans r ≤ n
overlap_below spans l r n law below =
    let a = few_lanes spans l r (length spans) law (omega arith) n in
    let b = tally_within (holds_row spans r) (in_lanes spans l r n) (length spans) (λ m c e. in_lanes_is spans l r n m e (below m c e)) in omega (arith, a, b)

-- lanes that are the least are packed
pub least_is_packed : (spans : List Span) (l : LanesOf) → IsInOrder spans → IsLaned spans l → ((i : ℕ) → i < length spans → lane_at l i < l.count) →
    (l.count ≡ 0) × (l.row ≡ 0) ⊎ (newest : ℕ) × IsNewest spans l newest → IsPacked spans l
least_is_packed spans l order law below (inl (e, f)) = record {
  laned = law;
  most = λ r. overlap_below spans l r l.count law (λ i b h. below i b);
  reached = (let a = overlap_below spans l l.row l.count law (λ i b h. below i b) in omega (arith, a, e));
  first = λ r h. omega (arith, f);
}
least_is_packed spans l order law below (inr (i, new)) = record {
  laned = law;
  most = λ r. overlap_below spans l r l.count law (λ j b h. below j b);
  reached =
      (let a = overlap_below spans l l.row l.count law (λ j b h. below j b) in
      let c = at_least i new.within in
      let d : overlap spans l.row ≡ overlap spans (span_at spans i).from = ap (overlap spans) new.row in
      let e = new.last in omega (arith, a, c, d, e));
  first = λ r h.
      elim (cases_lt r l.row) as (λ x. l.row ≤ r) [
        | inl c ↦ absurd (
            let a = overlap_below spans l r (lane_at l i) law (λ j b g.
            let k = holds_means spans r j g in
            elim (cases_lt j i) as (λ x. lane_at l j < lane_at l i) [
              | inl c' ↦ new.before j c'
              | inr c' ↦ absurd (let o = from_least i j b c' in let k' = k.0 in let e = new.row in omega (arith, o, k', e, c))
            ]) in
            let e = new.last in omega (arith, a, e, h))
        | inr c ↦ c
      ];
}
  where
    from_least : (a j : ℕ) → j < length spans → a ≤ j → (span_at spans a).from ≤ (span_at spans j).from
    from_least a j b c =
        elim (cases_lt a j) as (λ x. (span_at spans a).from ≤ (span_at spans j).from) [
          | inl c' ↦ order.ordered a j c' b
          | inr c' ↦ (let e : a ≡ j = omega arith in subst (λ (x : ℕ). (span_at spans a).from ≤ (span_at spans x).from) e (omega arith))
        ]

    at_least : (j : ℕ) → j < length spans → lane_at l j + 1 ≤ overlap spans (span_at spans j).from
    at_least j b = full_at spans l order law j b
