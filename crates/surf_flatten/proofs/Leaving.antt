-- Parts by two searches: what the first leaves last, among those that aren't assigned, is reached back from exactly its part.
use Rattle.std.proofs.Common.{ℕ, ◌≡◌, ◌≤◌, ◌⊎◌, inl, inr, true, false, List, [], ◌∷◌, ◌++◌, length, refl, sym, ap, subst, ⊎_elim, arith, zero, suc, None, nat_eq}
use Rattle.std.proofs.lemmas.Bool.{cases_Bool, both_ways}
use Rattle.std.proofs.lemmas.List.{length-append}
use Rattle.surf_logic.specs.Order.{has, first_twice}
use Rattle.surf_logic.proofs.Has.{In, in_append, in_right}
use Rattle.surf_logic.proofs.Solving.{twice_none}
use Rattle.surf_flatten.specs.Designs.{Design}
use Rattle.surf_flatten.specs.Reaching.{Way, Reaches, IsReached}
use Rattle.surf_flatten.specs.Laws.{AreLeft, IsChain, PlaceWithin, IsRoot}
use Rattle.surf_flatten.proofs.Unfolding.{has_nat, in_nat, reach_more}

pub reach_on : (models : List Design) (i j k : ℕ) → Reaches models i j → Reaches models j k → Reaches models i k
reach_on models i j k a b = by i a.0 a.1
  where
    by : (i : ℕ) (ks : List ℕ) → Way models i ks j → Reaches models i k
    by i [] w = subst (λ v. Reaches models v k) (sym w) b
    by i (l ∷ ls) w = let r = by l ls w.1 in (l ∷ r.0, (w.0, r.1))

pub hasnt_nat : (ns : List ℕ) (n : ℕ) → (In ns n → ⊥) → has nat_eq ns n ≡ false
hasnt_nat ns n no_ = ⊎_elim (λ t. absurd (no_ (in_nat ns n t))) (λ f. f) (cases_Bool (has nat_eq ns n))

-- each on the way reaches its last
chain_reaches : (models : List Design) (u : ℕ) (below : List ℕ) → IsChain models (u ∷ below) → (k : ℕ) → In below k → Reaches models k u
chain_reaches models u [] c k i = absurd i
chain_reaches models u (v ∷ vs) c k i = ⊎_elim
    (λ same. subst (λ x. Reaches models x u) same (u ∷ [], (c.0, refl)))
    (λ later. reach_more models k v u (chain_reaches models v vs c.1 k later) c.0)
    i

pub leaving_keeps : (models : List Design) (u : ℕ) (below done : List ℕ) → IsChain models (u ∷ below) → PlaceWithin models (u ∷ done) (done ++ u ∷ below) → AreLeft models done → AreLeft models (u ∷ done)
leaving_keeps models u below done chain within left = (record { is = λ x r. walk u r.0 x ([], refl) (has_nat (u ∷ done) u (inl refl)) r.1 }, left)
  where
    -- along a way from a model that was left
    walk : (y : ℕ) (ks : List ℕ) (x : ℕ) → Reaches models u y → has nat_eq (u ∷ done) y ≡ true → Way models y ks x
        → (has nat_eq (u ∷ done) x ≡ true) ⊎ ((g : ℕ) × Reaches models u g × Reaches models g u × (has nat_eq (u ∷ done) g ≡ false))
    walk y [] x reach at w = inl (subst (λ v. has nat_eq (u ∷ done) v ≡ true) w at)
    walk y (k ∷ ks) x reach at w =
        let next : Reaches models u k = reach_more models u y k reach w.0 in
        ⊎_elim
        (λ t. walk k ks x next t w.1)
        (λ f. inr (
          k,
          next,
          ⊎_elim
              (λ d. absurd (both_ways _ f (has_nat (u ∷ done) k (inr d))))
              (λ s. ⊎_elim (λ same. absurd (both_ways _ f (has_nat (u ∷ done) k (inl same)))) (λ b. chain_reaches models u below chain k b) s)
              (in_append done (u ∷ below) k (in_nat (done ++ u ∷ below) k (within.each y k at w.0))),
          f,
        ))
        (cases_Bool (has nat_eq (u ∷ done) k))

-- ---- the way back

left_behind : (models : List Design) (xs ys : List ℕ) → AreLeft models (xs ++ ys) → AreLeft models ys
left_behind models [] ys l = l
left_behind models (x ∷ xs) ys l = left_behind models xs ys l.1

once_behind : (above xs ys : List ℕ) → first_twice nat_eq above (xs ++ ys) ≡ None → (more : List ℕ) × (first_twice nat_eq more ys ≡ None)
once_behind above [] ys o = (above, o)
once_behind above (x ∷ xs) ys o = once_behind (x ∷ above) xs ys (twice_none nat_eq above x (xs ++ ys) o).1

once_apart : (above ns : List ℕ) → first_twice nat_eq above ns ≡ None → (n : ℕ) → In above n → In ns n → ⊥
once_apart above [] o n j i = absurd i
once_apart above (m ∷ ms) o n j i =
    let h = twice_none nat_eq above m ms o in
    ⊎_elim
    (λ same. both_ways _ (subst (λ v. has nat_eq above v ≡ false) same h.0) (has_nat above n j))
    (λ later. once_apart (m ∷ above) ms h.1 n (inr j) later)
    i

-- where an element stands
pub record Split (xs : List ℕ) (x : ℕ) : Type 0 where
  pub before : List ℕ
  pub after : List ℕ
  pub is : xs ≡ before ++ x ∷ after

split : (xs : List ℕ) (x : ℕ) → In xs x → Split xs x
split [] x i = absurd i
split (y ∷ ys) x i = ⊎_elim
    (λ same. record { before = []; after = ys; is = ap (λ v. v ∷ ys) same })
    (λ later. let s = split ys x later in record { before = y ∷ s.before; after = s.after; is = ap (λ v. y ∷ v) s.is })
    i

joined : (xs ys zs : List ℕ) → (xs ++ ys) ++ zs ≡ xs ++ (ys ++ zs)
joined [] ys zs = refl
joined (x ∷ xs) ys zs = ap (λ v. x ∷ v) (joined xs ys zs)

with_tail : (xs ys zs : List ℕ) → xs ≡ ys → xs ++ zs ≡ ys ++ zs
with_tail xs ys zs e = ap (λ v. v ++ zs) e

fewer : (n : ℕ) (xs : List ℕ) (x : ℕ) (s : Split xs x) → length xs ≤ suc n → length s.before ≤ n
fewer n xs x s few = omega (arith, ap length s.is, length-append s.before (x ∷ s.after))

back : (models : List Design) (before : List ℕ) (r : ℕ) (after assigned : List ℕ) → IsRoot models before r after assigned
    → (n : ℕ) (front : List ℕ) (y : ℕ) (rest : List ℕ) → length front ≤ n → r ∷ after ≡ front ++ y ∷ rest
    → IsReached models y → has nat_eq assigned y ≡ false → Reaches models y r → Reaches models r y
back models before r after assigned root n [] y rest few is reached free way = let same : r ≡ y = cc in ([], same)
back models before r after assigned root zero (f ∷ front) y rest few is reached free way = absurd (omega (arith, few))
back models before r after assigned root (suc n) (f ∷ front) y rest few is reached free way =
    let here : r ≡ f = cc in
    let tail : after ≡ front ++ y ∷ rest = cc in
    let left : AreLeft models (y ∷ rest) = left_behind models (f ∷ front) (y ∷ rest) (subst (AreLeft models) is (left_behind models before (r ∷ after) root.left)) in
    let o = once_behind [] before (r ∷ after) root.once in
    let p = twice_none nat_eq o.0 r after o.1 in
    ⊎_elim
    (λ among. absurd (once_apart (r ∷ o.0) after p.1 r (inl refl) (subst (λ v. In v r) (sym tail) (in_right front (y ∷ rest) r (in_nat (y ∷ rest) r among)))))
    (λ g.
    let unassigned : has nat_eq assigned g.0 ≡ false = hasnt_nat assigned g.0 (λ i. both_ways _ free (root.whole.closed g.0 y (has_nat assigned g.0 i) g.2 g.1)) in
    let reaching : IsReached models g.0 = reach_on models 0 y g.0 reached g.1 in
    let place = in_append before (r ∷ after) g.0 (in_nat (before ++ r ∷ after) g.0 (root.all g.0 reaching)) in
    ⊎_elim
    (λ b. absurd (both_ways _ unassigned (root.earlier g.0 (has_nat before g.0 b))))
    (λ a. ⊎_elim
    (λ x.
    let s = split (f ∷ front) g.0 x in
    let there : (f ∷ front) ++ y ∷ rest ≡ (s.before ++ g.0 ∷ s.after) ++ y ∷ rest = with_tail (f ∷ front) (s.before ++ g.0 ∷ s.after) (y ∷ rest) s.is in
    let regrouped : (s.before ++ g.0 ∷ s.after) ++ y ∷ rest ≡ s.before ++ g.0 ∷ (s.after ++ y ∷ rest) = joined s.before (g.0 ∷ s.after) (y ∷ rest) in
    let e : r ∷ after ≡ s.before ++ g.0 ∷ (s.after ++ y ∷ rest) = cc (is, there, regrouped) in
    let shorter : length s.before ≤ n = fewer n (f ∷ front) g.0 s few in
    reach_on models r g.0 y (back models before r after assigned root n s.before g.0 (s.after ++ y ∷ rest) shorter e reaching unassigned (reach_on models g.0 y r g.2 way)) g.2)
    (λ z. absurd (both_ways _ g.3 (has_nat (y ∷ rest) g.0 z)))
    (in_append (f ∷ front) (y ∷ rest) g.0 (subst (λ v. In v g.0) is a)))
    place)
    (left.0.is r way)

pub back_is_forth : (models : List Design) (before : List ℕ) (r : ℕ) (after assigned : List ℕ) (y : ℕ) → IsRoot models before r after assigned
    → IsReached models y → has nat_eq assigned y ≡ false → Reaches models y r → Reaches models r y
back_is_forth models before r after assigned y root reached free way = ⊎_elim
    (λ b. absurd (both_ways _ free (root.earlier y (has_nat before y b))))
    (λ a. let s = split (r ∷ after) y a in back models before r after assigned root (length s.before) s.before y s.after (omega arith) s.is reached free way)
    (in_append before (r ∷ after) y (in_nat (before ++ r ∷ after) y (root.all y reached)))
