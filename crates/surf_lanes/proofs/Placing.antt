-- Spans that are placed one after another in the first free lane have the least lanes.
use Rattle.std.proofs.Common.{◌≡◌, ◌≢◌, ℕ, ◌+◌, ◌<◌, ◌≤◌, ◌⊎◌, List, [], ◌∷◌, ◌++◌, length, get_or, refl, sym, ap, ◌∙◌, subst, ⊎_elim, inl, inr, arith, get_or-set_same, get_or-set_other}
use Rattle.std.proofs.Math.ListN.{set, length-set}
use Rattle.std.proofs.lemmas.Bool.{cases_lt, cases_eq}
use Rattle.std.proofs.lemmas.List.{get_or_append_left, get_or_push, length_push}
use Rattle.surf_lanes.specs.declared.lanes.Span.{Span}
use Rattle.surf_lanes.specs.Lanes.{span_at, IsInOrder, LanesOf, Earlier, IsPacked, AreApart, AreBelow, PackingOf, IsPlaced}
use Rattle.surf_lanes.proofs.Overlaps.{least_is_packed, lane_below, lanes_apart}

abbrev pub lanes_of : PackingOf → LanesOf
lanes_of p = record { lane = p.lane; count = length p.last; row = p.row }

-- the last row in a lane is that of one of its spans
pub record IsLast (spans : List Span) (p : PackingOf) (done k row : ℕ) : Type 0 where
  pub most : (j : ℕ) → j < done → get_or p.lane j 0 ≡ k → (span_at spans j).to ≤ row
  pub span : ℕ
  pub within : span < done
  pub in_lane : get_or p.lane span 0 ≡ k
  pub to : (span_at spans span).to ≡ row

-- the first span in the last lane
pub record IsNewestOf (spans : List Span) (p : PackingOf) (done : ℕ) : Type 0 where
  pub span : ℕ
  pub within : span < done
  pub last : get_or p.lane span 0 + 1 ≡ length p.last
  pub row : p.row ≡ (span_at spans span).from
  pub before : (j : ℕ) → j < span → get_or p.lane j 0 < get_or p.lane span 0

-- so many spans are packed
pub record IsSoFar (spans : List Span) (done : ℕ) (p : PackingOf) : Type 0 where
  pub as_many : length p.lane ≡ done
  pub few : length p.last ≤ done
  pub free : (i : ℕ) → i < done → Earlier spans (lanes_of p) i (get_or p.lane i 0) → ⊥
  pub least : (i k : ℕ) → i < done → k < get_or p.lane i 0 → Earlier spans (lanes_of p) i k
  pub below : (i : ℕ) → i < done → get_or p.lane i 0 < length p.last
  pub lasts : (k : ℕ) → k < length p.last → IsLast spans p done k (get_or p.last k 0)
  pub newest : ((length p.last ≡ 0) × (p.row ≡ 0)) ⊎ IsNewestOf spans p done

pub none_so_far : (spans : List Span) → IsSoFar spans 0 (record { lane = []; last = []; row = 0 })
none_so_far spans = record {
  as_many = refl;
  few = omega arith;
  free = λ i b. absurd (omega (arith, b));
  least = λ i k b. absurd (omega (arith, b));
  below = λ i b. absurd (omega (arith, b));
  lasts = λ k b. absurd (omega (arith, b));
  newest = inl (refl, refl);
}

-- earlier lanes stay as they were
module _ (spans : List Span) (p q : PackingOf) (done free : ℕ) (long : length p.lane ≡ done) (is : q.lane ≡ p.lane ++ free ∷ []) where
  same : (j : ℕ) → j < done → get_or q.lane j 0 ≡ get_or p.lane j 0
  same j b = ap (λ (l : List ℕ). get_or l j 0) is ∙ get_or_append_left p.lane (free ∷ []) 0 j (omega (arith, long, b))

  last_lane : get_or q.lane done 0 ≡ free
  last_lane = ap (λ (l : List ℕ). get_or l done 0) is ∙ get_or_push p.lane free 0 done long

  earlier_back : (i k k' : ℕ) → i ≤ done → k ≡ k' → Earlier spans (lanes_of q) i k → Earlier spans (lanes_of p) i k'
  earlier_back i k k' b e h =
      record { span = h.span; row = h.row; earlier = h.earlier; in_lane = sym (same h.span (let x = h.earlier in omega (arith, x, b))) ∙ h.in_lane ∙ e; in_first = h.in_first; in_second = h.in_second }

  earlier_on : (i k : ℕ) → i ≤ done → Earlier spans (lanes_of p) i k → Earlier spans (lanes_of q) i k
  earlier_on i k b h =
      record { span = h.span; row = h.row; earlier = h.earlier; in_lane = same h.span (let x = h.earlier in omega (arith, x, b)) ∙ h.in_lane; in_first = h.in_first; in_second = h.in_second }

  last_on : (k row row' : ℕ) → row ≡ row' → k ≢ free → IsLast spans p done k row → IsLast spans q (done + 1) k row'
  last_on k row row' e other h = record {
    most = λ j b l. ⊎_elim
        (λ c. let m = h.most j c (sym (same j c) ∙ l) in omega (arith, m, e))
        (λ c. let f : j ≡ done = omega (arith, b, c) in absurd (other (sym l ∙ ap (λ (x : ℕ). get_or q.lane x 0) f ∙ last_lane)))
        (cases_lt j done);
    span = h.span;
    within = (let w = h.within in omega (arith, w));
    in_lane = same h.span h.within ∙ h.in_lane;
    to = h.to ∙ e;
  }

  last_new : (k row : ℕ) → done < length spans → k ≡ free → row ≡ (span_at spans done).to → ((j : ℕ) → j < done → get_or p.lane j 0 ≡ free → (span_at spans j).to ≤ row) → IsLast spans q (done + 1) k row
  last_new k row within e r h = record {
    most = λ j b l. ⊎_elim
        (λ c. h j c (sym (same j c) ∙ l ∙ e))
        (λ c. let f : j ≡ done = omega (arith, b, c) in let g = ap (λ (x : ℕ). (span_at spans x).to) f in omega (arith, g, r))
        (cases_lt j done);
    span = done;
    within = omega arith;
    in_lane = last_lane ∙ sym e;
    to = sym r;
  }

-- one span more
pub placed_so_far : (spans : List Span) (done : ℕ) (p q : PackingOf) → IsInOrder spans → done < length spans → IsSoFar spans done p → IsPlaced p q (span_at spans done) → IsSoFar spans (done + 1) q
placed_so_far spans done p q order within so placed = record {
  as_many = ap length placed.lane ∙ length_push p.lane free ∙ ap (λ (n : ℕ). n + 1) so.as_many;
  few = (let w = grown in let f = so.few in omega (arith, w, f));
  free = λ i b e. ⊎_elim
      (λ c. so.free i c (back i _ _ (omega (arith, c)) (keeps i c) e))
      (λ c. let f : i ≡ done = omega (arith, b, c) in taken (subst (λ (x : ℕ). Earlier spans (lanes_of q) x (get_or q.lane x 0)) f e))
      (cases_lt i done);
  least = λ i k b l. ⊎_elim
      (λ c. on i k (omega (arith, c)) (so.least i k c (let s = keeps i c in omega (arith, l, s))))
      (λ c. let f : i ≡ done = omega (arith, b, c) in subst (λ (x : ℕ). Earlier spans (lanes_of q) x k) (sym f) (on done k (omega arith) (blocked k (let s = ap (λ (x : ℕ). get_or q.lane x 0) f ∙ newly in omega (arith, l, s)))))
      (cases_lt i done);
  below = λ i b. ⊎_elim
      (λ c. let s = keeps i c in let o = so.below i c in let w = wide in omega (arith, s, o, w.0))
      (λ c. let f : i ≡ done = omega (arith, b, c) in let s = ap (λ (x : ℕ). get_or q.lane x 0) f ∙ newly in let w = wide in omega (arith, s, w.1))
      (cases_lt i done);
  lasts = ends placed.last;
  newest = first placed.last so.newest;
}
  where
    free : ℕ
    free = placed.free

    span : Span
    span = span_at spans done

    keeps : (j : ℕ) → j < done → get_or q.lane j 0 ≡ get_or p.lane j 0
    keeps = same spans p q done free so.as_many placed.lane

    newly : get_or q.lane done 0 ≡ free
    newly = last_lane spans p q done free so.as_many placed.lane

    back : (i k k' : ℕ) → i ≤ done → k ≡ k' → Earlier spans (lanes_of q) i k → Earlier spans (lanes_of p) i k'
    back = earlier_back spans p q done free so.as_many placed.lane

    on : (i k : ℕ) → i ≤ done → Earlier spans (lanes_of p) i k → Earlier spans (lanes_of q) i k
    on = earlier_on spans p q done free so.as_many placed.lane

    taken : Earlier spans (lanes_of q) done (get_or q.lane done 0) → ⊥
    taken e =
        let h = back done _ free (omega arith) newly e in
        let x = h.in_first in
        let y = h.in_second in
        let b = so.below h.span h.earlier in
        let l = h.in_lane in
        let f : free < length p.last = omega (arith, b, l) in
        let z = placed.first.free f in
        let m = (so.lasts free f).most h.span h.earlier h.in_lane in omega (arith, x.1, y.0, z, m)

    blocked : (k : ℕ) → k < free → Earlier spans (lanes_of p) done k
    blocked k b =
        let w = placed.first.within in
        let h = so.lasts k (omega (arith, b, w)) in
        let z = placed.first.before k b in
        let o = order.ordered h.span done h.within within in
        let t = h.to in
        record { span = h.span; row = span.from; earlier = h.within; in_lane = h.in_lane; in_first = (o, omega (arith, z, t)); in_second = (omega arith, order.forward done within) }

    wide : (length p.last ≤ length q.last) × (free < length q.last)
    wide = ⊎_elim
        (λ r. let l = ap length r.1 ∙ length-set p.last free span.to in let b = r.0 in (omega (arith, l), omega (arith, l, b)))
        (λ r. let l = ap length r.1 ∙ length_push p.last span.to in let b = r.0 in (omega (arith, l), omega (arith, l, b)))
        placed.last

    grown : length q.last ≤ length p.last + 1
    grown = ⊎_elim
        (λ r. let l = ap length r.1 ∙ length-set p.last free span.to in omega (arith, l))
        (λ r. let l = ap length r.1 ∙ length_push p.last span.to in omega (arith, l))
        placed.last

    ends : ((free < length p.last) × (q.last ≡ set p.last free span.to) × (q.row ≡ p.row)) ⊎ ((free ≡ length p.last) × (q.last ≡ p.last ++ span.to ∷ []) × (q.row ≡ span.from)) → (k : ℕ) → k < length q.last → IsLast spans q (done + 1) k (get_or q.last k 0)
    ends (inl r) k b =
        let l = ap length r.1 ∙ length-set p.last free span.to in
        ⊎_elim
        (λ e.
        last_new spans p q done free so.as_many placed.lane k (get_or q.last k 0) within e (ap (λ (t : List ℕ). get_or t k 0) r.1 ∙ ap (λ (x : ℕ). get_or (set p.last free span.to) x 0) e ∙ get_or-set_same p.last free span.to 0 r.0)
        (λ j c i.
        let m = (so.lasts free r.0).most j c i in
        let z = placed.first.free r.0 in
        let f = order.forward done within in
        let t = ap (λ (t : List ℕ). get_or t k 0) r.1 ∙ ap (λ (x : ℕ). get_or (set p.last free span.to) x 0) e ∙ get_or-set_same p.last free span.to 0 r.0 in omega (arith, m, z, f, t)))
        (λ o. last_on spans p q done free so.as_many placed.lane k (get_or p.last k 0) (get_or q.last k 0) (sym (ap (λ (t : List ℕ). get_or t k 0) r.1 ∙ get_or-set_other p.last free k span.to 0 o)) o (so.lasts k (omega (arith, b, l))))
        (cases_eq k free)
    ends (inr r) k b =
        let l = ap length r.1 ∙ length_push p.last span.to in
        let f = r.0 in
        ⊎_elim
        (λ c. last_on spans p q done free so.as_many placed.lane k (get_or p.last k 0) (get_or q.last k 0) (sym (ap (λ (t : List ℕ). get_or t k 0) r.1 ∙ get_or_append_left p.last (span.to ∷ []) 0 k c)) (λ e. omega (arith, e, c, f)) (so.lasts k c))
        (λ c.
        let e : k ≡ free = omega (arith, b, c, l, f) in
        last_new spans p q done free so.as_many placed.lane k (get_or q.last k 0) within e (ap (λ (t : List ℕ). get_or t k 0) r.1 ∙ get_or_push p.last span.to 0 k (sym (e ∙ f)))
        (λ j c' i. let o = so.below j c' in absurd (omega (arith, i, o, f))))
        (cases_lt k (length p.last))

    first : ((free < length p.last) × (q.last ≡ set p.last free span.to) × (q.row ≡ p.row)) ⊎ ((free ≡ length p.last) × (q.last ≡ p.last ++ span.to ∷ []) × (q.row ≡ span.from)) → ((length p.last ≡ 0) × (p.row ≡ 0)) ⊎ IsNewestOf spans p done → ((length q.last ≡ 0) × (q.row ≡ 0)) ⊎ IsNewestOf spans q (done + 1)
    first (inl r) (inl n) = absurd (let a = r.0 in let b = n.0 in omega (arith, a, b))
    first (inl r) (inr n) =
        let l = ap length r.1 ∙ length-set p.last free span.to in
        let k = keeps n.span n.within in
        inr (record {
          span = n.span;
          within = (let w = n.within in omega (arith, w));
          last = (let x = n.last in omega (arith, x, k, l));
          row = r.2 ∙ n.row;
          before = λ j b. let x = n.before j b in let y = keeps j (let w = n.within in omega (arith, w, b)) in omega (arith, x, y, k);
        })
    first (inr r) n =
        let l = ap length r.1 ∙ length_push p.last span.to in
        let f = r.0 in
        inr (record {
          span = done;
          within = omega arith;
          last = (let x = newly in omega (arith, x, l, f));
          row = r.2;
          before = λ j b. let x = so.below j b in let y = keeps j b in let z = newly in omega (arith, x, y, z, f);
        })

-- when all are placed, they are packed
pub all_packed : (spans : List Span) (p : PackingOf) → IsInOrder spans → IsSoFar spans (length spans) p → IsPacked spans (lanes_of p)
all_packed spans p order so =
    least_is_packed spans (lanes_of p) order (record { as_many = so.as_many; free = so.free; least = so.least }) so.below
    (⊎_elim (λ n. inl n) (λ n. inr (n.span, record { within = n.within; last = n.last; row = n.row; before = n.before })) so.newest)

-- the same of the lanes that are handed out
pub handed_packed : (spans : List Span) (p : PackingOf) (count : ℕ) (done : ℕ) → IsInOrder spans → IsSoFar spans done p → done ≡ length spans → count ≡ length p.last → IsPacked spans (record { lane = p.lane; count = count; row = p.row })
handed_packed spans p count done order so all many =
    subst (λ (n : ℕ). IsPacked spans (record { lane = p.lane; count = n; row = p.row })) (sym many) (all_packed spans p order (subst (λ (n : ℕ). IsSoFar spans n p) all so))

pub are_apart : (spans : List Span) (l : LanesOf) → IsPacked spans l → AreApart spans l
are_apart spans l packed = record { apart = lanes_apart spans l packed.laned }

pub are_below : (spans : List Span) (l : LanesOf) → IsInOrder spans → IsPacked spans l → AreBelow spans l
are_below spans l order packed = record { below = lane_below spans l order packed }
