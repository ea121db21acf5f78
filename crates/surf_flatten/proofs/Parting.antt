-- Parts of models that reach each other, found one after another.
use Rattle.std.proofs.Common.{ℕ, ◌≡◌, ◌+◌, ◌⊎◌, true, false, List, [], ◌∷◌, ◌++◌, sym, ◌∙◌, subst, ⊎_elim, arith, nat_eq}
use Rattle.std.proofs.lemmas.Bool.{cases_Bool, both_ways}
use Rattle.surf_logic.specs.Order.{has}
use Rattle.surf_logic.proofs.Has.{In, in_append, in_left, in_right}
use Rattle.surf_flatten.specs.Designs.{Design}
use Rattle.surf_flatten.specs.Reaching.{Way, Reaches, IsReached}
use Rattle.surf_flatten.specs.Laws.{PlaceWithin, IsRoot, AreParts, IsFound, AreComponents}
use Rattle.surf_flatten.proofs.Unfolding.{has_nat, in_nat, reach_more}
use Rattle.surf_flatten.proofs.Leaving.{reach_on, back_is_forth}

pub search_ends : (models : List Design) (done : List ℕ) (i : ℕ) → PlaceWithin models done done → has nat_eq done 0 ≡ true → IsReached models i → has nat_eq done i ≡ true
search_ends models done i within start r = by 0 r.0 start r.1
  where
    by : (j : ℕ) (ks : List ℕ) → has nat_eq done j ≡ true → Way models j ks i → has nat_eq done i ≡ true
    by j [] h w = subst (λ v. has nat_eq done v ≡ true) w h
    by j (k ∷ ks) h w = by k ks (within.each j k h w.0) w.1

pub parts_grow : (models : List Design) (before : List ℕ) (r : ℕ) (after assigned found : List ℕ) (old new : ℕ → ℕ) (count : ℕ) → IsRoot models before r after assigned → AreParts models assigned old count
    → IsFound models assigned r found → ((i : ℕ) → has nat_eq assigned i ≡ true → new i ≡ old i) → ((i : ℕ) → has nat_eq found i ≡ true → new i ≡ count) → AreParts models (found ++ assigned) new (count + 1)
parts_grow models before r after assigned found old new count root parts f kept named = record {
  whole = record {
    closed = λ a b h there back. ⊎_elim
        (λ x. let e = f.each a (has_nat found a x) in either b (λ free. has_nat found b (complete b (reach_on models 0 a b e.0 there) free (reach_on models b a r back e.2))))
        (λ x. right b (parts.whole.closed a b (has_nat assigned a x) there back))
        (part_of a h);
  };
  below = λ i h. ⊎_elim
      (λ x. let e = named i (has_nat found i x) in omega arith)
      (λ x. let e = kept i (has_nat assigned i x) in let b = parts.below i (has_nat assigned i x) in omega arith)
      (part_of i h);
  up = λ i j reached h p. ⊎_elim
      (λ x.
      let e = f.each j (has_nat found j x) in
      let nj = named j (has_nat found j x) in
      ⊎_elim
      (λ t. (right i t, let k = kept i t in let b = parts.below i t in omega arith))
      (λ free. let g = f.closed i j reached free p (has_nat found j x) in (left i g, let k = named i g in omega arith))
      (cases_Bool (has nat_eq assigned i)))
      (λ x.
      let u = parts.up i j reached (has_nat assigned j x) p in
      let a = kept i u.0 in
      let b = kept j (has_nat assigned j x) in
      (right i u.0, omega (arith, u.1)))
      (part_of j h);
  joined = λ i j hi hj same. ⊎_elim
      (λ x. ⊎_elim
      (λ y.
      let ei = f.each i (has_nat found i x) in
      let ej = f.each j (has_nat found j y) in
      reach_on models i r j ei.2 (back_is_forth models before r after assigned j root ej.0 ej.1 ej.2))
      (λ y. let a = named i (has_nat found i x) in let b = kept j (has_nat assigned j y) in let c = parts.below j (has_nat assigned j y) in absurd (omega arith))
      (part_of j hj))
      (λ x. ⊎_elim
      (λ y. let a = named j (has_nat found j y) in let b = kept i (has_nat assigned i x) in let c = parts.below i (has_nat assigned i x) in absurd (omega arith))
      (λ y. parts.joined i j (has_nat assigned i x) (has_nat assigned j y) (sym (kept i (has_nat assigned i x)) ∙ same ∙ kept j (has_nat assigned j y)))
      (part_of j hj))
      (part_of i hi);
}
  where
    part_of : (i : ℕ) → has nat_eq (found ++ assigned) i ≡ true → In found i ⊎ In assigned i
    part_of i h = in_append found assigned i (in_nat (found ++ assigned) i h)

    left : (i : ℕ) → has nat_eq found i ≡ true → has nat_eq (found ++ assigned) i ≡ true
    left i h = has_nat (found ++ assigned) i (in_left found assigned i (in_nat found i h))

    right : (i : ℕ) → has nat_eq assigned i ≡ true → has nat_eq (found ++ assigned) i ≡ true
    right i h = has_nat (found ++ assigned) i (in_right found assigned i (in_nat assigned i h))

    either : (i : ℕ) → (has nat_eq assigned i ≡ false → has nat_eq found i ≡ true) → has nat_eq (found ++ assigned) i ≡ true
    either i h = ⊎_elim (λ t. right i t) (λ free. left i (h free)) (cases_Bool (has nat_eq assigned i))

    -- the search back finds all that reach r: no way leads from beside the parts into them
    complete : (y : ℕ) → IsReached models y → has nat_eq assigned y ≡ false → Reaches models y r → In found y
    complete y reached free way = by y way.0 reached free way.1
      where
        by : (y : ℕ) (ks : List ℕ) → IsReached models y → has nat_eq assigned y ≡ false → Way models y ks r → In found y
        by y [] reached free w = subst (In found) (sym w) (in_nat found r f.root)
        by y (k ∷ ks) reached free w = ⊎_elim
            (λ t. absurd (both_ways _ free (parts.up y k reached t w.0).0))
            (λ g. in_nat found y (f.closed y k reached free w.0 (has_nat found k (by k ks (reach_more models 0 y k reached w.0) g w.1))))
            (cases_Bool (has nat_eq assigned k))

pub parts_end : (models : List Design) (assigned : List ℕ) (part : ℕ → ℕ) (count : ℕ) → AreParts models assigned part count → ((i : ℕ) → IsReached models i → has nat_eq assigned i ≡ true) → AreComponents models part
parts_end models assigned part count parts all = record {
  up = λ i j r p. (parts.up i j r (all j (reach_more models 0 i j r p)) p).1;
  joined = λ i j ri rj same. parts.joined i j (all i ri) (all j rj) same;
}
