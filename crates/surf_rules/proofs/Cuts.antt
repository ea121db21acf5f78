-- The elements of a key in a list by keys.
use Rattle.std.proofs.Common.{ℕ, ◌≡◌, ◌+◌, ◌-◌, ◌<◌, ◌≤◌, ◌==◌, List, [], ◌∷◌, length, take, drop, slice_index_or, refl, ◌∙◌, ap, arith, zero, suc, ⊎_elim, true, false}
use Rattle.std.specs.List.{filter}
use Rattle.std.proofs.lemmas.Bool.{cases_lt, eq-eqb, ne_eqb, ltb-true, ltb-false, leb-true, leb-false}
use Rattle.std.specs.List.Sorted.{IsPartitionPoint}
use Rattle.std.proofs.Math.Dec.{ltb, leb}
use Rattle.surf_rules.specs.Sides.{IsStart}

pub in_order : {X : Type 0} (n : X → ℕ) (key : ℕ) (xs : List X) (first last : ℕ) (d : X) → IsStart n key xs first → IsStart n (suc key) xs last → first ≤ last
in_order n key xs first last d f l = ⊎_elim
    (λ lt. absurd (omega (arith, f.below last d lt, l.from last d (let r : last ≤ last = omega arith in r) (omega (arith, lt, f.within)))))
    (λ le. le)
    (cases_lt last first)

start_less : {X : Type 0} (n : X → ℕ) (key : ℕ) (x : X) (xs : List X) (place : ℕ) → IsStart n key (x ∷ xs) (suc place) → IsStart n key xs place
start_less n key x xs place s = record {
  within = omega (arith, s.within);
  below = λ i d a. s.below (suc i) d (omega (arith, a));
  from = λ i d a b. s.from (suc i) d (omega (arith, a)) (omega (arith, b));
}

start_here : {X : Type 0} (n : X → ℕ) (key : ℕ) (x : X) (xs : List X) → IsStart n key (x ∷ xs) 0 → IsStart n key xs 0
start_here n key x xs s = record {
  within = omega arith;
  below = λ i d a. absurd (omega (arith, a));
  from = λ i d a b. s.from (suc i) d (omega arith) (omega (arith, b));
}

nothing : {X : Type 0} (n lo : ℕ) (none : List X) → none ≡ [] → take n (drop lo none) ≡ []
nothing zero zero none is = refl
nothing zero (suc lo) none is = refl
nothing (suc n) zero none is = rw is refl
nothing (suc n) (suc lo) none is = rw is refl

-- what lies between where a key and the next one begin is what has that key
pub cut_is : {X : Type 0} (n : X → ℕ) (key : ℕ) (xs : List X) (first last : ℕ) → IsStart n key xs first → IsStart n (suc key) xs last → take (last - first) (drop first xs) ≡ filter (λ x. n x == key) xs
cut_is n key [] first last f l = nothing (last - first) first [] refl
cut_is n key (x ∷ xs) (suc first) (suc last) f l =
    let less : n x < key = f.below 0 x (omega arith) in
    let e : suc last - suc first ≡ last - first = omega arith in
    rw (ne_eqb (n x) key (λ z. omega (arith, z, less)))
    (ap (λ m. take m (drop first xs)) e ∙ cut_is n key xs first last (start_less n key x xs first f) (start_less n (suc key) x xs last l))
cut_is n key (x ∷ xs) (suc first) zero f l =
    absurd (let a : n x < key = f.below 0 x (omega arith) in let b : suc key ≤ n x = l.from 0 x (omega arith) (omega arith) in omega (arith, a, b))
cut_is n key (x ∷ xs) zero (suc last) f l =
    let low : key ≤ n x = f.from 0 x (omega arith) (omega arith) in
    let high : n x < suc key = l.below 0 x (omega arith) in
    let e : suc last - 0 ≡ suc (last - 0) = omega arith in
    rw (eq-eqb (n x) key (omega (arith, low, high)))
    (ap (λ m. take m (x ∷ xs)) e ∙ ap (λ v. x ∷ v) (cut_is n key xs 0 last (start_here n key x xs f) (start_less n (suc key) x xs last l)))
cut_is n key (x ∷ xs) zero zero f l =
    let more : suc key ≤ n x = l.from 0 x (omega arith) (omega arith) in
    rw (ne_eqb (n x) key (λ z. omega (arith, z, more))) (cut_is n key xs 0 0 (start_here n key x xs f) (start_here n (suc key) x xs l))

-- where all keys are below, none is that key
pub none_is : {X : Type 0} (n : X → ℕ) (key : ℕ) (xs : List X) → ((k : ℕ) (d : X) → k < length xs → n (slice_index_or xs k d) < key) → filter (λ x. n x == key) xs ≡ []
none_is n key [] all = refl
none_is n key (x ∷ xs) all =
    let less : n x < key = all 0 x (omega arith) in
    rw (ne_eqb (n x) key (λ z. omega (arith, z, less))) (none_is n key xs (λ k d lt. all (suc k) d (omega (arith, lt))))

-- what `partition_point` says of the tests `n(x) < key` and `n(x) <= key`
pub start_lt : {X : Type 0} (n : X → ℕ) (key : ℕ) (xs : List X) (place : ℕ) → place ≤ length xs → IsPartitionPoint (λ y. ltb (n y) key ≡ true) (λ y. ltb (n y) key ≡ false) xs place → IsStart n key xs place
start_lt n key xs place within p = record {
  within = within;
  below = λ i d a. ltb-true _ key (p.0 i d (omega arith) a);
  from = λ i d a b. ltb-false _ key (p.1 i d a b);
}

pub start_le : {X : Type 0} (n : X → ℕ) (key : ℕ) (xs : List X) (place : ℕ) → place ≤ length xs → IsPartitionPoint (λ y. leb (n y) key ≡ true) (λ y. leb (n y) key ≡ false) xs place → IsStart n (key + 1) xs place
start_le n key xs place within p = record {
  within = within;
  below = λ i d a. omega (arith, leb-true _ key (p.0 i d (omega arith) a));
  from = λ i d a b. omega (arith, leb-false _ key (p.1 i d a b));
}
