-- From sorted entries to the numbers of a left side.
use Rattle.std.proofs.Common.{ℕ, ◌≡◌, ◌+◌, ◌-◌, ◌<◌, ◌≤◌, ◌==◌, Bool, true, false, ◌&&◌, cond, List, [], ◌∷◌, length, map, take, drop, slice_index, refl, sym, ◌∙◌, ap, subst, arith, suc, ⊎_elim, if◌then◌else◌}
use Rattle.std.specs.List.{filter}
use Rattle.std.specs.List.Sorted.{IsNonDecreasing, IsNonDecreasingBy, IsStableByKey}
use Rattle.std.specs.Ordering.{nat_cmp}
use Rattle.std.proofs.lemmas.Bool.{cases_lt, lt-ltb, le-ltb}
use Rattle.std.proofs.lemmas.List.{take-map, drop-map}
use Rattle.std.proofs.lemmas.List.Elements.{filter_agree}
use Rattle.surf_rules.specs.declared.index.Entry.{Entry}
use Rattle.surf_rules.specs.declared.rule.Rule.{Rule}
use Rattle.surf_rules.specs.Sides.{side_of, numbers_of, IsStart, AreStarts, span_of, IsIndex}
use Rattle.surf_rules.proofs.Cuts.{in_order, cut_is, none_is}
use Rattle.surf_rules.proofs.Sorts.{stable_is, filter_rises, keys_rise, key_at, map_length}

if_true : {X : Type 0} (c : Bool) (x : X) (v : List X) → cond c (x ∷ v) v ≡ cond (c && true) (x ∷ v) v
if_true true x v = refl
if_true false x v = refl

if_false : {X : Type 0} (c : Bool) (x : X) (v : List X) → v ≡ cond (c && false) (x ∷ v) v
if_false true x v = refl
if_false false x v = refl

filter_step : {X : Type 0} (p : X → Bool) (x : X) (ys zs : List X) (b : Bool) → filter p ys ≡ zs → filter p (cond b (x ∷ ys) ys) ≡ cond (p x && b) (x ∷ zs) zs
filter_step p x ys zs true is = if_true (p x) x (filter p ys) ∙ ap (λ v. cond (p x && true) (x ∷ v) v) is
filter_step p x ys zs false is = is ∙ if_false (p x) x zs

-- two filters are one
pub one_test : {X : Type 0} (p q : X → Bool) (xs : List X) → filter p (filter q xs) ≡ filter (λ x. p x && q x) xs
one_test p q [] = refl
one_test p q (x ∷ xs) = filter_step p x (filter q xs) (filter (λ x. p x && q x) xs) (q x) (one_test p q xs)

and_swap : (b c : Bool) → (b && c) ≡ (c && b)
and_swap true true = refl
and_swap true false = refl
and_swap false true = refl
and_swap false false = refl

other_test : {X : Type 0} (p q : X → Bool) (xs : List X) → filter q (filter p xs) ≡ filter (λ x. p x && q x) xs
other_test p q xs = one_test q p xs ∙ filter_agree (λ x. q x && p x) (λ x. p x && q x) (λ x. and_swap (q x) (p x)) xs

abbrev entry_at : ℕ → ℕ → Entry
entry_at a r = record { left = a; number = 0; rank = r }

-- a sort by rank and then one by left name keep the numbers of each left side
sorted_same : (old ranked sorted : List Entry) → IsStableByKey (λ (e : Entry). e.rank) nat_cmp old ranked → IsStableByKey (λ (e : Entry). e.left) nat_cmp ranked sorted
    → (a r : ℕ) → numbers_of a r sorted ≡ numbers_of a r old
sorted_same old ranked sorted by_rank by_left a r =
    let has_rank : Entry → Bool = λ e. e.rank == r in
    let has_left : Entry → Bool = λ e. e.left == a in
    ap (λ (es : List Entry). map (λ (e : Entry). e.number) es)
    (sym (one_test has_rank has_left sorted)
    ∙ ap (filter has_rank) (stable_is (λ (e : Entry). e.left) (entry_at a r) ranked sorted by_left)
    ∙ one_test has_rank has_left ranked
    ∙ sym (other_test has_rank has_left ranked)
    ∙ ap (filter has_left) (stable_is (λ (e : Entry). e.rank) (entry_at a r) old ranked by_rank)
    ∙ other_test has_rank has_left old)

sorted_rises : (ranked sorted : List Entry) → IsNonDecreasingBy (λ (e : Entry). e.rank) ranked → IsStableByKey (λ (e : Entry). e.left) nat_cmp ranked sorted
    → (a : ℕ) → IsNonDecreasing (map (λ (e : Entry). e.rank) (filter (λ (e : Entry). e.left == a) sorted))
sorted_rises ranked sorted up by_left a =
    subst (λ (es : List Entry). IsNonDecreasing (map (λ (e : Entry). e.rank) es))
    (sym (stable_is (λ (e : Entry). e.left) (entry_at a 0) ranked sorted by_left))
    (keys_rise (λ (e : Entry). e.rank) (filter (λ (e : Entry). e.left == a) ranked) (entry_at a 0) (filter_rises (λ (e : Entry). e.rank) (λ (e : Entry). e.left == a) ranked up))

pub index_is : (rules : List Rule) (old ranked sorted : List Entry) (starts ranks numbers : List ℕ)
    → ((a r : ℕ) → numbers_of a r old ≡ side_of rules a r)
    → IsNonDecreasingBy (λ (e : Entry). e.rank) ranked → IsStableByKey (λ (e : Entry). e.rank) nat_cmp old ranked → IsStableByKey (λ (e : Entry). e.left) nat_cmp ranked sorted
    → AreStarts starts sorted → ranks ≡ map (λ (e : Entry). e.rank) sorted → numbers ≡ map (λ (e : Entry). e.number) sorted
    → IsIndex rules starts ranks numbers
index_is rules old ranked sorted starts ranks numbers listed up by_rank by_left are ranked_is numbered_is = record {
  entries = sorted;
  ranked = ranked_is;
  numbered = numbered_is;
  starting = are;
  rising = sorted_rises ranked sorted up by_left;
  same = λ a r. sorted_same old ranked sorted by_rank by_left a r ∙ listed a r;
}

-- the span of a name that has one
span_has : (starts : List ℕ) (a : ℕ) → a + 1 < length starts → span_of starts a ≡ (slice_index starts a, slice_index starts (a + 1))
span_has starts a lt = ap (λ (b : Bool). if b then (slice_index starts a, slice_index starts (a + 1)) else (0, 0)) (lt-ltb (a + 1) (length starts) lt)

span_none : (starts : List ℕ) (a : ℕ) → length starts ≤ a + 1 → span_of starts a ≡ (0, 0)
span_none starts a le = ap (λ (b : Bool). if b then (slice_index starts a, slice_index starts (a + 1)) else (0, 0)) (le-ltb (a + 1) (length starts) le)

next_start : (starts : List ℕ) (es : List Entry) (a : ℕ) → AreStarts starts es → a + 1 < length starts → IsStart (λ (e : Entry). e.left) (suc a) es (slice_index starts (a + 1))
next_start starts es a s lt = subst (λ (k : ℕ). IsStart (λ (e : Entry). e.left) k es (slice_index starts (a + 1))) (let e : a + 1 ≡ suc a = omega arith in e) (s.at (a + 1) lt)

record Bounds (p : ℕ × ℕ) (n : ℕ) : Type 0 where
  order : p.0 ≤ p.1
  within : p.1 ≤ n

span_bounds : (starts : List ℕ) (es : List Entry) (a : ℕ) → AreStarts starts es → Bounds (span_of starts a) (length es)
span_bounds starts es a s = ⊎_elim
    (λ lt. subst (λ (p : ℕ × ℕ). Bounds p (length es)) (sym (span_has starts a lt)) (record {
      order = in_order (λ (e : Entry). e.left) a es (slice_index starts a) (slice_index starts (a + 1)) (entry_at a 0) (s.at a (omega (arith, lt))) (next_start starts es a s lt);
      within = (next_start starts es a s lt).within;
    }))
    (λ le. subst (λ (p : ℕ × ℕ). Bounds p (length es)) (sym (span_none starts a le)) (record { order = omega arith; within = omega arith }))
    (cases_lt (a + 1) (length starts))

part_is : (starts : List ℕ) (es : List Entry) (a : ℕ) → AreStarts starts es → take ((span_of starts a).1 - (span_of starts a).0) (drop (span_of starts a).0 es) ≡ filter (λ (e : Entry). e.left == a) es
part_is starts es a s = ⊎_elim
    (λ lt. subst (λ (p : ℕ × ℕ). take (p.1 - p.0) (drop p.0 es) ≡ filter (λ (e : Entry). e.left == a) es) (sym (span_has starts a lt))
    (cut_is (λ (e : Entry). e.left) a es (slice_index starts a) (slice_index starts (a + 1)) (s.at a (omega (arith, lt))) (next_start starts es a s lt)))
    (λ le. subst (λ (p : ℕ × ℕ). take (p.1 - p.0) (drop p.0 es) ≡ filter (λ (e : Entry). e.left == a) es) (sym (span_none starts a le))
    (sym (none_is (λ (e : Entry). e.left) a es (λ k d lt. omega (arith, s.below k d lt, le)))))
    (cases_lt (a + 1) (length starts))

part_map : {X : Type 0} (f : X → ℕ) (es : List X) (xs : List ℕ) (n lo : ℕ) → xs ≡ map f es → take n (drop lo xs) ≡ map f (take n (drop lo es))
part_map f es xs n lo is = ap (λ (v : List ℕ). take n (drop lo v)) is ∙ ap (take n) (drop-map f lo es) ∙ take-map f n (drop lo es)

start_map : {X : Type 0} (n : X → ℕ) (key : ℕ) (xs : List X) (place : ℕ) → IsStart (λ (m : ℕ). m) key (map n xs) place → IsStart n key xs place
start_map n key xs place s = record {
  within = omega (arith, s.within, map_length n xs);
  below = λ k d lt. omega (arith, s.below k (n d) lt, key_at n xs k d);
  from = λ k d le lt. omega (arith, s.from k (n d) le (omega (arith, lt, map_length n xs)), key_at n xs k d);
}

module _ {rules : List Rule} {starts ranks numbers : List ℕ} (x : IsIndex rules starts ranks numbers) (a : ℕ) (p : ℕ × ℕ) (is : p ≡ span_of starts a) where
  pub order : p.0 ≤ p.1
  order = subst (λ (p : ℕ × ℕ). p.0 ≤ p.1) (sym is) (span_bounds starts x.entries a x.starting).order

  pub within_ranks : p.1 ≤ length ranks
  within_ranks =
      subst (λ (p : ℕ × ℕ). p.1 ≤ length ranks) (sym is)
      (omega (arith, (span_bounds starts x.entries a x.starting).within, ap length x.ranked, map_length (λ (e : Entry). e.rank) x.entries))

  pub within_numbers : p.1 ≤ length numbers
  within_numbers =
      subst (λ (p : ℕ × ℕ). p.1 ≤ length numbers) (sym is)
      (omega (arith, (span_bounds starts x.entries a x.starting).within, ap length x.numbered, map_length (λ (e : Entry). e.number) x.entries))

  part : take (p.1 - p.0) (drop p.0 x.entries) ≡ filter (λ (e : Entry). e.left == a) x.entries
  part = subst (λ (p : ℕ × ℕ). take (p.1 - p.0) (drop p.0 x.entries) ≡ filter (λ (e : Entry). e.left == a) x.entries) (sym is) (part_is starts x.entries a x.starting)

  ranks_part : take (p.1 - p.0) (drop p.0 ranks) ≡ map (λ (e : Entry). e.rank) (filter (λ (e : Entry). e.left == a) x.entries)
  ranks_part = part_map (λ (e : Entry). e.rank) x.entries ranks (p.1 - p.0) p.0 x.ranked ∙ ap (map (λ (e : Entry). e.rank)) part

  numbers_part : take (p.1 - p.0) (drop p.0 numbers) ≡ map (λ (e : Entry). e.number) (filter (λ (e : Entry). e.left == a) x.entries)
  numbers_part = part_map (λ (e : Entry). e.number) x.entries numbers (p.1 - p.0) p.0 x.numbered ∙ ap (map (λ (e : Entry). e.number)) part

  pub same_length : length (take (p.1 - p.0) (drop p.0 numbers)) ≡ length (take (p.1 - p.0) (drop p.0 ranks))
  same_length =
      ap length numbers_part ∙ map_length (λ (e : Entry). e.number) (filter (λ (e : Entry). e.left == a) x.entries)
      ∙ sym (map_length (λ (e : Entry). e.rank) (filter (λ (e : Entry). e.left == a) x.entries)) ∙ sym (ap length ranks_part)

  pub part_rises : IsNonDecreasing (take (p.1 - p.0) (drop p.0 ranks))
  part_rises = subst IsNonDecreasing (sym ranks_part) (x.rising a)

  module _ (r : ℕ) (q : ℕ × ℕ) (first : IsStart (λ (m : ℕ). m) r (take (p.1 - p.0) (drop p.0 ranks)) q.0) (last : IsStart (λ (m : ℕ). m) (r + 1) (take (p.1 - p.0) (drop p.0 ranks)) q.1) where
    after_last : IsStart (λ (m : ℕ). m) (suc r) (take (p.1 - p.0) (drop p.0 ranks)) q.1
    after_last = subst (λ (k : ℕ). IsStart (λ (m : ℕ). m) k (take (p.1 - p.0) (drop p.0 ranks)) q.1) (let e : r + 1 ≡ suc r = omega arith in e) last

    pub places_order : q.0 ≤ q.1
    places_order = in_order (λ (m : ℕ). m) r (take (p.1 - p.0) (drop p.0 ranks)) q.0 q.1 0 first after_last

    pub places_within : q.1 ≤ length (take (p.1 - p.0) (drop p.0 numbers))
    places_within = omega (arith, last.within, same_length)

    pub side_is : take (q.1 - q.0) (drop q.0 (take (p.1 - p.0) (drop p.0 numbers))) ≡ side_of rules a r
    side_is =
        let es : List Entry = filter (λ e. e.left == a) x.entries in
        part_map (λ (e : Entry). e.number) (filter (λ (e : Entry). e.left == a) x.entries) (take (p.1 - p.0) (drop p.0 numbers)) (q.1 - q.0) q.0 numbers_part
        ∙ ap (map (λ (e : Entry). e.number))
        (cut_is (λ (e : Entry). e.rank) r (filter (λ (e : Entry). e.left == a) x.entries) q.0 q.1
        (start_map (λ (e : Entry). e.rank) r (filter (λ (e : Entry). e.left == a) x.entries) q.0 (subst (λ (v : List ℕ). IsStart (λ (m : ℕ). m) r v q.0) ranks_part first))
        (start_map (λ (e : Entry). e.rank) (suc r) (filter (λ (e : Entry). e.left == a) x.entries) q.1 (subst (λ (v : List ℕ). IsStart (λ (m : ℕ). m) (suc r) v q.1) ranks_part after_last))
        ∙ one_test (λ (e : Entry). e.rank == r) (λ (e : Entry). e.left == a) x.entries)
        ∙ x.same a r
