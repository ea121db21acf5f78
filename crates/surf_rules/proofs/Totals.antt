-- Sums of rates along the rules, and the lists that they are added up in.
use Rattle.std.specs.Prelude.{nat_lt, ◌≢◌, slice_index, slice_index_or}
use Rattle.std.specs.List.{filter, range_with_len, list_any, sum_by}
use Rattle.std.specs.Option.{option_map_or, unwrap_or}
use Rattle.std.proofs.Common.{ℕ, zero, suc, ◌≡◌, ◌+◌, ◌*◌, ◌<◌, ◌≤◌, ◌==◌, ◌↔◌, inl, inr, Bool, true, false, ◌&&◌, ◌||◌, cond, All, IfSome, is_none, is_some, List, [], ◌∷◌, length, Option, Some, None, slice_get, set, replicate, get_or, refl, sym, ◌∙◌, ap, subst, arith}
use Rattle.std.proofs.Math.Bool.{and-true, or-false, or-true}
use Rattle.std.proofs.Math.Nat.{mul-le-mul_right}
use Rattle.std.proofs.lemmas.Bool.{cases_eq, cases_lt, cases_Bool, and_parts, and_from, or_cases, eq-eqb, ne_eqb, lt-ltb, false≢true}
use Rattle.std.proofs.lemmas.Nat.{same_from_place}
use Rattle.std.proofs.lemmas.List.{get_or-set_same, get_or-set_other, get_or-replicate}
use Rattle.std.proofs.lemmas.List.Elements.{filter-append, All-filter}
use Rattle.std.proofs.lemmas.List.Folds.{list_any-append}
use Rattle.std.proofs.lemmas.List.Sums.{sum_by-cons, sum_by-append}
use Rattle.std.proofs.lemmas.Option.{slice_get_cases, slice_get-get_or, get_or_from_slice_get}
use Rattle.surf_rules.specs.declared.rule.Rule.{Rule}
use Rattle.surf_rules.specs.Books.{is_alone, is_pair, pair_of, rate_in}
use Rattle.surf_rules.specs.Sums.{sum_among, is_first, is_first_among}
use Rattle.surf_rules.proofs.Lists.{range_more}

and_false : (b : Bool) → b && false ≡ false
and_false true = refl
and_false false = refl

-- ---- one rule more

sum_if : (b : Bool) (k : ℕ) (rate : ℕ → ℕ) → sum_by rate (cond b (k ∷ []) []) ≡ cond b (rate k) 0
sum_if true k rate = omega (arith, sum_by-cons rate k [])
sum_if false k rate = refl

pub sum_more : (rules : List Rule) (test : Rule → Bool) (n : ℕ) (r : Rule) → slice_get rules n ≡ Some r → sum_among rules test (n + 1) ≡ sum_among rules test n + cond (test r) r.rate 0
sum_more rules test n r at =
    let own : ℕ → Bool = λ k. option_map_or test (slice_get rules k) false in
    ap (λ v. sum_by (rate_in rules) (filter (λ k. option_map_or test (slice_get rules k) false) v)) (range_more n)
    ∙ ap (sum_by (rate_in rules)) (filter-append (λ k. option_map_or test (slice_get rules k) false) (range_with_len 0 n) (n ∷ []))
    ∙ sum_by-append (rate_in rules) (filter (λ k. option_map_or test (slice_get rules k) false) (range_with_len 0 n)) (filter (λ k. option_map_or test (slice_get rules k) false) (n ∷ []))
    ∙ ap (λ m. sum_by (rate_in rules) (filter (λ k. option_map_or test (slice_get rules k) false) (range_with_len 0 n)) + m)
    (sum_if (option_map_or test (slice_get rules n) false) n (rate_in rules) ∙ ap (λ o. cond (option_map_or test o false) (option_map_or (λ (r : Rule). r.rate) o 0) 0) at)

pub cond_le : (b : Bool) (n m : ℕ) → n ≤ m → cond b n 0 ≤ m
cond_le true n m le = le
cond_le false n m le = omega arith

-- sums are small, since rules are few
pub sum_small : (rules : List Rule) (test : Rule → Bool) (n : ℕ) → All (λ r. r.rate ≤ 1000000000000) rules → n ≤ length rules → sum_among rules test n ≤ n * 1000000000000
sum_small rules test zero all le = omega arith
sum_small rules test (suc n) all le = elim (slice_get_cases rules n).1 [
  | inl h ↦
      let r : Rule = h.0 in
      let within : n < length rules = h.1 in
      let small : r.rate ≤ 1000000000000 = omega (arith, all n r within, ap (λ (x : Rule). x.rate) h.3) in
      let before : sum_among rules test n ≤ n * 1000000000000 = sum_small rules test n all (omega (arith, le)) in
      let e : suc n ≡ n + 1 = omega arith in
      omega (arith, ap (sum_among rules test) e, sum_more rules test n r h.2, cond_le (test r) r.rate 1000000000000 small, before)
  | inr h ↦ absurd (omega (arith, h.0, le))
]

pub first_more : (rules : List Rule) (a n : ℕ) (r : Rule) → slice_get rules n ≡ Some r → is_first_among rules a (n + 1) ≡ is_first_among rules a n || is_first a r
first_more rules a n r at =
    ap (λ v. list_any (λ k. option_map_or (is_first a) (slice_get rules k) false) v) (range_more n)
    ∙ list_any-append (λ k. option_map_or (is_first a) (slice_get rules k) false) (range_with_len 0 n) (n ∷ [])
    ∙ ap (λ t. is_first_among rules a n || t) (or-false (option_map_or (is_first a) (slice_get rules n) false) ∙ ap (λ o. option_map_or (is_first a) o false) at)

-- ---- one place of a list grows

-- what is read at a place is there, whatever stands for one behind the end
pub read_at : {X : Type 0} (xs : List X) (i : ℕ) (v d : X) → i < length xs → v ≡ get_or xs i v → v ≡ get_or xs i d
read_at xs i v d lt is = is ∙ sym (get_or_from_slice_get xs i (get_or xs i v) d (slice_get-get_or xs i v lt))

pub slot_more : (xs new : List ℕ) (place i v old w : ℕ) → place < length xs → new ≡ set xs place (slice_index xs place + v) → slice_index xs i ≡ old → (i ≡ place → w ≡ v) → ((i ≡ place → ⊥) → w ≡ 0) → slice_index new i ≡ old + w
slot_more xs new place i v old w lt is before same other = elim (cases_eq place i) [
  | inl e ↦
      let got : slice_index (set xs place (slice_index xs place + v)) place ≡ slice_index xs place + v = get_or-set_same xs place (slice_index xs place + v) 0 lt in
      let moved : slice_index new i ≡ slice_index (set xs place (slice_index xs place + v)) place = ap (λ l. slice_index l i) is ∙ ap (λ k. slice_index (set xs place (slice_index xs place + v)) k) (sym e) in
      omega (arith, moved, got, ap (slice_index xs) e, before, same (sym e))
  | inr ne ↦
      let stays : slice_index (set xs place (slice_index xs place + v)) i ≡ slice_index xs i = get_or-set_other xs place i (slice_index xs place + v) 0 (λ e. ne (sym e)) in
      omega (arith, ap (λ l. slice_index l i) is, stays, before, other (λ e. ne (sym e)))
]

pub flag_more : (xs new : List Bool) (place i : ℕ) (v old w : Bool) → place < length xs → new ≡ set xs place (slice_index_or xs place false || v) → slice_index_or xs i false ≡ old → (i ≡ place → w ≡ v) → ((i ≡ place → ⊥) → w ≡ false) → slice_index_or new i false ≡ old || w
flag_more xs new place i v old w lt is before same other = elim (cases_eq place i) [
  | inl e ↦
      ap (λ l. slice_index_or l i false) is ∙ ap (λ k. slice_index_or (set xs place (slice_index_or xs place false || v)) k false) (sym e)
      ∙ get_or-set_same xs place (slice_index_or xs place false || v) false lt
      ∙ ap (λ k. slice_index_or xs k false || v) e ∙ ap (λ t. t || v) before ∙ ap (λ t. old || t) (sym (same (sym e)))
  | inr ne ↦
      ap (λ l. slice_index_or l i false) is ∙ get_or-set_other xs place i (slice_index_or xs place false || v) false (λ e. ne (sym e))
      ∙ before ∙ sym (or-false old) ∙ ap (λ t. old || t) (sym (other (λ e. ne (sym e))))
]

pub zeros : {X : Type 0} (n i : ℕ) (x : X) → get_or (replicate n x) i x ≡ x
zeros n i x = elim (cases_lt i n) [
  | inl lt ↦ get_or-replicate n i x x lt
  | inr le ↦ zeros_past n i x le
]
  where
    zeros_past : {X : Type 0} (n i : ℕ) (x : X) → n ≤ i → get_or (replicate n x) i x ≡ x
    zeros_past zero i x le = refl
    zeros_past (suc n) zero x le = refl
    zeros_past (suc n) (suc i) x le = zeros_past n i x (omega (arith, le))

-- ---- what one rule adds

rated : (b : Bool) (n : ℕ) → cond (nat_lt 0 n && b) n 0 ≡ cond b n 0
rated b n = elim (cases_lt 0 n) [
  | inl lt ↦ ap (λ t. cond (t && b) n 0) (lt-ltb 0 n lt)
  | inr le ↦ none_at n b (let z : n ≡ 0 = omega (arith, le) in z)
]
  where
    both_zero : (b : Bool) → zero ≡ cond b 0 0
    both_zero true = refl
    both_zero false = refl

    none_at : (n : ℕ) (b : Bool) → n ≡ 0 → cond (nat_lt 0 n && b) n 0 ≡ cond b n 0
    none_at n b z = rw z (both_zero b)

pub alone_here : (a : ℕ) (r : Rule) → a ≡ r.left → cond (is_alone a r) r.rate 0 ≡ cond (is_none r.right) r.rate 0
alone_here a r e =
    rated (is_none r.right && (r.left == a)) r.rate
    ∙ ap (λ t. cond (is_none r.right && t) r.rate 0) (eq-eqb r.left a (sym e))
    ∙ ap (λ t. cond t r.rate 0) (and-true (is_none r.right))

pub alone_other : (a : ℕ) (r : Rule) → (a ≡ r.left → ⊥) → cond (is_alone a r) r.rate 0 ≡ 0
alone_other a r ne =
    rated (is_none r.right && (r.left == a)) r.rate
    ∙ ap (λ t. cond (is_none r.right && t) r.rate 0) (ne_eqb r.left a (λ e. ne (sym e)))
    ∙ ap (λ t. cond t r.rate 0) (and_false (is_none r.right))

pub first_here : (a : ℕ) (r : Rule) → a ≡ r.left → is_first a r ≡ (nat_lt 0 r.rate && is_some r.right)
first_here a r e = ap (λ t. nat_lt 0 r.rate && (is_some r.right && t)) (eq-eqb r.left a (sym e)) ∙ ap (λ t. nat_lt 0 r.rate && t) (and-true (is_some r.right))

pub first_other : (a : ℕ) (r : Rule) → (a ≡ r.left → ⊥) → is_first a r ≡ false
first_other a r ne =
    ap (λ t. nat_lt 0 r.rate && (is_some r.right && t)) (ne_eqb r.left a (λ e. ne (sym e)))
    ∙ ap (λ t. nat_lt 0 r.rate && t) (and_false (is_some r.right)) ∙ and_false (nat_lt 0 r.rate)

-- what a rule of this left side adds to the sum of two names
abbrev pair_part : ℕ → ℕ → ℕ → ℕ → Option ℕ → ℕ
pair_part a b left rate right = cond (nat_lt 0 rate && (option_map_or (λ c. c == b) right false && (left == a))) rate 0

pair_same : (a b left rate side : ℕ) (right : Option ℕ) → b < side → IfSome right (λ c. c < side) → a * side + b ≡ left * side + unwrap_or right 0 → pair_part a b left rate right ≡ cond (is_some right) rate 0
pair_same a b left rate side None lt within e = rated false rate
pair_same a b left rate side (Some c) lt within e =
    let h = same_from_place a b left c side lt within e in
    rated ((c == b) && (left == a)) rate
    ∙ ap (λ t. cond (t && (left == a)) rate 0) (eq-eqb c b (sym h.1))
    ∙ ap (λ t. cond t rate 0) (eq-eqb left a (sym h.0))

pair_differs : (a b left rate side : ℕ) (right : Option ℕ) → (a * side + b ≡ left * side + unwrap_or right 0 → ⊥) → pair_part a b left rate right ≡ 0
pair_differs a b left rate side None ne = rated false rate
pair_differs a b left rate side (Some c) ne = rated ((c == b) && (left == a)) rate ∙ elim (cases_eq c b) [
  | inl same ↦ elim (cases_eq left a) [
    | inl twin ↦ absurd (ne (ap (λ k. k * side + b) (sym twin) ∙ ap (λ k. left * side + k) (sym same)))
    | inr far ↦ ap (λ t. cond ((c == b) && t) rate 0) (ne_eqb left a far) ∙ ap (λ t. cond t rate 0) (and_false (c == b))
  ]
  | inr far ↦ ap (λ t. cond (t && (left == a)) rate 0) (ne_eqb c b far)
]

pub pair_here : (a b side : ℕ) (r : Rule) → b < side → IfSome r.right (λ c. c < side) → a * side + b ≡ r.left * side + unwrap_or r.right 0 → cond (is_pair a b r) r.rate 0 ≡ cond (is_some r.right) r.rate 0
pair_here a b side r lt within e = pair_same a b r.left r.rate side r.right lt within e

pub pair_other : (a b side : ℕ) (r : Rule) → (a * side + b ≡ r.left * side + unwrap_or r.right 0 → ⊥) → cond (is_pair a b r) r.rate 0 ≡ 0
pair_other a b side r ne = pair_differs a b r.left r.rate side r.right ne

pub slot_within : (a b side : ℕ) → a < side → b < side → a * side + b < side * side
slot_within a b side la lb =
    let le : (a + 1) * side ≤ side * side = mul-le-mul_right side (let l : a + 1 ≤ side = omega (arith, la) in l) in
    omega (arith, le, lb)

pub right_within : (side : ℕ) (right : Option ℕ) → 0 < side → IfSome right (λ c. c < side) → unwrap_or right 0 < side
right_within side None some within = some
right_within side (Some c) some within = within

-- names beyond a table have no pair
beyond_part : (a b left rate side : ℕ) (right : Option ℕ) → (a < side → b < side → ⊥) → left < side → IfSome right (λ c. c < side) → pair_part a b left rate right ≡ 0
beyond_part a b left rate side None out l within = rated false rate
beyond_part a b left rate side (Some c) out l within = rated ((c == b) && (left == a)) rate ∙ elim (cases_eq c b) [
  | inl same ↦ elim (cases_eq left a) [
    | inl twin ↦ absurd (out (omega (arith, twin, l)) (let w : c < side = within in omega (arith, same, w)))
    | inr far ↦ ap (λ t. cond ((c == b) && t) rate 0) (ne_eqb left a far) ∙ ap (λ t. cond t rate 0) (and_false (c == b))
  ]
  | inr far ↦ ap (λ t. cond (t && (left == a)) rate 0) (ne_eqb c b far)
]

pub beyond : (rules : List Rule) (a b side n : ℕ) → (a < side → b < side → ⊥) → All (λ r. r.left < side) rules → All (λ r. IfSome r.right (λ c. c < side)) rules → n ≤ length rules → sum_among rules (is_pair a b) n ≡ 0
beyond rules a b side zero out lefts rights le = refl
beyond rules a b side (suc n) out lefts rights le = elim (slice_get_cases rules n).1 [
  | inl h ↦
      let r : Rule = h.0 in
      let within : n < length rules = h.1 in
      let before : sum_among rules (is_pair a b) n ≡ 0 = beyond rules a b side n out lefts rights (omega (arith, le)) in
      let e : suc n ≡ n + 1 = omega arith in
      let part : cond (is_pair a b r) r.rate 0 ≡ 0 = beyond_part a b r.left r.rate side r.right out (omega (arith, lefts n r within, ap (λ (x : Rule). x.left) h.3)) (rw (sym h.3) (rights n r within)) in
      omega (arith, ap (sum_among rules (is_pair a b)) e, sum_more rules (is_pair a b) n r h.2, part, before)
  | inr h ↦ absurd (omega (arith, h.0, le))
]

-- ---- names that begin a pair

first_right : (a left rate : ℕ) (right : Option ℕ) → (nat_lt 0 rate && (is_some right && (left == a))) ≡ true → (b : ℕ) × ((nat_lt 0 rate && (option_map_or (λ c. c == b) right false && (left == a))) ≡ true)
first_right a left rate None t = absurd (false≢true (sym (and_false (nat_lt 0 rate)) ∙ t))
first_right a left rate (Some c) t = (c, ap (λ u. nat_lt 0 rate && (u && (left == a))) (eq-eqb c c refl) ∙ t)

right_first : (a b left rate : ℕ) (right : Option ℕ) → (nat_lt 0 rate && (option_map_or (λ c. c == b) right false && (left == a))) ≡ true → (nat_lt 0 rate && (is_some right && (left == a))) ≡ true
right_first a b left rate None t = t
right_first a b left rate (Some c) t =
    let h = and_parts (nat_lt 0 rate) ((c == b) && (left == a)) t in
    let k = and_parts (c == b) (left == a) h.1 in
    and_from (nat_lt 0 rate) (left == a) h.0 k.1

first_some : (a : ℕ) (o : Option Rule) → option_map_or (is_first a) o false ≡ true → (b : ℕ) × (option_map_or (is_pair a b) o false ≡ true)
first_some a None t = absurd (false≢true t)
first_some a (Some r) t = first_right a r.left r.rate r.right t

some_first : (a b : ℕ) (o : Option Rule) → option_map_or (is_pair a b) o false ≡ true → option_map_or (is_first a) o false ≡ true
some_first a b None t = absurd (false≢true t)
some_first a b (Some r) t = right_first a b r.left r.rate r.right t

kept_some : (t : Bool) (k : ℕ) (ks : List ℕ) → t ≡ true → cond t (k ∷ ks) ks ≡ [] → ⊥
kept_some true k ks e is = cc
kept_some false k ks e is = false≢true e

kept_later : (t : Bool) (k : ℕ) (ks : List ℕ) → (ks ≡ [] → ⊥) → cond t (k ∷ ks) ks ≡ [] → ⊥
kept_later true k ks some is = cc
kept_later false k ks some is = some is

module _ (rules : List Rule) (a : ℕ) where
  among_to : (ks : List ℕ) → list_any (λ k. option_map_or (is_first a) (slice_get rules k) false) ks ≡ true → (b : ℕ) × (filter (λ k. option_map_or (is_pair a b) (slice_get rules k) false) ks ≡ [] → ⊥)
  among_to [] t = absurd (false≢true t)
  among_to (k ∷ ks) t = elim (or_cases _ _ t) [
    | inl here ↦ let h = first_some a (slice_get rules k) here in (h.0, kept_some (option_map_or (is_pair a h.0) (slice_get rules k) false) k (filter (λ j. option_map_or (is_pair a h.0) (slice_get rules j) false) ks) h.1)
    | inr later ↦ let h = among_to ks later in (h.0, kept_later (option_map_or (is_pair a h.0) (slice_get rules k) false) k (filter (λ j. option_map_or (is_pair a h.0) (slice_get rules j) false) ks) h.1)
  ]

  among_from : (b : ℕ) (ks : List ℕ) → (filter (λ k. option_map_or (is_pair a b) (slice_get rules k) false) ks ≡ [] → ⊥) → list_any (λ k. option_map_or (is_first a) (slice_get rules k) false) ks ≡ true
  among_from b [] some = absurd (some refl)
  among_from b (k ∷ ks) some = elim (cases_Bool (option_map_or (is_pair a b) (slice_get rules k) false)) [
    | inl t ↦ ap (λ u. u || list_any (λ j. option_map_or (is_first a) (slice_get rules j) false) ks) (some_first a b (slice_get rules k) t)
    | inr f ↦
        ap (λ u. option_map_or (is_first a) (slice_get rules k) false || u)
        (among_from b ks (λ none. some (ap (λ u. cond u (k ∷ filter (λ j. option_map_or (is_pair a b) (slice_get rules j) false) ks) (filter (λ j. option_map_or (is_pair a b) (slice_get rules j) false) ks)) f ∙ none)))
        ∙ or-true (option_map_or (is_first a) (slice_get rules k) false)
  ]

  pub paired_is : (t : Bool) → t ≡ is_first_among rules a (length rules) → (t ≡ true) ↔ ((b : ℕ) × (pair_of rules a b ≢ []))
  paired_is t is = (
    λ e. among_to (range_with_len 0 (length rules)) (sym is ∙ e),
    λ h. is ∙ among_from h.0 (range_with_len 0 (length rules)) h.1,
  )

-- ---- numbers of rules

-- the numbers of a list of rules are those of the book
pub pair_known : (rules : List Rule) (a b : ℕ) (numbers : List ℕ) (i : ℕ) → numbers ≡ pair_of rules a b → i < length numbers → slice_index_or numbers i 0 < length rules
pair_known rules a b numbers i is lt =
    subst (λ v. All (λ k. k < length rules) v) (sym is)
    (All-filter (λ k. option_map_or (is_pair a b) (slice_get rules k) false) (λ k. k < length rules) (range_with_len 0 (length rules)) (range_below 0 (length rules) (length rules) (omega arith))) i 0 lt
  where
    range_below : (a n end : ℕ) → a + n ≤ end → All (λ k. k < end) (range_with_len a n)
    range_below a zero end le i d lt = absurd (omega (arith, lt))
    range_below a (suc n) end le zero d lt = omega (arith, le)
    range_below a (suc n) end le (suc i) d lt = range_below (a + 1) n end (omega (arith, le)) i d (omega (arith, lt))
