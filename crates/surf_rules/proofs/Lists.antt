-- Entries made of the rules.
use Rattle.std.proofs.Common.{inl, inr, ℕ, ◌≡◌, ◌+◌, ◌≤◌, ◌==◌, Bool, true, false, ◌&&◌, cond, List, [], ◌∷◌, ◌++◌, length, map, Option, Some, None, slice_get, is_none, nat_lt, refl, sym, ◌∙◌, ap, arith, zero, suc, if◌then◌else◌, length-append}
use Rattle.std.specs.List.{filter, range_with_len}
use Rattle.std.specs.Option.{option_map_or, option_to_list}
use Rattle.std.proofs.lemmas.Bool.{cases_eq, eq-eqb, ne_eqb}
use Rattle.std.proofs.lemmas.List.{map-append}
use Rattle.std.proofs.lemmas.List.Elements.{filter-append, filter_agree}
use Rattle.surf_rules.specs.declared.index.Entry.{Entry}
use Rattle.surf_rules.specs.declared.rule.Rule.{Rule}
use Rattle.surf_rules.specs.Books.{is_alone, is_pair, alone_of, pair_of}
use Rattle.surf_rules.specs.Sides.{rank_of, is_side, side_of, entry_of, numbers_of}

-- one number more
range_from : (a k : ℕ) → range_with_len a (suc k) ≡ range_with_len a k ++ (a + k) ∷ []
range_from a zero = let e : a ≡ a + zero = omega arith in ap (λ n. n ∷ []) e
range_from a (suc k) = ap (λ v. a ∷ v) (range_from (a + 1) k ∙ ap (λ n. range_with_len (a + 1) k ++ n ∷ []) (let e : a + 1 + k ≡ a + suc k = omega arith in e))

pub range_more : (k : ℕ) → range_with_len 0 (k + 1) ≡ range_with_len 0 k ++ k ∷ []
range_more k = ap (λ n. range_with_len 0 n) (let e : k + 1 ≡ suc k = omega arith in e) ∙ range_from 0 k ∙ ap (λ n. range_with_len 0 k ++ n ∷ []) (let e : 0 + k ≡ k = omega arith in e)

numbers_append : (a r : ℕ) (xs ys : List Entry) → numbers_of a r (xs ++ ys) ≡ numbers_of a r xs ++ numbers_of a r ys
numbers_append a r xs ys =
    ap (λ (v : List Entry). map (λ (e : Entry). e.number) v) (filter-append (λ (e : Entry). (e.rank == r) && (e.left == a)) xs ys)
    ∙ map-append (λ (e : Entry). e.number) (filter (λ (e : Entry). (e.rank == r) && (e.left == a)) xs) (filter (λ (e : Entry). (e.rank == r) && (e.left == a)) ys)

number_if : (s : Bool) (e : Entry) → map (λ (e : Entry). e.number) (cond s (e ∷ []) []) ≡ cond s (e.number ∷ []) []
number_if true e = refl
number_if false e = refl

-- the numbers of one entry that may be
one_if : (b : Bool) (e : Entry) (a r : ℕ) → numbers_of a r (option_to_list (if b then Some e else None)) ≡ cond (b && ((e.rank == r) && (e.left == a))) (e.number ∷ []) []
one_if false e a r = refl
one_if true e a r = number_if ((e.rank == r) && (e.left == a)) e

pub side_more : (rules : List Rule) (es new : List Entry) (k : ℕ) (rule : Rule) → slice_get rules k ≡ Some rule → new ≡ es ++ option_to_list (entry_of rule k)
    → ((a r : ℕ) → numbers_of a r es ≡ filter (λ k. option_map_or (is_side a r) (slice_get rules k) false) (range_with_len 0 k))
    → (a r : ℕ) → numbers_of a r new ≡ filter (λ k. option_map_or (is_side a r) (slice_get rules k) false) (range_with_len 0 (k + 1))
side_more rules es new k rule at is before a r =
    let here : numbers_of a r (option_to_list (entry_of rule k)) ≡ filter (λ k. option_map_or (is_side a r) (slice_get rules k) false) (k ∷ []) =
    one_if (nat_lt 0 rule.rate) (record { left = rule.left; number = k; rank = rank_of rule.right }) a r
    ∙ ap (λ o. cond (option_map_or (is_side a r) o false) (k ∷ []) []) (sym at) in
    ap (numbers_of a r) is ∙ numbers_append a r es (option_to_list (entry_of rule k))
    ∙ ap (λ v. v ++ numbers_of a r (option_to_list (entry_of rule k))) (before a r)
    ∙ ap (λ v. filter (λ k. option_map_or (is_side a r) (slice_get rules k) false) (range_with_len 0 k) ++ v) here
    ∙ sym (filter-append (λ k. option_map_or (is_side a r) (slice_get rules k) false) (range_with_len 0 k) (k ∷ []))
    ∙ ap (λ v. filter (λ k. option_map_or (is_side a r) (slice_get rules k) false) v) (sym (range_more k))

length_if : (b : Bool) (e : Entry) → length (option_to_list (if b then Some e else None)) ≤ 1
length_if true e = omega arith
length_if false e = omega arith

pub few_more : (es new : List Entry) (k : ℕ) (rule : Rule) → new ≡ es ++ option_to_list (entry_of rule k) → length es ≤ k → length new ≤ k + 1
few_more es new k rule is few =
    omega (arith, few, ap length is, length-append es (option_to_list (entry_of rule k)), length_if (nat_lt 0 rule.rate) (record { left = rule.left; number = k; rank = rank_of rule.right }))

rank_none : (right : Option ℕ) → (rank_of right == 0) ≡ is_none right
rank_none None = refl
rank_none (Some b) = ne_eqb (suc b) 0 (λ z. omega (arith, z))

same_rank : (b c : ℕ) → (suc c == suc b) ≡ (c == b)
same_rank b c = elim (cases_eq c b) [ inl same ↦ eq-eqb (suc c) (suc b) (omega (arith, same)) ∙ sym (eq-eqb c b same) | inr differ ↦ ne_eqb (suc c) (suc b) (λ z. differ (omega (arith, z))) ∙ sym (ne_eqb c b differ) ]

rank_some : (right : Option ℕ) (b : ℕ) → (rank_of right == suc b) ≡ option_map_or (λ c. c == b) right false
rank_some None b = ne_eqb 0 (suc b) (λ z. omega (arith, z))
rank_some (Some c) b = same_rank b c

alone_same : (a : ℕ) (o : Option Rule) → option_map_or (is_side a 0) o false ≡ option_map_or (is_alone a) o false
alone_same a None = refl
alone_same a (Some rule) = ap (λ b. nat_lt 0 rule.rate && (b && (rule.left == a))) (rank_none rule.right)

pair_same : (a b : ℕ) (o : Option Rule) → option_map_or (is_side a (suc b)) o false ≡ option_map_or (is_pair a b) o false
pair_same a b None = refl
pair_same a b (Some rule) = ap (λ t. nat_lt 0 rule.rate && (t && (rule.left == a))) (rank_some rule.right b)

pub alone_is : (rules : List Rule) (a : ℕ) → side_of rules a 0 ≡ alone_of rules a
alone_is rules a = filter_agree _ _ (λ k. alone_same a (slice_get rules k)) (range_with_len 0 (length rules))

pub pair_is : (rules : List Rule) (a b : ℕ) → side_of rules a (suc b) ≡ pair_of rules a b
pair_is rules a b = filter_agree _ _ (λ k. pair_same a b (slice_get rules k)) (range_with_len 0 (length rules))
