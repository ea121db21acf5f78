-- There are not many more names than rules.
use Rattle.std.specs.Prelude.{slice_index}
use Rattle.std.proofs.Common.{◌≡◌, true, inl, inr, ℕ, zero, suc, ◌+◌, ◌*◌, ◌^◌, ◌/◌, ◌%◌, ◌<◌, ◌≤◌, List, [], ◌++◌, map, length, length-append, get_or, Option, Some, None, sym, refl, ap, ◌∙◌, subst, arith}
use Rattle.std.proofs.lemmas.Bool.{eqb-true, or_cases}
use Rattle.std.proofs.lemmas.Nat.{div-mul-add, mod-mul-add}
use Rattle.std.proofs.lemmas.List.{length-map}
use Rattle.std.proofs.lemmas.List.FromFn.{get_or-map-range_with_len, length-map-range_with_len}
use Rattle.std.proofs.Math.Nat.{le-mul_of_pos_right, mul-le-mul, mul-le-mul_right}
use Rattle.surf_auto.specs.Locals.{LocalRule, is_degree, code_count, reader_count, sight_count, sum_below, rule_count_in}
use Rattle.surf_sync.specs.Codes.{WholeBy, fields_by, protocol}
use Rattle.surf_sync.specs.Listing.{Name, Numbers, marks_of, start_of}
use Rattle.surf_sync.specs.Rules.{below, turns_by}
use Rattle.surf_sync.specs.Moved.{all_texts, frame_texts}
use Rattle.surf_sync.specs.Spelling.{spell}
use Rattle.surf_sync.proofs.Growing.{numbers_more}
use Rattle.surf_sync.proofs.Moved.{all_spelled, all_length, frame_length, size_at}

sum_split : (f : ℕ → ℕ) (a b : ℕ) → sum_below f (a + b) ≡ sum_below f a + sum_below (λ i. f (a + i)) b
sum_split f a zero = let z : a + 0 ≡ a = omega arith in ap (sum_below f) z ∙ (omega arith)
sum_split f a (suc b) =
    let s : a + suc b ≡ suc (a + b) = omega arith in
    let i = sum_split f a b in
    ap (sum_below f) s ∙ (omega arith)

sum_same : (f g : ℕ → ℕ) (n : ℕ) → ((i : ℕ) → i < n → f i ≡ g i) → sum_below f n ≡ sum_below g n
sum_same f g zero h = refl
sum_same f g (suc n) h = let a = sum_same f g n (λ i l. h i (omega arith)) in let b = h n (omega arith) in omega arith

sum_most : (f g : ℕ → ℕ) (n : ℕ) → ((i : ℕ) → f i ≤ g i) → sum_below f n ≤ sum_below g n
sum_most f g zero h = omega arith
sum_most f g (suc n) h = let a = sum_most f g n h in let b = h n in omega arith

sum_times : (t : ℕ) (f : ℕ → ℕ) (n : ℕ) → sum_below (λ i. t * f i) n ≡ t * sum_below f n
sum_times t f zero = omega arith
sum_times t f (suc n) = let a = sum_times t f n in omega arith

-- rounds through the phases
sum_rounds : (f : ℕ → ℕ) (n t : ℕ) → sum_below (λ g. f (g % n)) (t * n) ≡ t * sum_below f n
sum_rounds f n zero = let z : 0 * n ≡ 0 = omega arith in ap (sum_below (λ g. f (g % n))) z ∙ (omega arith)
sum_rounds f n (suc t) =
    let s : suc t * n ≡ t * n + n = omega arith in
    let r = sum_rounds f n t in
    let p = sum_split (λ g. f (g % n)) (t * n) n in
    let q = sum_same (λ i. f ((t * n + i) % n)) f n (λ i h. ap f (mod-mul-add t n i h)) in
    ap (sum_below (λ g. f (g % n))) s ∙ (omega arith)

one_phase : LocalRule → ℕ → ℕ
one_phase R f = suc R.degree * code_count R f

sizes : (R : LocalRule) (n : ℕ) → sum_below (size_at R) n ≡ sum_below (λ g. one_phase R (g % R.phases)) n
unfolding one_phase size_at
sizes R n = refl

-- there are no fewer rules than readers
readers_few : (R : LocalRule) (t : ℕ) → t * sum_below (one_phase R) R.phases ≤ rule_count_in t R
unfolding one_phase
readers_few R t =
    let a = sum_times t (one_phase R) R.phases in
    let b = sum_most (λ f. t * one_phase R f) (λ f. reader_count t R f * sight_count R f) R.phases
    (λ f. let m : t * suc R.degree * code_count R f ≤ t * suc R.degree * code_count R f * sight_count R f = le-mul_of_pos_right (t * suc R.degree * code_count R f) (let h : 0 < sight_count R f = omega arith in h) in
    let e : t * (suc R.degree * code_count R f) ≡ t * suc R.degree * code_count R f = omega arith in omega arith) in
    omega arith

first_few : (f : ℕ → ℕ) (n : ℕ) → 0 < n → f 0 ≤ sum_below f n
first_few f zero h = absurd (omega arith)
first_few f (suc zero) h = omega arith
first_few f (suc (suc n)) h = let a = first_few f (suc n) (omega arith) in omega arith

cells_few : (R : LocalRule) (last : Option ℕ) → 0 < R.phases → WholeBy last R.phases → 0 < turns_by last R.phases → sum_below (size_at R) (fields_by last R.phases) ≤ 2 * rule_count_in (turns_by last R.phases) R
cells_few R None some whole turns =
    let s = sizes R (3 * R.phases) in
    let r = sum_rounds (one_phase R) R.phases 3 in
    let f = readers_few R 3 in
    omega arith
cells_few R (Some l) some whole turns =
    let e : whole.0 * R.phases + 0 ≡ l = (let w = whole.1 in omega arith) in
    let q : l / R.phases ≡ whole.0 = ap (λ y. y / R.phases) (sym e) ∙ div-mul-add whole.0 R.phases 0 some in
    let z : l % R.phases ≡ 0 = ap (λ y. y % R.phases) (sym e) ∙ mod-mul-add whole.0 R.phases 0 some in
    let s = sizes R (suc l) in
    let c : sum_below (λ g. one_phase R (g % R.phases)) l ≡ sum_below (λ g. one_phase R (g % R.phases)) (whole.0 * R.phases) = ap (sum_below (λ g. one_phase R (g % R.phases))) (whole.1) in
    let r = sum_rounds (one_phase R) R.phases whole.0 in
    let o : one_phase R (l % R.phases) ≡ one_phase R 0 = ap (one_phase R) z in
    let p = first_few (one_phase R) R.phases some in
    let n : 1 ≤ whole.0 = omega arith in
    let m : sum_below (one_phase R) R.phases ≤ whole.0 * sum_below (one_phase R) R.phases = (let u : 1 * sum_below (one_phase R) R.phases ≤ whole.0 * sum_below (one_phase R) R.phases = mul-le-mul_right (sum_below (one_phase R) R.phases) n in omega arith) in
    let f : whole.0 * sum_below (one_phase R) R.phases ≤ rule_count_in (l / R.phases) R = subst (λ t. t * sum_below (one_phase R) R.phases ≤ rule_count_in (l / R.phases) R) q (readers_few R (l / R.phases)) in
    omega arith

pub texts_few : (R : LocalRule) (last : Option ℕ) → R.degree ≤ 6 → 0 < R.phases → WholeBy last R.phases → 0 < turns_by last R.phases → suc R.degree + length (all_texts R (fields_by last R.phases)) ≤ 7 + 2 * rule_count_in (turns_by last R.phases) R
texts_few R last small some whole turns =
    let a = all_length R (fields_by last R.phases) in
    let c = cells_few R last some whole turns in
    omega arith

pub few_degree : (d : ℕ) → is_degree d ≡ true → d ≤ 6
few_degree d h = elim (or_cases _ _ h) [
  | inl e ↦ let s = eqb-true d 4 e in omega (arith, s)
  | inr e ↦ let s = eqb-true d 6 e in omega (arith, s)
]

-- the numbers of all names are a table
pub is_table : (R : LocalRule) (last : Option ℕ) (numbers starts : List ℕ) (d : ℕ) → d ≡ suc R.degree →
    length numbers ≡ d + length (all_texts R (fields_by last R.phases)) →
    starts ≡ map (λ g. d + length (all_texts R g)) (below (fields_by last R.phases)) →
    (length numbers ≡ length (marks_of (protocol R 0 last))) × (length starts ≡ fields_by last R.phases) × ((g : ℕ) → g < fields_by last R.phases → slice_index starts g ≡ start_of (protocol R 0 last) g)
unfolding size_at
is_table R last numbers starts d is long begins =
    let P = protocol R 0 last in
    let n : ℕ = fields_by last R.phases in
    let a = all_spelled P in
    let whole : length numbers ≡ length (marks_of P) =
    long ∙ ap (λ k. k + length (all_texts R n)) (is ∙ sym (frame_length (suc R.degree))) ∙ sym (length-append (frame_texts (suc R.degree)) (all_texts R n)) ∙ ap length a ∙ length-map (marks_of P) spell in (
      whole,
      ap length begins ∙ length-map-range_with_len _ 0 n,
      λ g h.
          let z : 0 + g ≡ g = omega arith in
          ap (λ xs. get_or xs g 0) begins
          ∙ get_or-map-range_with_len (λ j. d + length (all_texts R j)) 0 n g g 0 h z
          ∙ ap (λ k. k + length (all_texts R g)) is
          ∙ ap (λ k. suc R.degree + k) (all_length R g),
    )

pub all_numbered : (R : LocalRule) (last : Option ℕ) (d n : ℕ) → d ≡ suc R.degree → n ≡ fields_by last R.phases → (a : List (List ℕ)) (b : List ℕ) (c : List (List ℕ)) (e : List ℕ) (f : List (List ℕ)) (g : List ℕ) →
    Numbers a b (frame_texts d) c e → Numbers c e (all_texts R n) f g → Numbers a b (map spell (marks_of (protocol R 0 last))) f g
all_numbered R last d n same is a b c e f g first rest =
    numbers_more a b (frame_texts d) (all_texts R n) (map spell (marks_of (protocol R 0 last))) c e f g first rest
    (sym (ap (λ k. frame_texts k ++ all_texts R n) same ∙ ap (λ k. frame_texts (suc R.degree) ++ all_texts R k) is ∙ all_spelled (protocol R 0 last)))

-- from no numbers on
pub named_from_none : (a : List (List ℕ)) (b : List ℕ) (ts : List (List ℕ)) (c : List (List ℕ)) (d : List ℕ) → b ≡ [] → Numbers a b ts c d → Name c d ts
named_from_none a b ts c d none n = n.numbers [] (subst (λ ns. Name a ns []) (sym none) refl)

product : (a b c d A B C D : ℕ) → a ≤ A → b ≤ B → c ≤ C → d ≤ D → (a * b ≤ A * B) × (a * b * c ≤ A * B * C) × (a * b * c * d ≤ A * B * C * D)
product a b c d A B C D p q r s =
    let x : a * b ≤ A * B = mul-le-mul p q in
    let y : a * b * c ≤ A * B * C = mul-le-mul x r in
    let z : a * b * c * d ≤ A * B * C * D = mul-le-mul y s in
    (x, y, z)

-- the numbers of rules fit
pub rules_fit : (t d c n : ℕ) → t < 2 ^ 32 → d ≤ 7 → c < 2 ^ 32 → n < 2 ^ 32 → t * d * c * (1 + c + n) < 2 ^ 102
rules_fit t d c n a b h k =
    let p = product t d c (1 + c + n) (2 ^ 32) 7 (2 ^ 32) (2 ^ 33) (omega arith) b (omega arith) (omega arith) in
    let last = p.2 in
    omega arith
