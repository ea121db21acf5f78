-- The text of a rate is read as the rate.
use Rattle.std.proofs.Common.{ℕ, ◌≡◌, ◌+◌, ◌-◌, ◌*◌, ◌/◌, ◌%◌, ◌^◌, ◌<◌, ◌≤◌, List, [], ◌∷◌, ◌++◌, length, refl, ◌∙◌, ap, arith, Bool, true, ◌&&◌, ◌==◌, nat_le, Some, append-nil, ⊎_elim, ◌⊎◌, inl, inr}
use Rattle.std.specs.List.{list_all}
use Rattle.std.specs.Fmt.{decimal}
use Rattle.std.proofs.lemmas.Fmt.{decimal_by_steps}
use Rattle.std.proofs.lemmas.Bool.{and_parts, le-leb, leb-true, ne_eqb, eqb-true, eqb-false, cases_Bool}
use Rattle.std.proofs.lemmas.List.Folds.{list_all-append}
use Rattle.surf_base.specs.Decimal.{value_from}
use Rattle.surf_text.specs.Bytes.{is_filled, is_plain, is_word, lacks, after, without_end, unless_last}
use Rattle.surf_manifest_lines.specs.Item.{millionths, rate_parts, rate_of}
use Rattle.surf_manifest_print.specs.Prints.{six_digits, rate_text}
use Rattle.surf_manifest_print.proofs.Texts.{both, before_more, after_more}

abbrev is_digit_byte : ℕ → Bool
is_digit_byte b = nat_le 48 b && nat_le b 57

digit_byte : (b : ℕ) → 48 ≤ b → b ≤ 57 → is_digit_byte b ≡ true
digit_byte b l u = rw (le-leb 48 b l, le-leb b 57 u) refl

value_more : (n : ℕ) (ds : List ℕ) (d : ℕ) → value_from n (ds ++ d ∷ []) ≡ 10 * value_from n ds + (d - 48)
value_more n [] d = refl
value_more n (x ∷ ds) d = value_more (10 * n + (x - 48)) ds d

filled_end : (ds : List ℕ) (d : ℕ) → is_filled (ds ++ d ∷ []) ≡ true
filled_end [] d = refl
filled_end (x ∷ ds) d = refl

pub record Spells (n : ℕ) (ds : List ℕ) : Type 0 where
  pub some : is_filled ds ≡ true
  pub digits : list_all is_digit_byte ds ≡ true
  pub value : value_from 0 ds ≡ n

spells_one : (n : ℕ) → n < 10 → Spells n ((48 + n) ∷ [])
spells_one n lt = record {
  some = refl;
  digits = both (is_digit_byte (48 + n)) true (digit_byte (48 + n) (omega arith) (omega arith)) refl;
  value = omega arith;
}

spells_more : (n : ℕ) (ds : List ℕ) → 10 ≤ n → Spells (n / 10) ds → Spells n (ds ++ ((48 + n % 10) ∷ []))
spells_more n ds le s = record {
  some = filled_end ds (48 + n % 10);
  digits = list_all-append is_digit_byte ds ((48 + n % 10) ∷ []) ∙ both (list_all is_digit_byte ds) _ s.digits (both (is_digit_byte (48 + n % 10)) true (digit_byte (48 + n % 10) (omega arith) (omega arith)) refl);
  value = value_more 0 ds (48 + n % 10) ∙ (let e : 10 * value_from 0 ds + (48 + n % 10 - 48) ≡ n = omega (arith, s.value) in e);
}

pub spells : (n : ℕ) → n < 2 ^ 64 → Spells n (decimal n)
spells n lt = decimal_by_steps Spells spells_one spells_more n lt

apart : (d c : ℕ) → (c < 48) ⊎ (57 < c) → 48 ≤ d → d ≤ 57 → d ≡ c → ⊥
apart d c (inl x) l u e = omega (arith, e)
apart d c (inr x) l u e = omega (arith, e)

pub digits_lack : (c : ℕ) (ds : List ℕ) → (c < 48) ⊎ (57 < c) → list_all is_digit_byte ds ≡ true → lacks c ds ≡ true
digits_lack c [] far h = refl
digits_lack c (d ∷ ds) far h =
    let p = and_parts (is_digit_byte d) (list_all is_digit_byte ds) h in
    let q = and_parts (nat_le 48 d) (nat_le d 57) p.0 in
    rw (ne_eqb d c (apart d c far (leb-true 48 d q.0) (leb-true d 57 q.1)), digits_lack c ds far p.1) refl

pub digits_plain : (ds : List ℕ) → list_all is_digit_byte ds ≡ true → list_all is_plain ds ≡ true
digits_plain [] h = refl
digits_plain (d ∷ ds) h =
    let p = and_parts (is_digit_byte d) (list_all is_digit_byte ds) h in
    let q = and_parts (nat_le 48 d) (nat_le d 57) p.0 in
    rw (le-leb 33 d (omega (arith, leb-true 48 d q.0)), le-leb d 126 (omega (arith, leb-true d 57 q.1)), digits_plain ds p.1) refl

pub decimal_word : (n : ℕ) → n < 2 ^ 64 → is_word (decimal n) ≡ true
decimal_word n lt = let s = spells n lt in both (is_filled (decimal n)) (list_all is_plain (decimal n)) s.some (digits_plain (decimal n) s.digits)

-- zeros at the end have no weight
abbrev is_zero : ℕ → Bool
is_zero d = d == 48

same_weight : (w d : ℕ) (ds : List ℕ) → millionths w (unless_last is_zero d ds) ≡ (d - 48) * w + millionths (w / 10) ds
same_weight w d (e ∷ ds) = refl
same_weight w d [] = ⊎_elim (λ z. rw z (let e : d ≡ 48 = eqb-true d 48 z in rw e (omega arith))) (λ z. rw z refl) (cases_Bool (d == 48))

pub same_millionths : (w : ℕ) (ds : List ℕ) → millionths w (without_end is_zero ds) ≡ millionths w ds
same_millionths w [] = refl
same_millionths w (d ∷ ds) = same_weight w d (without_end is_zero ds) ∙ ap (λ v. (d - 48) * w + v) (same_millionths (w / 10) ds)

shorter_last : (p : ℕ → Bool) (d : ℕ) (ds : List ℕ) → length (unless_last p d ds) ≤ length ds + 1
shorter_last p d (e ∷ ds) = omega arith
shorter_last p d [] = ⊎_elim (λ z. rw z (omega arith)) (λ z. rw z (omega arith)) (cases_Bool (p d))

pub shorter : (p : ℕ → Bool) (ds : List ℕ) → length (without_end p ds) ≤ length ds
shorter p [] = omega arith
shorter p (d ∷ ds) = omega (arith, shorter_last p d (without_end p ds), shorter p ds)

all_last : (p q : ℕ → Bool) (d : ℕ) (ds : List ℕ) → q d ≡ true → list_all q ds ≡ true → list_all q (unless_last p d ds) ≡ true
all_last p q d (e ∷ ds) x y = both (q d) (list_all q (e ∷ ds)) x y
all_last p q d [] x y = ⊎_elim (λ z. rw z refl) (λ z. rw z (both (q d) true x refl)) (cases_Bool (p d))

pub all_kept : (p q : ℕ → Bool) (ds : List ℕ) → list_all q ds ≡ true → list_all q (without_end p ds) ≡ true
all_kept p q [] h = refl
all_kept p q (d ∷ ds) h =
    let x = and_parts (q d) (list_all q ds) h in
    all_last p q d (without_end p ds) x.0 (all_kept p q ds x.1)

six_value : (m : ℕ) → m < 1000000 → millionths 100000 (six_digits m) ≡ m
six_value m lt = omega arith

six_are_digits : (m : ℕ) → m < 1000000 → list_all is_digit_byte (six_digits m) ≡ true
six_are_digits m lt =
    rw (digit_byte (48 + m / 100000) (omega arith) (omega arith), digit_byte (48 + m / 10000 % 10) (omega arith) (omega arith), digit_byte (48 + m / 1000 % 10) (omega arith) (omega arith), digit_byte (48 + m / 100 % 10) (omega arith) (omega arith), digit_byte (48 + m / 10 % 10) (omega arith) (omega arith), digit_byte (48 + m % 10) (omega arith) (omega arith)) refl

-- the digits of the millionths
pub fraction : ℕ → List ℕ
fraction m = without_end is_zero (six_digits m)

some_weight : (w : ℕ) (ds : List ℕ) → 0 < millionths w ds → is_filled ds ≡ true
some_weight w [] lt = absurd (omega arith)
some_weight w (d ∷ ds) lt = refl

pub record IsFraction (m : ℕ) (ds : List ℕ) : Type 0 where
  pub some : is_filled ds ≡ true
  pub digits : list_all is_digit_byte ds ≡ true
  pub short : length ds ≤ 6
  pub value : millionths 100000 ds ≡ m

pub is_its_fraction : (m : ℕ) → 0 < m → m < 1000000 → IsFraction m (without_end (λ d. d == 48) (six_digits m))
is_its_fraction m pos lt =
    let v : millionths 100000 (without_end is_zero (six_digits m)) ≡ m = same_millionths 100000 (six_digits m) ∙ six_value m lt in
    record {
      some = some_weight 100000 (without_end is_zero (six_digits m)) (omega (arith, v));
      digits = all_kept is_zero is_digit_byte (six_digits m) (six_are_digits m lt);
      short = shorter is_zero (six_digits m);
      value = v;
    }

-- a rate of whole and part
whole_only : (q : ℕ) (ds : List ℕ) → Spells q ds → q ≤ 1000000 → rate_of (ds ++ []) ≡ Some (q * 1000000 + 0)
whole_only q ds s le =
    let none : lacks 46 ds ≡ true = digits_lack 46 ds (inl (omega arith)) s.digits in
    ap (λ b. rate_parts b (after 46 (ds ++ []))) (before_more 46 ds [] none ∙ append-nil ds)
    ∙ (ap (rate_parts ds) (after_more 46 ds [] none)
    ∙ rw (s.some, s.digits, s.value, le-leb (q * 1000000 + 0) 1000000000000 (omega arith)) refl)

with_part : (q m : ℕ) (ds fs : List ℕ) → Spells q ds → IsFraction m fs → q * 1000000 + m ≤ 1000000000000 → rate_of (ds ++ 46 ∷ fs) ≡ Some (q * 1000000 + m)
with_part q m ds fs s f le =
    let none : lacks 46 ds ≡ true = digits_lack 46 ds (inl (omega arith)) s.digits in
    ap (λ b. rate_parts b (after 46 (ds ++ 46 ∷ fs))) (before_more 46 ds (46 ∷ fs) none ∙ append-nil ds)
    ∙ (ap (rate_parts ds) (after_more 46 ds (46 ∷ fs) none)
    ∙ rw (s.some, s.digits, s.value, f.some, f.digits, f.value, le-leb (length fs) 6 f.short, le-leb (q * 1000000 + m) 1000000000000 le) refl)

pub rate_read : (rate : ℕ) → rate ≤ 1000000000000 → rate_of (rate_text rate) ≡ Some rate
rate_read rate le =
    let s = spells (rate / 1000000) (omega arith) in
    ⊎_elim
    (λ z. let zero_rest : rate % 1000000 ≡ 0 = eqb-true (rate % 1000000) 0 z in
    rw z (whole_only (rate / 1000000) (decimal (rate / 1000000)) s (omega arith) ∙ ap Some (let e : rate / 1000000 * 1000000 + 0 ≡ rate = omega (arith, zero_rest) in e)))
    (λ z. let f = is_its_fraction (rate % 1000000) (omega (arith, eqb-false (rate % 1000000) 0 z)) (omega arith) in
    rw z (with_part (rate / 1000000) (rate % 1000000) (decimal (rate / 1000000)) _ s f (omega arith) ∙ ap Some (let e : rate / 1000000 * 1000000 + rate % 1000000 ≡ rate = omega arith in e)))
    (cases_Bool (rate % 1000000 == 0))
