-- The decimal of a number is a word of digits that spells it.
use Rattle.std.proofs.Common.{ℕ, ◌≡◌, ◌+◌, ◌-◌, ◌*◌, ◌/◌, ◌%◌, ◌^◌, ◌<◌, ◌≤◌, List, [], ◌∷◌, ◌++◌, length, refl, ◌∙◌, ap, arith, true, false, nat_le, Some}
use Rattle.std.specs.List.{list_all}
use Rattle.std.specs.Fmt.{decimal}
use Rattle.std.specs.Str.{bytes_eq}
use Rattle.std.proofs.lemmas.Fmt.{decimal_by_steps, length-decimal-le}
use Rattle.std.proofs.lemmas.Bool.{and_parts, le-leb, lt-ltb, leb-true, ne_eqb}
use Rattle.std.proofs.lemmas.List.Folds.{list_all-append}
use Rattle.surf_base.specs.Decimal.{value_from, decimal_of, decimal_below, if_below, is_digit}
use Rattle.surf_text.specs.Bytes.{is_filled, is_plain, is_word}
use Rattle.surf_trace.specs.TraceTexts.{is_skipped}
use Rattle.surf_trace.proofs.Words.{both}

digit : (b : ℕ) → 48 ≤ b → b ≤ 57 → is_digit b ≡ true
digit b l u = rw (le-leb 48 b l, le-leb b 57 u) refl

value_more : (n : ℕ) (ds : List ℕ) (d : ℕ) → value_from n (ds ++ d ∷ []) ≡ 10 * value_from n ds + (d - 48)
value_more n [] d = refl
value_more n (x ∷ ds) d = value_more (10 * n + (x - 48)) ds d

filled_end : (ds : List ℕ) (d : ℕ) → is_filled (ds ++ d ∷ []) ≡ true
filled_end [] d = refl
filled_end (x ∷ ds) d = refl

record Spells (n : ℕ) (ds : List ℕ) : Type 0 where
  pub some : is_filled ds ≡ true
  pub digits : list_all is_digit ds ≡ true
  pub value : value_from 0 ds ≡ n

spells_one : (n : ℕ) → n < 10 → Spells n ((48 + n) ∷ [])
spells_one n lt = record {
  some = refl;
  digits = both (is_digit (48 + n)) true (digit (48 + n) (omega arith) (omega arith)) refl;
  value = omega arith;
}

spells_more : (n : ℕ) (ds : List ℕ) → 10 ≤ n → Spells (n / 10) ds → Spells n (ds ++ ((48 + n % 10) ∷ []))
spells_more n ds le s = record {
  some = filled_end ds (48 + n % 10);
  digits = list_all-append is_digit ds ((48 + n % 10) ∷ []) ∙ both (list_all is_digit ds) _ s.digits (both (is_digit (48 + n % 10)) true (digit (48 + n % 10) (omega arith) (omega arith)) refl);
  value = value_more 0 ds (48 + n % 10) ∙ (let e : 10 * value_from 0 ds + (48 + n % 10 - 48) ≡ n = omega (arith, s.value) in e);
}

spells : (n : ℕ) → n < 2 ^ 64 → Spells n (decimal n)
spells n lt = decimal_by_steps Spells spells_one spells_more n lt

digits_plain : (ds : List ℕ) → list_all is_digit ds ≡ true → list_all is_plain ds ≡ true
digits_plain [] h = refl
digits_plain (d ∷ ds) h =
    let p = and_parts (is_digit d) (list_all is_digit ds) h in
    let q = and_parts (nat_le 48 d) (nat_le d 57) p.0 in
    rw (le-leb 33 d (omega (arith, leb-true 48 d q.0)), le-leb d 126 (omega (arith, leb-true d 57 q.1)), digits_plain ds p.1) refl

pub decimal_word : (n : ℕ) → n < 2 ^ 64 → is_word (decimal n) ≡ true
decimal_word n lt = let s = spells n lt in both (is_filled (decimal n)) (list_all is_plain (decimal n)) s.some (digits_plain (decimal n) s.digits)

filled_length : (ds : List ℕ) → is_filled ds ≡ true → 1 ≤ length ds
filled_length [] h = cc
filled_length (d ∷ ds) h = omega arith

pub decimal_read : (n : ℕ) → n < 2 ^ 64 → decimal_of (decimal n) ≡ Some n
decimal_read n lt =
    let s = spells n lt in
    let few : length (decimal n) ≤ 20 = length-decimal-le 20 n (omega arith) (omega (arith, lt)) lt in
    rw (le-leb 1 (length (decimal n)) (filled_length (decimal n) s.some), le-leb (length (decimal n)) 20 few, s.digits, s.value, lt-ltb n (2 ^ 64) lt) refl

pub short_read : (n : ℕ) → n < 2 ^ 32 → decimal_below (2 ^ 32) (decimal n) ≡ Some n
short_read n lt = ap (if_below (2 ^ 32)) (decimal_read n (omega (arith, lt))) ∙ rw (lt-ltb n (2 ^ 32) lt) refl

-- a line that begins with a digit is neither skipped nor a mark
digits_kept : (ds more : List ℕ) → is_filled ds ≡ true → list_all is_digit ds ≡ true → is_skipped (ds ++ more) ≡ false
digits_kept [] more some h = cc
digits_kept (d ∷ ds) more some h =
    let p = and_parts (is_digit d) (list_all is_digit ds) h in
    let q = leb-true 48 d (and_parts (nat_le 48 d) (nat_le d 57) p.0).0 in
    rw (ne_eqb d 35 (λ e. omega (arith, q, e)), ne_eqb d 37 (λ e. omega (arith, q, e))) refl

digits_no_mark : (ds more mark : List ℕ) → is_filled ds ≡ true → list_all is_digit ds ≡ true → bytes_eq (ds ++ more) (33 ∷ mark) ≡ false
digits_no_mark [] more mark some h = cc
digits_no_mark (d ∷ ds) more mark some h =
    let p = and_parts (is_digit d) (list_all is_digit ds) h in
    let q = leb-true 48 d (and_parts (nat_le 48 d) (nat_le d 57) p.0).0 in
    rw (ne_eqb d 33 (λ e. omega (arith, q, e))) refl

pub decimal_kept : (n : ℕ) (more : List ℕ) → n < 2 ^ 64 → is_skipped (decimal n ++ more) ≡ false
decimal_kept n more lt = let s = spells n lt in digits_kept (decimal n) more s.some s.digits

pub decimal_no_mark : (n : ℕ) (more mark : List ℕ) → n < 2 ^ 64 → bytes_eq (decimal n ++ more) (33 ∷ mark) ≡ false
decimal_no_mark n more mark lt = let s = spells n lt in digits_no_mark (decimal n) more mark s.some s.digits
