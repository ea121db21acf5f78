-- A name is read back.
use Rattle.std.specs.List.{list_all}
use Rattle.std.proofs.Common.{◌≡◌, ℕ, zero, suc, ◌+◌, ◌-◌, ◌*◌, ◌/◌, ◌%◌, ◌^◌, ◌<◌, ◌≤◌, ◌≢◌, true, false, nat_le, List, [], ◌∷◌, ◌++◌, length, Option, Some, None, sym, refl, ap, ◌∙◌, arith}
use Rattle.std.proofs.lemmas.Bool.{ne_eqb, lt-ltb, le-leb, leb-true, and_from, and_parts}
use Rattle.std.proofs.lemmas.Fmt.{decimal_by_steps, length-decimal-le}
use Rattle.std.proofs.lemmas.List.Folds.{list_all-append}
use Rattle.std.specs.Fmt.{decimal}
use Rattle.surf_base.specs.Decimal.{decimal_of, is_digit, value_from}
use Rattle.surf_text.specs.Bytes.{before, after}
use Rattle.surf_sync.specs.declared.code.Code.{Code}
use Rattle.surf_sync.specs.Codes.{Mark}
use Rattle.surf_sync.specs.Codes.Mark.{Frame, Cell}
use Rattle.surf_sync.specs.Spelling.{IsSmall, spell, is_padded, number_of, Part, part_from, part_of, code_in, frame_in}

-- ---- decimals

digit : (b : ℕ) → 48 ≤ b → b ≤ 57 → is_digit b ≡ true
digit b l u = rw (le-leb 48 b l, le-leb b 57 u) refl

value_more : (n : ℕ) (ds : List ℕ) (d : ℕ) → value_from n (ds ++ d ∷ []) ≡ 10 * value_from n ds + (d - 48)
value_more n [] d = refl
value_more n (x ∷ ds) d = value_more (10 * n + (x - 48)) ds d

-- the first digit is no 0
abbrev Leads : List ℕ → Type 0
Leads [] = ⊥
Leads (d ∷ ds) = d ≢ 48

leads_more : (ds : List ℕ) (d : ℕ) → Leads ds → Leads (ds ++ d ∷ [])
leads_more [] d h = absurd h
leads_more (x ∷ ds) d h = h

pub record Spells (n : ℕ) (ds : List ℕ) : Type 0 where
  pub some : 1 ≤ length ds
  pub digits : list_all is_digit ds ≡ true
  pub value : value_from 0 ds ≡ n
  pub leads : 1 ≤ n → Leads ds
  pub alone : n < 10 → length ds ≡ 1

length_more : (ds : List ℕ) (d : ℕ) → 1 ≤ length (ds ++ d ∷ [])
length_more [] d = omega arith
length_more (x ∷ ds) d = omega arith

spells_one : (n : ℕ) → n < 10 → Spells n ((48 + n) ∷ [])
spells_one n lt = record {
  some = omega arith;
  digits = and_from (is_digit (48 + n)) true (digit (48 + n) (omega arith) (omega arith)) refl;
  value = omega arith;
  leads = λ h. omega arith;
  alone = λ h. refl;
}

spells_more : (n : ℕ) (ds : List ℕ) → 10 ≤ n → Spells (n / 10) ds → Spells n (ds ++ ((48 + n % 10) ∷ []))
spells_more n ds le s = record {
  some = length_more ds (48 + n % 10);
  digits = list_all-append is_digit ds ((48 + n % 10) ∷ []) ∙ and_from (list_all is_digit ds) _ s.digits (and_from (is_digit (48 + n % 10)) true (digit (48 + n % 10) (omega arith) (omega arith)) refl);
  value = value_more 0 ds (48 + n % 10) ∙ (let e : 10 * value_from 0 ds + (48 + n % 10 - 48) ≡ n = omega (arith, s.value) in e);
  leads = λ h. leads_more ds (48 + n % 10) (s.leads (omega arith));
  alone = λ h. absurd (omega arith);
}

pub spells : (n : ℕ) → n < 2 ^ 64 → Spells n (decimal n)
spells n lt = decimal_by_steps Spells spells_one spells_more n lt

decimal_read : (n : ℕ) → n < 2 ^ 64 → decimal_of (decimal n) ≡ Some n
decimal_read n lt =
    let s = spells n lt in
    let few : length (decimal n) ≤ 20 = length-decimal-le 20 n (omega arith) (omega (arith, lt)) lt in
    rw (le-leb 1 (length (decimal n)) s.some, le-leb (length (decimal n)) 20 few, s.digits, s.value, lt-ltb n (2 ^ 64) lt) refl

leading : (ds : List ℕ) → Leads ds → is_padded ds ≡ false
leading [] h = refl
leading (b ∷ []) h = refl
leading (b ∷ c ∷ bs) h = ne_eqb b 48 h

single : (ds : List ℕ) → length ds ≡ 1 → is_padded ds ≡ false
single [] h = refl
single (b ∷ []) h = refl
single (b ∷ c ∷ bs) h = absurd (omega (arith, h))

unpadded : (n : ℕ) (ds : List ℕ) → Spells n ds → is_padded ds ≡ false
unpadded zero ds s = single ds (s.alone (omega arith))
unpadded (suc n) ds s = leading ds (s.leads (omega arith))

wide : (n : ℕ) → n < 2 ^ 32 → n < 2 ^ 64
wide n h = omega arith

pub number_decimal : (n : ℕ) → n < 2 ^ 32 → number_of (decimal n) ≡ Some n
number_decimal n h = rw (unpadded n (decimal n) (spells n (wide n h)), decimal_read n (wide n h), lt-ltb n (2 ^ 32) h) refl

-- ---- parts

no_bar : (b : ℕ) → is_digit b ≡ true → b ≢ 95
no_bar b h e = let p = and_parts (nat_le 48 b) (nat_le b 57) h in let u = leb-true b 57 p.1 in omega (arith, e, u)

before_bar : (ds rest : List ℕ) → list_all is_digit ds ≡ true → before 95 (ds ++ 95 ∷ rest) ≡ ds
before_bar [] rest h = refl
before_bar (d ∷ ds) rest h = let p = and_parts (is_digit d) (list_all is_digit ds) h in rw (ne_eqb d 95 (no_bar d p.0), before_bar ds rest p.1) refl

after_bar : (ds rest : List ℕ) → list_all is_digit ds ≡ true → after 95 (ds ++ 95 ∷ rest) ≡ Some rest
after_bar [] rest h = refl
after_bar (d ∷ ds) rest h = let p = and_parts (is_digit d) (list_all is_digit ds) h in rw (ne_eqb d 95 (no_bar d p.0)) (after_bar ds rest p.1)

before_end : (ds : List ℕ) → list_all is_digit ds ≡ true → before 95 ds ≡ ds
before_end [] h = refl
before_end (d ∷ ds) h = let p = and_parts (is_digit d) (list_all is_digit ds) h in rw (ne_eqb d 95 (no_bar d p.0), before_end ds p.1) refl

after_end : (ds : List ℕ) → list_all is_digit ds ≡ true → after 95 ds ≡ None
after_end [] h = refl
after_end (d ∷ ds) h = let p = and_parts (is_digit d) (list_all is_digit ds) h in rw (ne_eqb d 95 (no_bar d p.0)) (after_end ds p.1)

part : ℕ → Option (List ℕ) → Part
part n rest = record { number = n; rest = rest }

first : (n : ℕ) (rest : List ℕ) → n < 2 ^ 32 → part_of (decimal n ++ 95 ∷ rest) ≡ Some (record { number = n; rest = Some rest })
first n rest h =
    let d = (spells n (wide n h)).digits in
    ap (λ t. part_from (number_of t) (after 95 (decimal n ++ 95 ∷ rest))) (before_bar (decimal n) rest d)
    ∙ ap (λ r. part_from (number_of (decimal n)) r) (after_bar (decimal n) rest d)
    ∙ ap (λ o. part_from o (Some rest)) (number_decimal n h)

last : (n : ℕ) → n < 2 ^ 32 → part_of (decimal n) ≡ Some (record { number = n; rest = None })
last n h =
    let d = (spells n (wide n h)).digits in
    ap (λ t. part_from (number_of t) (after 95 (decimal n))) (before_end (decimal n) d)
    ∙ ap (λ r. part_from (number_of (decimal n)) r) (after_end (decimal n) d)
    ∙ ap (λ o. part_from o None) (number_decimal n h)

-- ---- names

abbrev pub IsSmallMark : Mark → Type 0
IsSmallMark (Frame k) = k < 2 ^ 32
IsSmallMark (Cell c) = IsSmall c

pub code_read : (c : Code) → IsSmall c → code_in (spell (Cell c)) ≡ Some c
code_read c h = rw (first c.current _ h.current, first c.generation _ h.generation, first c.colour _ h.colour, first c.previous _ h.previous, first c.reads _ h.reads, last c.acc h.acc) refl

pub frame_read : (k : ℕ) → k < 2 ^ 32 → frame_in (spell (Frame k)) ≡ Some k
frame_read k h = number_decimal k h

-- the name of the frame is that of no code
pub frame_mute : (k : ℕ) → code_in (spell (Frame k)) ≡ None
frame_mute k = refl

-- so two marks with one text are the same
pub spell_injective : (m n : Mark) → IsSmallMark m → IsSmallMark n → spell m ≡ spell n → m ≡ n
spell_injective (Frame k) (Frame j) a b e =
    let f : Some k ≡ Some j = sym (frame_read k a) ∙ ap frame_in e ∙ frame_read j b in
    cc
spell_injective (Cell c) (Cell d) a b e =
    let f : Some c ≡ Some d = sym (code_read c a) ∙ ap code_in e ∙ code_read d b in
    cc
spell_injective (Frame k) (Cell d) a b e = let f : None ≡ Some d = sym (frame_mute k) ∙ ap code_in e ∙ code_read d b in cc
spell_injective (Cell c) (Frame j) a b e = let f : Some c ≡ None = sym (code_read c a) ∙ ap code_in e ∙ frame_mute j in cc
