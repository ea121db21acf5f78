-- Digits at the front of a text, and the counts that digits spell.
use Rattle.std.proofs.Common.{ℕ, zero, suc, ◌≡◌, ◌⊎◌, inl, inr, ◌+◌, ◌-◌, ◌<◌, ◌≤◌, Bool, true, false, ◌||◌, ◌==◌, List, [], ◌∷◌, ◌++◌, length, get_or, take, slice_set, refl, ◌∙◌, ap, sym, arith}
use Rattle.std.specs.List.{list_any}
use Rattle.std.proofs.lemmas.Bool.{cases_eq, eq-eqb, ne_eqb}
use Rattle.std.proofs.lemmas.List.{length-set, get_or-set_same, get_or-set_other, take_more}
use Rattle.std.proofs.lemmas.List.Folds.{list_any-append}
use Rattle.std.proofs.lemmas.List.FromFn.{fill_by_all, get_or-map-range_with_len}
use Rattle.surf_base.specs.Decimal.{is_digit}
use Rattle.surf_rle.specs.RuleTexts.{digits_of, counts_of}

or_true : (b : Bool) → (b || (true || false)) ≡ true
or_true true = refl
or_true false = refl

or_false : (b : Bool) → (b || (false || false)) ≡ b
or_false true = refl
or_false false = refl

pub digits_at : (t : List ℕ) (i : ℕ) → i < length t → ((k : ℕ) → k < i → is_digit (get_or t k 0) ≡ true) → is_digit (get_or t i 0) ≡ false → digits_of t ≡ take i t
digits_at [] i lt all at = absurd (omega arith)
digits_at (b ∷ bs) zero lt all at = rw at refl
digits_at (b ∷ bs) (suc i) lt all at = rw (all zero (omega arith), digits_at bs i (omega arith) (λ k h. all (suc k) (omega arith)) at) refl

pub digits_end : (t : List ℕ) → ((k : ℕ) → k < length t → is_digit (get_or t k 0) ≡ true) → digits_of t ≡ t
digits_end [] all = refl
digits_end (b ∷ bs) all = rw (all zero (omega arith), digits_end bs (λ k h. all (suc k) (omega arith))) refl

-- one more digit
counts_hit : (t : List ℕ) (d k : ℕ) → k < 9 → d ≡ 48 + k → slice_set (counts_of 9 t) k true ≡ counts_of 9 (t ++ d ∷ [])
counts_hit t d k lt is =
    fill_by_all (λ n. list_any (λ e. e == 48 + n) (t ++ d ∷ [])) (slice_set (counts_of 9 t) k true) 9 false (length-set (counts_of 9 t) k true)
    (λ j below. elim (cases_eq j k) [
      | inl same ↦ ap (λ n. get_or (slice_set (counts_of 9 t) k true) n false) same
          ∙ get_or-set_same (counts_of 9 t) k true false (omega arith)
          ∙ sym (list_any-append (λ e. e == 48 + j) t (d ∷ [])
          ∙ rw (eq-eqb d (48 + j) (is ∙ ap (λ n. 48 + n) (sym same))) (or_true (list_any (λ e. e == 48 + j) t)))
      | inr other ↦ get_or-set_other (counts_of 9 t) k j true false other
          ∙ get_or-map-range_with_len (λ n. list_any (λ e. e == 48 + n) t) 0 9 j j false below (omega arith)
          ∙ sym (list_any-append (λ e. e == 48 + j) t (d ∷ [])
          ∙ rw (ne_eqb d (48 + j) (λ e. other (omega (arith, e, is)))) (or_false (list_any (λ e. e == 48 + j) t)))
    ])

counts_miss : (t : List ℕ) (d : ℕ) → ((k : ℕ) → k < 9 → d ≡ 48 + k → ⊥) → counts_of 9 t ≡ counts_of 9 (t ++ d ∷ [])
counts_miss t d none =
    fill_by_all (λ n. list_any (λ e. e == 48 + n) (t ++ d ∷ [])) (counts_of 9 t) 9 false refl
    (λ j below. get_or-map-range_with_len (λ n. list_any (λ e. e == 48 + n) t) 0 9 j j false below (omega arith)
    ∙ sym (list_any-append (λ e. e == 48 + j) t (d ∷ [])
    ∙ rw (ne_eqb d (48 + j) (none j below)) (or_false (list_any (λ e. e == 48 + j) t))))

-- the digits up to a place, and the digit there
pub counts_more : (t : List ℕ) (i : ℕ) → i < length t → 48 ≤ get_or t i 0 → get_or t i 0 ≤ 56 → slice_set (counts_of 9 (take i t)) (get_or t i 0 - 48) true ≡ counts_of 9 (take (i + 1) t)
counts_more t i lt low high =
    counts_hit (take i t) (get_or t i 0) (get_or t i 0 - 48) (omega arith) (omega arith) ∙ ap (counts_of 9) (sym (take_more t i 0 lt))

pub counts_same : (t : List ℕ) (i : ℕ) → i < length t → ((get_or t i 0 < 48) ⊎ (56 < get_or t i 0)) → counts_of 9 (take i t) ≡ counts_of 9 (take (i + 1) t)
counts_same t i lt out =
    counts_miss (take i t) (get_or t i 0) (λ k below e. elim out [ inl low ↦ omega (arith, low, e) | inr high ↦ omega (arith, high, e) ])
    ∙ ap (counts_of 9) (sym (take_more t i 0 lt))
