-- Lines and tokens from the front.
use Rattle.std.proofs.Common.{ℕ, ◌≡◌, ◌-◌, ◌<◌, Bool, true, false, List, [], ◌∷◌, length, get_or, take, drop, refl, sym, ◌∙◌, ap, arith, zero, suc, length-drop, length-take-le, filter}
use Rattle.std.specs.List.{slice_split}
use Rattle.std.proofs.lemmas.List.{take_all}
use Rattle.std.proofs.lemmas.Bool.{ne_eqb, eq-eqb, false≢true}
use Rattle.surf_text.specs.Bytes.{lines_of, tokens_of, is_blank, is_filled}

pub rest_of : (text : List ℕ) (i : ℕ) → take (length text - i) (drop i text) ≡ drop i text
rest_of text i = take_all (length text - i) (drop i text) (omega (arith, length-drop i text))

pub lines_at : (text : List ℕ) (i : ℕ) → i < length text → ((k : ℕ) → k < i → get_or text k 0 ≡ 10 → ⊥) → get_or text i 0 ≡ 10 → lines_of text ≡ take i text ∷ lines_of (drop (suc i) text)
lines_at [] i lt none at = absurd (omega arith)
lines_at (b ∷ bs) zero lt none at = rw (eq-eqb b 10 at) refl
lines_at (b ∷ bs) (suc i) lt none at =
    rw (ne_eqb b 10 (λ e. none zero (omega arith) e), lines_at bs i (omega arith) (λ k h e. none (suc k) (omega arith) e) at) refl

pub lines_end : (text : List ℕ) → 0 < length text → ((k : ℕ) → k < length text → get_or text k 0 ≡ 10 → ⊥) → lines_of text ≡ text ∷ []
lines_end [] lt none = absurd (omega arith)
lines_end (b ∷ []) lt none = rw (ne_eqb b 10 (λ e. none zero (omega arith) e)) refl
lines_end (b ∷ d ∷ bs) lt none =
    rw (ne_eqb b 10 (λ e. none zero (omega arith) e), lines_end (d ∷ bs) (omega arith) (λ k h e. none (suc k) (omega arith) e)) refl

split_at : (p : ℕ → Bool) (line : List ℕ) (i : ℕ) → i < length line → ((k : ℕ) → k < i → p (get_or line k 0) ≡ false) → p (get_or line i 0) ≡ true → slice_split p line ≡ take i line ∷ slice_split p (drop (suc i) line)
split_at p [] i lt none at = absurd (omega arith)
split_at p (b ∷ bs) zero lt none at = rw at refl
split_at p (b ∷ bs) (suc i) lt none at = rw (none zero (omega arith), split_at p bs i (omega arith) (λ k h. none (suc k) (omega arith)) at) refl

split_end : (p : ℕ → Bool) (line : List ℕ) → ((k : ℕ) → k < length line → p (get_or line k 0) ≡ false) → slice_split p line ≡ line ∷ []
split_end p [] none = refl
split_end p (b ∷ bs) none = rw (none zero (omega arith), split_end p bs (λ k h. none (suc k) (omega arith))) refl

filled_first : (x : List ℕ) (xs : List (List ℕ)) → 0 < length x → filter is_filled (x ∷ xs) ≡ x ∷ filter is_filled xs
filled_first [] xs lt = absurd (omega arith)
filled_first (b ∷ bs) xs lt = refl

pub token_at : (line : List ℕ) (i : ℕ) → 0 < i → i < length line → ((k : ℕ) → k < i → is_blank (get_or line k 0) ≡ false) → is_blank (get_or line i 0) ≡ true → tokens_of line ≡ take i line ∷ tokens_of (drop (suc i) line)
token_at line i some lt none at =
    ap (filter is_filled) (split_at is_blank line i lt none at) ∙ filled_first (take i line) (slice_split is_blank (drop (suc i) line)) (omega (arith, length-take-le i line))

pub token_end : (line : List ℕ) → 0 < length line → ((k : ℕ) → k < length line → is_blank (get_or line k 0) ≡ false) → tokens_of line ≡ line ∷ []
token_end line some none = ap (filter is_filled) (split_end is_blank line none) ∙ filled_first line [] some

-- a blank that isn't the first byte stands further on
pub not_first : (line : List ℕ) (i : ℕ) → is_blank (get_or line 0 0) ≡ false → is_blank (get_or line i 0) ≡ true → 0 < i
not_first line zero no_blank at = absurd (false≢true (sym no_blank ∙ at))
not_first line (suc i) no_blank at = omega arith
