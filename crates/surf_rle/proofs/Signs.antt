-- The first sign of a line.
use Rattle.std.proofs.Common.{◌^◌, ℕ, zero, suc, ◌≡◌, ◌<◌, true, false, List, [], ◌∷◌, length, get_or, take, drop, map, refl, sym, ◌∙◌, ◌+◌, ap, arith, add-one, Option, Some, None}
use Rattle.std.proofs.lemmas.Bool.{ne_eqb}
use Rattle.surf_base.specs.Decimal.{is_digit}
use Rattle.surf_base.specs.Decimal.{decimal_below}
use Rattle.surf_rle.specs.Items.{pieces_of, if_counted, sign_of, signs_of}
use Rattle.surf_rle.specs.declared.item.Sign.TheVariants.{Bad}

piece_at : (line : List ℕ) (i : ℕ) → i < length line → ((k : ℕ) → k < i → is_digit (get_or line k 0) ≡ true) → is_digit (get_or line i 0) ≡ false →
    pieces_of line ≡ record { digits = take i line; byte = get_or line i 0 } ∷ pieces_of (drop (suc i) line)
piece_at [] i lt all at = absurd (omega arith)
piece_at (b ∷ bs) zero lt all at = rw at refl
piece_at (b ∷ bs) (suc i) lt all at =
    rw (all zero (omega arith), piece_at bs i (omega arith) (λ k h. all (suc k) (omega arith)) at) refl

piece_end : (b : ℕ) (bs : List ℕ) → ((k : ℕ) → k < length (b ∷ bs) → is_digit (get_or (b ∷ bs) k 0) ≡ true) →
    pieces_of (b ∷ bs) ≡ record { digits = b ∷ bs; byte = 10 } ∷ []
piece_end b [] all = rw (all zero (omega arith)) refl
piece_end b (d ∷ bs) all = rw (all zero (omega arith), piece_end d bs (λ k h. all (suc k) (omega arith))) refl

pub sign_at : (line : List ℕ) (i : ℕ) → i < length line → ((k : ℕ) → k < i → is_digit (get_or line k 0) ≡ true) → is_digit (get_or line i 0) ≡ false →
    signs_of line ≡ sign_of (record { digits = take i line; byte = get_or line i 0 }) ∷ signs_of (drop (i + 1) line)
sign_at line i lt all at = ap (map sign_of) (piece_at line i lt all at) ∙ ap (λ n. sign_of (record { digits = take i line; byte = get_or line i 0 }) ∷ signs_of (drop n line)) (sym (add-one i))

count_alone : (o : Option ℕ) → if_counted o 10 ≡ Bad
count_alone None = refl
count_alone (Some zero) = refl
count_alone (Some (suc n)) = rw (ne_eqb (suc n) 0 (λ e. absurd (omega (arith, e)))) refl

-- digits that no letter follows
pub sign_end : (line : List ℕ) → 0 < length line → ((k : ℕ) → k < length line → is_digit (get_or line k 0) ≡ true) → signs_of line ≡ Bad ∷ []
sign_end [] lt all = absurd (omega arith)
sign_end (b ∷ bs) lt all = ap (map sign_of) (piece_end b bs all) ∙ ap (λ s. s ∷ []) (count_alone (decimal_below (2 ^ 32) (b ∷ bs)))
