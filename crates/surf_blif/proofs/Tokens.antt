-- The bytes of tokens.
use Rattle.std.proofs.Common.{ℕ, ◌≡◌, ◌+◌, ◌<◌, ◌≤◌, Bool, true, false, List, [], ◌∷◌, length, filter, arith, ap, refl, if◌then◌else◌, suc, Some}
use Rattle.std.specs.List.{slice_split, onto_first}
use Rattle.surf_blif.specs.Covers.{bit_of}
use Rattle.surf_text.specs.Bytes.{is_blank, is_filled, tokens_of}

abbrev pub total : List (List ℕ) → ℕ
total [] = 0
total (t ∷ ts) = length t + total ts

onto_total : (b : ℕ) (ts : List (List ℕ)) → total (onto_first b ts) ≡ suc (total ts)
onto_total b [] = refl
onto_total b (t ∷ ts) = omega arith

split_if : (c : Bool) (b n : ℕ) (ts : List (List ℕ)) → total ts ≤ n → total (if c then [] ∷ ts else onto_first b ts) ≤ suc n
split_if true b n ts h = omega (arith, h)
split_if false b n ts h = omega (arith, h, onto_total b ts)

split_total : (p : ℕ → Bool) (line : List ℕ) → total (slice_split p line) ≤ length line
split_total p [] = omega arith
split_total p (b ∷ bs) = split_if (p b) b (length bs) (slice_split p bs) (split_total p bs)

filter_if : (c : Bool) (t : List ℕ) (ts us : List (List ℕ)) → total ts ≤ total us → total (if c then t ∷ ts else ts) ≤ length t + total us
filter_if true t ts us h = omega (arith, h)
filter_if false t ts us h = omega (arith, h)

filter_total : (p : List ℕ → Bool) (ts : List (List ℕ)) → total (filter p ts) ≤ total ts
filter_total p [] = omega arith
filter_total p (t ∷ ts) = filter_if (p t) t (filter p ts) ts (filter_total p ts)

pub tokens_total : (line : List ℕ) → total (tokens_of line) ≤ length line
tokens_total line = omega (arith, filter_total is_filled (slice_split is_blank line), split_total is_blank line)

-- two tokens, the second of some bytes
pub two_within : (line : List ℕ) (t u : List ℕ) (ts : List (List ℕ)) → tokens_of line ≡ t ∷ u ∷ ts → 0 < length u → 1 + length t ≤ length line
two_within line t u ts is some = omega (arith, tokens_total line, ap total is, some)

pub bit_some : (u : List ℕ) (b : Bool) → bit_of u ≡ Some b → 0 < length u
bit_some [] b is = cc
bit_some (x ∷ xs) b is = omega arith
