-- The line of the header is the first that is kept.
use Rattle.std.proofs.Common.{ℕ, suc, ◌≡◌, ◌+◌, Bool, true, false, List, [], ◌∷◌, length, Option, Some, None, Result, Err, refl, sym, ap, subst, arith, if◌then◌else◌, ◌∙◌}
use Rattle.surf_text.specs.Bytes.{lines_of, trimmed}
use Rattle.surf_text.specs.Cursors.{Cursor, Kept, first_kept}
use Rattle.surf_auto.specs.declared.error.SourceError.{SourceError}
use Rattle.surf_auto.specs.declared.error.SourceError.TheVariants.{BadHeader}
use Rattle.surf_rle.specs.Headers.{header_of}
use Rattle.surf_rle.specs.Sources.{Source}
use Rattle.surf_rle.specs.Rle.{if_header, is_skipped, rle_from, rle_of}

found_if : (b : Bool) (margin n : ℕ) (t : List ℕ) (ts : List (List ℕ)) (k : Kept) (r : Result Source SourceError) (o : Option Kept) → (o ≡ Some k → r ≡ if_header margin k.number (header_of k.line) k.behind)
    → (if b then o else Some (record { line = t; number = n; behind = ts })) ≡ Some k
    → (if b then r else if_header margin n (header_of t) ts) ≡ if_header margin k.number (header_of k.line) k.behind
found_if true margin n t ts k r o more is = more is
found_if false margin n t ts k r o more is =
    let same : record { line = t; number = n; behind = ts } ≡ k = cc in
    ap (λ (h : Kept). if_header margin h.number (header_of h.line) h.behind) same

pub header_found : (margin n : ℕ) (lines : List (List ℕ)) (k : Kept) → first_kept is_skipped n lines ≡ Some k → rle_from margin (n + 1) lines ≡ if_header margin k.number (header_of k.line) k.behind
header_found margin n [] k is = cc
header_found margin n (t ∷ ts) k is =
    found_if (is_skipped (trimmed t)) margin (n + 1) (trimmed t) ts k (rle_from margin (n + 1 + 1) ts) (first_kept is_skipped (n + 1) ts) (header_found margin (n + 1) ts k) is

none_if : (b : Bool) (t : Kept) (o : Option Kept) → (if b then o else Some t) ≡ None → (b ≡ true) × (o ≡ None)
none_if true t o is = (refl, is)
none_if false t o is = cc

pub header_missing : (margin n : ℕ) (lines : List (List ℕ)) → first_kept is_skipped n lines ≡ None → rle_from margin (n + 1) lines ≡ Err (BadHeader (n + length lines + 1))
header_missing margin n [] is = ap (λ k. Err (BadHeader k)) (let e : n + 1 ≡ n + 0 + 1 = omega arith in e)
header_missing margin n (t ∷ ts) is =
    let m = none_if (is_skipped (trimmed t)) _ (first_kept is_skipped (n + 1) ts) is in
    rw m.0 (header_missing margin (n + 1) ts m.1 ∙ ap (λ k. Err (BadHeader k)) (let e : n + 1 + length ts + 1 ≡ n + suc (length ts) + 1 = omega arith in e))

-- the same of a whole text
pub text_found : (margin : ℕ) (bytes : List ℕ) (start : Cursor) (k : Kept) → start ≡ record { left = bytes; number = 0 } → first_kept is_skipped start.number (lines_of start.left) ≡ Some k
    → rle_of margin bytes ≡ if_header margin k.number (header_of k.line) k.behind
text_found margin bytes start k is kept =
    header_found margin 0 (lines_of bytes) k (subst (λ (s : Cursor). first_kept is_skipped s.number (lines_of s.left) ≡ Some k) is kept)

pub text_missing : (margin : ℕ) (bytes : List ℕ) (start : Cursor) (n : ℕ) → start ≡ record { left = bytes; number = 0 } → first_kept is_skipped start.number (lines_of start.left) ≡ None
    → n ≡ start.number + length (lines_of start.left) → rle_of margin bytes ≡ Err (BadHeader (n + 1))
text_missing margin bytes start n is none count =
    header_missing margin 0 (lines_of bytes) (subst (λ (s : Cursor). first_kept is_skipped s.number (lines_of s.left) ≡ None) is none)
    ∙ ap (λ k. Err (BadHeader (k + 1))) (sym (count ∙ ap (λ (s : Cursor). s.number + length (lines_of s.left)) is))
