-- The lines that are not skipped, and the first of them.
use Rattle.std.proofs.Common.{ℕ, ◌≡◌, ◌+◌, Bool, true, false, List, [], ◌∷◌, Option, Some, None, refl, ap, if◌then◌else◌}
use Rattle.surf_text.specs.Bytes.{tokens_of, trimmed}
use Rattle.surf_text.specs.Cursors.{Kept, first_kept}
use Rattle.surf_table.specs.TableLines.{Line, is_skipped, lines_from}

-- the lines from a kept one on
abbrev kept_on : Kept → List Line
kept_on k = record { number = k.number; words = tokens_of k.line } ∷ lines_from k.number k.behind

found_if : (b : Bool) (k t : Kept) (ls : List Line) (o : Option Kept) → (o ≡ Some k → ls ≡ kept_on k) → (if b then o else Some t) ≡ Some k → (if b then ls else kept_on t) ≡ kept_on k
found_if true k t ls o more is = more is
found_if false k t ls o more is =
    let same : t ≡ k = cc in
    ap kept_on same

pub line_found : (n : ℕ) (lines : List (List ℕ)) (k : Kept) → first_kept is_skipped n lines ≡ Some k → lines_from n lines ≡ record { number = k.number; words = tokens_of k.line } ∷ lines_from k.number k.behind
line_found n [] k is = cc
line_found n (t ∷ ts) k is =
    found_if (is_skipped (trimmed t)) k (record { line = trimmed t; number = n + 1; behind = ts }) (lines_from (n + 1) ts) (first_kept is_skipped (n + 1) ts) (line_found (n + 1) ts k) is

none_if : (b : Bool) (t : Kept) (o : Option Kept) → (if b then o else Some t) ≡ None → (b ≡ true) × (o ≡ None)
none_if true t o is = (refl, is)
none_if false t o is = cc

pub line_missing : (n : ℕ) (lines : List (List ℕ)) → first_kept is_skipped n lines ≡ None → lines_from n lines ≡ []
line_missing n [] is = refl
line_missing n (t ∷ ts) is =
    let m = none_if (is_skipped (trimmed t)) _ (first_kept is_skipped (n + 1) ts) is in
    rw m.0 (line_missing (n + 1) ts m.1)
