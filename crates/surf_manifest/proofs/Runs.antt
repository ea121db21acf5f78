-- One line more of the loop.
use Rattle.std.proofs.Common.{ℕ, ◌≡◌, ◌+◌, ◌-◌, ◌<◌, ◌≤◌, List, [], ◌∷◌, map, refl, sym, ◌∙◌, ap, subst, Option, Some, None, Result, Ok, Err, length, arith}
use Rattle.surf_manifest_lines.specs.declared.error.ManifestError.{ManifestError}
use Rattle.surf_manifest_lines.specs.Answers.{Refuses}
use Rattle.surf_text.specs.Bytes.{lines_of}
use Rattle.surf_manifest.specs.Grammar.{ManifestText, unless_fault, line_fault, manifest_of}
use Rattle.surf_manifest.specs.Limits.{Reached, known_by, after_line, after_lines, line_step, finished, read_on, at_start}
use Rattle.surf_manifest_lines.specs.Line.{Line, line_of}
use Rattle.surf_manifest.specs.Readings.{IsCounted, IsHeldWithin}
use Rattle.surf_manifest.proofs.Counts.{counted_line}
use Rattle.surf_manifest.proofs.LimitLemmas.{reads_on}
use Rattle.surf_manifest.proofs.RowLemmas.{refuses_by}

went : (o : Option ManifestError) (n d : Reached) (ls : List Line) → unless_fault o (Ok n) ≡ Ok d → unless_fault o (read_on n ls) ≡ read_on d ls
went None n d ls h = let e : n ≡ d = cc in ap (λ s. read_on s ls) e
went (Some f) n d ls h = cc

ended_at : (o : Option ManifestError) (n : Reached) (f : ManifestError) (r : Result ManifestText ManifestError) → unless_fault o (Ok n) ≡ Err f → unless_fault o r ≡ Err f
ended_at None n f r h = cc
ended_at (Some g) n f r h = cc

pub goes_on : (s d : Reached) (bytes line rest : List ℕ) → lines_of bytes ≡ line ∷ lines_of rest → line_step s (line_of line) ≡ Ok d
    → read_on s (map line_of (lines_of bytes)) ≡ read_on d (map line_of (lines_of rest))
goes_on s d bytes line rest is h =
    ap (λ v. read_on s (map line_of v)) is ∙ went (line_fault (known_by s) (line_of line)) (after_line s (line_of line)) d (map line_of (lines_of rest)) h

stops : (s : Reached) (f : ManifestError) (bytes line rest : List ℕ) → lines_of bytes ≡ line ∷ lines_of rest → line_step s (line_of line) ≡ Err f
    → read_on s (map line_of (lines_of bytes)) ≡ Err f
stops s f bytes line rest is h =
    ap (λ v. read_on s (map line_of v)) is ∙ ended_at (line_fault (known_by s) (line_of line)) (after_line s (line_of line)) f (read_on (after_line s (line_of line)) (map line_of (lines_of rest))) h

pub begins : (s : Reached) (bytes : List ℕ) → s ≡ at_start → manifest_of bytes ≡ read_on s (map line_of (lines_of bytes))
begins s bytes is = sym (reads_on bytes) ∙ ap (λ v. read_on v (map line_of (lines_of bytes))) (sym is)

after_went : (o : Option ManifestError) (n d : Reached) (ls : List Line) → unless_fault o (Ok n) ≡ Ok d → after_lines n ls ≡ after_lines d ls
after_went None n d ls h = let e : n ≡ d = cc in ap (λ s. after_lines s ls) e
after_went (Some f) n d ls h = cc

pub after_goes_on : (s d : Reached) (bytes line rest : List ℕ) → lines_of bytes ≡ line ∷ lines_of rest → line_step s (line_of line) ≡ Ok d
    → after_lines s (map line_of (lines_of bytes)) ≡ after_lines d (map line_of (lines_of rest))
after_goes_on s d bytes line rest is h =
    ap (λ v. after_lines s (map line_of v)) is ∙ after_went (line_fault (known_by s) (line_of line)) (after_line s (line_of line)) d (map line_of (lines_of rest)) h

pub after_begins : (s : Reached) (bytes : List ℕ) → s ≡ at_start → after_lines at_start (map line_of (lines_of bytes)) ≡ after_lines s (map line_of (lines_of bytes))
after_begins s bytes is = ap (λ v. after_lines v (map line_of (lines_of bytes))) (sym is)

pub after_ends : (s : Reached) (rest : List ℕ) → length rest ≡ 0 → after_lines s (map line_of (lines_of rest)) ≡ s
after_ends s [] is = refl
after_ends s (b ∷ bs) is = absurd (omega (arith, is))

pub ends : (s : Reached) (rest : List ℕ) → length rest ≡ 0 → read_on s (map line_of (lines_of rest)) ≡ finished s
ends s [] is = refl
ends s (b ∷ bs) is = absurd (omega (arith, is))

pub refused : (s : Reached) (f : ManifestError) (all bytes line rest : List ℕ) → manifest_of all ≡ read_on s (map line_of (lines_of bytes)) → lines_of bytes ≡ line ∷ lines_of rest
    → Refuses (line_step s (line_of line)) f → Refuses (manifest_of all) f
refused s f all bytes line rest so is h =
    refuses_by (line_step s (line_of line)) (manifest_of all) f (λ g e. so ∙ stops s g bytes line rest is e) h

-- the counts
pub counted_start : (s : Reached) (n : ℕ) → s ≡ at_start → IsCounted n s
counted_start s n is =
    subst (λ (v : Reached). IsCounted n v) (sym is)
    (let w : IsHeldWithin n at_start.held = record { rules = omega arith; sites = omega arith; width = omega arith; height = omega arith } in
    record { number = omega arith; held = w })

pub counted_on : (all : ℕ) (bytes line rest : List ℕ) (s d : Reached) → length bytes ≤ all → length rest < length bytes → length line + length rest ≤ length bytes
    → IsCounted (all - length bytes) s → line_step s (line_of line) ≡ Ok d → IsCounted (all - length rest) d
counted_on all bytes line rest s d within shorter part w is =
    let m = length bytes - length rest in
    let e : all - length bytes + m ≡ all - length rest = omega (arith, within, shorter) in
    subst (λ n. IsCounted n d) e (counted_line (all - length bytes) m s d line (omega (arith, shorter)) (omega (arith, part)) w is)

held_on : (n m : ℕ) (s : Reached) → n ≤ m → IsCounted n s → IsCounted m s
held_on n m s le w = record {
  number = omega (arith, w.number, le);
  held = record { rules = omega (arith, w.held.rules, le); sites = omega (arith, w.held.sites, le); width = omega (arith, w.held.width, le); height = omega (arith, w.held.height, le) };
}

pub counted_end : (all : ℕ) (bytes : List ℕ) (s : Reached) → all ≤ 2147483648 → IsCounted (all - length bytes) s → IsCounted 2147483648 s
counted_end all bytes s le w = held_on (all - length bytes) 2147483648 s (omega (arith, le)) w
