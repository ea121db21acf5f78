-- The parts of a text, one after another.
use Rattle.std.proofs.Common.{ℕ, ◌≡◌, List, [], length, Result, Ok, sym, ◌∙◌, ap}
use Rattle.surf_auto.specs.Sync.{Universe}
use Rattle.surf_auto.specs.declared.error.SourceError.{SourceError}
use Rattle.surf_table.specs.TableLines.{Line, end_line}
use Rattle.surf_table.specs.TableTexts.{Head, Refuses, and_then, automaton_of, read, read_cells, read_head, read_next, read_size, read_table, sums_of}
use Rattle.surf_table.proofs.Refusals.{read_first, refused_first, refuses_same}

abbrev behind_cells : ℕ → Head → List ℕ → ℕ × ℕ → List ℕ → List Line → Result Universe SourceError
behind_cells margin h next size cells ls = and_then (read end_line ls) (λ end rest. Ok (automaton_of margin h next size cells))

abbrev behind_size : ℕ → Head → List ℕ → ℕ × ℕ → List Line → Result Universe SourceError
behind_size margin h next size ls = and_then (read_cells margin h.edge (length h.weights) size ls) (behind_cells margin h next size)

abbrev behind_next : ℕ → Head → List ℕ → List Line → Result Universe SourceError
behind_next margin h next ls = and_then (read_size margin ls) (behind_size margin h next)

abbrev behind_head : ℕ → Head → List Line → Result Universe SourceError
behind_head margin h ls = and_then (read_next (sums_of h.degree h.weights) (length h.weights) ls) (behind_next margin h)

module _ (margin : ℕ) (ls0 ls1 ls2 ls3 : List Line) (h : Head) (next : List ℕ) (size : ℕ × ℕ) (head_read : read_head ls0 ≡ Ok (h, ls1)) (next_read : read_next (sums_of h.degree h.weights) (length h.weights) ls1 ≡ Ok (next, ls2)) (size_read : read_size margin ls2 ≡ Ok (size, ls3)) where
  to_size : read_table margin ls0 ≡ behind_size margin h next size ls3
  to_size =
      read_first (read_head ls0) (behind_head margin) h ls1 head_read
      ∙ read_first (read_next (sums_of h.degree h.weights) (length h.weights) ls1) (behind_next margin h) next ls2 next_read
      ∙ read_first (read_size margin ls2) (behind_size margin h next) size ls3 size_read

  pub cells_refused : (f : SourceError) → Refuses (read_cells margin h.edge (length h.weights) size ls3) f → Refuses (read_table margin ls0) f
  cells_refused f r =
      refuses_same (read_table margin ls0) (behind_size margin h next size ls3) f to_size
      (refused_first (read_cells margin h.edge (length h.weights) size ls3) (behind_cells margin h next size) f r)

  module _ (ls4 : List Line) (cells : List ℕ) (cells_read : read_cells margin h.edge (length h.weights) size ls3 ≡ Ok (cells, ls4)) where
    to_cells : read_table margin ls0 ≡ behind_cells margin h next size cells ls4
    to_cells = to_size ∙ read_first (read_cells margin h.edge (length h.weights) size ls3) (behind_cells margin h next size) cells ls4 cells_read

    pub end_refused : (f : SourceError) → Refuses (read end_line ls4) f → Refuses (read_table margin ls0) f
    end_refused f r =
        refuses_same (read_table margin ls0) (behind_cells margin h next size cells ls4) f to_cells
        (refused_first (read end_line ls4) (λ end rest. Ok (automaton_of margin h next size cells)) f r)

    pub all_read : (ls5 : List Line) → read end_line ls4 ≡ Ok ([], ls5) → read_table margin ls0 ≡ Ok (automaton_of margin h next size cells)
    all_read ls5 e = to_cells ∙ read_first (read end_line ls4) (λ end rest. Ok (automaton_of margin h next size cells)) [] ls5 e

pub same_next : (sums n sums2 n2 : ℕ) (ls : List Line) (r : Result (List ℕ × List Line) SourceError) → sums ≡ sums2 → n ≡ n2 → read_next sums n ls ≡ r → read_next sums2 n2 ls ≡ r
same_next sums n sums2 n2 ls r e d h = ap (λ k. read_next k n2 ls) (sym e) ∙ ap (λ k. read_next sums k ls) (sym d) ∙ h

pub same_cells : (margin edge n n2 : ℕ) (size : ℕ × ℕ) (ls : List Line) (r : Result (List ℕ × List Line) SourceError) → n ≡ n2 → read_cells margin edge n size ls ≡ r → read_cells margin edge n2 size ls ≡ r
same_cells margin edge n n2 size ls r e h = ap (λ k. read_cells margin edge k size ls) (sym e) ∙ h
