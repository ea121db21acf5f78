-- The automaton that a table's text spells, or the text's first fault.
use Rattle.std.specs.Prelude.{◌≡◌, ℕ, ◌+◌, ◌*◌, ◌||◌, ◌==◌, nat_lt, List, [], ◌∷◌, ◌++◌, length, map, replicate, Option, Some, None, Result, Ok, Err, if◌then◌else◌}
use Rattle.std.specs.List.{concat, flat_map, range_with_len}
use Rattle.surf_lattice.specs.declared.site.GridKind.{GridKind}
use Rattle.surf_lattice.specs.declared.site.GridKind.TheVariants.{Square, Hex}
use Rattle.surf_text.specs.Bytes.{lines_of}
use Rattle.surf_auto.specs.declared.error.SourceError.{SourceError}
use Rattle.surf_auto.specs.declared.error.SourceError.TheVariants.{BadHeader, RuleForm, TorusSize, EmptyGrid, GridTooLarge, BadItem, OutOfBox, BadTable, Unclosed, TooManyRules, NoMemory}
use Rattle.surf_auto.specs.Locals.{rule_count}
use Rattle.surf_auto.specs.Tables.{greatest, table_rule}
use Rattle.surf_auto.specs.Sync.{Universe, plain, universe}
use Rattle.surf_table.specs.TableLines.{Line, lines_from, version_line, degree_line, states_line, edge_line, weights_line, next_line, size_line, row_line, end_line}

-- ---- one line after another: what was read and the lines that follow, or a fault

abbrev pub read_line : {A : Type 0} → ℕ → List Line → Option A → Result (A × List Line) SourceError
read_line number ls None = Err (BadTable number)
read_line number ls (Some a) = Ok (a, ls)

-- the next line, which must be the expected one
abbrev pub read : {A : Type 0} → (List (List ℕ) → Option A) → List Line →
    Result (A × List Line) SourceError
read expected [] = Err Unclosed
read expected (l ∷ ls) = read_line l.number ls (expected l.words)

-- goes on behind what was read
abbrev pub and_then : {A B : Type 0} → Result (A × List Line) SourceError →
    (A → List Line → Result B SourceError) → Result B SourceError
and_then (Err f) more = Err f
and_then (Ok r) more = more r.0 r.1

-- a line for each that is expected, in this order
abbrev pub read_all : {A : Type 0} → List (List (List ℕ) → Option A) → List Line →
    Result (List A × List Line) SourceError
read_all [] ls = Ok ([], ls)
read_all (expected ∷ more) ls =
    and_then (read expected ls) (λ a rest. and_then (read_all more rest)
    (λ further behind. Ok (a ∷ further, behind)))

-- all rows that were read, as f puts them together
abbrev pub gathered : (List (List ℕ) → List ℕ) → Result (List (List ℕ) × List Line) SourceError →
    Result (List ℕ × List Line) SourceError
gathered f (Err e) = Err e
gathered f (Ok r) = Ok (f r.0, r.1)

-- ---- the parts of the text

-- the degree, the edge state, and a weight for each state
pub record Head : Type 0 where
  pub degree : ℕ
  pub edge : ℕ
  pub weights : List ℕ

-- the number of rules, for which the next states don't matter
abbrev pub rules_of : ℕ → List ℕ → ℕ
rules_of degree weights =
    rule_count (table_rule (record { degree = degree; weights = weights; next = [] }))

abbrev pub if_few_rules : Head → List Line → Result (Head × List Line) SourceError
if_few_rules h ls =
    if nat_lt 1048576 (rules_of h.degree h.weights) then Err
    (TooManyRules (rules_of h.degree h.weights)) else Ok (h, ls)

abbrev pub read_head : List Line → Result (Head × List Line) SourceError
read_head ls0 =
    and_then (read version_line ls0) (λ version ls1.
    and_then (read degree_line ls1) (λ degree ls2.
    and_then (read states_line ls2) (λ states ls3.
    and_then (read (edge_line states) ls3) (λ edge ls4.
    and_then (read (weights_line states) ls4) (λ weights ls5.
    if_few_rules (record { degree = degree; edge = edge; weights = weights }) ls5)))))

-- the number of sums of weights
abbrev pub sums_of : ℕ → List ℕ → ℕ
sums_of degree weights = degree * greatest weights + 1

-- one line of next states for each of n own states
abbrev pub next_lines : ℕ → ℕ → List (List (List ℕ) → Option (List ℕ))
next_lines sums n = map (next_line sums n) (range_with_len 0 n)

-- the next states of all own states, one row after another
abbrev pub read_next : ℕ → ℕ → List Line → Result (List ℕ × List Line) SourceError
read_next sums n ls = gathered concat (read_all (next_lines sums n) ls)

abbrev pub site_count : ℕ → ℕ × ℕ → ℕ
site_count margin size = (size.0 + 2 * margin) * (size.1 + 2 * margin)

abbrev pub if_fits : ℕ → ℕ × ℕ → List Line → Result ((ℕ × ℕ) × List Line) SourceError
if_fits margin size ls =
    if (size.0 == 0) || (size.1 == 0) then Err EmptyGrid
    else if nat_lt 1000000 (site_count margin size) then Err (GridTooLarge (site_count margin size))
    else Ok (size, ls)

abbrev pub read_size : ℕ → List Line → Result ((ℕ × ℕ) × List Line) SourceError
read_size margin ls = and_then (read size_line ls) (if_fits margin)

-- h rows of w states below n
abbrev pub row_lines : ℕ → ℕ × ℕ → List (List (List ℕ) → Option (List ℕ))
row_lines n size = replicate size.1 (row_line n size.0)

-- a row with the margin at its ends
abbrev pub widened : ℕ → ℕ → List ℕ → List ℕ
widened margin edge row = replicate margin edge ++ (row ++ replicate margin edge)

-- the rows of the margin above or below a box of this width
abbrev pub margin_rows : ℕ → ℕ → ℕ → List ℕ
margin_rows margin edge width = replicate (margin * (width + 2 * margin)) edge

-- the rows with the margin round them
abbrev pub framed : ℕ → ℕ → ℕ → List (List ℕ) → List ℕ
framed margin edge width rows =
    margin_rows margin edge width ++ (flat_map (widened margin edge) rows
    ++ margin_rows margin edge width)

-- the cells of the box and of its margin, in row-major order
abbrev pub read_cells : ℕ → ℕ → ℕ → ℕ × ℕ → List Line → Result (List ℕ × List Line) SourceError
read_cells margin edge n size ls =
    gathered (framed margin edge size.0) (read_all (row_lines n size) ls)

-- ---- the automaton

abbrev pub kind_of : ℕ → GridKind
kind_of degree = if degree == 6 then Hex else Square

abbrev pub automaton_of : ℕ → Head → List ℕ → ℕ × ℕ → List ℕ → Universe
automaton_of margin h next size cells =
    universe (plain (kind_of h.degree) (size.0 + 2 * margin) (size.1 + 2 * margin))
    (table_rule (record { degree = h.degree; weights = h.weights; next = next })) h.edge cells

-- what these lines spell, with a margin so wide; no line behind the end is looked at
abbrev pub read_table : ℕ → List Line → Result Universe SourceError
read_table margin ls0 =
    and_then (read_head ls0) (λ head ls1.
    and_then (read_next (sums_of head.degree head.weights) (length head.weights) ls1) (λ next ls2.
    and_then (read_size margin ls2) (λ size ls3.
    and_then (read_cells margin head.edge (length head.weights) size ls3) (λ cells ls4.
    and_then (read end_line ls4) (λ end ls5.
    Ok (automaton_of margin head next size cells))))))

abbrev pub table_of : ℕ → List ℕ → Result Universe SourceError
table_of margin bytes = read_table margin (lines_from 0 (lines_of bytes))

-- the refusal is this fault, or memory fails; no other fault comes
abbrev pub Refuses : {A : Type 0} → Result A SourceError → SourceError → Type 0
Refuses r (BadTable n) = r ≡ Err (BadTable n)
Refuses r Unclosed = r ≡ Err Unclosed
Refuses r EmptyGrid = r ≡ Err EmptyGrid
Refuses r (GridTooLarge n) = r ≡ Err (GridTooLarge n)
Refuses r (TooManyRules n) = r ≡ Err (TooManyRules n)
Refuses r NoMemory = Unit {0}
Refuses r (BadHeader n) = ⊥
Refuses r (RuleForm n) = ⊥
Refuses r (TorusSize n) = ⊥
Refuses r (BadItem n) = ⊥
Refuses r (OutOfBox n) = ⊥
