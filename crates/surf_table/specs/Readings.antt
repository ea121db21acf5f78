-- What a reader has of the lines, and what it keeps of them.
use Rattle.std.specs.Prelude.{ℕ, List, ◌++◌, Option, Some, None, Result, Ok, Err}
use Rattle.std.specs.List.{flat_map}
use Rattle.surf_auto.specs.declared.error.SourceError.{SourceError}
use Rattle.surf_text.specs.Bytes.{tokens_of}
use Rattle.surf_table.specs.TableLines as lines
use Rattle.surf_table.specs.TableTexts.{Head}
use Rattle.surf_table.specs.declared.head.Header.{Header}
use Rattle.surf_table.specs.declared.lines.Line.{Line}

-- the line that stands here
abbrev pub line_by : Line → lines.Line
line_by l = record { number = l.number; words = tokens_of l.words.now }

abbrev pub onto : List ℕ → Option (List ℕ) → Option (List ℕ)
onto kept None = None
onto kept (Some ks) = Some (kept ++ ks)

-- the numbers that were read, behind those that are kept
abbrev pub kept_with : List ℕ → Result (List ℕ × List lines.Line) SourceError →
    Result (List ℕ × List lines.Line) SourceError
kept_with kept (Err f) = Err f
kept_with kept (Ok r) = Ok (kept ++ r.0, r.1)

-- the same of a row, as f leaves it, and of many
abbrev pub each_kept_with : (List ℕ → List ℕ) → List ℕ →
    Result (List ℕ × List lines.Line) SourceError → Result (List ℕ × List lines.Line) SourceError
each_kept_with f kept (Err e) = Err e
each_kept_with f kept (Ok r) = Ok (kept ++ f r.0, r.1)

abbrev pub all_kept_with : (List ℕ → List ℕ) → List ℕ →
    Result (List (List ℕ) × List lines.Line) SourceError →
    Result (List ℕ × List lines.Line) SourceError
all_kept_with f kept (Err e) = Err e
all_kept_with f kept (Ok r) = Ok (kept ++ flat_map f r.0, r.1)

abbrev pub head_by : Header → Head
head_by h = record { degree = h.degree; edge = h.edge; weights = h.weights.items }
