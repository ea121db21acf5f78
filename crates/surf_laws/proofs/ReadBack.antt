-- A manifest with a recorded run behind it is read as both.
use Rattle.std.proofs.Common.{ℕ, ◌≡◌, ◌+◌, ◌^◌, ◌<◌, Bool, true, false, not, ◌==◌, List, [], ◌∷◌, ◌++◌, length, map, codes, refl, sym, subst, ◌∙◌, ap, arith, Option, Some, None, Result, Ok, All, append_assoc, if◌then◌else◌}
use Rattle.std.specs.List.{list_all, onto_first}
use Rattle.std.specs.Str.{bytes_eq}
use Rattle.std.proofs.lemmas.Bool.{and_parts, not-true}
use Rattle.surf_world.proofs.Renamed.{bytes_to}
use Rattle.surf_text.specs.Bytes.{lines_of, tokens_of, trimmed, ended}
use Rattle.surf_world.specs.declared.event.Event.{Event}
use Rattle.surf_world.specs.Systems.{left_by}
use Rattle.surf_manifest_lines.specs.declared.error.ManifestError.{ManifestError}
use Rattle.surf_manifest_lines.specs.Line.{Line, Unknown, line_of, line_of_text}
use Rattle.surf_manifest.specs.Grammar.{ManifestText, known, line_fault, unless_fault, read_from, manifest_of}
use Rattle.surf_manifest.specs.WellFormed.{IsWellFormed}
use Rattle.surf_manifest.proofs.Good.{gives_well_formed}
use Rattle.surf_manifest_lines.proofs.WellFormed.{both}
use Rattle.surf_manifest_print.specs.Legends.{LegendText, IsLegend}
use Rattle.surf_manifest_print.specs.LegendTexts.{legend_in, legend_of}
use Rattle.surf_manifest_print.specs.Prints.{block_lines, geometry_text, legend_lines, option_text, print_of, wrap_text}
use Rattle.surf_manifest_print.proofs.LegendBack.{reads_legend}
use Rattle.surf_manifest_print.proofs.Whole.{reads_print}
use Rattle.surf_trace.specs.declared.error.TraceError.{TraceError}
use Rattle.surf_trace.specs.Splits.{opens_trace, before_trace}
use Rattle.surf_trace.specs.Traces.{events_text, trace_text}
use Rattle.surf_trace.specs.TraceTexts.{block_of, event_of, event_then, is_skipped, trace_in, trace_of, IsShort}
use Rattle.surf_trace.proofs.ReadBack.{trace_back}
use Rattle.surf_command_traces.specs.Finals.{legend_before}
use Rattle.surf_command_runs.specs.Runs.{state_text}
use Rattle.surf_command_traces.specs.Traced.{replay_of, manifest_before}
use Rattle.surf_laws.specs.ReadBack.{EndsLine, IsReadBack, AreReadBack, RunsAreShort, TracesAreReadBack, RunsAreReadBack, IsToldBack, PrintsAreReadBack, PrintsEndLines}
use Rattle.surf_laws.proofs.ShortEvents.{events_short}

-- texts whose lines are whole
abbrev IsClosed : List ℕ → Type 0
IsClosed text = (more : List ℕ) → lines_of (text ++ more) ≡ lines_of text ++ lines_of more

onto_some : (b : ℕ) (xs ys : List (List ℕ)) → 0 < length xs → onto_first b (xs ++ ys) ≡ onto_first b xs ++ ys
onto_some b [] ys some = absurd (omega arith)
onto_some b (x ∷ xs) ys some = refl

onto_fills : (b : ℕ) (xs : List (List ℕ)) → 0 < length (onto_first b xs)
onto_fills b [] = omega arith
onto_fills b (x ∷ xs) = omega arith

has_lines : (t : List ℕ) → 0 < length (lines_of (t ++ codes "\n"))
has_lines [] = omega arith
has_lines (b ∷ bs) = when (b == 10)
  where
    when : (is : Bool) → 0 < length (if is then [] ∷ lines_of (bs ++ codes "\n") else onto_first b (lines_of (bs ++ codes "\n")))
    when true = omega arith
    when false = onto_fills b (lines_of (bs ++ codes "\n"))

closed_more : (b : ℕ) (bs more : List ℕ) (is : Bool) → lines_of ((bs ++ codes "\n") ++ more) ≡ lines_of (bs ++ codes "\n") ++ lines_of more
    → (if is then [] ∷ lines_of ((bs ++ codes "\n") ++ more) else onto_first b (lines_of ((bs ++ codes "\n") ++ more)))
    ≡ (if is then [] ∷ lines_of (bs ++ codes "\n") else onto_first b (lines_of (bs ++ codes "\n"))) ++ lines_of more
closed_more b bs more true h = ap (λ v. [] ∷ v) h
closed_more b bs more false h = ap (onto_first b) h ∙ onto_some b (lines_of (bs ++ codes "\n")) (lines_of more) (has_lines bs)

closed_end : (t : List ℕ) → IsClosed (t ++ codes "\n")
closed_end [] more = refl
closed_end (b ∷ bs) more = closed_more b bs more (b == 10) (closed_end bs more)

closed_same : (x y : List ℕ) → x ≡ y → IsClosed x → IsClosed y
closed_same x y e h more = ap (λ v. lines_of (v ++ more)) (sym e) ∙ (h more ∙ ap (λ v. lines_of v ++ lines_of more) e)

closed_text : (text : List ℕ) → EndsLine text → IsClosed text
closed_text text e = closed_same (e.0 ++ codes "\n") text (sym e.1) (closed_end e.0)

one_before : (t text : List ℕ) → EndsLine text → EndsLine (t ++ 10 ∷ text)
one_before t text e = (t ++ 10 ∷ e.0, ap (λ v. t ++ 10 ∷ v) e.1 ∙ sym (append_assoc t (10 ∷ e.0) (codes "\n")))

some_end : (t : List ℕ) (ts : List (List ℕ)) → EndsLine (ended (t ∷ ts))
some_end t [] = (t, refl)
some_end t (u ∷ us) = one_before t (ended (u ∷ us)) (some_end u us)

lines_end : (ts : List (List ℕ)) (u : List ℕ) (us : List (List ℕ)) → EndsLine (ended (ts ++ u ∷ us))
lines_end [] u us = some_end u us
lines_end (t ∷ ts) u us = one_before t (ended (ts ++ u ∷ us)) (lines_end ts u us)

-- no line opens a trace
abbrev no_trace : List (List ℕ) → Bool
no_trace ls = list_all (λ l. not (opens_trace l)) ls

opening_unknown : (l : List ℕ) → opens_trace l ≡ true → line_of l ≡ Unknown
opening_unknown l is = ap line_of_text (bytes_to (trimmed l) (codes "!START_TRACE") is)

-- the grammar has a fault at such a line
no_opening : (above : List Line) (l : List ℕ) (r : Result ManifestText ManifestError) (m : ManifestText) (b : Bool) → opens_trace l ≡ b → unless_fault (line_fault (known above) (line_of l)) r ≡ Ok m → b ≡ false
no_opening above l r m false is read = refl
no_opening above l r m true is read =
    let e : unless_fault (line_fault (known above) Unknown) r ≡ Ok m = ap (λ v. unless_fault (line_fault (known above) v) r) (sym (opening_unknown l is)) ∙ read in
    absurd cc

no_fault : (f : Option ManifestError) (r : Result ManifestText ManifestError) (m : ManifestText) → unless_fault f r ≡ Ok m → r ≡ Ok m
no_fault None r m read = read
no_fault (Some f) r m read = absurd cc

none_opens : (above : List Line) (ls : List (List ℕ)) (m : ManifestText) → read_from above (map line_of ls) ≡ Ok m → no_trace ls ≡ true
none_opens above [] m read = refl
none_opens above (l ∷ ls) m read =
    both (not (opens_trace l)) (no_trace ls)
    (ap not (no_opening above l (read_from (line_of l ∷ above) (map line_of ls)) m (opens_trace l) refl read))
    (none_opens (line_of l ∷ above) ls m (no_fault (line_fault (known above) (line_of l)) (read_from (line_of l ∷ above) (map line_of ls)) m read))

-- what stands before the first line that opens one
before_is : (ls : List (List ℕ)) (l : List ℕ) (more : List (List ℕ)) → no_trace ls ≡ true → opens_trace l ≡ true → before_trace (ls ++ l ∷ more) ≡ ls
before_is [] l more none is = rw is refl
before_is (t ∷ ts) l more none is =
    let p = and_parts (not (opens_trace t)) (no_trace ts) none in
    rw (not-true (opens_trace t) p.0) (ap (λ v. t ∷ v) (before_is ts l more p.1 is))

-- the events of a block are the same with more lines above it
if_goes : {R : Type 0} (b : Bool) (x y v w z : R) → (x ≡ z → v ≡ z) → (y ≡ z → w ≡ z) → (if b then x else y) ≡ z → (if b then v else w) ≡ z
if_goes true x y v w z h k is = h is
if_goes false x y v w z h k is = k is

then_goes : (o : Option Event) (n k : ℕ) (more next : Event → Result (List Event) TraceError) (es : List Event) → ((e : Event) → more e ≡ Ok es → next e ≡ Ok es) → event_then o n more ≡ Ok es → event_then o k next ≡ Ok es
then_goes None n k more next es goes is = absurd cc
then_goes (Some e) n k more next es goes is = goes e is

block_anywhere : (opened line above next : ℕ) (done : List Event) (ls : List (List ℕ)) (es : List Event) → block_of opened line done ls ≡ Ok es → block_of above next done ls ≡ Ok es
block_anywhere opened line above next done [] es is = absurd cc
block_anywhere opened line above next done (l ∷ ls) es is =
    if_goes (bytes_eq (trimmed l) (codes "!END_TRACE")) (Ok done) _ (Ok done) _ (Ok es) (λ h. h)
    (λ h. if_goes (is_skipped (trimmed l)) (block_of opened (line + 1) done ls) _ (block_of above (next + 1) done ls) _ (Ok es)
    (λ k. block_anywhere opened (line + 1) above (next + 1) done ls es k)
    (λ k. then_goes (event_of (length done + 1) (tokens_of (trimmed l))) (line + 1) (next + 1)
    (λ e. block_of opened (line + 1) (done ++ e ∷ []) ls) (λ e. block_of above (next + 1) (done ++ e ∷ []) ls) es
    (λ e g. block_anywhere opened (line + 1) above (next + 1) (done ++ e ∷ []) ls es g) k) h) is

trace_anywhere : (line next : ℕ) (ls : List (List ℕ)) (es : List Event) → trace_in line ls ≡ Ok es → trace_in next ls ≡ Ok es
trace_anywhere line next [] es is = absurd cc
trace_anywhere line next (l ∷ ls) es is =
    if_goes (opens_trace l) (block_of (line + 1) (line + 1) [] ls) (trace_in (line + 1) ls) (block_of (next + 1) (next + 1) [] ls) (trace_in (next + 1) ls) (Ok es)
    (λ h. block_anywhere (line + 1) (line + 1) (next + 1) (next + 1) [] ls es h)
    (λ h. trace_anywhere (line + 1) (next + 1) ls es h) is

trace_behind : (line : ℕ) (ls more : List (List ℕ)) (es : List Event) → no_trace ls ≡ true → trace_in 0 more ≡ Ok es → trace_in line (ls ++ more) ≡ Ok es
trace_behind line [] more es none is = trace_anywhere 0 line more es is
trace_behind line (t ∷ ts) more es none is =
    let p = and_parts (not (opens_trace t)) (no_trace ts) none in
    rw (not-true (opens_trace t) p.0) (trace_behind (line + 1) ts more es p.1 is)

-- a text of whole lines that the grammar reads
module _ (text rest : List ℕ) (m : ManifestText) (es : List Event) (closed : IsClosed text) (read : manifest_of text ≡ Ok m) (few : length es < 2 ^ 64) (short : All IsShort es) where
  tail_lines : lines_of (trace_text es ++ rest) ≡ codes "!START_TRACE" ∷ lines_of ((events_text 0 es ++ codes "!END_TRACE\n") ++ rest)
  tail_lines = refl

  quiet : no_trace (lines_of text) ≡ true
  quiet = none_opens [] (lines_of text) m read

  lines_before : before_trace (lines_of (text ++ (trace_text es ++ rest))) ≡ lines_of text
  lines_before =
      ap before_trace (closed (trace_text es ++ rest) ∙ ap (λ v. lines_of text ++ v) tail_lines)
      ∙ before_is (lines_of text) (codes "!START_TRACE") (lines_of ((events_text 0 es ++ codes "!END_TRACE\n") ++ rest)) quiet refl

  manifest_same : manifest_before (text ++ (trace_text es ++ rest)) ≡ Ok m
  manifest_same = ap (λ ls. read_from [] (map line_of ls)) lines_before ∙ read

  events_same : trace_of (text ++ (trace_text es ++ rest)) ≡ Ok es
  events_same = ap (trace_in 0) (closed (trace_text es ++ rest)) ∙ trace_behind 0 (lines_of text) (lines_of (trace_text es ++ rest)) es quiet (trace_back es rest few short)

  pub is_read_back : IsReadBack text (trace_text es ++ rest) m es
  is_read_back = record {
    manifest = manifest_same;
    legend = ap (legend_in 0 (record { inputs = []; outputs = []; events = None })) lines_before;
    events = events_same;
    replayed = ap (λ r. replay_of r (trace_of (text ++ (trace_text es ++ rest)))) manifest_same ∙ ap (replay_of (Ok m)) events_same;
  }

pub are_read_back : AreReadBack
are_read_back text rest m es e read few short = is_read_back text rest m es (closed_text text e) read few short

pub runs_are_short : RunsAreShort
runs_are_short text m es read run = events_short m es (gives_well_formed text m read) run

pub traces_are_read_back : TracesAreReadBack
traces_are_read_back text rest m es e read run few = are_read_back text rest m es e read few (runs_are_short text m es read run)

pub runs_are_read_back : RunsAreReadBack
runs_are_read_back text out m count e read few r =
    let most = r.at_most in
    let rest = state_text m.system.surface.grid (left_by m.system.surface m.system.start r.events) r.word in
    subst (λ v. IsReadBack text v m r.events) (sym r.is)
    (traces_are_read_back text rest m r.events e read r.enabled (omega (arith, most, few)))

pub prints_end_lines : PrintsEndLines
prints_end_lines m l = lines_end (legend_lines l) (geometry_text m.system.surface.grid.kind) (wrap_text m.system.surface.grid.wrap ∷ (map option_text m.options ++ block_lines m))

told_back : (m : ManifestText) (l : Option LegendText) (input : List ℕ) → IsWellFormed m → IsLegend l → legend_before input ≡ legend_of (print_of m l) → IsToldBack input l
told_back m None input formed is same = tt
told_back m (Some l) input formed is same = λ apart. same ∙ reads_legend m l formed is apart

pub prints_are_read_back : PrintsAreReadBack
prints_are_read_back m l es rest formed is few short =
    let back = are_read_back (print_of m l) rest m es (prints_end_lines m l) (reads_print m l formed is) few short in
    (back, told_back m l (print_of m l ++ (trace_text es ++ rest)) formed is back.legend)
