-- The events that a trace block spells, or the text's first fault.
use Rattle.std.specs.Prelude.{◌≡◌, ℕ, ◌+◌, ◌^◌, ◌<◌, IfSome, Bool, true, false, ◌||◌, ◌==◌, bytes_eq, codes, List, [], ◌∷◌, ◌++◌, length, Option, Some, None, Result, Ok, Err, if◌then◌else◌}
use Rattle.surf_base.specs.Decimal.{decimal_below, decimal_of}
use Rattle.surf_lattice.specs.declared.site.Site.{Site}
use Rattle.surf_lattice.specs.Grids.{site_from}
use Rattle.surf_world.specs.declared.event.Event.{Event}
use Rattle.surf_text.specs.Bytes.{lines_of, tokens_of, trimmed}
use Rattle.surf_trace.specs.declared.error.TraceError.{TraceError}
use Rattle.surf_trace.specs.declared.error.TraceError.TheVariants.{NoTrace, BadTrace, Unclosed, NoMemory}

-- a site whose numbers are at most 4,294,967,295
abbrev pub site_of : List ℕ → List ℕ → Option Site
site_of x y = site_from (decimal_below (2 ^ 32) x) (decimal_below (2 ^ 32) y)

abbrev pub as_second : Option Site → Option (Option Site)
as_second None = None
as_second (Some q) = Some (Some q)

-- the second site, if there is one, from all tokens behind the first site
abbrev pub second_of : List (List ℕ) → Option (Option Site)
second_of [] = Some None
second_of (x ∷ []) = None
second_of (x ∷ y ∷ []) = as_second (site_of x y)
second_of (x ∷ y ∷ t ∷ ts) = None

abbrev pub is_number : ℕ → Option ℕ → Bool
is_number n None = false
is_number n (Some k) = k == n

abbrev pub event_from : Option ℕ → Option Site → Option (Option Site) → Option Event
event_from (Some k) (Some p) (Some q) = Some (record { rule = k; first = p; second = q })
event_from None p q = None
event_from (Some k) None q = None
event_from (Some k) (Some p) None = None

-- the n-th event, from the tokens `n rule x y` or `n rule x1 y1 x2 y2` of its line
abbrev pub event_of : ℕ → List (List ℕ) → Option Event
event_of n [] = None
event_of n (k ∷ []) = None
event_of n (k ∷ r ∷ []) = None
event_of n (k ∷ r ∷ x ∷ []) = None
event_of n (k ∷ r ∷ x ∷ y ∷ ts) =
    if is_number n (decimal_of k) then event_from (decimal_below (2 ^ 32) r) (site_of x y)
    (second_of ts) else None

-- an empty line, or one that begins with # or %
abbrev pub is_skipped : List ℕ → Bool
is_skipped [] = true
is_skipped (b ∷ bs) = (b == 35) || (b == 37)

abbrev pub event_then : Option Event → ℕ → (Event → Result (List Event) TraceError) →
    Result (List Event) TraceError
event_then None line more = Err (BadTrace line)
event_then (Some e) line more = more e

-- the events of a block whose next lines these are, where so many lines and these events stand
-- before them
abbrev pub block_of : ℕ → ℕ → List Event → List (List ℕ) → Result (List Event) TraceError
block_of opened line es [] = Err (Unclosed opened)
block_of opened line es (l ∷ ls) =
    if bytes_eq (trimmed l) (codes "!END_TRACE") then Ok es
    else if is_skipped (trimmed l) then block_of opened (line + 1) es ls
    else event_then (event_of (length es + 1) (tokens_of (trimmed l))) (line + 1)
    (λ e. block_of opened (line + 1) (es ++ e ∷ []) ls)

-- the events of the first block in these lines, where so many lines stand before them
abbrev pub trace_in : ℕ → List (List ℕ) → Result (List Event) TraceError
trace_in line [] = Err NoTrace
trace_in line (l ∷ ls) =
    if bytes_eq (trimmed l) (codes "!START_TRACE") then block_of (line + 1) (line + 1) [] ls
    else trace_in (line + 1) ls

-- the events of a text's trace block, or its first fault; lines are counted from 1
abbrev pub trace_of : List ℕ → Result (List Event) TraceError
trace_of bytes = trace_in 0 (lines_of bytes)

-- the refusal is this fault, or memory fails
abbrev pub Refuses : Result (List Event) TraceError → TraceError → Type 0
Refuses r NoTrace = r ≡ Err NoTrace
Refuses r (BadTrace n) = r ≡ Err (BadTrace n)
Refuses r (Unclosed n) = r ≡ Err (Unclosed n)
Refuses r NoMemory = Unit {0}

abbrev pub IsShortSite : Site → Type 0
IsShortSite p = (p.x < 2 ^ 32) × (p.y < 2 ^ 32)

-- the numbers of the event are at most 4,294,967,295
abbrev pub IsShort : Event → Type 0
IsShort e = (e.rule < 2 ^ 32) × IsShortSite e.first × IfSome e.second IsShortSite
