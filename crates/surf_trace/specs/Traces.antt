-- The text of a trace.
use Rattle.std.specs.Prelude.{ℕ, ◌+◌, List, [], ◌∷◌, ◌++◌, codes, Option, Some, None}
use Rattle.std.specs.Fmt.{decimal}
use Rattle.surf_lattice.specs.declared.site.Site.{Site}
use Rattle.surf_world.specs.declared.event.Event.{Event}

abbrev pub site_text : Site → List ℕ
site_text p = 32 ∷ decimal p.x ++ 32 ∷ decimal p.y

abbrev pub second_text : Option Site → List ℕ
second_text None = []
second_text (Some q) = site_text q

-- the line of an event: its place in the run, its rule and its sites
abbrev pub event_text : ℕ → Event → List ℕ
event_text n e =
    decimal n ++ 32 ∷ decimal e.rule ++ site_text e.first ++ second_text e.second ++ 10 ∷ []

-- the lines of events that follow the first n
abbrev pub events_text : ℕ → List Event → List ℕ
events_text n [] = []
events_text n (e ∷ es) = event_text (n + 1) e ++ events_text (n + 1) es

-- the trace block of a run
abbrev pub trace_text : List Event → List ℕ
trace_text es = codes "!START_TRACE\n" ++ (events_text 0 es ++ codes "!END_TRACE\n")
