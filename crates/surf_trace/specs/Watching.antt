-- What is kept of each site while events are observed.
use Rattle.std.specs.Prelude.{◌≡◌, ℕ, zero, suc, ◌==◌, ◌<◌, if◌then◌else◌, List, Option, Some, None}
use Rattle.surf_world.specs.declared.event.Event.{Event}
use Rattle.surf_world.specs.Systems.{Surface}
use Rattle.surf_sync.specs.Spelling.{Showing}
use Rattle.surf_trace.specs.Generations.{changed, observed, state_of}
use Rattle.surf_trace.specs.declared.watch.Kept.{Kept}

abbrev pub kept : ℕ → Option ℕ → Kept
kept left state = record { left = left; state = state }

-- at first, by what a site shows: k changes are to come, and none where nothing is shown
abbrev pub first_kept : Option Showing → ℕ → Kept
first_kept None k = kept 0 None
first_kept (Some s) zero = kept 0 (Some s.state)
first_kept (Some s) (suc k) = kept (suc k) None

-- after one more change, to this state
abbrev pub counted : ℕ → Option ℕ → Option ℕ → Kept
counted zero old state = kept 0 old
counted (suc n) old state = kept n (if n == 0 then state else old)

-- after a site that showed a shows b
abbrev pub noted : Kept → Option Showing → Option Showing → Kept
noted x a b = if changed a b == 0 then x else counted x.left x.state (state_of b)

-- what the events then give
abbrev pub told_from : {N : Type 0} → (N → Option Showing) → Surface N → List N → List Event → ℕ →
    ℕ → Option ℕ → Option ℕ
told_from show S c es p zero state = state
told_from show S c es p (suc n) state = observed show S c es p (suc n)

abbrev pub told : {N : Type 0} → (N → Option Showing) → Surface N → List N → List Event → ℕ → Kept →
    Option ℕ
told show S c es p x = told_from show S c es p x.left x.state

-- there is no state before the last change
abbrev pub IsOpen : Kept → Type 0
IsOpen x = 0 < x.left → x.state ≡ None
