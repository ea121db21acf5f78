-- What an observer of one site reads off a run: its generation, and its states one after another.
use Rattle.std.specs.Prelude.{ℕ, zero, suc, ◌+◌, if◌then◌else◌, ◌==◌, List, [], ◌∷◌, Option, Some, None, slice_get}
use Rattle.surf_world.specs.declared.event.Event.{Event}
use Rattle.surf_world.specs.Systems.{Surface, after}
use Rattle.surf_sync.specs.Spelling.{Showing, shown_at}

-- 1 where both show a generation and not the same, else 0
abbrev pub changed : Option Showing → Option Showing → ℕ
changed (Some a) (Some b) = if a.generation == b.generation then 0 else 1
changed None (Some b) = 0
changed (Some a) None = 0
changed None None = 0

-- the number of events after which the generation shown at the place p isn't the one before
abbrev pub generation : {N : Type 0} →
    (N → Option Showing) → Surface N → List N → List Event → ℕ → ℕ
generation show S c [] p = 0
generation show S c (e ∷ es) p =
    changed (shown_at show (slice_get c p)) (shown_at show (slice_get (after S c e) p))
    + generation show S (after S c e) es p

abbrev pub state_of : Option Showing → Option ℕ
state_of None = None
state_of (Some s) = Some s.state

-- the state at p directly after the event that makes the k-th change there; for k = 0, before any
-- event
abbrev pub observed : {N : Type 0} →
    (N → Option Showing) → Surface N → List N → List Event → ℕ → ℕ → Option ℕ
observed show S c [] p zero = state_of (shown_at show (slice_get c p))
observed show S c [] p (suc k) = None
observed show S c (e ∷ es) p zero = state_of (shown_at show (slice_get c p))
observed show S c (e ∷ es) p (suc k) =
    if changed (shown_at show (slice_get c p)) (shown_at show (slice_get (after S c e) p)) == 0
    then observed show S (after S c e) es p (suc k)
    else observed show S (after S c e) es p k

-- nothing where nothing was shown
abbrev pub if_shown : Option Showing → Option ℕ → Option ℕ
if_shown None state = None
if_shown (Some s) state = state

-- what is read off p as generation k: nothing for ever where nothing is shown there at first
abbrev pub read_off : {N : Type 0} → (N → Option Showing) → Surface N → List N → List Event → ℕ →
    ℕ → Option ℕ
read_off show S c es p k = if_shown (shown_at show (slice_get c p)) (observed show S c es p k)
