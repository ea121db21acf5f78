-- What the number of a name tells an observer, from a table that is made once.
use Rattle.std.specs.Prelude.{◌≡◌, ℕ, Bool, true, false, List, Option, Some, None, slice_get, unwrap_or}
use Rattle.surf_world.specs.Worlds.{Placed}
use Rattle.surf_sync.specs.declared.code.Code.{Code}
use Rattle.surf_sync.specs.Spelling.{Showing, code_in, frame_in, shown_at}
use Rattle.surf_trace.specs.declared.sight.Sight.{Sight}
use Rattle.surf_trace.specs.declared.sight.Sight.TheVariants.{Cell, Frame, Other}

abbrev pub sight_from : Option Code → Option ℕ → Sight
sight_from (Some c) frame = Cell c.current c.generation
sight_from None (Some k) = Frame
sight_from None None = Other

abbrev pub sight_of : List ℕ → Sight
sight_of name = sight_from (code_in name) (frame_in name)

abbrev pub showing : Sight → Option Showing
showing (Cell state generation) = Some (record { state = state; generation = generation })
showing Frame = None
showing Other = None

abbrev pub is_told : Sight → Bool
is_told (Cell state generation) = true
is_told Frame = true
is_told Other = false

-- of a number
abbrev pub sight_in : List Sight → ℕ → Sight
sight_in sights m = unwrap_or (slice_get sights m) Other

abbrev pub showing_in : List Sight → ℕ → Option Showing
showing_in sights m = showing (sight_in sights m)

abbrev pub IsTold : List Sight → ℕ → Type 0
IsTold sights m = is_told (sight_in sights m) ≡ true

-- of a place in a world
abbrev pub seen : List Sight → Placed → ℕ → Option Showing
seen sights w p = shown_at (showing_in sights) (slice_get w.names p)
