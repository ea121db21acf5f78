-- What names show, from a table that is made once.
use Rattle.std.specs.Prelude.{ℕ, List, Option, Some, None, slice_get, unwrap_or}
use Rattle.std.specs.Option.{option_map}
use Rattle.surf_world.specs.Worlds.{Placed}
use Rattle.surf_sync.specs.Spelling.{Showing, code_in}
use Rattle.surf_tally.specs.declared.shown.Shown.{Shown}

abbrev pub shown_of : List ℕ → Option Shown
shown_of name =
    option_map (λ c. record { state = c.current; generation = c.generation }) (code_in name)

-- the same as the definitions see it
abbrev pub showing : Option Shown → Option Showing
showing None = None
showing (Some s) = Some (record { state = s.state; generation = s.generation })

-- what the name of a number shows
abbrev pub look : List (Option Shown) → ℕ → Option Shown
look table m = unwrap_or (slice_get table m) None

abbrev pub look_some : List (Option Shown) → Option ℕ → Option Shown
look_some table None = None
look_some table (Some m) = look table m

-- what the name at a place of a world shows
abbrev pub look_at : List (Option Shown) → Placed → ℕ → Option Shown
look_at table w p = look_some table (slice_get w.names p)

-- what the number of a name shows
abbrev pub show_by : List (Option Shown) → ℕ → Option Showing
show_by table m = showing (look table m)
