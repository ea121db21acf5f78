-- Which events of a list are enabled at their turn.
use Rattle.std.specs.Prelude.{◌≡◌, ℕ, ◌-◌, ◌≤◌, List, Some, slice_get, take}
use Rattle.surf_world.specs.declared.event.Event.{Event}
use Rattle.surf_world.specs.Systems.{Surface, Enabled, IsRun, left_by}
use Rattle.surf_world.specs.Worlds.{Placed}
use Rattle.surf_trace.specs.declared.verdict.Verdict.{Verdict}
use Rattle.surf_trace.specs.declared.verdict.Verdict.TheVariants.{Valid, NotEnabled}

-- the events before the k-th are a run, and the k-th is not enabled after them; events are counted
-- from 1
pub record FirstBad {N : Type 0} (S : Surface N) (c : List N) (es : List Event) (k : ℕ) :
    Type 0 where
  pub counted : 1 ≤ k
  pub run : IsRun S c (take (k - 1) es)
  pub event : Event
  pub listed : slice_get es (k - 1) ≡ Some event
  pub fails : Enabled S (left_by S c (take (k - 1) es)) event → ⊥

-- all events are enabled at their turn, or this one is the first that is not
abbrev pub Judges : {N : Type 0} → Surface N → List N → List Event → Verdict → Type 0
Judges S c es Valid = IsRun S c es
Judges S c es (NotEnabled k) = FirstBad S c es k

-- the events that a replay takes
abbrev pub taken : List Event → Verdict → List Event
taken es Valid = es
taken es (NotEnabled k) = take (k - 1) es

-- the world that these events leave
abbrev pub left_world : Placed → List Event → Placed
left_world w es = record w { names = left_by w.surface w.names es }
