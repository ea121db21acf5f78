-- Numbers of names along a run.
use Rattle.std.proofs.Common.{ℕ, List, [], ◌∷◌}
use Rattle.surf_world.specs.declared.event.Event.{Event}
use Rattle.surf_world.specs.Systems.{Surface, after, left_by}
use Rattle.surf_world.specs.Renamings.{AreBelow}
use Rattle.surf_world.proofs.Renamed.{after_below}

-- numbers stay below a bound along a run
pub left_below : (n : ℕ) (S : Surface ℕ) (c : List ℕ) (es : List Event) → AreBelow n S c → AreBelow n S (left_by S c es)
left_below n S c [] below = below
left_below n S c (e ∷ es) below = left_below n S (after S c e) es (after_below n S c e below)
