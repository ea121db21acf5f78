use Rattle.std.specs.Option.{option_map}
use Rattle.std.proofs.Common.{◌≡◌, ◌*◌, ℕ, Some, length, take, drop, slice_get}
use Rattle.surf_world.specs.Renamings.{AreBelow}
use Rattle.surf_world.specs.Systems.{IsRun}
use Rattle.surf_trace.specs.declared.watch.Kept.{Kept}
use Rattle.surf_trace.specs.Replays.{left_world}
use Rattle.surf_trace.specs.Sights.{showing_in}
use Rattle.surf_trace.specs.Watching.{IsOpen, told}
use Rattle.surf_trace.proofs.observing.follow_all.Given as goal

abbrev pub invariant-loop-i : goal.invariant-loop-i
invariant-loop-i g l = record {
  run : IsRun l.initial.world.surface l.initial.world.names (take l.i l.events);
  left : l.world ≡ left_world l.initial.world (take l.i l.events);
  below : AreBelow (length l.sights) l.world.surface l.world.names;
  sites : length l.kept ≡ l.world.surface.grid.width * l.world.surface.grid.height;
  unfinished : (p : ℕ) (x : Kept) → slice_get l.kept p ≡ Some x → IsOpen x;
  told : (p : ℕ) → option_map (told (showing_in l.sights) l.world.surface l.world.names (drop l.i l.events) p) (slice_get l.kept p)
      ≡ option_map (told (showing_in l.sights) l.initial.world.surface l.initial.world.names l.events p) (slice_get l.initial.kept p);
}
