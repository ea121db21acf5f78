use Rattle.std.proofs.Common.{◌≡◌, map, length}
use Rattle.surf_lattice.specs.Grids.{sites}
use Rattle.surf_life.specs.Moore.{moore_sync}
use Rattle.surf_life.specs.Rows.{square_of}
use Rattle.surf_life.proofs.life.repeat.Given as goal

abbrev pub invariant-loop-step : goal.invariant-loop-step
invariant-loop-step l =
    let g = square_of l.sides.wrap l.sides.width l.sides.height in
    record {
      cells : l.cells.items ≡ map (moore_sync l.local g l.initial.cells.items l._step) (sites g);
      room : length l.spare.items ≡ length l.cells.items;
    }
