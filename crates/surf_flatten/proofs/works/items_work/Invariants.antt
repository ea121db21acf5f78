use Rattle.std.proofs.Common.{◌≡◌, ◌+◌, ◌<◌, ◌^◌, drop, sum, map}
use Rattle.surf_logic.specs.Equations.{capped}
use Rattle.surf_flatten.specs.Tables.{place_in}
use Rattle.surf_flatten.specs.Works.{work_in}
use Rattle.surf_flatten.proofs.works.items_work.Given as goal

abbrev pub invariant-loop-item : goal.invariant-loop-item
invariant-loop-item l = record {
  all : capped (l.work + sum (map (work_in (place_in l.library) l.table l.inside) (drop l.item-index l.items))) ≡ capped (sum (map (work_in (place_in l.library) l.table l.inside) l.items));
  fits : l.work < 2 ^ 128;
}
