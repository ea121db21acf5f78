-- Sites at no border.
use Rattle.std.specs.Prelude.{◌+◌, ◌<◌}
use Rattle.surf_lattice.specs.declared.site.Site.{Site}
use Rattle.surf_lattice.specs.Grids.{Grid}

-- there is a column on either side of the site, and a row
abbrev pub IsInner : Grid → Site → Type 0
IsInner g p = (0 < p.x) × (0 < p.y) × (p.x + 1 < g.width) × (p.y + 1 < g.height)
