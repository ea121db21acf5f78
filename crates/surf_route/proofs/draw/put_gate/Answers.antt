use Rattle.std.proofs.Common.{ap, sym, refl, arith}
use Rattle.surf_tiles.specs.declared.tile.Tile.TheVariants.{Constant as Constants, Gate1 as Ones, Gate2 as Twos}
use Rattle.surf_tiles.specs.Tiles.{wires}
use Rattle.std.proofs.Common.{true, false}
use Rattle.surf_place.specs.Drawing.{Source, Tap}
use Rattle.surf_route.specs.declared.line.Line.TheVariants.{Source as SourceLine}
use Rattle.surf_route.proofs.Drawing.{line_next}
use Rattle.surf_route.proofs.draw.put_gate.Goals as goal

pub put-requires-clause-line : goal.put-requires-clause-line
put-requires-clause-line c = line_next _ _ _ 0 _ (Source c.args.net (Constants c.in-Constant.value)) _ c.requires.band (rw c.in-Constant.is refl) (omega arith) refl

pub put-requires-in-One-clause-line : goal.put-requires-in-One-clause-line
put-requires-in-One-clause-line c = line_next _ _ _ 0 _ (Tap c.in-One.input c.args.net (wires false true true false)) _ c.requires.band (rw c.in-One.is refl) (omega arith) (sym c.turned.ensures)

pub put-requires-in-One-2-clause-line : goal.put-requires-in-One-2-clause-line
put-requires-in-One-2-clause-line c = line_next _ _ _ 1 _ (Source c.args.net (Ones c.in-One.zero c.in-One.one)) _ c.requires.band (rw c.in-One.is refl) c.in_ok-put-in-One.ensures.row refl

pub put-requires-in-Two-clause-line : goal.put-requires-in-Two-clause-line
put-requires-in-Two-clause-line c = line_next _ _ _ 0 _ (Tap c.in-Two.first c.args.net (wires false true true false)) _ c.requires.band (rw c.in-Two.is refl) (omega arith) (sym c.turned-in-Two.ensures)

pub put-requires-in-Two-2-clause-line : goal.put-requires-in-Two-2-clause-line
put-requires-in-Two-2-clause-line c =
    line_next _ _ _ 1 _ (Tap c.in-Two.second c.args.net (Twos c.in-Two.t00 c.in-Two.t01 c.in-Two.t10 c.in-Two.t11)) _ c.requires.band (rw c.in-Two.is refl) c.in_ok-put-in-Two.ensures.row refl

pub put-requires-in-Two-3-clause-line : goal.put-requires-in-Two-3-clause-line
put-requires-in-Two-3-clause-line c =
    line_next _ _ _ 2 _ (Source c.args.net (wires true true false false)) _ c.requires.band (rw c.in-Two.is refl) (omega (arith, c.in_ok-put-in-Two.ensures.row, c.in_ok-put-in-Two-2.ensures.row)) (ap (SourceLine c.args.net) (sym c.wire-device.ensures))
