-- The ways on which values are offered and read.
use Rattle.std.specs.Prelude.{Bool, cond, Option, Some, None}
use Rattle.surf_tiles.specs.declared.kind.Kind.{Kind}
use Rattle.surf_tiles.specs.declared.kind.Kind.TheVariants.{Empty, Input, Value, Wire, A, B, H, V, P, Q, Gate1, Gate2, Centre}
use Rattle.surf_tiles.specs.declared.state.Port.{Port}
use Rattle.surf_tiles.specs.declared.state.Port.TheVariants.{AtA, AtB, AtH, AtV}

-- as a plain value, by an in port, or by one of the two slots of a centre
pub data Way : Type 0 where
  Plain : Way
  By : Port → Way
  Across Down : Way

-- a site has up to two slots, and a slot reads up to two others: false is the first of two, and
-- true the second
-- the way on which a slot of a site offers its value, once it is filled
abbrev pub offers : Kind → Bool → Option Way
offers Empty u = None
offers Input u = cond u None (Some Plain)
offers (Value v) u = cond u None (Some Plain)
offers Wire u = cond u None (Some Plain)
offers A u = cond u None (Some (By AtA))
offers B u = cond u None (Some (By AtB))
offers H u = cond u None (Some (By AtH))
offers V u = cond u None (Some (By AtV))
offers P u = cond u None (Some Plain)
offers Q u = cond u None (Some Plain)
offers (Gate1 zero one) u = cond u None (Some Plain)
offers (Gate2 t00 t01 t10 t11) u = cond u None (Some Plain)
offers Centre u = cond u (Some Down) (Some Across)

-- the way on which a site reads the first or the second value that it needs
abbrev pub wants : Kind → Bool → Option Way
wants Empty i = None
wants Input i = None
wants (Value v) i = None
wants Wire i = cond i None (Some Plain)
wants A i = cond i None (Some Plain)
wants B i = cond i None (Some Plain)
wants H i = cond i None (Some Plain)
wants V i = cond i None (Some Plain)
wants P i = cond i None (Some Across)
wants Q i = cond i None (Some Down)
wants (Gate1 zero one) i = cond i None (Some Plain)
wants (Gate2 t00 t01 t10 t11) i = cond i (Some (By AtB)) (Some (By AtA))
wants Centre i = cond i (Some (By AtV)) (Some (By AtH))
