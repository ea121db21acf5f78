-- The blank name of each kind of site, and how many events change it.
use Rattle.std.specs.Prelude.{ℕ, None, List}
use Rattle.surf_tiles.specs.declared.kind.Kind.{Kind}
use Rattle.surf_tiles.specs.declared.kind.Kind.TheVariants.{Empty, Input, Value, Wire, A, B, H, V, P, Q, Gate1, Gate2, Centre}
use Rattle.surf_tiles.specs.declared.state.Port.TheVariants.{AtA, AtB, AtH, AtV}
use Rattle.surf_tiles.specs.declared.state.State.{State}
use Rattle.surf_tiles.specs.declared.state.State.TheVariants.{Dot, Unset, Bit, BlankWire, Held, BlankP, BlankQ, OneGate, TwoGate, Crossing}
use Rattle.surf_tiles.specs.States.{spell}

-- the name that a site begins with
abbrev pub blank : Kind → State
blank Empty = Dot
blank Input = Unset
blank (Value v) = Bit v
blank Wire = BlankWire
blank A = Held AtA None
blank B = Held AtB None
blank H = Held AtH None
blank V = Held AtV None
blank P = BlankP
blank Q = BlankQ
blank (Gate1 zero one) = OneGate zero one
blank (Gate2 t00 t01 t10 t11) = TwoGate t00 t01 t10 t11
blank Centre = Crossing None None

abbrev pub name_of : Kind → List ℕ
name_of k = spell (blank k)

-- how many events change a site, from its start to a stuck surface
abbrev pub changes_of : Kind → ℕ
changes_of Empty = 0
changes_of Input = 0
changes_of (Value v) = 0
changes_of Wire = 1
changes_of A = 1
changes_of B = 1
changes_of H = 1
changes_of V = 1
changes_of P = 1
changes_of Q = 1
changes_of (Gate1 zero one) = 1
changes_of (Gate2 t00 t01 t10 t11) = 2
changes_of Centre = 2
