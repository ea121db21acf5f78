-- A filled slot's name says the value of the slot.
use Rattle.std.proofs.Common.{◌≡◌, Bool, true, false, cond, Some}
use Rattle.surf_tiles.specs.declared.kind.Kind.{Kind}
use Rattle.surf_tiles.specs.declared.kind.Kind.TheVariants.{Input, Value, Wire, A, B, H, V, P, Q, Gate1, Gate2, Centre}
use Rattle.surf_settle.specs.Settling.{slot_value}
use Rattle.surf_settle.proofs.Shown.{shown}
use Rattle.surf_settle.proofs.Places.{Fed}

pub shown_value : (down : Bool) (k : Kind) (first second own below one two v : Bool) → Fed k own below one two → slot_value (shown k first second own below one two) down ≡ Some v → v ≡ cond down below own
shown_value false Input first second own below one two v f e = cc
shown_value false (Value x) first second own below one two v f e = cc f
shown_value false Wire true second own below one two v f e = cc
shown_value false A true second own below one two v f e = cc
shown_value false B true second own below one two v f e = cc
shown_value false H true second own below one two v f e = cc
shown_value false V true second own below one two v f e = cc
shown_value false P true second own below one two v f e = cc
shown_value false Q true second own below one two v f e = cc
shown_value false (Gate1 z o) true second own below one two v f e = cc
shown_value false (Gate2 t00 t01 t10 t11) true true own below one two v f e = cc
shown_value false (Gate2 t00 t01 t10 t11) false true own below one two v f e = absurd cc
shown_value false (Gate2 t00 t01 t10 t11) false false own below one two v f e = absurd cc
shown_value false Centre true second own below one two v f e = cc
shown_value true Centre first true own below one two v f e = cc
shown_value true Wire true second own below one two v f e = absurd cc
shown_value true Wire false second own below one two v f e = absurd cc
shown_value true A true second own below one two v f e = absurd cc
shown_value true A false second own below one two v f e = absurd cc
shown_value true B true second own below one two v f e = absurd cc
shown_value true B false second own below one two v f e = absurd cc
shown_value true H true second own below one two v f e = absurd cc
shown_value true H false second own below one two v f e = absurd cc
shown_value true V true second own below one two v f e = absurd cc
shown_value true V false second own below one two v f e = absurd cc
shown_value true P true second own below one two v f e = absurd cc
shown_value true P false second own below one two v f e = absurd cc
shown_value true Q true second own below one two v f e = absurd cc
shown_value true Q false second own below one two v f e = absurd cc
shown_value true (Gate1 z o) true second own below one two v f e = absurd cc
shown_value true (Gate1 z o) false second own below one two v f e = absurd cc
shown_value true (Gate2 t00 t01 t10 t11) true true own below one two v f e = absurd cc
shown_value true (Gate2 t00 t01 t10 t11) true false own below one two v f e = absurd cc
shown_value true (Gate2 t00 t01 t10 t11) false true own below one two v f e = absurd cc
shown_value true (Gate2 t00 t01 t10 t11) false false own below one two v f e = absurd cc
shown_value _ _ _ _ _ _ _ _ _ f e = absurd cc
