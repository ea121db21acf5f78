-- The name of a site by what it has read, and which of its slots are filled.
use Rattle.std.specs.Prelude.{Bool, true, false, cond, Some, None}
use Rattle.surf_tiles.specs.declared.kind.Kind.{Kind}
use Rattle.surf_tiles.specs.declared.kind.Kind.TheVariants.{Empty, Input, Value, Wire, A, B, H, V, P, Q, Gate1, Gate2, Centre}
use Rattle.surf_tiles.specs.declared.state.Port.TheVariants.{AtA, AtB, AtH, AtV}
use Rattle.surf_tiles.specs.declared.state.State.{State}
use Rattle.surf_tiles.specs.declared.state.State.TheVariants.{Dot, Bit, BlankWire, Held, BlankP, BlankQ, OneGate, TwoGate, WaitsA, WaitsB, Crossing}
use Rattle.surf_tiles.specs.declared.reaction.Reaction.{Reaction}
use Rattle.surf_tiles.specs.declared.reaction.Reaction.TheVariants.{WireReads, PortReads, OneReads, AcrossReads, DownReads, PReads, QReads, GateReadsA, GateReadsB, ReadsLastA, ReadsLastB}
use Rattle.surf_settle.specs.Ways.{Way, Plain, By, Across, Down}

-- the value that a reaction moves
abbrev pub moved : Reaction → Bool
moved (WireReads v) = v
moved (PortReads port v) = v
moved (OneReads zero one v) = v
moved (AcrossReads down v) = v
moved (DownReads across v) = v
moved (PReads down v) = v
moved (QReads across v) = v
moved (GateReadsA t00 t01 t10 t11 v) = v
moved (GateReadsB t00 t01 t10 t11 v) = v
moved (ReadsLastA zero one v) = v
moved (ReadsLastB zero one v) = v

abbrev pub way : Reaction → Way
way (WireReads v) = Plain
way (PortReads port v) = Plain
way (OneReads zero one v) = Plain
way (AcrossReads down v) = By AtH
way (DownReads across v) = By AtV
way (PReads down v) = Across
way (QReads across v) = Down
way (GateReadsA t00 t01 t10 t11 v) = By AtA
way (GateReadsB t00 t01 t10 t11 v) = By AtB
way (ReadsLastA zero one v) = By AtA
way (ReadsLastB zero one v) = By AtB

-- the name of a site that has read its first value or not, and its second or not. `own` and `below` are the values of its slots' nets, and `one` and `two` those that it reads
abbrev pub shown : Kind → (first second : Bool) (own below one two : Bool) → State
shown Empty first second own below one two = Dot
shown Input first second own below one two = Bit own
shown (Value v) first second own below one two = Bit v
shown Wire first second own below one two = cond first (Bit own) BlankWire
shown A first second own below one two = Held AtA (cond first (Some own) None)
shown B first second own below one two = Held AtB (cond first (Some own) None)
shown H first second own below one two = Held AtH (cond first (Some own) None)
shown V first second own below one two = Held AtV (cond first (Some own) None)
shown P first second own below one two = cond first (Bit own) BlankP
shown Q first second own below one two = cond first (Bit own) BlankQ
shown (Gate1 z o) first second own below one two = cond first (Bit own) (OneGate z o)
shown (Gate2 t00 t01 t10 t11) first second own below one two =
    cond first
    (cond second (Bit own) (WaitsB (cond one t10 t00) (cond one t11 t01)))
    (cond second (WaitsA (cond two t01 t00) (cond two t11 t10)) (TwoGate t00 t01 t10 t11))
shown Centre first second own below one two = Crossing (cond first (Some own) None) (cond second (Some below) None)

-- whether a slot of a site is filled
abbrev pub filled : Kind → (first second : Bool) → Bool → Bool
filled Empty first second u = true
filled Input first second u = true
filled (Value v) first second u = true
filled Wire first second u = first
filled A first second u = first
filled B first second u = first
filled H first second u = first
filled V first second u = first
filled P first second u = first
filled Q first second u = first
filled (Gate1 z o) first second u = first
filled (Gate2 t00 t01 t10 t11) first second u = cond first second false
filled Centre first second u = cond u second first
