-- The reactions: the names that they ask for and make, and their list.
use Rattle.std.specs.Prelude.{Bool, true, false, cond, Option, Some, None, List, [], ◌∷◌, ◌++◌}
use Rattle.std.specs.List.{flat_map}
use Rattle.surf_tiles.specs.declared.state.Port.{Port}
use Rattle.surf_tiles.specs.declared.state.Port.TheVariants.{AtA, AtB, AtH, AtV}
use Rattle.surf_tiles.specs.declared.state.State.{State}
use Rattle.surf_tiles.specs.declared.state.State.TheVariants.{Bit, BlankWire, Held, BlankP, BlankQ, OneGate, TwoGate, WaitsA, WaitsB, Crossing}
use Rattle.surf_tiles.specs.declared.reaction.Reaction.{Reaction}
use Rattle.surf_tiles.specs.declared.reaction.Reaction.TheVariants.{WireReads, PortReads, OneReads, AcrossReads, DownReads, PReads, QReads, GateReadsA, GateReadsB, ReadsLastA, ReadsLastB}

-- the name that the first site holds, and keeps
abbrev pub giver : Reaction → State
giver (WireReads v) = Bit v
giver (PortReads port v) = Bit v
giver (OneReads zero one v) = Bit v
giver (AcrossReads down v) = Held AtH (Some v)
giver (DownReads across v) = Held AtV (Some v)
giver (PReads down v) = Crossing (Some v) down
giver (QReads across v) = Crossing across (Some v)
giver (GateReadsA t00 t01 t10 t11 v) = Held AtA (Some v)
giver (GateReadsB t00 t01 t10 t11 v) = Held AtB (Some v)
giver (ReadsLastA zero one v) = Held AtA (Some v)
giver (ReadsLastB zero one v) = Held AtB (Some v)

-- the name that the second site holds
abbrev pub reader : Reaction → State
reader (WireReads v) = BlankWire
reader (PortReads port v) = Held port None
reader (OneReads zero one v) = OneGate zero one
reader (AcrossReads down v) = Crossing None down
reader (DownReads across v) = Crossing across None
reader (PReads down v) = BlankP
reader (QReads across v) = BlankQ
reader (GateReadsA t00 t01 t10 t11 v) = TwoGate t00 t01 t10 t11
reader (GateReadsB t00 t01 t10 t11 v) = TwoGate t00 t01 t10 t11
reader (ReadsLastA zero one v) = WaitsA zero one
reader (ReadsLastB zero one v) = WaitsB zero one

-- the name that the second site then has
abbrev pub outcome : Reaction → State
outcome (WireReads v) = Bit v
outcome (PortReads port v) = Held port (Some v)
outcome (OneReads zero one v) = Bit (cond v one zero)
outcome (AcrossReads down v) = Crossing (Some v) down
outcome (DownReads across v) = Crossing across (Some v)
outcome (PReads down v) = Bit v
outcome (QReads across v) = Bit v
outcome (GateReadsA t00 t01 t10 t11 v) = WaitsB (cond v t10 t00) (cond v t11 t01)
outcome (GateReadsB t00 t01 t10 t11 v) = WaitsA (cond v t01 t00) (cond v t11 t10)
outcome (ReadsLastA zero one v) = Bit (cond v one zero)
outcome (ReadsLastB zero one v) = Bit (cond v one zero)

-- the values of a one-input gate, and of either half of a two-input gate
abbrev pub tables : List (Bool × Bool)
tables = (false, false) ∷ (false, true) ∷ (true, false) ∷ (true, true) ∷ []

-- a slot of a centre: blank, or with its value
abbrev pub marks : List (Option Bool)
marks = None ∷ Some false ∷ Some true ∷ []

abbrev pub for_each_bit : (Bool → Reaction) → List Reaction
for_each_bit r = r false ∷ r true ∷ []

abbrev pub for_each_mark : (Option Bool → Bool → Reaction) → List Reaction
for_each_mark r = flat_map (λ y. for_each_bit (r y)) marks

abbrev pub for_each_table : (Bool → Bool → List Reaction) → List Reaction
for_each_table r = flat_map (λ (p, q). r p q) tables

abbrev pub for_each_port : (Port → List Reaction) → List Reaction
for_each_port r = flat_map r (AtA ∷ AtB ∷ AtH ∷ AtV ∷ [])

-- each gate reads its first port or its second one
abbrev pub first_reads : (t00 t01 t10 t11 : Bool) → List Reaction
first_reads p q r s = for_each_bit (GateReadsA p q r s) ++ for_each_bit (GateReadsB p q r s)

-- the reactions in their groups
abbrev pub groups : List (List Reaction)
groups =
    for_each_bit WireReads ∷
    for_each_port (λ port. for_each_bit (PortReads port)) ∷
    for_each_table (λ p q. for_each_bit (OneReads p q)) ∷
    for_each_mark AcrossReads ∷ for_each_mark DownReads ∷ for_each_mark PReads
    ∷ for_each_mark QReads ∷
    for_each_table (λ p q. for_each_table (first_reads p q)) ∷
    for_each_table (λ p q. for_each_bit (ReadsLastA p q)) ∷
    for_each_table (λ p q. for_each_bit (ReadsLastB p q)) ∷ []

-- all of them, by number
unfoldable pub reactions : List Reaction
reactions = flat_map (λ group. group) groups
