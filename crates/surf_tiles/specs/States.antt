-- The text of each name on a site.
use Rattle.std.specs.Prelude.{ℕ, Bool, if◌then◌else◌, Option, Some, None, List, [], ◌∷◌}
use Rattle.surf_tiles.specs.declared.state.Port.{Port}
use Rattle.surf_tiles.specs.declared.state.Port.TheVariants.{AtA, AtB, AtH, AtV}
use Rattle.surf_tiles.specs.declared.state.State.{State}
use Rattle.surf_tiles.specs.declared.state.State.TheVariants.{Dot, Unset, Bit, BlankWire, Held, BlankP, BlankQ, OneGate, TwoGate, WaitsA, WaitsB, Crossing}

-- b'1' or b'0'
abbrev pub digit : Bool → ℕ
digit b = if b then 49 else 48

-- and b'-' for a slot that is blank
abbrev pub mark : Option Bool → ℕ
mark None = 45
mark (Some b) = digit b

abbrev pub letter : Port → ℕ
letter AtA = 97
letter AtB = 98
letter AtH = 104
letter AtV = 118

abbrev pub filling : Option Bool → List ℕ
filling None = []
filling (Some b) = digit b ∷ []

abbrev pub spell : State → List ℕ
spell Dot = 46 ∷ []
spell Unset = 63 ∷ []
spell (Bit b) = digit b ∷ []
spell BlankWire = 119 ∷ []
spell (Held port held) = letter port ∷ filling held
spell BlankP = 112 ∷ []
spell BlankQ = 113 ∷ []
spell (OneGate zero one) = 110 ∷ digit zero ∷ digit one ∷ []
spell (TwoGate t00 t01 t10 t11) = 103 ∷ digit t00 ∷ digit t01 ∷ digit t10 ∷ digit t11 ∷ []
spell (WaitsA zero one) = 116 ∷ 97 ∷ digit zero ∷ digit one ∷ []
spell (WaitsB zero one) = 116 ∷ 98 ∷ digit zero ∷ digit one ∷ []
spell (Crossing across down) = 99 ∷ mark across ∷ mark down ∷ []
