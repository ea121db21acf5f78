-- The definitions at a text: top places nand2 twice.
use Rattle.std.proofs.Common.{ℕ, ◌≡◌, false, List, [], ◌∷◌, refl, Some, None}
use Rattle.std.specs.Prelude.{codes}
use Rattle.std.specs.Fmt.{digits}
use Rattle.surf_logic.specs.declared.equation.Literal.TheVariants.{One}
use Rattle.surf_logic.specs.Equations.{EquationOf}
use Rattle.surf_flatten.specs.declared.models.Bind.{Bind}
use Rattle.surf_flatten.specs.declared.models.Item.TheVariants.{Cover, Place}
use Rattle.surf_flatten.specs.Placements.{Placement}
use Rattle.surf_flatten.specs.Designs.{Design, Tree, Done, Gives, Holds, Unfolds}
use Rattle.surf_flatten.specs.Substituted.{meant, spelled, text_cost}
use Rattle.surf_flatten.specs.Faults.{placing_fault, Unconnected, BadFormal, UnknownModel, model_twice, ModelTwice}

bind : List ℕ → List ℕ → Bind
bind f a = record { formal = f; actual = a }

gate : EquationOf (List ℕ)
gate = record { output = codes "z"; inputs = codes "x" ∷ codes "y" ∷ []; rows = (One ∷ One ∷ []) ∷ []; polarity = false }

nand2 : Design
nand2 = record { line = 7; name = Some (codes "nand2"); inputs = codes "x" ∷ codes "y" ∷ []; outputs = codes "z" ∷ []; items = Cover gate ∷ [] }

first : Placement
first = record { line = 4; model = codes "nand2"; binds = bind (codes "x") (codes "a") ∷ bind (codes "y") (codes "b") ∷ bind (codes "z") (codes "n") ∷ [] }

second : Placement
second = record { line = 5; model = codes "nand2"; binds = bind (codes "x") (codes "n") ∷ bind (codes "y") (codes "n") ∷ [] }

top : Design
top = record { line = 1; name = Some (codes "top"); inputs = codes "a" ∷ codes "b" ∷ []; outputs = codes "o" ∷ []; items = Place first ∷ Place second ∷ [] }

tree : Tree
tree = Holds first (Gives gate Done) (Holds second (Gives gate Done) Done)

unfolds : Unfolds (top ∷ nand2 ∷ []) top.items tree
unfolding tree top nand2 first second gate
unfolds = (refl, (refl, tt), (refl, (refl, tt), tt))

cost : text_cost top tree ≡ 13
unfolding tree top first second gate
cost = refl

-- the second placing leaves z unconnected: it keeps a signal of its own
means : meant top tree ≡ record {
  inputs = codes "a" ∷ codes "b" ∷ [];
  outputs = codes "o" ∷ [];
  equations = record { output = codes "n"; inputs = codes "a" ∷ codes "b" ∷ []; rows = (One ∷ One ∷ []) ∷ []; polarity = false }
      ∷ record { output = codes "2 z"; inputs = codes "n" ∷ codes "n" ∷ []; rows = (One ∷ One ∷ []) ∷ []; polarity = false } ∷ [];
}
unfolding tree top first second gate bind digits
means = refl

inner_name : spelled (record { path = 2 ∷ 17 ∷ []; name = codes "q" }) ≡ codes "2.17 q"
unfolding digits
inner_name = refl

faultless : placing_fault (top ∷ nand2 ∷ []) second ≡ None
unfolding top nand2 first second gate bind
faultless = refl

unconnected : placing_fault (top ∷ nand2 ∷ []) (record { line = 5; model = codes "nand2"; binds = bind (codes "x") (codes "n") ∷ bind (codes "z") (codes "o") ∷ [] }) ≡ Some (Unconnected 5 (codes "y"))
unfolding top nand2 first second gate bind
unconnected = refl

bad_formal : placing_fault (top ∷ nand2 ∷ []) (record { line = 4; model = codes "nand2"; binds = bind (codes "x") (codes "a") ∷ bind (codes "y") (codes "b") ∷ bind (codes "q") (codes "n") ∷ [] }) ≡ Some (BadFormal 4 (codes "q"))
unfolding top nand2 first second gate bind
bad_formal = refl

unknown : placing_fault (top ∷ nand2 ∷ []) (record { line = 4; model = codes "nor2"; binds = [] }) ≡ Some (UnknownModel 4 (codes "nor2"))
unfolding top nand2 first second gate bind
unknown = refl

twice : model_twice [] (top ∷ nand2 ∷ record { line = 13; name = Some (codes "top"); inputs = []; outputs = []; items = [] } ∷ []) ≡ Some (ModelTwice 13 (codes "top"))
unfolding top nand2 first second gate bind
twice = refl
