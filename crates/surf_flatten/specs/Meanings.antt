-- What models mean: the parts of a circuit, or why there are none.
use Rattle.std.specs.Prelude.{ℕ, ◌≡◌, ◌≤◌, List, [], ◌∷◌}
use Rattle.surf_logic.specs.Equations.{PartsOf}
use Rattle.surf_flatten.specs.Designs.{Design, Tree, Unfolds}
use Rattle.surf_flatten.specs.Substituted.{meant, text_cost}
use Rattle.surf_flatten.specs.Faults.{ModelFault, HasModelFault, AreSound}

-- the models have the fault; the first of them is main
abbrev pub HasFaultIn : List Design → ModelFault → Type 0
HasFaultIn [] f = ⊥
HasFaultIn (main ∷ ms) f = HasModelFault main ms f

-- the models mean these parts: they are sound, and these are what main's items stand for
abbrev pub Mean : List Design → PartsOf (List ℕ) → Type 0
Mean [] p = ⊥
Mean (main ∷ ms) p =
    AreSound (main ∷ ms) × ((t : Tree) × Unfolds (main ∷ ms) main.items t
    × (text_cost main t ≤ 1000) × (meant main t ≡ p))

-- sound models have a tree, so whether they mean something hangs on their cost alone
abbrev pub SoundUnfold : Type 0
SoundUnfold = (main : Design) (ms : List Design) → AreSound (main ∷ ms) →
    (t : Tree) × Unfolds (main ∷ ms) main.items t

-- and they mean one thing
abbrev pub MeaningsAreOne : Type 0
MeaningsAreOne = (models : List Design) (p q : PartsOf (List ℕ)) → Mean models p →
    Mean models q → p ≡ q
