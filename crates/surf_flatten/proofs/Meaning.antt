-- Sound models mean one thing.
use Rattle.std.proofs.Common.{ℕ, ◌≡◌, List, [], ◌∷◌, refl, sym, ◌∙◌, ap}
use Rattle.surf_logic.specs.Equations.{PartsOf}
use Rattle.surf_flatten.specs.Designs.{Design, Tree, Unfolds}
use Rattle.surf_flatten.specs.Substituted.{meant}
use Rattle.surf_flatten.specs.Faults.{AreSound}
use Rattle.surf_flatten.specs.Meanings.{Mean}
use Rattle.surf_flatten.proofs.Unfolding.{one_tree, free_tree}
use Rattle.surf_flatten.proofs.Searching.{free_is_none}

pub sound_unfold : (main : Design) (ms : List Design) → AreSound (main ∷ ms) → (t : Tree) × Unfolds (main ∷ ms) main.items t
sound_unfold main ms s = free_tree (main ∷ ms) 0 (free_is_none (main ∷ ms) s.free) ([], refl)

pub meanings_one : (models : List Design) (p q : PartsOf (List ℕ)) → Mean models p → Mean models q → p ≡ q
meanings_one [] p q a b = absurd a
meanings_one (main ∷ ms) p q a b =
    let same = one_tree (main ∷ ms) main.items a.1.0 b.1.0 a.1.1 b.1.1 in
    sym a.1.3 ∙ ap (meant main) same ∙ b.1.3
