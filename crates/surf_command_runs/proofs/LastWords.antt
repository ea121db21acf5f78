-- The last word of a run.
use Rattle.std.proofs.Common.{◌≡◌, List, [], ◌∷◌, refl}
use Rattle.surf_command_runs.specs.Runs.{word_for, limit_text}

pub not_none : {A : Type 0} (xs : List A) → (xs ≡ [] → ⊥) → word_for xs ≡ limit_text
not_none [] some = absurd (some refl)
not_none (x ∷ xs) some = refl
