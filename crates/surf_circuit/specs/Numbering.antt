-- The names that sites begin with, by number.
use Rattle.std.specs.Prelude.{ℕ, ◌≡◌, List, [], ◌∷◌, Some, length, slice_get, slice_index_or}
use Rattle.surf_rules.specs.Names.{AreDistinct}
use Rattle.surf_tiles.specs.declared.kind.Kind.{Kind}
use Rattle.surf_tiles.specs.declared.state.State.{State}
use Rattle.surf_tiles.specs.Kinds.{name_of}
use Rattle.surf_tiles.specs.States.{spell}
use Rattle.surf_settle.specs.Indices.{kind_index}

-- the numbers name the blank names of these kinds, one by one
abbrev pub AreNumbers : List (List ℕ) → List ℕ → List Kind → Type 0
AreNumbers texts [] [] = Unit {0}
AreNumbers texts [] (k ∷ ks) = ⊥
AreNumbers texts (n ∷ ns) [] = ⊥
AreNumbers texts (n ∷ ns) (k ∷ ks) = (slice_get texts n ≡ Some (name_of k)) × AreNumbers texts ns ks

-- each kind has the number of its name
abbrev pub NumbersAll : List (List ℕ) → List ℕ → Type 0
NumbersAll texts numbers =
    (k : Kind) → slice_get texts (slice_index_or numbers (kind_index k) 0) ≡ Some (name_of k)

-- every text is the name of a state
abbrev pub AreStates : List (List ℕ) → Type 0
AreStates texts = (i : ℕ) (t : List ℕ) → slice_get texts i ≡ Some t → (s : State) × (t ≡ spell s)

-- the names of all states, each once: they are 56
pub record AreStateNames (texts : List (List ℕ)) : Type 0 where
  pub states : AreStates texts
  pub all : (s : State) → (i : ℕ) × (slice_get texts i ≡ Some (spell s))
  pub distinct : AreDistinct texts
  pub count : length texts ≡ 56
