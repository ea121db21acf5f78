-- Events, runs and stuck configurations, over places.
use Rattle.std.specs.Prelude.{◌≡◌, ℕ, Some, List, [], ◌∷◌, slice_get, slice_set}
use Rattle.surf_tiles.specs.declared.state.State.{State}
use Rattle.surf_tiles.specs.declared.reaction.Reaction.{Reaction}
use Rattle.surf_tiles.specs.Reactions.{giver, reader, outcome}

pub record Event : Type 0 where
  pub reaction : Reaction
  pub first : ℕ
  pub second : ℕ

pub record Enabled (near : ℕ → ℕ → Type 0) (c : List State) (e : Event) : Type 0 where
  pub beside : near e.first e.second
  pub gives : slice_get c e.first ≡ Some (giver e.reaction)
  pub reads : slice_get c e.second ≡ Some (reader e.reaction)

abbrev pub after : List State → Event → List State
after c e = slice_set c e.second (outcome e.reaction)

abbrev pub Run : (ℕ → ℕ → Type 0) → List State → List Event → List State → Type 0
Run near c [] c' = c' ≡ c
Run near c (e ∷ es) c' = Enabled near c e × Run near (after c e) es c'

abbrev pub IsStuck : (ℕ → ℕ → Type 0) → List State → Type 0
IsStuck near c = (e : Event) → Enabled near c e → ⊥
