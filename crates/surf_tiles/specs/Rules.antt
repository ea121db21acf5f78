-- What it is for rules over the numbers of texts to be the reactions.
use Rattle.std.specs.Prelude.{◌≡◌, ℕ, ◌+◌, ◌<◌, ◌≤◌, List, [], ◌∷◌, length, Some, slice_get, option_and_then}
use Rattle.surf_rules.specs.declared.rule.Rule.{Rule}
use Rattle.surf_tiles.specs.declared.state.State.{State}
use Rattle.surf_tiles.specs.declared.reaction.Reaction.{Reaction}
use Rattle.surf_tiles.specs.Reactions.{giver, reader, outcome}
use Rattle.surf_tiles.specs.States.{spell}

-- the rule has rate 1, in millionths, and the texts of its names are those of the reaction
pub record Says (texts : List (List ℕ)) (rule : Rule) (r : Reaction) : Type 0 where
  pub rate : rule.rate ≡ 1000000
  pub left : slice_get texts rule.left ≡ Some (spell (giver r))
  pub right : option_and_then (slice_get texts) rule.right ≡ Some (spell (reader r))
  pub left_after : slice_get texts rule.left_after ≡ Some (spell (giver r))
  pub right_after : option_and_then (slice_get texts) rule.right_after ≡ Some (spell (outcome r))

-- the rules are the reactions, one by one
abbrev pub SayAll : List (List ℕ) → List Rule → List Reaction → Type 0
SayAll texts [] [] = Unit {0}
SayAll texts [] (r ∷ rs) = ⊥
SayAll texts (rule ∷ rules) [] = ⊥
SayAll texts (rule ∷ rules) (r ∷ rs) = Says texts rule r × SayAll texts rules rs

-- it is the text of a name on a site
abbrev pub IsSpelled : List ℕ → Type 0
IsSpelled t = (name : State) × (t ≡ spell name)

-- texts that were there keep their numbers, and at most n are new, each the text of a name
pub record IsGrown (n : ℕ) (texts grown : List (List ℕ)) : Type 0 where
  pub longer : length texts ≤ length grown
  pub most : length grown ≤ n + length texts
  pub kept : (k : ℕ) → k < length texts → slice_get grown k ≡ slice_get texts k
  pub new : (k : ℕ) (t : List ℕ) → length texts ≤ k → slice_get grown k ≡ Some t → IsSpelled t
