-- The values of a circuit's outputs, as text.
use Rattle.std.specs.Prelude.{ℕ, ◌≡◌, ◌≢◌, Bool, List, [], ◌∷◌, ◌++◌, length, if◌then◌else◌}
use Rattle.std.specs.Str.{bytes_eq}
use Rattle.surf_logic.specs.Answers.{EvalOf}
use Rattle.surf_blif.specs.Blifs.{BlifFault, HasBlifFault, parts_of}

abbrev pub bit_byte : Bool → ℕ
bit_byte value = if value then 49 else 48

abbrev pub value_line : List ℕ → Bool → List ℕ
value_line name value = name ++ 32 ∷ bit_byte value ∷ 10 ∷ []

-- for each output a line with its name and its value
abbrev pub values_text : List (List ℕ) → List Bool → List ℕ
values_text [] values = []
values_text (n ∷ ns) [] = []
values_text (n ∷ ns) (v ∷ vs) = value_line n v ++ values_text ns vs

-- the text spells a circuit: it has no fault
abbrev pub IsAccepted : List ℕ → Type 0
IsAccepted input = (f : BlifFault) → HasBlifFault input f → ⊥

-- a circuit, and as many bits as it has inputs
pub record HasValues (bits : List Bool) (input : List ℕ) : Type 0 where
  pub accepted : IsAccepted input
  pub enough : length bits ≡ length (parts_of input).inputs

-- the text tells the outputs' values in the one assignment that solves the circuit's equations with
-- these bits at its inputs
pub record TellsValues (bits : List Bool) (input text : List ℕ) : Type 0 where
  pub accepted : IsAccepted input
  pub values : List Bool
  pub solved : EvalOf bytes_eq (parts_of input) bits values
  pub is : text ≡ values_text (parts_of input).outputs values

-- a circuit, and not as many bits as it has inputs
pub record MissesBits (bits : List Bool) (input : List ℕ) (found wanted : ℕ) : Type 0 where
  pub accepted : IsAccepted input
  pub bits_are : found ≡ length bits
  pub inputs_are : wanted ≡ length (parts_of input).inputs
  pub differ : found ≢ wanted
