-- What a text is: a circuit, or why it is none.
use Rattle.std.specs.Prelude.{ℕ, ◌≡◌, ◌<◌, ◌≤◌, List, [], Option, Some, None, true}
use Rattle.std.specs.List.{list_all}
use Rattle.std.specs.Str.{bytes_eq}
use Rattle.surf_text.specs.Bytes.{is_word}
use Rattle.surf_logic.specs.Equations.{PartsOf, Numbered, cost_of}
use Rattle.surf_logic.specs.Order.{Fault, HasFault, Turns, IsOrderOf}
use Rattle.surf_logic.specs.Answers.{told_fault}
use Rattle.surf_blif.specs.declared.error.BlifError.{BlifError}
use Rattle.surf_blif.specs.declared.error.BlifError.TheVariants as errors
use Rattle.surf_blif.specs.Grammar.{TextFault, Unsupported, BadLine, BadCover, MixedCover, model_lines, fault_below, parts_in}
use Rattle.surf_logic.specs.Renamed.{AreNamed, by_text}

-- the inputs, outputs and equations of a text's first model
abbrev pub parts_of : List ℕ → PartsOf (List ℕ)
parts_of bytes = parts_in (model_lines bytes)

-- the first fault of the lines of a text's first model
abbrev pub text_fault : List ℕ → Option TextFault
text_fault bytes = fault_below [] (model_lines bytes)

-- why a text is no circuit
pub data BlifFault : Type 0 where
  InText : TextFault → BlifFault
  TooLarge : ℕ → BlifFault
  InCircuit : Fault (List ℕ) → BlifFault

-- the text has the fault: first those of its lines, then its cost, then those of its equations
abbrev pub HasBlifFault : List ℕ → BlifFault → Type 0
HasBlifFault bytes (InText f) = text_fault bytes ≡ Some f
HasBlifFault bytes (TooLarge n) =
    (text_fault bytes ≡ None) × (cost_of (parts_of bytes) ≡ n) × (1000 < n)
HasBlifFault bytes (InCircuit f) = (text_fault bytes ≡ None) × (cost_of (parts_of bytes) ≤ 1000)
    × HasFault bytes_eq (parts_of bytes) f

-- the text is a circuit of these parts: it has no fault
pub record IsBlif (bytes : List ℕ) (p : PartsOf (List ℕ)) : Type 0 where
  pub parts : parts_of bytes ≡ p
  pub no_fault : (f : BlifFault) → HasBlifFault bytes f → ⊥

-- a circuit over numbered names is the text's: by their texts its inputs and outputs are those of
-- the first model, and its equations are that model's as the turns take them. It is the order of
-- parts over numbers that name the model's
pub record IsRead (bytes : List ℕ) (c : Numbered) : Type 0 where
  pub blif : IsBlif bytes (parts_of bytes)
  pub inputs : (by_text c).inputs ≡ (parts_of bytes).inputs
  pub outputs : (by_text c).outputs ≡ (parts_of bytes).outputs
  pub turns : Turns bytes_eq (parts_of bytes).inputs (parts_of bytes).equations
      (by_text c).equations []
  pub cost : cost_of c.parts ≤ 1000
  pub input_words : list_all is_word (parts_of bytes).inputs ≡ true
  pub output_words : list_all is_word (parts_of bytes).outputs ≡ true
  pub unordered : Numbered
  pub named : AreNamed unordered
  pub names : by_text unordered ≡ parts_of bytes
  pub order : IsOrderOf unordered c

-- the refusal tells a fault of the text, or memory fails
abbrev pub Refuses : List ℕ → BlifError → Type 0
Refuses bytes (errors.Unsupported n t) = HasBlifFault bytes (InText (Unsupported n t))
Refuses bytes (errors.BadLine n) = HasBlifFault bytes (InText (BadLine n))
Refuses bytes (errors.BadCover n) = HasBlifFault bytes (InText (BadCover n))
Refuses bytes (errors.MixedCover n) = HasBlifFault bytes (InText (MixedCover n))
Refuses bytes (errors.Circuit e) =
    (f : Fault (List ℕ)) × (told_fault e ≡ Some f) × HasBlifFault bytes (InCircuit f)
Refuses bytes (errors.TooLarge n) = HasBlifFault bytes (TooLarge n)
Refuses bytes errors.NoMemory = Unit {0}
