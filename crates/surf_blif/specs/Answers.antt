-- What a refusal says of the lines read so far. Want of memory says nothing.
use Rattle.std.specs.Prelude.{◌≡◌, ◌≤◌, ℕ, List, Option, Some, None, Result, Ok, Err, is_some, true}
use Rattle.surf_logic.specs.declared.turns.CircuitError.{CircuitError}
use Rattle.surf_logic.specs.Equations.{cost_of}
use Rattle.surf_logic.specs.Answers.{told_fault}
use Rattle.surf_blif.specs.declared.error.BlifError.{BlifError}
use Rattle.surf_blif.specs.declared.error.BlifError.TheVariants as errors
use Rattle.surf_blif.specs.declared.reading.Extent.{Extent}
use Rattle.surf_blif.specs.declared.reading.Extent.TheVariants.{GoesOn, Stops, Ends}
use Rattle.surf_blif.specs.Grammar.{Placed, TextFault, Unsupported, BadLine, BadCover, MixedCover}
use Rattle.surf_blif.specs.Blifs.{parts_of, text_fault}
use Rattle.surf_blif.specs.Steps.{Held, Reached, read_on}

-- the refusal tells this fault
abbrev pub Tells : Option TextFault → BlifError → Type 0
Tells o (errors.Unsupported n t) = o ≡ Some (Unsupported n t)
Tells o (errors.BadLine n) = o ≡ Some (BadLine n)
Tells o (errors.BadCover n) = o ≡ Some (BadCover n)
Tells o (errors.MixedCover n) = o ≡ Some (MixedCover n)
Tells o (errors.Circuit e) = ⊥
Tells o (errors.TooLarge n) = ⊥
Tells o errors.NoMemory = Unit {0}

-- the fault that a reading gives
abbrev pub fault_in : {X : Type 0} → Result X TextFault → Option TextFault
fault_in (Ok x) = None
fault_in (Err f) = Some f

-- what comes of the lines behind one at which the model extends so
abbrev pub read_then : Extent → Reached → List Placed → Result Reached TextFault
read_then GoesOn s ls = read_on s ls
read_then Stops s ls = Ok s
read_then Ends s ls = Ok s

-- what is held once a text without a fault was read
pub record IsReadAs (bytes : List ℕ) (h : Held) : Type 0 where
  pub no_fault : text_fault bytes ≡ None
  pub cost : h.cost ≡ cost_of (parts_of bytes)
  pub parts : h.cost ≤ 1000 → h.parts ≡ parts_of bytes

-- the refusal holds this error, or memory fails
abbrev pub HoldsError : CircuitError → BlifError → Type 0
HoldsError e (errors.Circuit g) = (g ≡ e) × (is_some (told_fault e) ≡ true)
HoldsError e errors.NoMemory = Unit {0}
HoldsError e (errors.Unsupported n t) = ⊥
HoldsError e (errors.BadLine n) = ⊥
HoldsError e (errors.BadCover n) = ⊥
HoldsError e (errors.MixedCover n) = ⊥
HoldsError e (errors.TooLarge n) = ⊥
