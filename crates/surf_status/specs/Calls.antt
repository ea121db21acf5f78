-- What a command promises of the input that it read, and how it then ends.
use Rattle.std.specs.Prelude.{ℕ, ◌≡◌, List, Option}
use Rattle.std.specs.Io.KnownBytes.{Appends}
use Rattle.surf_base.specs.Causes.{Rose}
use Rattle.surf_base.specs.Known.{AppendsFront}
use Rattle.surf_status.specs.declared.status.Refusal.{Refusal}
use Rattle.surf_status.specs.declared.status.Status.{Status}
use Rattle.surf_status.specs.declared.status.Status.TheVariants.{Done, Refused, Usage, NotEnabled, ReadFault, WriteFault, NoMemory, TooLong}
use Rattle.surf_status.specs.Writes.{Writes}

-- a command with its words, over one input
pub record Call : Type 1 where
  -- it writes this text
  pub Is : List ℕ → Type 0
  -- there is a text that it writes
  pub Has : Type 0
  -- it refuses the input
  pub Refuses : Refusal → Type 0
  -- it finds this event of the input not enabled at its turn
  pub Bad : ℕ → Type 0
  -- what the text that it writes shows
  pub Shows : List ℕ → Type 0

-- an input that is refused has no text, and neither has one with an event that is not enabled
pub record IsExclusive (call : Call) : Type 0 where
  pub refused : (r : Refusal) → call.Refuses r → call.Has → ⊥
  pub bad : (k : ℕ) → call.Bad k → call.Has → ⊥

-- the text of the call was written, and nothing else
pub record WroteWhole (call : Call) (old new : Option (List ℕ)) : Type 0 where
  pub text : List ℕ
  pub is : call.Is text
  pub shows : call.Shows text
  pub whole : Appends old new text

-- a prefix of the text of the call was written
pub record WroteFront (call : Call) (old new : Option (List ℕ)) : Type 0 where
  pub text : List ℕ
  pub is : call.Is text
  pub shows : call.Shows text
  pub front : AppendsFront old new text

-- which answers a command may give for an input that was read, and what it then wrote
abbrev pub EndsAs : Call → Writes → Status → Type 0
EndsAs call w Done = WroteWhole call w.old w.new
EndsAs call w (Refused r) = call.Refuses r
EndsAs call w (NotEnabled k) = call.Bad k
EndsAs call w WriteFault = Rose w.before w.now × WroteFront call w.old w.new
EndsAs call w NoMemory = w.now ≡ w.before
EndsAs call w Usage = ⊥
EndsAs call w ReadFault = ⊥
EndsAs call w TooLong = ⊥

-- the answers that leave the output as it was
abbrev pub IsQuiet : Status → Type 0
IsQuiet Done = ⊥
IsQuiet WriteFault = ⊥
IsQuiet (Refused r) = Unit {0}
IsQuiet Usage = Unit {0}
IsQuiet (NotEnabled k) = Unit {0}
IsQuiet ReadFault = Unit {0}
IsQuiet NoMemory = Unit {0}
IsQuiet TooLong = Unit {0}
