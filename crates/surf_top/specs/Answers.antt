-- When each answer of the program comes, and what it leaves.
use Rattle.std.specs.Prelude.{ℕ, ◌≡◌, ◌<◌, ◌≤◌, ◌⊎◌, Bool, true, false, List, [], length, Option, Some, None, IfSome, IfOk}
use Rattle.std.specs.Io.KnownBytes.{Appends, IsAtEnd}
use Rattle.surf_base.specs.Causes.{Rose}
use Rattle.surf_manifest.specs.Grammar.{manifest_of}
use Rattle.surf_status.specs.declared.status.Status.{Status}
use Rattle.surf_status.specs.declared.status.Status.TheVariants.{Done, Refused, Usage, NotEnabled, ReadFault, WriteFault, NoMemory, TooLong}
use Rattle.surf_top.specs.Jobs.{Job, Run, Circuit, Automaton, reads}
use Rattle.surf_top.specs.Outputs.{call_of}
use Rattle.surf_blif.specs.Blifs.{parts_of}
use Rattle.surf_command_automata.specs.Automata.{HoldsColony}
use Rattle.surf_command_circuits.specs.Compiled.{HoldsCircuit}
use Rattle.surf_command_runs.specs.Runs.{ShowsRun}
use Rattle.surf_status.specs.Calls.{WroteWhole, WroteFront}
use Rattle.surf_status.specs.Writes.{Writes}

-- the most bytes that an input may have
abbrev pub limit : ℕ
limit = 268435456

-- the bytes that a source has left and its count of faults, at a call's entry and at its return,
-- and what the call did to the output
pub record Ends : Type 0 where
  pub left_before : Option (List ℕ)
  pub left_after : Option (List ℕ)
  pub reads_before : ℕ
  pub reads_after : ℕ
  pub out : Writes

-- the same, as a source tells them
abbrev pub ends : {S : Type 0} → (S → Option (List ℕ)) → (S → ℕ) → S → S → Writes → Ends
ends left faults old new out = record {
  left_before = left old;
  left_after = left new;
  reads_before = faults old;
  reads_after = faults new;
  out = out;
}

-- no count of faults rose
abbrev pub NoFaults : Ends → Type 0
NoFaults e = (e.reads_after ≡ e.reads_before) × (e.out.now ≡ e.out.before)

-- the input was read to its end, and it is not too long
abbrev pub ReadWhole : Ends → (List ℕ → Type 0) → Type 0
ReadWhole e P =
    IsAtEnd e.left_after × IfSome e.left_before (λ input. (length input ≤ limit) × P input)

-- of the input that the job was carried out for, and of no bytes where the job reads none
abbrev pub Received : Bool → Ends → (List ℕ → Type 0) → Type 0
Received true e P = ReadWhole e P
Received false e P = P []

-- when each answer comes; of want of memory nothing is said but that no fault was
abbrev pub HasCauses : Option Job → Ends → Status → Type 0
HasCauses None e Usage = Unit {0}
HasCauses (Some job) e Usage = ⊥
HasCauses None e Done = ⊥
HasCauses (Some job) e Done =
    Received (reads job) e (λ input. WroteWhole (call_of job input) e.out.old e.out.new)
HasCauses None e (Refused r) = ⊥
HasCauses (Some job) e (Refused r) =
    Received (reads job) e (λ input. (call_of job input).Refuses r)
HasCauses None e (NotEnabled k) = ⊥
HasCauses (Some job) e (NotEnabled k) =
    Received (reads job) e (λ input. (call_of job input).Bad k)
HasCauses None e ReadFault = ⊥
HasCauses (Some job) e ReadFault = (reads job ≡ true) × Rose e.reads_before e.reads_after
HasCauses None e TooLong = ⊥
HasCauses (Some job) e TooLong =
    (reads job ≡ true) × IfSome e.left_before (λ input. limit < length input)
HasCauses None e WriteFault = ⊥
HasCauses (Some job) e WriteFault =
    Rose e.out.before e.out.now
    × Received (reads job) e (λ input. WroteFront (call_of job input) e.out.old e.out.new)
HasCauses None e NoMemory = ⊥
HasCauses (Some job) e NoMemory = NoFaults e

-- of the input of a job, if it is not too long, and of no bytes where the job reads none
abbrev pub Offered : Bool → Ends → (List ℕ → Type 0) → Type 0
Offered true e P = IfSome e.left_before (λ input. length input ≤ limit → P input)
Offered false e P = P []

-- Where the words are a command, the input is not too long, it has an output, and no count of
-- faults rose, the answer is Done, or want of memory.
abbrev pub IsComplete : Option Job → Ends → Status → Type 0
IsComplete None e status = Unit {0}
IsComplete (Some job) e status =
    (Rose e.reads_before e.reads_after → ⊥) → (Rose e.out.before e.out.now → ⊥)
    → Offered (reads job) e (λ input. (call_of job input).Has →
    (status ≡ Done) ⊎ (status ≡ NoMemory))

-- where the answer is Done, a text was written that shows this of the input
abbrev pub PrintsWhat : Ends → Status → (List ℕ → List ℕ → Type 0) → Type 0
PrintsWhat e status P =
    status ≡ Done → IfSome e.left_before (λ input. (text : List ℕ) × P input text
    × Appends e.out.old e.out.new text)

-- what `run` writes shows a run of the manifest that was read
abbrev pub PrintsRun : Option Job → Ends → Status → Type 0
PrintsRun None e status = Unit {0}
PrintsRun (Some (Run seed count)) e status =
    PrintsWhat e status (λ input text. IfOk (manifest_of input) (λ m. ShowsRun m.system count text))
PrintsRun (Some job) e status = Unit {0}

-- In what `circuit` writes the grammar reads a manifest and a legend. The legend names the inputs
-- and outputs of the circuit that was read. Whichever bits the inputs are set to, no run has more
-- events than the legend says, and a run that cannot go on has just so many and shows each output's
-- value.
abbrev pub PrintsCircuit : Option Job → Ends → Status → Type 0
PrintsCircuit None e status = Unit {0}
PrintsCircuit (Some Circuit) e status =
    PrintsWhat e status (λ input text. HoldsCircuit (parts_of input) text)
PrintsCircuit (Some job) e status = Unit {0}

-- In what `automaton` writes the grammar reads a manifest. In every run of it, in whatever order its
-- events come, a cell of generation k shows the synchronous state of k of the automaton that was
-- read, and neighbours are within one generation. With a last generation each run ends there.
abbrev pub PrintsColony : Option Job → Ends → Status → Type 0
PrintsColony None e status = Unit {0}
PrintsColony (Some (Automaton margin last)) e status =
    PrintsWhat e status (λ input text. HoldsColony margin last input text)
PrintsColony (Some job) e status = Unit {0}
