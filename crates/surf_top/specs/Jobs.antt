-- The jobs of the program.
use Rattle.std.specs.Prelude.{ℕ, ◌≤◌, Bool, true, false, List, Option}
use Rattle.std.specs.Option.{option_map}
use Rattle.surf_words.specs.Words.{Spoken, words_of}
use Rattle.surf_words.specs.Words as words
use Rattle.surf_command_circuits.specs.Bits.{bits_of}
use Rattle.surf_command_automata.specs.Calls.{AreWithin}
use Rattle.surf_top.specs.declared.job.Job as declared
use Rattle.surf_top.specs.declared.job.Job.TheVariants as variants

-- a command with its values
pub data Job : Type 0 where
  Run : ℕ → ℕ → Job
  Format : Job
  Eval : List Bool → Job
  Circuit : Job
  Set : List Bool → Job
  Automaton : ℕ → Option ℕ → Job
  Step : ℕ → Job
  Replay : Job
  Outputs : Job
  Observe : ℕ → Job
  DemoAdder : ℕ → Job
  DemoVote : ℕ → Job

-- a job of the program as the definitions see it
abbrev pub meant : declared.Job → Job
meant (variants.Run seed count) = Run seed count
meant variants.Format = Format
meant (variants.Eval bits) = Eval (bits_of bits.now)
meant variants.Circuit = Circuit
meant (variants.Set bits) = Set (bits_of bits.now)
meant (variants.Automaton margin last) = Automaton margin last
meant (variants.Step times) = Step times
meant variants.Replay = Replay
meant variants.Outputs = Outputs
meant (variants.Observe k) = Observe k
meant (variants.DemoAdder n) = DemoAdder n
meant (variants.DemoVote n) = DemoVote n

-- the margin of an automaton and its last generation, if one is given, and the size of a
-- demonstration are within their limits
abbrev pub IsWithin : Job → Type 0
IsWithin (Automaton margin last) = AreWithin margin last
IsWithin (DemoAdder n) = (1 ≤ n) × (n ≤ 32)
IsWithin (DemoVote n) = (1 ≤ n) × (n ≤ 64)
IsWithin job = Unit {0}

-- a demonstration reads no input
abbrev pub reads : Job → Bool
reads (DemoAdder n) = false
reads (DemoVote n) = false
reads other = true

abbrev pub job_for : Spoken → Job
job_for (words.Run seed count) = Run seed count
job_for words.Format = Format
job_for (words.Eval bits) = Eval (bits_of bits)
job_for words.Circuit = Circuit
job_for (words.Set bits) = Set (bits_of bits)
job_for (words.Automaton margin last) = Automaton margin last
job_for (words.Step times) = Step times
job_for words.Replay = Replay
job_for words.Outputs = Outputs
job_for (words.Observe k) = Observe k
job_for (words.DemoAdder n) = DemoAdder n
job_for (words.DemoVote n) = DemoVote n

-- the job that the words ask for, if they spell a command
abbrev pub job_of : List (List ℕ) → Option Job
job_of ws = option_map job_for (words_of ws)
