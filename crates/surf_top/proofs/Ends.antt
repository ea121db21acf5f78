-- Which cause each answer has, and what a text that was written shows.
use Rattle.std.proofs.Common.{ℕ, ◌≡◌, ◌≤◌, ◌<◌, Bool, true, false, List, [], length, Option, Some, None, Result, Ok, Err, IfSome, IfOk, refl, sym, subst, inl, inr, ◌⊎◌, arith}
use Rattle.std.specs.Io.KnownBytes.{Appends}
use Rattle.surf_base.specs.Known.{ReadsWhole}
use Rattle.surf_manifest.specs.Grammar.{ManifestText, manifest_of}
use Rattle.surf_manifest_lines.specs.declared.error.ManifestError.{ManifestError}
use Rattle.surf_blif.specs.Blifs.{parts_of}
use Rattle.surf_status.specs.declared.status.Status.{Status}
use Rattle.surf_status.specs.declared.status.Status.TheVariants.{Done, Refused, Usage, NotEnabled, ReadFault, WriteFault, NoMemory, TooLong}
use Rattle.surf_status.specs.Calls.{EndsAs, IsExclusive, WroteWhole, WroteFront}
use Rattle.surf_command_runs.specs.Calls.{ShowsOf}
use Rattle.surf_command_runs.specs.Runs.{ShowsRun}
use Rattle.surf_command_runs.proofs.Sound.{run_exclusive, format_exclusive}
use Rattle.surf_command_traces.proofs.Sound.{replay_exclusive, outputs_exclusive, observe_exclusive}
use Rattle.surf_command_circuits.specs.Compiled.{HoldsCircuit}
use Rattle.surf_command_circuits.proofs.Sound.{eval_exclusive, circuit_exclusive, set_exclusive, adder_exclusive}
use Rattle.surf_command_automata.specs.Automata.{HoldsColony}
use Rattle.surf_command_automata.proofs.Sound.{step_exclusive, automaton_exclusive}
use Rattle.surf_command_vote.proofs.Sound.{vote_exclusive}
use Rattle.surf_top.specs.Jobs.{Job, Run, Format, Eval, Circuit, Set, Automaton, Step, Replay, Outputs, Observe, DemoAdder, DemoVote, reads}
use Rattle.surf_top.specs.Outputs.{call_of}
use Rattle.surf_top.specs.Answers.{Ends, HasCauses, IsComplete, Offered, PrintsCircuit, PrintsColony, PrintsRun, PrintsWhat, Received, limit}

told : (o : Option (List ℕ)) (bytes : List ℕ) (P : List ℕ → Type 0) → IfSome o (λ left. bytes ≡ left) → length bytes ≤ limit → P bytes → IfSome o (λ input. (length input ≤ limit) × P input)
told None bytes P is le p = tt
told (Some left) bytes P is le p = subst (λ (input : List ℕ). (length input ≤ limit) × P input) is (le, p)

-- the input was read whole, and then the job ended
module _ (job : Job) (e : Ends) (bytes : List ℕ) (is : reads job ≡ true) (read : ReadsWhole e.left_before e.left_after bytes) (le : length bytes ≤ limit) where
  had : (P : List ℕ → Type 0) → P bytes → Received (reads job) e P
  had P p = subst (λ (b : Bool). Received b e P) (sym is) (read.end, told e.left_before bytes P read.all le p)

  pub read_then : (s : Status) → EndsAs (call_of job bytes) e.out s → e.reads_after ≡ e.reads_before → HasCauses (Some job) e s
  read_then Done ends same = had (λ input. WroteWhole (call_of job input) e.out.old e.out.new) ends
  read_then (Refused r) ends same = had (λ input. (call_of job input).Refuses r) ends
  read_then Usage ends same = absurd ends
  read_then (NotEnabled k) ends same = had (λ input. (call_of job input).Bad k) ends
  read_then ReadFault ends same = absurd ends
  read_then WriteFault ends same = (ends.0, had (λ input. WroteFront (call_of job input) e.out.old e.out.new) ends.1)
  read_then NoMemory ends same = (same, ends)
  read_then TooLong ends same = absurd ends

-- nothing was read, and then the job ended
module _ (job : Job) (e : Ends) (is : reads job ≡ false) where
  none : (P : List ℕ → Type 0) → P [] → Received (reads job) e P
  none P p = subst (λ (b : Bool). Received b e P) (sym is) p

  pub unread_then : (s : Status) → EndsAs (call_of job []) e.out s → e.reads_after ≡ e.reads_before → HasCauses (Some job) e s
  unread_then Done ends same = none (λ input. WroteWhole (call_of job input) e.out.old e.out.new) ends
  unread_then (Refused r) ends same = none (λ input. (call_of job input).Refuses r) ends
  unread_then Usage ends same = absurd ends
  unread_then (NotEnabled k) ends same = none (λ input. (call_of job input).Bad k) ends
  unread_then ReadFault ends same = absurd ends
  unread_then WriteFault ends same = (ends.0, none (λ input. WroteFront (call_of job input) e.out.old e.out.new) ends.1)
  unread_then NoMemory ends same = (same, ends)
  unread_then TooLong ends same = absurd ends

-- the job that was asked for
pub asked : (o : Option Job) (job : Job) (e : Ends) (s : Status) → o ≡ Some job → HasCauses (Some job) e s → HasCauses o e s
asked o job e s is h = subst (λ (p : Option Job). HasCauses p e s) (sym is) h

anything : (o : Option (List ℕ)) (P : List ℕ → Type 0) → ((x : List ℕ) → P x) → IfSome o P
anything None P h = tt
anything (Some x) P h = h x

each : (o : Option (List ℕ)) (P Q : List ℕ → Type 0) → ((x : List ℕ) → P x → Q x) → IfSome o P → IfSome o Q
each None P Q h p = tt
each (Some x) P Q h p = h x p

abbrev IsOver : Job → Status → List ℕ → Type 0
IsOver job s input = (call_of job input).Has → (s ≡ Done) ⊎ (s ≡ NoMemory)

offered : (b : Bool) (e : Ends) (P : List ℕ → Type 0) → ((x : List ℕ) → P x) → Offered b e P
offered true e P h = anything e.left_before (λ input. length input ≤ limit → P input) (λ x le. h x)
offered false e P h = h []

received : (b : Bool) (e : Ends) (P Q : List ℕ → Type 0) → ((x : List ℕ) → P x → Q x) → Received b e P → Offered b e Q
received true e P Q h p = each e.left_before (λ input. (length input ≤ limit) × P input) (λ input. length input ≤ limit → Q input) (λ x q le. h x q.1) p.1
received false e P Q h p = h [] p

-- an input that is refused has no text, and neither has one with an event that is not enabled
exclusive : (job : Job) (input : List ℕ) → IsExclusive (call_of job input)
exclusive (Run seed count) input = run_exclusive seed count input
exclusive Format input = format_exclusive input
exclusive (Eval bits) input = eval_exclusive bits input
exclusive Circuit input = circuit_exclusive input
exclusive (Set bits) input = set_exclusive bits input
exclusive (Automaton margin last) input = automaton_exclusive margin last input
exclusive (Step times) input = step_exclusive times input
exclusive Replay input = replay_exclusive input
exclusive Outputs input = outputs_exclusive input
exclusive (Observe k) input = observe_exclusive k input
exclusive (DemoAdder n) input = adder_exclusive n
exclusive (DemoVote n) input = vote_exclusive n

-- the causes leave only Done and want of memory where nothing else can have come
pub complete : (o : Option Job) (e : Ends) (s : Status) → HasCauses o e s → IsComplete o e s
complete None e s causes = tt
complete (Some job) e Done causes = λ rose wrote. offered (reads job) e (IsOver job Done) (λ x ok. inl refl)
complete (Some job) e (Refused r) causes = λ rose wrote.
    received (reads job) e (λ input. (call_of job input).Refuses r) (IsOver job (Refused r)) (λ x p ok. absurd ((exclusive job x).refused r p ok)) causes
complete (Some job) e (NotEnabled k) causes = λ rose wrote.
    received (reads job) e (λ input. (call_of job input).Bad k) (IsOver job (NotEnabled k)) (λ x p ok. absurd ((exclusive job x).bad k p ok)) causes
complete (Some job) e Usage causes = absurd causes
complete (Some job) e ReadFault causes = λ rose wrote. absurd (rose causes.1)
complete (Some job) e WriteFault causes = λ rose wrote. absurd (wrote causes.0)
complete (Some job) e NoMemory causes = λ rose wrote. offered (reads job) e (IsOver job NoMemory) (λ x ok. inr refl)
complete (Some job) e TooLong causes = λ rose wrote.
    subst (λ (b : Bool). Offered b e (IsOver job TooLong)) (sym causes.0)
    (each e.left_before (λ input. limit < length input) (λ input. length input ≤ limit → IsOver job TooLong input) (λ x lt le. absurd (omega (arith, lt, le))) causes.1)

-- what a job's text shows
done_shows : (job : Job) (e : Ends) (s : Status) (P : List ℕ → List ℕ → Type 0) → reads job ≡ true → ((input text : List ℕ) → (call_of job input).Shows text → P input text) → HasCauses (Some job) e s → PrintsWhat e s P
done_shows job e Done P is h causes = λ done.
    each e.left_before (λ input. (length input ≤ limit) × WroteWhole (call_of job input) e.out.old e.out.new)
    (λ input. (text : List ℕ) × P input text × Appends e.out.old e.out.new text)
    (λ input p. ((p.1).text, h input (p.1).text (p.1).shows, (p.1).whole))
    (subst (λ (b : Bool). Received b e (λ input. WroteWhole (call_of job input) e.out.old e.out.new)) is causes).1
done_shows job e (Refused r) P is h causes = λ done. absurd cc
done_shows job e Usage P is h causes = λ done. absurd cc
done_shows job e (NotEnabled k) P is h causes = λ done. absurd cc
done_shows job e ReadFault P is h causes = λ done. absurd cc
done_shows job e WriteFault P is h causes = λ done. absurd cc
done_shows job e NoMemory P is h causes = λ done. absurd cc
done_shows job e TooLong P is h causes = λ done. absurd cc

shows_run : (count : ℕ) (r : Result ManifestText ManifestError) (text : List ℕ) → ShowsOf count r text → IfOk r (λ m. ShowsRun m.system count text)
shows_run count (Ok m) text shows = shows
shows_run count (Err f) text shows = absurd shows

pub prints_run : (o : Option Job) (e : Ends) (s : Status) → HasCauses o e s → PrintsRun o e s
prints_run None e s causes = tt
prints_run (Some (Run seed count)) e s causes =
    done_shows (Run seed count) e s (λ input text. IfOk (manifest_of input) (λ m. ShowsRun m.system count text)) refl (λ input text. shows_run count (manifest_of input) text) causes
prints_run (Some job) e s causes = tt

pub prints_circuit : (o : Option Job) (e : Ends) (s : Status) → HasCauses o e s → PrintsCircuit o e s
prints_circuit None e s causes = tt
prints_circuit (Some Circuit) e s causes =
    done_shows Circuit e s (λ input text. HoldsCircuit (parts_of input) text) refl (λ input text shows. shows) causes
prints_circuit (Some job) e s causes = tt

pub prints_colony : (o : Option Job) (e : Ends) (s : Status) → HasCauses o e s → PrintsColony o e s
prints_colony None e s causes = tt
prints_colony (Some (Automaton margin last)) e s causes =
    done_shows (Automaton margin last) e s (λ input text. HoldsColony margin last input text) refl (λ input text shows. shows) causes
prints_colony (Some job) e s causes = tt
