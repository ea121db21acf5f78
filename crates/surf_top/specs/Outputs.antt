-- What each command promises of an input.
use Rattle.std.specs.Prelude.{ℕ, List}
use Rattle.surf_status.specs.Calls.{Call}
use Rattle.surf_command_runs.specs.Calls.{run_call, format_call}
use Rattle.surf_command_traces.specs.Calls.{replay_call, outputs_call, observe_call}
use Rattle.surf_command_circuits.specs.Calls.{eval_call, circuit_call, set_call, adder_call}
use Rattle.surf_command_automata.specs.Calls.{step_call, automaton_call}
use Rattle.surf_command_vote.specs.Calls.{vote_call}
use Rattle.surf_top.specs.Jobs.{Job, Run, Format, Eval, Circuit, Set, Automaton, Step, Replay, Outputs, Observe, DemoAdder, DemoVote}

-- what a job writes for an input, when it refuses it, and what its text shows
abbrev pub call_of : Job → List ℕ → Call
call_of (Run seed count) input = run_call seed count input
call_of Format input = format_call input
call_of (Eval bits) input = eval_call bits input
call_of Circuit input = circuit_call input
call_of (Set bits) input = set_call bits input
call_of (Automaton margin last) input = automaton_call margin last input
call_of (Step times) input = step_call times input
call_of Replay input = replay_call input
call_of Outputs input = outputs_call input
call_of (Observe k) input = observe_call k input
call_of (DemoAdder n) input = adder_call n
call_of (DemoVote n) input = vote_call n

-- a job writes this text for an input
abbrev pub IsText : Job → List ℕ → List ℕ → Type 0
IsText job input text = (call_of job input).Is text

-- a job writes some text for an input
abbrev pub HasText : Job → List ℕ → Type 0
HasText job input = (call_of job input).Has

-- what a job's text shows: a run of the manifest that the input spells, a surface that computes its
-- circuit, or one on which the cells of its automaton keep in step
abbrev pub Shows : Job → List ℕ → List ℕ → Type 0
Shows job input text = (call_of job input).Shows text
