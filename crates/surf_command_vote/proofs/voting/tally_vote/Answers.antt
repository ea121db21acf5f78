use Rattle.std.proofs.Common.{arith, ℕ, ◌≡◌, ◌∙◌, List, length, Ok, ap, sym, subst}
use Rattle.surf_auto.specs.Counts.{count_rule}
use Rattle.surf_auto.specs.Sync.{Universe, box_of, universe}
use Rattle.surf_rle.specs.Rle.{Refuses, rle_of}
use Rattle.surf_rle.specs.Sources.{source_by}
use Rattle.surf_demo.specs.Votes.{vote_text}
use Rattle.surf_demo.proofs.Lengths.{vote_short}
use Rattle.surf_command_vote.proofs.Known.{told}
use Rattle.surf_command_vote.proofs.VoteText.{vote_plain, vote_refused}
use Rattle.surf_command_vote.proofs.voting.tally_vote.Goals as goal

pub read_rle-requires-clause-within : goal.read_rle-requires-clause-within
read_rle-requires-clause-within c =
    let short = vote_short c.args.n c.requires.1 in
    let long = ap length (c.deref.ensures.value ∙ c.in-Ok.ensures) in
    omega (arith, short, long)

pub unreachable-requires : goal.unreachable-requires
unreachable-requires c =
    let text : c.deref.result.now ≡ vote_text c.args.n = c.deref.ensures.value ∙ c.in-Ok.ensures in
    let a = c.in-Ok-Moore.field-0-0 in
    vote_plain c.args.n c.requires.0 c.requires.1 a.local (box_of a.kind a.wrap a.width a.height) a.cells.items
    (ap (rle_of 0) (sym text) ∙ c.in-Ok-Moore.ensures.ok ∙ ap (λ p. Ok (source_by p)) c.in-Ok-Moore.field-0-is)

pub returns-in-Err-clause-cause : goal.returns-in-Err-clause-cause
returns-in-Err-clause-cause c =
    let text : c.deref.result.now ≡ vote_text c.args.n = c.deref.ensures.value ∙ c.in-Ok.ensures in
    vote_refused c.args.n c.requires.0 c.requires.1 c.in-Err.error
    (subst (λ (b : List ℕ). Refuses (rle_of 0 b) c.in-Err.error) text c.in-Err.ensures.refused)

pub returns-in-Ok-tally_colony-clause-shown : goal.returns-in-Ok-tally_colony-clause-shown
returns-in-Ok-tally_colony-clause-shown c =
    let a = c.in-Ok-Count.automaton in
    let U : Universe = universe (box_of a.kind a.wrap a.width a.height) (count_rule a.local) a.edge a.cells.items in
    let text : c.deref.result.now ≡ vote_text c.args.n = c.deref.ensures.value ∙ c.in-Ok.ensures in
    told c.args.n c.event_count.result U c.in-Ok-tally_colony.tally
    (ap (rle_of 0) (sym text) ∙ c.in-Ok-Count.ensures.ok ∙ ap (λ p. Ok (source_by p)) c.in-Ok-Count.field-0-is) c.event_count.ensures c.in-Ok-tally_colony.ensures
