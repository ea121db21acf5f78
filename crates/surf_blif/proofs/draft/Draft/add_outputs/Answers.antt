use Rattle.std.proofs.Common.{rules, ◌≡◌, ◌+◌, ◌≤◌, ◌++◌, length}
use Rattle.surf_text.specs.Bytes.{tokens_of}
use Rattle.surf_blif.specs.Drafts.{held_by, numbered_parts}
use Rattle.surf_blif.specs.Steps.{with_outputs}
use Rattle.surf_blif.proofs.Growth.{keeps_within, outputs_put}
use Rattle.surf_blif.proofs.draft.Draft.add_outputs.Goals as goal

pub returns-clause-held : goal.returns-clause-held
returns-clause-held c =
    let s = c.args.self.now in
    let line = c.args.line.now in
    let names = c.numbers_of.new.names in
    let more = c.in_ok-more.more.items in
    let extended : c.extend.new.list.items ≡ s.outputs.items ++ more = search rules in
    let le : s.cost + c.count_tokens.result ≤ 1000 = search rules in
    keeps_within (held_by s) (length (tokens_of line)) c.count_tokens.result (with_outputs (held_by s).parts (tokens_of line)) _ c.count_tokens.ensures.is le
    (rw extended (outputs_put (length line) s.names names (numbered_parts s) more (tokens_of line) c.in_ok-more.ensures.grown c.requires.draft c.in_ok-more.ensures.tokens))
