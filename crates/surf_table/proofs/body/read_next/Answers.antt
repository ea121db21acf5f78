use Rattle.std.proofs.Common.{rules, ◌≡◌, ◌∙◌, ◌-◌, ◌+◌, ◌∷◌, List, ℕ, [], map, refl, ap, sym}
use Rattle.std.specs.List.{concat, range_with_len}
use Rattle.surf_table.specs.TableLines.{next_line}
use Rattle.surf_table.specs.TableTexts.{Refuses, gathered, next_lines, read, read_all}
use Rattle.surf_table.specs.Readings.{all_kept_with}
use Rattle.surf_table.proofs.Refusals.{refused_over}
use Rattle.surf_table.proofs.Rows.{all_joined, plain_kept, row_kept, row_refused, none_left, range_at, range_end}
use Rattle.surf_table.proofs.body.read_next.Goals as goal

pub returns-in_err-read_next_states-clause-refused : goal.returns-in_err-read_next_states-clause-refused
returns-in_err-read_next_states-clause-refused c =
    let f = λ (row : List ℕ). row in
    let E = next_line c.args.sums c.args.states in
    let own = c.loop-own.own in
    let n = c.args.states in
    let kept = c.loop-own.next.items in
    let ls = c.loop-own.lines in
    let all = read_all (next_lines c.args.sums n) c.args.lines.now in
    let others = map E (range_with_len (own + 1) (n - (own + 1))) in
    let left : all_kept_with f [] all ≡ all_kept_with f kept (read_all (E own ∷ others) ls) =
    c.loop-own.invariant.read ∙ ap (λ es. all_kept_with f kept (read_all es ls)) (range_at E own n c.loop-own-test.true) in
    let refused : Refuses all c.in_err-read_next_states.field-0.0 = row_refused f [] kept all (E own) others ls c.in_err-read_next_states.field-0.0 left c.in_err-read_next_states.ensures.refused in
    let told : Refuses (gathered concat all) c.in_err-read_next_states.field-0.0 = refused_over (gathered concat) (λ e. refl) all c.in_err-read_next_states.field-0.0 refused in
    search rules

pub loop-own-preserved : goal.loop-own-preserved
loop-own-preserved c =
    let f = λ (row : List ℕ). row in
    let E = next_line c.args.sums c.args.states in
    let own = c.loop-own.own in
    let n = c.args.states in
    let kept = c.loop-own.next.items in
    let ls = c.loop-own.lines in
    record {
      read = c.loop-own.invariant.read
          ∙ ap (λ es. all_kept_with f kept (read_all es ls)) (range_at E own n c.loop-own-test.true)
          ∙ row_kept f kept c.read_next_states.new.kept.items (E own) (map E (range_with_len (own + 1) (n - (own + 1)))) ls c.read_next_states.new.lines
          (sym (plain_kept kept (read (E own) ls)) ∙ c.in_ok-read_next_states.ensures.ok);
    }

pub returns-clause-ok : goal.returns-clause-ok
returns-clause-ok c =
    let f = λ (row : List ℕ). row in
    let E = next_line c.args.sums c.args.states in
    let kept = c.loop-own.next.items in
    let ls = c.loop-own.lines in
    all_joined (read_all (next_lines c.args.sums c.args.states) c.args.lines.now)
    ∙ c.loop-own.invariant.read
    ∙ ap (λ es. all_kept_with f kept (read_all es ls)) (range_end E c.loop-own.own c.args.states c.loop-own-test.false)
    ∙ none_left f kept ls
