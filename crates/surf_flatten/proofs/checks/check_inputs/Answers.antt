use Rattle.std.proofs.Common.{rules, ◌≡◌, ◌+◌, ◌∙◌, true, false, Some, sym, ap, drop, if◌then◌else◌}
use Rattle.std.specs.Str.{bytes_eq}
use Rattle.std.specs.Option.{option_map}
use Rattle.surf_logic.specs.Order.{has, first_missing}
use Rattle.surf_flatten.specs.Faults.{Unconnected}
use Rattle.surf_flatten.proofs.Firsts.{missing_at, refuse_by}
use Rattle.surf_flatten.proofs.checks.check_inputs.Goals as goal

pub returns-then-not-holds : goal.returns-then-not-holds
returns-then-not-holds c =
    let bound = c.args.bound.now in
    let inputs = c.args.inputs.now in
    let k = c.loop-number.number in
    let t = c.text-input.result.now in
    let none : has bytes_eq bound t ≡ false = search rules in
    let rest = first_missing bytes_eq bound (drop (k + 1) inputs) in
    let missing : first_missing bytes_eq bound inputs ≡ Some t = sym c.loop-number.invariant ∙ missing_at bound inputs k t c.text-input.ensures ∙ ap (λ b. if b then rest else Some t) none in
    refuse_by (option_map (Unconnected c.args.line) (first_missing bytes_eq bound inputs)) (Unconnected c.args.line t) c.refusal.result (ap (option_map (Unconnected c.args.line)) missing) c.refusal.ensures

pub loop-number-preserved : goal.loop-number-preserved
loop-number-preserved c =
    let bound = c.args.bound.now in
    let inputs = c.args.inputs.now in
    let k = c.loop-number.number in
    let t = c.text-input.result.now in
    let there : has bytes_eq bound t ≡ true = search rules in
    let rest = first_missing bytes_eq bound (drop (k + 1) inputs) in
    sym (missing_at bound inputs k t c.text-input.ensures ∙ ap (λ b. if b then rest else Some t) there) ∙ c.loop-number.invariant
