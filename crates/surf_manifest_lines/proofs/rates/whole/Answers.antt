use Rattle.std.proofs.Common.{rules, sym, ◌<◌, ◌+◌, ◌-◌, ◌*◌, get_or}
use Rattle.surf_manifest_lines.proofs.Values.{too_large}
use Rattle.surf_manifest_lines.proofs.rates.whole.Goals as goal

pub returns-then-value-gt1000000-clause-value : goal.returns-then-value-gt1000000-clause-value
returns-then-value-gt1000000-clause-value c =
    let large : 1000000 < 10 * c.loop-byte.value + (get_or c.args.digits.now c.loop-byte.byte-index 0 - 48) = search rules in
    sym (too_large c.args.digits.now c.loop-byte.value c.loop-byte.byte-index (search rules) c.loop-byte.invariant.value_is large)
