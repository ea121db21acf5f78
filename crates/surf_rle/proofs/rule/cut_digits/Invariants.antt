use Rattle.std.proofs.Common.{◌≡◌, ◌<◌, ℕ, get_or, true, drop}
use Rattle.surf_base.specs.Decimal.{is_digit}
use Rattle.surf_text.specs.Bytes.{without_front}
use Rattle.surf_rle.proofs.rule.cut_digits.Given as goal

abbrev pub invariant-loop-i : goal.invariant-loop-i
invariant-loop-i l = record {
  digits : (k : ℕ) → k < l.i → is_digit (get_or l.text k 0) ≡ true;
  rest : without_front is_digit (drop l.i l.text) ≡ without_front is_digit l.text;
}
