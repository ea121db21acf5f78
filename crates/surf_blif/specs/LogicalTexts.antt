-- The text of a logical line that was taken.
use Rattle.std.specs.Prelude.{ℕ, List}
use Rattle.surf_blif.specs.declared.logical.LogicalLine.{LogicalLine}
use Rattle.std.specs.Option.{option_map_or}

-- the line's own, or where it was joined the joined one
abbrev pub text_by : LogicalLine → List ℕ → List ℕ
text_by l joined = option_map_or (λ t. t.now) l.alone joined
