-- Steps of the pick among eight parts.
use Rattle.std.proofs.Common.{ℕ, ◌+◌, List, arith}
use Rattle.surf_pick.specs.Wides.{Among, Part}
use Rattle.surf_pick.proofs.WideRows.{first_le}

pub part_among : (S : List ℕ) (n m g r p rest : ℕ) → Among S n g r → Part S m g r (g + n) p rest → Among S m p rest
part_among S n m g r p rest a part = record {
  within = omega (arith, a.within, part.high);
  small = omega (arith, a.small, first_le S (p + m) (g + n) part.high, first_le S g p part.low);
  below = part.below;
}
