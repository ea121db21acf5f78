-- The two parts of a rate.
use Rattle.std.specs.Prelude.{ℕ, List, length, Option, Some, None, ◌&&◌, nat_le, if◌then◌else◌}
use Rattle.surf_base.specs.Decimal.{value_from}
use Rattle.surf_text.specs.Bytes.{is_digits}
use Rattle.surf_manifest_lines.specs.Item.{millionths}

abbrev pub whole_of : List ℕ → Option ℕ
whole_of ds =
    if is_digits ds && nat_le (value_from 0 ds) 1000000 then Some (value_from 0 ds) else None

abbrev pub fraction_of : List ℕ → Option ℕ
fraction_of ds = if is_digits ds && nat_le (length ds) 6 then Some (millionths 100000 ds) else None
