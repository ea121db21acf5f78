-- Values of digits that are too large.
use Rattle.std.proofs.Common.{ℕ, ◌≡◌, ◌+◌, ◌-◌, ◌*◌, ◌<◌, List, length, drop, get_or, None, refl, arith}
use Rattle.std.proofs.Math.Bool.{and-false}
use Rattle.std.proofs.lemmas.Bool.{lt-leb}
use Rattle.surf_base.specs.Decimal.{value_from}
use Rattle.surf_base.proofs.DecimalLemmas.{value_step, value_from_grows}
use Rattle.surf_manifest_lines.specs.Rates.{whole_of}

pub too_large : (ds : List ℕ) (n i : ℕ) → i < length ds → value_from n (drop i ds) ≡ value_from 0 ds → 1000000 < 10 * n + (get_or ds i 0 - 48) → whole_of ds ≡ None
too_large ds n i lt same large =
    let le : 1000000 < value_from 0 ds = omega (arith, value_from_grows (10 * n + (get_or ds i 0 - 48)) (drop (i + 1) ds), value_step n ds i lt) in
    rw (lt-leb (value_from 0 ds) 1000000 le, and-false) refl
