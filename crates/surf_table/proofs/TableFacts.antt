-- What was read is a table and a universe.
use Rattle.std.proofs.Common.{ℕ, ◌+◌, ◌*◌, ◌≤◌, arith}
use Rattle.std.proofs.Math.Nat.{le-mul_of_pos_right, mul-le-mul}
use Rattle.surf_table.specs.Parts.{IsSize}

pub narrow : (margin : ℕ) (size : ℕ × ℕ) → IsSize margin size → size.0 + 2 * margin ≤ 1000000
narrow margin size is =
    let f = is.few in
    let m : size.0 + 2 * margin ≤ (size.0 + 2 * margin) * (size.1 + 2 * margin) = le-mul_of_pos_right (size.0 + 2 * margin) (omega (arith, is.high)) in
    omega arith

pub low : (margin : ℕ) (size : ℕ × ℕ) → IsSize margin size → size.1 + 2 * margin ≤ 1000000
low margin size is =
    let f = is.few in
    let m : 1 * (size.1 + 2 * margin) ≤ (size.0 + 2 * margin) * (size.1 + 2 * margin) = mul-le-mul (omega (arith, is.wide)) (omega arith) in
    omega arith
