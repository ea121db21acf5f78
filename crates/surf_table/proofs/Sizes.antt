-- The number of rules fits.
use Rattle.std.proofs.Common.{ℕ, ◌≡◌, ◌+◌, ◌-◌, ◌*◌, ◌/◌, ◌^◌, ◌<◌, ◌≤◌, arith, true}
use Rattle.std.proofs.Math.Nat.{mul-le-mul}
use Rattle.surf_auto.specs.Locals.{is_degree}

pub few_directions : (d : ℕ) → is_degree d ≡ true → d ≤ 6
few_directions d known = grind arith

few_places : (d g : ℕ) → d ≤ 6 → g ≤ 255 → d + d * (d - 1) / 2 * g ≤ 3831
few_places d g a b =
    let e : d - 1 ≤ 5 = omega arith in
    let p : d * (d - 1) ≤ 6 * 5 = mul-le-mul a e in
    let h : d * (d - 1) / 2 ≤ 15 = omega arith in
    let m : d * (d - 1) / 2 * g ≤ 15 * 255 = mul-le-mul h b in
    omega arith

product_fits : (a b : ℕ) → a ≤ 2 ^ 60 → b ≤ 2 ^ 60 → a * b < 2 ^ 128
product_fits a b p q = let m : a * b ≤ 2 ^ 60 * 2 ^ 60 = mul-le-mul p q in omega arith

codes_fit : (d c : ℕ) → d ≤ 6 → c ≤ 2 ^ 28 → 3 * (d + 1) * c * (1 + c + c) < 2 ^ 128
codes_fit d c p q =
    let e : 3 * (d + 1) ≤ 21 = omega arith in
    let m : 3 * (d + 1) * c ≤ 21 * 2 ^ 28 = mul-le-mul e q in
    product_fits (3 * (d + 1) * c) (1 + c + c) (omega arith) (omega arith)

-- at most six directions, 256 states and weights of 255
pub rules_fit : (d n g : ℕ) → d ≤ 6 → n ≤ 256 → g ≤ 255 → 3 * (d + 1) * (n * n * (d + d * (d - 1) / 2 * g)) * (1 + n * n * (d + d * (d - 1) / 2 * g) + n * n * (d + d * (d - 1) / 2 * g)) < 2 ^ 128
rules_fit d n g a b e =
    let s : n * n ≤ 256 * 256 = mul-le-mul b b in
    let k : n * n * (d + d * (d - 1) / 2 * g) ≤ 256 * 256 * 3831 = mul-le-mul s (few_places d g a e) in
    codes_fit d (n * n * (d + d * (d - 1) / 2 * g)) a (omega arith)
