-- A coordinate that is moved by one or not at all.
use Rattle.std.specs.Prelude.{nat_lt, nat_le, if◌then◌else◌, ◌&&◌, None}
use Rattle.std.proofs.Common.{◌≡◌, ℕ, zero, suc, ◌+◌, ◌-◌, ◌*◌, ◌/◌, ◌%◌, ◌<◌, ◌≤◌, ◌≢◌, Bool, true, false, ◌⊎◌, Some, sym, refl, ap, subst, ◌∙◌, inl, inr, arith}
use Rattle.std.proofs.lemmas.Bool.{cases_eq, cases_order, lt-ltb, le-leb, ltb-true, leb-true, and_parts}
use Rattle.std.proofs.lemmas.Nat.{mod-mul-add, div-add-mod'}
use Rattle.std.proofs.Math.Nat.{mul-le-mul_left, add-mul-mod_self_left}
use Rattle.surf_lattice.specs.declared.site.GridKind.{GridKind}
use Rattle.surf_lattice.specs.Grids.{degree, shift_x, shift_y, moved}
use Rattle.surf_lattice.specs.declared.site.GridKind.TheVariants.{Square, Hex}

-- x goes to z on a side of this length
pub record Moves (wrap : Bool) (side x shift z : ℕ) : Type 0 where
  pub lands : z < side
  pub by : (suc z ≡ x + shift) ⊎ (((wrap ≡ true) × (suc z ≡ x + shift + side)) ⊎ ((wrap ≡ true) × (suc z + side ≡ x + shift)))

remainder : (v q side r : ℕ) → r < side → v ≡ q * side + r → v % side ≡ r
remainder v q side r h e = ap (λ x. x % side) e ∙ mod-mul-add q side r h

pub moves_moved : (wrap : Bool) (side x shift z : ℕ) → x < side → shift ≤ 2 → Moves wrap side x shift z → moved wrap side x shift ≡ Some z
moves_moved true side x shift z h two m = ap Some (elim m.by [
  | inl e ↦ remainder (x + shift + side - 1) 1 side z m.lands (omega arith)
  | inr w ↦ elim w [
    | inl v ↦ remainder (x + shift + side - 1) 0 side z m.lands (let e : suc z ≡ x + shift + side = v.1 in omega arith)
    | inr v ↦ remainder (x + shift + side - 1) 2 side z m.lands (let e : suc z + side ≡ x + shift = v.1 in omega arith)
  ]
])
moves_moved false side x shift z h two m = elim m.by [
  | inl e ↦
      let l = m.lands in
      let a : nat_lt 0 (x + shift) ≡ true = lt-ltb 0 (x + shift) (omega arith) in
      let b : nat_le (x + shift) side ≡ true = le-leb (x + shift) side (omega arith) in
      let c : x + shift - 1 ≡ z = omega arith in
      rw (a, b) (ap Some c)
  | inr w ↦ absurd (elim w [ inl v ↦ (let f : false ≡ true = v.0 in cc) | inr v ↦ (let f : false ≡ true = v.0 in cc) ])
]

-- where a coordinate of a cell goes: on a torus anywhere, else inside the frame
pub wrapped : (side x shift : ℕ) → x < side → shift ≤ 2 → (z : ℕ) × Moves true side x shift z
wrapped side x shift h two = elim (cases_eq (x + shift) 0) [
  | inl e ↦ (side - 1, record { lands = omega arith; by = inr (inl (refl, omega arith)) })
  | inr n ↦ elim (cases_eq (x + shift) (suc side)) [
    | inl e ↦ (0, record { lands = omega arith; by = inr (inr (refl, omega arith)) })
    | inr m ↦ (x + shift - 1, record { lands = omega arith; by = inl (omega arith) })
  ]
]

-- back from the first place is the last
pub moved_round : (side x shift : ℕ) → x < side → x ≡ 0 → shift ≡ 0 → moved true side x shift ≡ Some (side - 1)
moved_round side x shift h first none = moves_moved true side x shift (side - 1) h (omega (arith, none)) (record { lands = omega (arith, h); by = inr (inl (refl, omega (arith, h, first, none))) })

some_is : (a b : ℕ) → Some a ≡ Some b → a ≡ b
some_is a b e = cc

passed : (test : Bool) (a b : ℕ) → (if test then Some a else None) ≡ Some b → (test ≡ true) × (a ≡ b)
passed true a b e = (refl, cc)
passed false a b e = cc

pub moved_moves : (wrap : Bool) (side x shift z : ℕ) → x < side → shift ≤ 2 → moved wrap side x shift ≡ Some z → Moves wrap side x shift z
moved_moves true side x shift z h two e =
    let w = wrapped side x shift h two in
    let same : w.0 ≡ z = some_is w.0 z (sym (moves_moved true side x shift w.0 h two w.1) ∙ e) in
    subst (λ v. Moves true side x shift v) same w.1
moved_moves false side x shift z h two e =
    let t = passed (nat_lt 0 (x + shift) && nat_le (x + shift) side) (x + shift - 1) z e in
    let b = and_parts _ _ t.0 in
    let low : 0 < x + shift = ltb-true _ _ b.0 in
    let high : x + shift ≤ side = leb-true _ _ b.1 in
    let same : x + shift - 1 ≡ z = t.1 in
    record { lands = omega (arith, low, high, same); by = inl (omega (arith, low, same)) }

pub moves_back : (wrap : Bool) (side x shift z : ℕ) → x < side → shift ≤ 2 → Moves wrap side x shift z → Moves wrap side z (2 - shift) x
moves_back wrap side x shift z h two m = record {
  lands = h;
  by = elim m.by [
    | inl e ↦ inl (omega arith)
    | inr w ↦ elim w [
      | inl v ↦ inr (inr (v.0, let e : suc z ≡ x + shift + side = v.1 in omega arith))
      | inr v ↦ inr (inl (v.0, let e : suc z + side ≡ x + shift = v.1 in omega arith))
    ]
  ];
}

pub moves_apart : (wrap : Bool) (side x shift : ℕ) → (wrap ≡ true → 3 ≤ side) → shift ≤ 2 → shift ≢ 1 → Moves wrap side x shift x → ⊥
moves_apart wrap side x shift joined small n m = elim m.by [
  | inl e ↦ omega arith
  | inr w ↦ elim w [
    | inl v ↦ let long = joined v.0 in let e : suc x ≡ x + shift + side = v.1 in omega arith
    | inr v ↦ let long = joined v.0 in let e : suc x + side ≡ x + shift = v.1 in omega arith
  ]
]

-- two shifts to one place are the same
pub same_shift : (wrap : Bool) (side x a b z : ℕ) → (wrap ≡ true → 3 ≤ side) → a ≤ 2 → b ≤ 2 → Moves wrap side x a z → Moves wrap side x b z → a ≡ b
same_shift wrap side x a b z joined small little m n = elim m.by [
  | inl e ↦ elim n.by [
    | inl f ↦ omega arith
    | inr w ↦ elim w [
      | inl v ↦ let long = joined v.0 in let f : suc z ≡ x + b + side = v.1 in omega arith
      | inr v ↦ let long = joined v.0 in let f : suc z + side ≡ x + b = v.1 in omega arith
    ]
  ]
  | inr t ↦ elim t [
    | inl u ↦ let long = joined u.0 in let e : suc z ≡ x + a + side = u.1 in elim n.by [
      | inl f ↦ omega arith
      | inr w ↦ elim w [
        | inl v ↦ let f : suc z ≡ x + b + side = v.1 in omega arith
        | inr v ↦ let f : suc z + side ≡ x + b = v.1 in omega arith
      ]
    ]
    | inr u ↦ let long = joined u.0 in let e : suc z + side ≡ x + a = u.1 in elim n.by [
      | inl f ↦ omega arith
      | inr w ↦ elim w [
        | inl v ↦ let f : suc z ≡ x + b + side = v.1 in omega arith
        | inr v ↦ let f : suc z + side ≡ x + b = v.1 in omega arith
      ]
    ]
  ]
]

-- modulo a number that divides a torus's side
pub moves_modulo : (n : ℕ) (wrap : Bool) (side x shift z : ℕ) → (wrap ≡ true → (q : ℕ) × (side ≡ n * q)) → Moves wrap side x shift z → (a : ℕ) × (b : ℕ) × (suc z + n * a ≡ x + shift + n * b)
moves_modulo n wrap side x shift z whole m = elim m.by [
  | inl e ↦ (0, 0, omega arith)
  | inr w ↦ elim w [
    | inl v ↦ let q = whole v.0 in let e : suc z ≡ x + shift + side = v.1 in let s : side ≡ n * q.0 = q.1 in (0, q.0, omega arith)
    | inr v ↦ let q = whole v.0 in let e : suc z + side ≡ x + shift = v.1 in let s : side ≡ n * q.0 = q.1 in (q.0, 0, omega arith)
  ]
]

pub same_modulo : (n u v a b : ℕ) → u + n * a ≡ v + n * b → u % n ≡ v % n
same_modulo n u v a b e = sym (add-mul-mod_self_left u n a) ∙ ap (λ x. x % n) e ∙ add-mul-mod_self_left v n b

-- two numbers less than n apart are equal where their remainders are
pub same_from_modulo : (n u v : ℕ) → u < v + n → v < u + n → u % n ≡ v % n → u ≡ v
same_from_modulo n u v a b e =
    let p : u / n * n + u % n ≡ u = div-add-mod' u n in
    let q : v / n * n + v % n ≡ v = div-add-mod' v n in
    elim (cases_order (u / n) (v / n)) [
      | inl s ↦ let t : u / n * n ≡ v / n * n = ap (λ x. x * n) s in omega arith
      | inr w ↦ elim w [
        | inl l ↦ let t : n * suc (u / n) ≤ n * (v / n) = mul-le-mul_left n l in absurd (omega arith)
        | inr l ↦ let t : n * suc (v / n) ≤ n * (u / n) = mul-le-mul_left n l in absurd (omega arith)
      ]
    ]

pub shift_x_small : (i : ℕ) → shift_x i ≤ 2
shift_x_small zero = omega arith
shift_x_small (suc zero) = omega arith
shift_x_small (suc (suc zero)) = omega arith
shift_x_small (suc (suc (suc zero))) = omega arith
shift_x_small (suc (suc (suc (suc zero)))) = omega arith
shift_x_small (suc (suc (suc (suc (suc n))))) = omega arith

pub shift_y_small : (i : ℕ) → shift_y i ≤ 2
shift_y_small zero = omega arith
shift_y_small (suc zero) = omega arith
shift_y_small (suc (suc zero)) = omega arith
shift_y_small (suc (suc (suc zero))) = omega arith
shift_y_small (suc (suc (suc (suc zero)))) = omega arith
shift_y_small (suc (suc (suc (suc (suc n))))) = omega arith

-- no direction stays
pub shifts : (i : ℕ) → (shift_x i ≢ 1) ⊎ (shift_y i ≢ 1)
shifts zero = inl (omega arith)
shifts (suc zero) = inl (omega arith)
shifts (suc (suc zero)) = inr (omega arith)
shifts (suc (suc (suc zero))) = inr (omega arith)
shifts (suc (suc (suc (suc zero)))) = inl (omega arith)
shifts (suc (suc (suc (suc (suc n))))) = inl (omega arith)

-- the opposite direction
abbrev pub opposite : ℕ → ℕ
opposite zero = 1
opposite (suc zero) = 0
opposite (suc (suc zero)) = 3
opposite (suc (suc (suc zero))) = 2
opposite (suc (suc (suc (suc zero)))) = 5
opposite (suc (suc (suc (suc (suc n))))) = 4

pub opposite_x : (i : ℕ) → shift_x (opposite i) ≡ 2 - shift_x i
opposite_x zero = refl
opposite_x (suc zero) = refl
opposite_x (suc (suc zero)) = refl
opposite_x (suc (suc (suc zero))) = refl
opposite_x (suc (suc (suc (suc zero)))) = refl
opposite_x (suc (suc (suc (suc (suc n))))) = refl

pub opposite_y : (i : ℕ) → shift_y (opposite i) ≡ 2 - shift_y i
opposite_y zero = refl
opposite_y (suc zero) = refl
opposite_y (suc (suc zero)) = refl
opposite_y (suc (suc (suc zero))) = refl
opposite_y (suc (suc (suc (suc zero)))) = refl
opposite_y (suc (suc (suc (suc (suc n))))) = refl

pub opposite_within : (kind : GridKind) (i : ℕ) → i < degree kind → opposite i < degree kind
opposite_within kind zero h = elim kind as (λ k. 1 < degree k) [ Square ↦ omega arith | Hex ↦ omega arith ]
opposite_within kind (suc zero) h = elim kind as (λ k. 0 < degree k) [ Square ↦ omega arith | Hex ↦ omega arith ]
opposite_within kind (suc (suc zero)) h = elim kind as (λ k. 3 < degree k) [ Square ↦ omega arith | Hex ↦ omega arith ]
opposite_within kind (suc (suc (suc zero))) h = elim kind as (λ k. 2 < degree k) [ Square ↦ omega arith | Hex ↦ omega arith ]
opposite_within Square (suc (suc (suc (suc zero)))) h = absurd (omega arith)
opposite_within Hex (suc (suc (suc (suc zero)))) h = omega arith
opposite_within Square (suc (suc (suc (suc (suc n))))) h = absurd (omega arith)
opposite_within Hex (suc (suc (suc (suc (suc n))))) h = omega arith

-- the direction of a shift
abbrev direction_of : ℕ → ℕ
direction_of zero = 4
direction_of (suc zero) = 2
direction_of (suc (suc zero)) = 0
direction_of (suc (suc (suc zero))) = 0
direction_of (suc (suc (suc (suc zero)))) = 1
direction_of (suc (suc (suc (suc (suc zero))))) = 3
direction_of (suc (suc (suc (suc (suc (suc n)))))) = 5

direction_is : (i : ℕ) → i < 6 → direction_of (shift_x i + 2 * shift_y i) ≡ i
direction_is zero h = refl
direction_is (suc zero) h = refl
direction_is (suc (suc zero)) h = refl
direction_is (suc (suc (suc zero))) h = refl
direction_is (suc (suc (suc (suc zero)))) h = refl
direction_is (suc (suc (suc (suc (suc zero))))) h = refl
direction_is (suc (suc (suc (suc (suc (suc n)))))) h = absurd (omega arith)

pub same_direction : (i j : ℕ) → i < 6 → j < 6 → shift_x i + 2 * shift_y i ≡ shift_x j + 2 * shift_y j → i ≡ j
same_direction i j a b e = sym (direction_is i a) ∙ ap direction_of e ∙ direction_is j b
