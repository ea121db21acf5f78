-- Remainders of neighbouring numbers.
use Rattle.std.proofs.Common.{◌≡◌, ℕ, suc, ◌+◌, ◌*◌, ◌/◌, ◌%◌, ◌<◌, ◌≤◌, ◌≢◌, ◌⊎◌, sym, refl, ap, ◌∙◌, inl, inr, arith, Option, Some, None}
use Rattle.std.proofs.lemmas.Bool.{cases_eq, eq-eqb, ne_eqb}
use Rattle.std.proofs.lemmas.Nat.{div-add-mod', mod-mul-add, mod_below}
use Rattle.surf_auto.specs.Locals.{following}
use Rattle.surf_sync.specs.Codes.{field_by, next_by, OpenBy}

-- following, by its two cases
pub following_cases : (n f : ℕ) → ((suc f ≡ n) × (following n f ≡ 0)) ⊎ ((suc f ≢ n) × (following n f ≡ suc f))
following_cases n f = elim (cases_eq (suc f) n) [
  | inl e ↦ inl (e, rw (eq-eqb (suc f) n e) refl)
  | inr d ↦ inr (d, rw (ne_eqb (suc f) n d) refl)
]

pub mod-suc : (n g : ℕ) → 0 < n → suc g % n ≡ following n (g % n)
mod-suc n g h =
    let s : g / n * n + g % n ≡ g = div-add-mod' g n in
    let b : g % n < n = mod_below g n h in
    elim (following_cases n (g % n)) [
      | inl w ↦
          let e : (g / n + 1) * n + 0 ≡ suc g = omega arith in
          rw (← e, w.1) (mod-mul-add (g / n + 1) n 0 h)
      | inr w ↦
          let e : g / n * n + suc (g % n) ≡ suc g = omega arith in
          rw (w.1) (ap (λ x. x % n) (sym e) ∙ mod-mul-add (g / n) n (suc (g % n)) (omega arith))
    ]

pub mod-mod : (n g : ℕ) → 0 < n → g % (3 * n) % n ≡ g % n
mod-mod n g h =
    let a : g / (3 * n) * (3 * n) + g % (3 * n) ≡ g = div-add-mod' g (3 * n) in
    let b : g % (3 * n) / n * n + g % (3 * n) % n ≡ g % (3 * n) = div-add-mod' (g % (3 * n)) n in
    let e : (3 * (g / (3 * n)) + g % (3 * n) / n) * n + g % (3 * n) % n ≡ g = omega arith in
    sym (ap (λ x. x % n) (sym e) ∙ mod-mul-add (3 * (g / (3 * n)) + g % (3 * n) / n) n (g % (3 * n) % n) (mod_below (g % (3 * n)) n h))

-- generations that differ by at most one are equal where their fields are
pub same_from_fields : (m g h : ℕ) → 2 ≤ m → g ≤ suc h → h ≤ suc g → g % m ≡ h % m → g ≡ h
same_from_fields m g h two a b e =
    let c = following_cases m (h % m) in
    let d = following_cases m (g % m) in
    let p : suc g % m ≡ following m (g % m) = mod-suc m g (omega arith) in
    let q : suc h % m ≡ following m (h % m) = mod-suc m h (omega arith) in
    elim (cases_eq g (suc h)) [
      | inl x ↦ absurd (let y : g % m ≡ suc h % m = ap (λ z. z % m) x in omega arith)
      | inr x ↦ elim (cases_eq h (suc g)) [
        | inl z ↦ absurd (let y : h % m ≡ suc g % m = ap (λ z. z % m) z in omega arith)
        | inr z ↦ omega arith
      ]
    ]

-- the next field is that of one ahead
pub next_from_fields : (m g h : ℕ) → 3 ≤ m → g ≤ suc h → h ≤ suc g → following m (g % m) ≡ h % m → h ≡ suc g
next_from_fields m g h three a b e =
    let c = following_cases m (h % m) in
    let d = following_cases m (g % m) in
    let q : suc h % m ≡ following m (h % m) = mod-suc m h (omega arith) in
    elim (cases_eq g (suc h)) [
      | inl x ↦ absurd (let y : g % m ≡ suc h % m = ap (λ z. z % m) x in omega arith)
      | inr x ↦ elim (cases_eq h g) [
        | inl z ↦ absurd (let y : h % m ≡ g % m = ap (λ z. z % m) z in omega arith)
        | inr z ↦ omega arith
      ]
    ]

-- and the next field is no other one
pub fields_apart : (m f : ℕ) → 2 ≤ m → following m f ≡ f → ⊥
fields_apart m f two e = let c = following_cases m f in omega arith

-- ---- the same for fields, with a last generation or without one

pub next_of_field : (o : Option ℕ) (n g : ℕ) → 0 < n → field_by o n (suc g) ≡ next_by o n (field_by o n g)
next_of_field None n g h = mod-suc (3 * n) g (omega arith)
next_of_field (Some l) n g h = refl

pub phase_of_field : (o : Option ℕ) (n g : ℕ) → 0 < n → field_by o n g % n ≡ g % n
phase_of_field None n g h = mod-mod n g h
phase_of_field (Some l) n g h = refl

pub same_from_field : (o : Option ℕ) (n g h : ℕ) → 0 < n → g ≤ suc h → h ≤ suc g → field_by o n g ≡ field_by o n h → g ≡ h
same_from_field None n g h some a b e = same_from_fields (3 * n) g h (omega arith) a b e
same_from_field (Some l) n g h some a b e = e

pub next_from_field : (o : Option ℕ) (n g h : ℕ) → 0 < n → g ≤ suc h → h ≤ suc g → next_by o n (field_by o n g) ≡ field_by o n h → h ≡ suc g
next_from_field None n g h some a b e = next_from_fields (3 * n) g h (omega arith) a b e
next_from_field (Some l) n g h some a b e = sym e

pub next_apart : (o : Option ℕ) (n f : ℕ) → 0 < n → next_by o n f ≡ f → ⊥
next_apart None n f some e = fields_apart (3 * n) f (omega arith) e
next_apart (Some l) n f some e = omega arith

pub open_field : (o : Option ℕ) (n g : ℕ) → OpenBy o g → OpenBy o (field_by o n g)
open_field None n g h = tt
open_field (Some l) n g h = h

pub open_gen : (o : Option ℕ) (n g : ℕ) → OpenBy o (field_by o n g) → OpenBy o g
open_gen None n g h = tt
open_gen (Some l) n g h = h
