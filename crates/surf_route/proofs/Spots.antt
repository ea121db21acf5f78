-- Where sites stand in their tiles, and how two neighbours stand to each other.
use Rattle.std.proofs.Common.{◌≡◌, ℕ, zero, suc, ◌+◌, ◌/◌, ◌%◌, refl, subst, inl, inr, arith}
use Rattle.surf_lattice.specs.declared.site.Site.{Site}
use Rattle.surf_settle.proofs.Squares.{IsMoved}
use Rattle.surf_tiles.specs.Tiles.{Side, North, East, South, West, Spot, Mid, Corner, At, spot_of}
use Rattle.surf_route.specs.TileLaw.{opposite}

abbrev pub spot : Site → Spot
spot s = spot_of (s.x % 3) (s.y % 3)

abbrev pub IsPlace : Spot → ℕ → ℕ → Type 0
IsPlace Mid a b = (a ≡ 1) × (b ≡ 1)
IsPlace Corner a b = Unit {0}
IsPlace (At North) a b = (a ≡ 1) × (b ≡ 0)
IsPlace (At East) a b = (a ≡ 2) × (b ≡ 1)
IsPlace (At South) a b = (a ≡ 1) × (b ≡ 2)
IsPlace (At West) a b = (a ≡ 0) × (b ≡ 1)

own_place : (a b : ℕ) → IsPlace (spot_of a b) a b
own_place (suc zero) (suc zero) = (refl, refl)
own_place (suc zero) zero = (refl, refl)
own_place (suc (suc zero)) (suc zero) = (refl, refl)
own_place (suc zero) (suc (suc zero)) = (refl, refl)
own_place zero (suc zero) = (refl, refl)
own_place _ _ = tt

pub place_in_tile : (s : Site) (p : Spot) → spot s ≡ p → IsPlace p (s.x % 3) (s.y % 3)
place_in_tile s p e = subst (λ (x : Spot). IsPlace x (s.x % 3) (s.y % 3)) e (own_place (s.x % 3) (s.y % 3))

pub spot_is : (s : Site) (a b : ℕ) → s.x % 3 ≡ a → s.y % 3 ≡ b → spot s ≡ spot_of a b
spot_is s a b e f = cc

-- q lies in the tile beyond this side of p's tile
abbrev pub Beyond : Side → (p q : Site) → Type 0
Beyond North p q = (q.x / 3 ≡ p.x / 3) × (q.y / 3 + 1 ≡ p.y / 3)
Beyond East p q = (q.x / 3 ≡ p.x / 3 + 1) × (q.y / 3 ≡ p.y / 3)
Beyond South p q = (q.x / 3 ≡ p.x / 3) × (q.y / 3 ≡ p.y / 3 + 1)
Beyond West p q = (q.x / 3 + 1 ≡ p.x / 3) × (q.y / 3 ≡ p.y / 3)

abbrev pub SameTile : (p q : Site) → Type 0
SameTile p q = (q.x / 3 ≡ p.x / 3) × (q.y / 3 ≡ p.y / 3)

-- two neighbours that are no corners: from the middle to a side, from a side to the middle, or over a side
pub data Meeting (p q : Site) : Type 0 where
  Into : (side : Side) → spot p ≡ Mid → spot q ≡ At side → SameTile p q → Meeting p q
  From : (side : Side) → spot p ≡ At side → spot q ≡ Mid → SameTile p q → Meeting p q
  Over : (side : Side) → spot p ≡ At side → spot q ≡ At (opposite side) → Beyond side p q → Meeting p q

meets_west : (p q : Site) (s : Spot) → (q.x + 1 ≡ p.x) × (q.y ≡ p.y) → spot p ≡ s → (s ≡ Corner → ⊥) → (spot q ≡ Corner → ⊥) → Meeting p q
meets_west p q Mid m e some other = (let (a, b) = place_in_tile p Mid e in let (h, k) = m in Into West e (spot_is q 0 1 (omega arith) (omega arith)) (omega arith, omega arith))
meets_west p q (At North) m e some other = (let (a, b) = place_in_tile p (At North) e in let (h, k) = m in let w : q.x % 3 ≡ 0 = omega arith in let v : q.y % 3 ≡ 0 = omega arith in absurd (other (spot_is q 0 0 w v)))
meets_west p q (At East) m e some other = (let (a, b) = place_in_tile p (At East) e in let (h, k) = m in From East e (spot_is q 1 1 (omega arith) (omega arith)) (omega arith, omega arith))
meets_west p q (At South) m e some other = (let (a, b) = place_in_tile p (At South) e in let (h, k) = m in let w : q.x % 3 ≡ 0 = omega arith in let v : q.y % 3 ≡ 2 = omega arith in absurd (other (spot_is q 0 2 w v)))
meets_west p q (At West) m e some other = (let (a, b) = place_in_tile p (At West) e in let (h, k) = m in Over West e (spot_is q 2 1 (omega arith) (omega arith)) (omega arith, omega arith))
meets_west p q Corner m e some other = absurd (some refl)

meets_east : (p q : Site) (s : Spot) → (q.x ≡ p.x + 1) × (q.y ≡ p.y) → spot p ≡ s → (s ≡ Corner → ⊥) → (spot q ≡ Corner → ⊥) → Meeting p q
meets_east p q Mid m e some other = (let (a, b) = place_in_tile p Mid e in let (h, k) = m in Into East e (spot_is q 2 1 (omega arith) (omega arith)) (omega arith, omega arith))
meets_east p q (At North) m e some other = (let (a, b) = place_in_tile p (At North) e in let (h, k) = m in let w : q.x % 3 ≡ 2 = omega arith in let v : q.y % 3 ≡ 0 = omega arith in absurd (other (spot_is q 2 0 w v)))
meets_east p q (At East) m e some other = (let (a, b) = place_in_tile p (At East) e in let (h, k) = m in Over East e (spot_is q 0 1 (omega arith) (omega arith)) (omega arith, omega arith))
meets_east p q (At South) m e some other = (let (a, b) = place_in_tile p (At South) e in let (h, k) = m in let w : q.x % 3 ≡ 2 = omega arith in let v : q.y % 3 ≡ 2 = omega arith in absurd (other (spot_is q 2 2 w v)))
meets_east p q (At West) m e some other = (let (a, b) = place_in_tile p (At West) e in let (h, k) = m in From West e (spot_is q 1 1 (omega arith) (omega arith)) (omega arith, omega arith))
meets_east p q Corner m e some other = absurd (some refl)

meets_north : (p q : Site) (s : Spot) → (q.x ≡ p.x) × (q.y + 1 ≡ p.y) → spot p ≡ s → (s ≡ Corner → ⊥) → (spot q ≡ Corner → ⊥) → Meeting p q
meets_north p q Mid m e some other = (let (a, b) = place_in_tile p Mid e in let (h, k) = m in Into North e (spot_is q 1 0 (omega arith) (omega arith)) (omega arith, omega arith))
meets_north p q (At North) m e some other = (let (a, b) = place_in_tile p (At North) e in let (h, k) = m in Over North e (spot_is q 1 2 (omega arith) (omega arith)) (omega arith, omega arith))
meets_north p q (At East) m e some other = (let (a, b) = place_in_tile p (At East) e in let (h, k) = m in let w : q.x % 3 ≡ 2 = omega arith in let v : q.y % 3 ≡ 0 = omega arith in absurd (other (spot_is q 2 0 w v)))
meets_north p q (At South) m e some other = (let (a, b) = place_in_tile p (At South) e in let (h, k) = m in From South e (spot_is q 1 1 (omega arith) (omega arith)) (omega arith, omega arith))
meets_north p q (At West) m e some other = (let (a, b) = place_in_tile p (At West) e in let (h, k) = m in let w : q.x % 3 ≡ 0 = omega arith in let v : q.y % 3 ≡ 0 = omega arith in absurd (other (spot_is q 0 0 w v)))
meets_north p q Corner m e some other = absurd (some refl)

meets_south : (p q : Site) (s : Spot) → (q.x ≡ p.x) × (q.y ≡ p.y + 1) → spot p ≡ s → (s ≡ Corner → ⊥) → (spot q ≡ Corner → ⊥) → Meeting p q
meets_south p q Mid m e some other = (let (a, b) = place_in_tile p Mid e in let (h, k) = m in Into South e (spot_is q 1 2 (omega arith) (omega arith)) (omega arith, omega arith))
meets_south p q (At North) m e some other = (let (a, b) = place_in_tile p (At North) e in let (h, k) = m in From North e (spot_is q 1 1 (omega arith) (omega arith)) (omega arith, omega arith))
meets_south p q (At East) m e some other = (let (a, b) = place_in_tile p (At East) e in let (h, k) = m in let w : q.x % 3 ≡ 2 = omega arith in let v : q.y % 3 ≡ 2 = omega arith in absurd (other (spot_is q 2 2 w v)))
meets_south p q (At South) m e some other = (let (a, b) = place_in_tile p (At South) e in let (h, k) = m in Over South e (spot_is q 1 0 (omega arith) (omega arith)) (omega arith, omega arith))
meets_south p q (At West) m e some other = (let (a, b) = place_in_tile p (At West) e in let (h, k) = m in let w : q.x % 3 ≡ 0 = omega arith in let v : q.y % 3 ≡ 2 = omega arith in absurd (other (spot_is q 0 2 w v)))
meets_south p q Corner m e some other = absurd (some refl)

pub meets : (p q : Site) → IsMoved p q → (spot p ≡ Corner → ⊥) → (spot q ≡ Corner → ⊥) → Meeting p q
meets p q m some other =
    elim m [
      | inl w ↦ meets_west p q (spot p) w refl some other
      | inr m' ↦ elim m' [
        | inl e ↦ meets_east p q (spot p) e refl some other
        | inr m'' ↦ elim m'' [
          | inl n ↦ meets_north p q (spot p) n refl some other
          | inr s ↦ meets_south p q (spot p) s refl some other
        ]
      ]
    ]
