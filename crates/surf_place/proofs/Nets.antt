-- The rows of each net.
use Rattle.std.proofs.Common.{◌≡◌, ℕ, zero, suc, ◌<◌, ◌≤◌, Bool, true, false, cond, Option, Some, None, length, refl, sym, ap, ◌∙◌, subst, inl, inr, arith}
use Rattle.std.specs.Prelude.{nat_eq}
use Rattle.std.proofs.lemmas.Bool.{cases_lt, eq-eqb, eqb-true}
use Rattle.surf_tiles.specs.Netlists.{NetlistOf, nets_of, IsNetlist}
use Rattle.surf_tiles.specs.declared.tile.Tile.{Tile}
use Rattle.surf_place.specs.Drawing.{Row, Source, Tap, Ends, net_of, rows_of, row_at, greatest, found, begins, source_row, last_row}
use Rattle.surf_place.proofs.Rows.{Counted, rows_sound, counted_at, begun_at, begun_past, begun_last, begins_above}

-- the greatest number that passes a test
pub greatest_is : (test : ℕ → Bool) (k n : ℕ) → n < k → test n ≡ true → ((m : ℕ) → m < k → test m ≡ true → m ≤ n) → greatest test k ≡ Some n
greatest_is test zero n b e most = absurd (omega arith)
greatest_is test (suc k) n b e most = go (λ b'. greatest_is test k n b' e (λ m c h'. most m (omega arith) h')) (test k) refl
  where
    go : (n < k → greatest test k ≡ Some n) → (t : Bool) → test k ≡ t → cond t (Some k) (greatest test k) ≡ Some n
    go deep true h = let l = most k (omega arith) h in let f : k ≡ n = omega arith in ap (λ (x : ℕ). Some x) f
    go deep false h =
        elim (cases_lt n k) [
          | inl b' ↦ deep b'
          | inr b' ↦ (let f : n ≡ k = omega arith in let g : test k ≡ true = subst (λ (x : ℕ). test x ≡ true) f e in absurd (cc (sym g ∙ h)))
        ]

pub record Greatest (test : ℕ → Bool) (k n : ℕ) : Type 0 where
  pub number : ℕ
  pub is : greatest test k ≡ Some number
  pub within : number < k
  pub passes : test number ≡ true
  pub least : n ≤ number

pub greatest_from : (test : ℕ → Bool) (k n : ℕ) → n < k → test n ≡ true → Greatest test k n
greatest_from test zero n b e = absurd (omega arith)
greatest_from test (suc k) n b e = go (λ b'. greatest_from test k n b' e) (test k) refl
  where
    go : (n < k → Greatest test k n) → (t : Bool) → test k ≡ t → Greatest test (suc k) n
    go deep true h = record { number = k; is = ap (λ (x : Bool). cond x (Some k) (greatest test k)) h; within = omega arith; passes = h; least = omega arith }
    go deep false h =
        elim (cases_lt n k) [
          | inl b' ↦ (let g = deep b' in record { number = g.number; is = ap (λ (x : Bool). cond x (Some k) (greatest test k)) h ∙ g.is; within = (let w = g.within in omega arith); passes = g.passes; least = g.least })
          | inr b' ↦ (let f : n ≡ k = omega arith in let g : test k ≡ true = subst (λ (x : ℕ). test x ≡ true) f e in absurd (cc (sym g ∙ h)))
        ]

pub greatest_same : (test test' : ℕ → Bool) (k : ℕ) → ((m : ℕ) → m < k → test m ≡ test' m) → greatest test k ≡ greatest test' k
greatest_same test test' zero same = refl
greatest_same test test' (suc k) same =
    ap (λ (x : Bool). cond x (Some k) (greatest test k)) (same k (omega arith)) ∙ ap (λ (x : Option ℕ). cond (test' k) (Some k) x) (greatest_same test test' k (λ m b. same m (omega arith)))

pub greatest_none : (test : ℕ → Bool) (k : ℕ) → ((m : ℕ) → m < k → test m ≡ true → ⊥) → greatest test k ≡ None
greatest_none test zero never = refl
greatest_none test (suc k) never = go (greatest_none test k (λ m b h'. never m (omega arith) h')) (test k) refl
  where
    go : greatest test k ≡ None → (t : Bool) → test k ≡ t → cond t (Some k) (greatest test k) ≡ None
    go deep true h = absurd (never k (omega arith) h)
    go deep false h = deep

pub greatest_some : (test : ℕ → Bool) (k n : ℕ) → greatest test k ≡ Some n → (n < k) × (test n ≡ true)
greatest_some test zero n e = absurd cc
greatest_some test (suc k) n e = go (greatest_some test k n) (test k) refl e
  where
    go : (greatest test k ≡ Some n → (n < k) × (test n ≡ true)) → (t : Bool) → test k ≡ t → cond t (Some k) (greatest test k) ≡ Some n → (n < suc k) × (test n ≡ true)
    go deep true h e' = let f : k ≡ n = cc (e') in (omega arith, subst (λ (x : ℕ). test x ≡ true) f h)
    go deep false h e' = let g = deep e' in (omega (arith, g.0), g.1)

abbrev pub height_of : NetlistOf → ℕ
height_of N = length (rows_of N)

record Begins (row : Row) (n : ℕ) : Type 0 where
  device : Tile
  is : row ≡ Source n device

begins_true : (row : Row) (n : ℕ) → begins row n ≡ true → Begins row n
begins_true (Source m device) n e = record { device = device; is = ap (λ (x : ℕ). Source x device) (eqb-true m n e) }
begins_true (Tap m gate device) n e = absurd cc
begins_true (Ends m) n e = absurd cc

pub record SourceHere (N : NetlistOf) (n r : ℕ) : Type 0 where
  pub in_range : n < nets_of N
  pub here : source_row N n ≡ r

pub source_here : (N : NetlistOf) → IsNetlist N → (r n : ℕ) (device : Tile) → r < height_of N → row_at N r ≡ Source n device → SourceHere N n r
source_here N good r n device b e =
    let s = rows_sound N good.ordered good.outputs in
    let c : n ≡ begun_at 0 (rows_of N) r = subst (Counted_in r) e (counted_at N 0 (Ends 0) (rows_of N) s r b) in
    let past = begun_past 0 (rows_of N) r (height_of N) n device b e in
    let last = begun_last N 0 (Ends 0) (rows_of N) s in
    let g = greatest_is (λ x. begins (row_at N x) n) (height_of N) r b (ap (λ (x : Row). begins x n) e ∙ eq-eqb n n refl) most in
    record { in_range = omega (arith, c, past, last); here = ap found g }
  where
    Counted_in : ℕ → Row → Type 0
    Counted_in x row = Counted (begun_at 0 (rows_of N) x) row

    most : (m : ℕ) → m < height_of N → begins (row_at N m) n ≡ true → m ≤ r
    most m b' h =
        elim (cases_lt r m) [
          | inl l ↦ (
              let s = rows_sound N good.ordered good.outputs in
              let c : n ≡ begun_at 0 (rows_of N) r = subst (Counted_in r) e (counted_at N 0 (Ends 0) (rows_of N) s r b) in
              let c' : n ≡ begun_at 0 (rows_of N) m = subst (Counted_in m) (begins_true (row_at N m) n h).is (counted_at N 0 (Ends 0) (rows_of N) s m b') in
              let past = begun_past 0 (rows_of N) r m n device l e in
              omega (arith, c, c', past))
          | inr l ↦ l
        ]

pub begun_here : (N : NetlistOf) → IsNetlist N → (r n : ℕ) (device : Tile) → r < height_of N → row_at N r ≡ Source n device → n ≡ begun_at 0 (rows_of N) r
begun_here N good r n device b e = subst (λ (x : Row). Counted (begun_at 0 (rows_of N) r) x) e (counted_at N 0 (Ends 0) (rows_of N) (rows_sound N good.ordered good.outputs) r b)

pub record HasSource (N : NetlistOf) (n : ℕ) : Type 0 where
  pub device : Tile
  pub within : source_row N n < height_of N
  pub is : row_at N (source_row N n) ≡ Source n device

pub has_source : (N : NetlistOf) → IsNetlist N → (n : ℕ) → n < nets_of N → HasSource N n
has_source N good n b =
    let s = rows_sound N good.ordered good.outputs in
    let last = begun_last N 0 (Ends 0) (rows_of N) s in
    let h = begins_above N 0 (Ends 0) (rows_of N) (height_of N) n s (omega arith) (omega (arith, b, last)) in
    let here = source_here N good h.row n h.device h.within h.is in
    record { device = h.device; within = subst (λ (x : ℕ). x < height_of N) (sym here.here) h.within; is = subst (λ (x : ℕ). row_at N x ≡ Source n h.device) (sym here.here) h.is }

-- a row that isn't a net's source row stands below it
pub record SourceAbove (N : NetlistOf) (n r : ℕ) : Type 0 where
  pub in_range : n < nets_of N
  pub above : source_row N n < r

source_above : (N : NetlistOf) → IsNetlist N → (r n : ℕ) → r < height_of N → n < begun_at 0 (rows_of N) r → SourceAbove N n r
source_above N good r n b c =
    let s = rows_sound N good.ordered good.outputs in
    let h = begins_above N 0 (Ends 0) (rows_of N) r n s (omega arith) c in
    let here = source_here N good h.row n h.device h.within h.is in
    record { in_range = here.in_range; above = subst (λ (x : ℕ). x < r) (sym here.here) h.above }

pub tap_below : (N : NetlistOf) → IsNetlist N → (r n gate : ℕ) (device : Tile) → r < height_of N → row_at N r ≡ Tap n gate device → SourceAbove N n r
tap_below N good r n gate device b e =
    source_above N good r n b (subst (λ (x : Row). Counted (begun_at 0 (rows_of N) r) x) e (counted_at N 0 (Ends 0) (rows_of N) (rows_sound N good.ordered good.outputs) r b))

pub end_below : (N : NetlistOf) → IsNetlist N → (r n : ℕ) → r < height_of N → row_at N r ≡ Ends n → SourceAbove N n r
end_below N good r n b e =
    source_above N good r n b (subst (λ (x : Row). Counted (begun_at 0 (rows_of N) r) x) e (counted_at N 0 (Ends 0) (rows_of N) (rows_sound N good.ordered good.outputs) r b))

-- the last row of a net
pub record LastRow (N : NetlistOf) (n : ℕ) : Type 0 where
  pub within : last_row N n < height_of N
  pub is : net_of (row_at N (last_row N n)) ≡ n

pub record Reaches (N : NetlistOf) (n r : ℕ) : Type 0 where
  pub last : LastRow N n
  pub reaches : r ≤ last_row N n

pub reaches : (N : NetlistOf) (n r : ℕ) → r < height_of N → net_of (row_at N r) ≡ n → Reaches N n r
reaches N n r b e =
    let g = greatest_from (λ x. nat_eq (net_of (row_at N x)) n) (height_of N) r b (eq-eqb _ _ e) in
    let f : g.number ≡ last_row N n = sym (ap found g.is) in
    record {
      last = record { within = subst (λ (x : ℕ). x < height_of N) f g.within; is = subst (λ (x : ℕ). net_of (row_at N x) ≡ n) f (eqb-true _ _ g.passes) };
      reaches = subst (λ (x : ℕ). r ≤ x) f g.least;
    }
