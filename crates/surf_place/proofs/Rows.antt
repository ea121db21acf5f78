-- The rows of a netlist: which row follows which, and in what order nets begin.
use Rattle.std.proofs.Common.{◌≡◌, ℕ, zero, suc, ◌+◌, ◌<◌, ◌≤◌, Bool, true, false, Some, List, [], ◌∷◌, map, length, get_or, refl, sym, ap, ◌∙◌, subst, inl, inr, arith}
use Rattle.std.specs.Prelude.{slice_get}
use Rattle.std.proofs.lemmas.List.{get_or_past}
use Rattle.std.proofs.lemmas.Bool.{cases_lt}
use Rattle.surf_tiles.specs.declared.netlist.Gate.{Gate}
use Rattle.surf_tiles.specs.declared.netlist.Gate.TheVariants.{Constant, One, Two}
use Rattle.surf_tiles.specs.Netlists.{NetlistOf, nets_of, HasOutputs, IsGate, IsOrdered}
use Rattle.surf_tiles.specs.declared.tile.Tile.{Tile}
use Rattle.surf_tiles.specs.declared.tile.Tile.TheVariants.{Input as Inputs, Constant as Constants, Gate1 as Ones, Gate2 as Twos}
use Rattle.surf_tiles.specs.Tiles.{wires}
use Rattle.surf_place.specs.Drawing.{Row, Source, Tap, Ends, input_rows, gate_rows, rows_of}

-- a row after which no tap waits for its gate
abbrev pub IsBreak : Row → Type 0
IsBreak (Source net device) = Unit {0}
IsBreak (Tap net gate device) = ⊥
IsBreak (Ends net) = Unit {0}

abbrev pub IsTap : Row → (gate : ℕ) → Tile → Type 0
IsTap (Source net device) gate tile = ⊥
IsTap (Tap net gate' device) gate tile = (gate' ≡ gate) × (device ≡ tile)
IsTap (Ends net) gate tile = ⊥

abbrev pub turn_down : Tile
turn_down = wires false true true false

abbrev pub turn_out : Tile
turn_out = wires true true false false

-- a row, and the row above it
pub data Follows (N : NetlistOf) (above : Row) : Row → Type 0 where
  Begins_input : (n : ℕ) → IsBreak above → Follows N above (Source n Inputs)
  Begins_constant : (n : ℕ) (v : Bool) → IsBreak above → IsGate N n (Constant v) → Follows N above (Source n (Constants v))
  Begins_tap : (n gate : ℕ) → IsBreak above → Follows N above (Tap n gate turn_down)
  Begins_one : (n m : ℕ) (z o : Bool) → above ≡ Tap m n turn_down → IsGate N n (One z o m) → Follows N above (Source n (Ones z o))
  Begins_two : (a b n : ℕ) (t00 t01 t10 t11 : Bool) → above ≡ Tap a n turn_down → IsGate N n (Two t00 t01 t10 t11 a b) → Follows N above (Tap b n (Twos t00 t01 t10 t11))
  Begins_out : (b n : ℕ) (t00 t01 t10 t11 : Bool) → above ≡ Tap b n (Twos t00 t01 t10 t11) → Follows N above (Source n turn_out)
  Begins_end : (n : ℕ) → IsBreak above → Follows N above (Ends n)

-- a net begins at its number, and is used when it has begun
abbrev pub Counted : (begun : ℕ) → Row → Type 0
Counted begun (Source net device) = net ≡ begun
Counted begun (Tap net gate device) = net < begun
Counted begun (Ends net) = net < begun

abbrev pub begun_after : (begun : ℕ) → Row → ℕ
begun_after begun (Source net device) = begun + 1
begun_after begun (Tap net gate device) = begun
begun_after begun (Ends net) = begun

pub data Sound (N : NetlistOf) : (begun : ℕ) → (above : Row) → List Row → Type 0 where
  Over : (begun : ℕ) (above : Row) → IsBreak above → begun ≡ nets_of N → Sound N begun above []
  More : (begun : ℕ) (above row : Row) (rows : List Row) → Follows N above row → Counted begun row → Sound N (begun_after begun row) row rows → Sound N begun above (row ∷ rows)

output_sound : (N : NetlistOf) (outputs : List ℕ) (above : Row) → IsBreak above → ((i net : ℕ) → slice_get outputs i ≡ Some net → net < nets_of N) → Sound N (nets_of N) above (map Ends outputs)
output_sound N [] above h within = Over (nets_of N) above h refl
output_sound N (n ∷ outputs) above h within =
    More (nets_of N) above (Ends n) (map Ends outputs) (Begins_end n h) (within 0 n refl) (output_sound N outputs (Ends n) tt (λ i net e. within (suc i) net e))

gate_at : (N : NetlistOf) (j : ℕ) (g : Gate) (gates : List Gate) → ((i : ℕ) (g' : Gate) → slice_get (g ∷ gates) i ≡ Some g' → slice_get N.gates (j + i) ≡ Some g') → slice_get N.gates j ≡ Some g
gate_at N j g gates at = let e : j + 0 ≡ j = omega arith in subst (λ (x : ℕ). slice_get N.gates x ≡ Some g) e (at 0 g refl)

gates_after : (N : NetlistOf) (j : ℕ) (g : Gate) (gates : List Gate) → ((i : ℕ) (g' : Gate) → slice_get (g ∷ gates) i ≡ Some g' → slice_get N.gates (j + i) ≡ Some g') →
    (i : ℕ) (g' : Gate) → slice_get gates i ≡ Some g' → slice_get N.gates (j + 1 + i) ≡ Some g'
gates_after N j g gates at i g' h = let e : j + suc i ≡ j + 1 + i = omega arith in subst (λ (x : ℕ). slice_get N.gates x ≡ Some g') e (at (suc i) g' h)

gate_sound : (N : NetlistOf) (gates : List Gate) (j net : ℕ) (above : Row) (below : List Row) → IsBreak above → net ≡ N.inputs + j → length N.gates ≡ j + length gates →
    ((i : ℕ) (g : Gate) → slice_get gates i ≡ Some g → slice_get N.gates (j + i) ≡ Some g) → IsOrdered N →
    ((above' : Row) → IsBreak above' → Sound N (nets_of N) above' below) → Sound N net above (gate_rows net gates below)
gate_sound N [] j net above below h e l at ordered then =
    let f : nets_of N ≡ net = omega (arith, e, l) in subst (λ (x : ℕ). Sound N x above below) f (then above h)
gate_sound N (Constant v ∷ gates) j net above below h e l at ordered then =
    let g : IsGate N net (Constant v) = (j, e, gate_at N j (Constant v) gates at) in
    More net above (Source net (Constants v)) _ (Begins_constant net v h g) refl (gate_sound N gates (j + 1) (net + 1) (Source net (Constants v)) below tt (omega (arith, e)) (omega (arith, l)) (gates_after N j _ gates at) ordered then)
gate_sound N (One z o input ∷ gates) j net above below h e l at ordered then =
    let g : slice_get N.gates j ≡ Some (One z o input) = gate_at N j (One z o input) gates at in
    let u : input < net = (let u' = ordered j (One z o input) g in omega (arith, u', e)) in
    More net above (Tap input net turn_down) _ (Begins_tap input net h) u
    (More net (Tap input net turn_down) (Source net (Ones z o)) _ (Begins_one net input z o refl (j, e, g)) refl
    (gate_sound N gates (j + 1) (net + 1) (Source net (Ones z o)) below tt (omega (arith, e)) (omega (arith, l)) (gates_after N j _ gates at) ordered then))
gate_sound N (Two t00 t01 t10 t11 first second ∷ gates) j net above below h e l at ordered then =
    let g : slice_get N.gates j ≡ Some (Two t00 t01 t10 t11 first second) = gate_at N j (Two t00 t01 t10 t11 first second) gates at in
    let u = ordered j (Two t00 t01 t10 t11 first second) g in
    More net above (Tap first net turn_down) _ (Begins_tap first net h) (omega (arith, u.0, e))
    (More net (Tap first net turn_down) (Tap second net (Twos t00 t01 t10 t11)) _ (Begins_two first second net t00 t01 t10 t11 refl (j, e, g)) (omega (arith, u.1, e))
    (More net (Tap second net (Twos t00 t01 t10 t11)) (Source net turn_out) _ (Begins_out second net t00 t01 t10 t11 refl) refl
    (gate_sound N gates (j + 1) (net + 1) (Source net turn_out) below tt (omega (arith, e)) (omega (arith, l)) (gates_after N j _ gates at) ordered then)))

input_sound : (N : NetlistOf) (count net : ℕ) (above : Row) (below : List Row) → IsBreak above → net + count ≡ N.inputs → ((above' : Row) → IsBreak above' → Sound N N.inputs above' below) → Sound N net above (input_rows count net below)
input_sound N zero net above below h e then = let f : N.inputs ≡ net = omega arith in subst (λ (x : ℕ). Sound N x above below) f (then above h)
input_sound N (suc count) net above below h e then = More net above (Source net Inputs) _ (Begins_input net h) refl (input_sound N count (net + 1) (Source net Inputs) below tt (omega arith) then)

pub rows_sound : (N : NetlistOf) → IsOrdered N → HasOutputs N → Sound N 0 (Ends 0) (rows_of N)
rows_sound N ordered within =
    input_sound N N.inputs 0 (Ends 0) _ tt (omega arith) (λ above h.
    gate_sound N N.gates 0 N.inputs above (map Ends N.outputs) h (omega arith) (omega arith) (λ i g e. let f : i ≡ 0 + i = omega arith in subst (λ (x : ℕ). slice_get N.gates x ≡ Some g) f e) ordered (λ above' h'. output_sound N N.outputs above' h' within))

pub follows_at : (N : NetlistOf) (begun : ℕ) (above : Row) (rows : List Row) → Sound N begun above rows → (r : ℕ) → Follows N (get_or (above ∷ rows) r (Ends 0)) (get_or rows r (Ends 0))
follows_at N begun above [] (Over b a h e) zero = Begins_end 0 h
follows_at N begun above [] (Over b a h e) (suc r) = Begins_end 0 (subst IsBreak (sym (get_or_past [] r (Ends 0) (omega arith))) tt)
follows_at N begun above (row ∷ rows) (More b a x xs f c s) zero = f
follows_at N begun above (row ∷ rows) (More b a x xs f c s) (suc r) = follows_at N (begun_after begun row) row rows s r

-- how many nets begin above a row
abbrev pub begun_at : (begun : ℕ) → List Row → ℕ → ℕ
begun_at begun rows zero = begun
begun_at begun [] (suc r) = begun
begun_at begun (row ∷ rows) (suc r) = begun_at (begun_after begun row) rows r

pub counted_at : (N : NetlistOf) (begun : ℕ) (above : Row) (rows : List Row) → Sound N begun above rows → (r : ℕ) → r < length rows → Counted (begun_at begun rows r) (get_or rows r (Ends 0))
counted_at N begun above [] s r b = absurd (omega arith)
counted_at N begun above (row ∷ rows) (More _ _ _ _ f c s) zero b = c
counted_at N begun above (row ∷ rows) (More _ _ _ _ f c s) (suc r) b = counted_at N (begun_after begun row) row rows s r (omega arith)

begun_more : (begun : ℕ) (row : Row) → begun ≤ begun_after begun row
begun_more begun (Source net device) = omega arith
begun_more begun (Tap net gate device) = omega arith
begun_more begun (Ends net) = omega arith

pub begun_least : (begun : ℕ) (rows : List Row) (r : ℕ) → begun ≤ begun_at begun rows r
begun_least begun rows zero = omega arith
begun_least begun [] (suc r) = omega arith
begun_least begun (row ∷ rows) (suc r) = let a = begun_more begun row in let b = begun_least (begun_after begun row) rows r in omega arith

pub begun_last : (N : NetlistOf) (begun : ℕ) (above : Row) (rows : List Row) → Sound N begun above rows → begun_at begun rows (length rows) ≡ nets_of N
begun_last N begun above [] (Over _ _ h e) = e
begun_last N begun above (row ∷ rows) (More _ _ _ _ f c s) = begun_last N (begun_after begun row) row rows s

pub begun_past : (begun : ℕ) (rows : List Row) (r r' n : ℕ) (device : Tile) → r < r' → get_or rows r (Ends 0) ≡ Source n device → begun_at begun rows r < begun_at begun rows r'
begun_past begun [] r r' n device b e = absurd (cc (sym (get_or_past [] r (Ends 0) (omega arith)) ∙ e))
begun_past begun (row ∷ rows) r zero n device b e = absurd (omega arith)
begun_past begun (row ∷ rows) zero (suc r') n device b e =
    let l = begun_least (begun_after begun row) rows r' in let g : begun_after begun row ≡ begun + 1 = ap (begun_after begun) e in omega arith
begun_past begun (row ∷ rows) (suc r) (suc r') n device b e = begun_past (begun_after begun row) rows r r' n device (omega arith) e

-- a net that has begun above a row has its source row there
pub record BeginsAbove (rows : List Row) (k n : ℕ) : Type 0 where
  pub row : ℕ
  pub device : Tile
  pub above : row < k
  pub within : row < length rows
  pub is : get_or rows row (Ends 0) ≡ Source n device

later : (row : Row) (rows : List Row) (k n : ℕ) → BeginsAbove rows k n → BeginsAbove (row ∷ rows) (suc k) n
later row rows k n s = record { row = suc s.row; device = s.device; above = (let a = s.above in omega arith); within = (let a = s.within in omega arith); is = s.is }

pub begins_above : (N : NetlistOf) (begun : ℕ) (above : Row) (rows : List Row) (k n : ℕ) → Sound N begun above rows → begun ≤ n → n < begun_at begun rows k → BeginsAbove rows k n
begins_above N begun above rows zero n s l h = absurd (omega arith)
begins_above N begun above [] (suc k) n s l h = absurd (omega arith)
begins_above N begun above (Source m device ∷ rows) (suc k) n (More _ _ _ _ f c s) l h =
    elim (cases_lt begun n) [
      | inl b ↦ later _ _ _ _ (begins_above N (begun + 1) (Source m device) rows k n s (omega arith) h)
      | inr b ↦ (let e : m ≡ n = omega (arith, c, b, l) in record { row = 0; device = device; above = omega arith; within = omega arith; is = ap (λ (x : ℕ). Source x device) e })
    ]
begins_above N begun above (Tap m gate device ∷ rows) (suc k) n (More _ _ _ _ f c s) l h = later _ _ _ _ (begins_above N begun (Tap m gate device) rows k n s l h)
begins_above N begun above (Ends m ∷ rows) (suc k) n (More _ _ _ _ f c s) l h = later _ _ _ _ (begins_above N begun (Ends m) rows k n s l h)
