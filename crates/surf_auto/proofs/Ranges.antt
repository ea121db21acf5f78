-- The answers of local rules by counts and by sums are in range.
use Rattle.std.proofs.Common.{◌≡◌, ℕ, zero, suc, ◌+◌, ◌*◌, ◌<◌, ◌≤◌, max, Bool, true, false, if◌then◌else◌, ◌==◌, List, [], ◌∷◌, ◌++◌, length, get_or, take, slice_index_or, refl, sym, ◌∙◌, ap, arith}
use Rattle.std.proofs.Math.Nat.{mul-le-mul_right, le-max_left, le-max_right}
use Rattle.std.proofs.lemmas.List.Recursion.{max_least}
use Rattle.std.proofs.lemmas.Grind.{get_or_default_zero}
use Rattle.std.proofs.lemmas.List.{take_more}
use Rattle.surf_auto.specs.Locals.{IsLocal, is_degree}
use Rattle.surf_auto.specs.Counts.{Counts, count_rule}
use Rattle.surf_auto.specs.Tables.{Table, IsTable, greatest, sum_count, table_rule}

pub few_directions : (d : ℕ) → is_degree d ≡ true → d ≤ 6
few_directions d h = grind arith

pub one_or_none : (b : Bool) → (if◌then◌else◌ {A = ℕ} b 1 0) < 2
one_or_none true = omega arith
one_or_none false = omega arith

pub is_count_rule : (C : Counts) → is_degree C.degree ≡ true → IsLocal (count_rule C)
is_count_rule C known = let d = few_directions C.degree known in record {
  known = known;
  some_phase = omega arith;
  few_phases = omega arith;
  some_states = λ f h. omega arith;
  few_states = λ f h. omega arith;
  some_accs = λ f r h k. omega arith;
  few_accs = λ f r h k. omega arith;
  start_within = λ f h. omega arith;
  add_within = λ f a i s h k l m. (let e = one_or_none (s == 1) in omega arith);
  finish_within = λ f s a h k l. one_or_none (if s == 1 then slice_index_or C.survival a false else slice_index_or C.birth a false);
}

-- ---- tables

pub weight_below : (ws : List ℕ) (s : ℕ) → s < length ws → get_or ws s 0 ≤ greatest ws
weight_below [] s h = absurd (omega arith)
weight_below (w ∷ ws) zero h = le-max_left w (greatest ws)
weight_below (w ∷ ws) (suc s) h = let b = weight_below ws s (omega arith) in let m = le-max_right w (greatest ws) in omega arith

pub light : (T : Table) → IsTable T → greatest T.weights ≤ 255
light T is = max_least greatest (λ x. x) refl (λ x xs. refl) T.weights 0 255 is.light

-- any weight that is read is light
pub weight_read : (T : Table) → IsTable T → (s weight : ℕ) → weight ≡ get_or T.weights s weight → s < length T.weights → weight ≤ 255
weight_read T is s weight e h =
    let g = light T is in
    let w = weight_below T.weights s h in
    let same : weight ≡ get_or T.weights s 0 = e ∙ get_or_default_zero T.weights s weight h in
    omega arith

pub few_sums : (r g : ℕ) → r ≤ 6 → g ≤ 255 → r * g ≤ 1530
few_sums r g h k = let a : r * g ≤ 6 * g = mul-le-mul_right g h in omega arith

pub in_row : (own acc n row : ℕ) → own < n → acc < row → own * row + acc < n * row
in_row own acc n row h k = let m : suc own * row ≤ n * row = mul-le-mul_right row h in omega arith

pub is_table_rule : (T : Table) → IsTable T → IsLocal (table_rule T)
is_table_rule T is =
    let d = few_directions T.degree is.known in
    let g = light T is in
    record {
      known = is.known;
      some_phase = omega arith;
      few_phases = omega arith;
      some_states = λ f h. is.some;
      few_states = λ f h. is.few;
      some_accs = λ f r h k. omega arith;
      few_accs = λ f r h k. (let m = few_sums r (greatest T.weights) (omega arith) g in omega arith);
      start_within = λ f h. omega arith;
      add_within = λ f a i s h k l m. (let w = weight_below T.weights s m in omega arith);
      finish_within = λ f s a h k l. is.within (s * sum_count T + a) (let b = in_row s a (length T.weights) (sum_count T) k l in let w = is.whole in omega arith);
    }

-- ---- the greatest of some weights, one after another

pub greatest_more : (ws : List ℕ) (w : ℕ) → greatest (ws ++ w ∷ []) ≡ max (greatest ws) w
greatest_more [] w = grind arith
greatest_more (v ∷ ws) w = let e = greatest_more ws w in grind arith

pub greatest_kept : (ws : List ℕ) (i found next : ℕ) → i < length ws → found ≡ greatest (take i ws) → next ≡ max found (get_or ws i 0) → next ≡ greatest (take (i + 1) ws)
greatest_kept ws i found next h f n =
    n ∙ ap (λ x. max x (get_or ws i 0)) f ∙ sym (greatest_more (take i ws) (get_or ws i 0)) ∙ ap greatest (sym (take_more ws i 0 h))

pub greater : (found weight : ℕ) → found < weight → weight ≡ max found weight
greater found weight h = omega arith

pub not_greater : (found weight : ℕ) → weight ≤ found → found ≡ max found weight
not_greater found weight h = omega arith

-- ---- the fields of a table

abbrev pub table : ℕ → List ℕ → List ℕ → Table
table degree weights next = record { degree = degree; weights = weights; next = next }

pub acc_small : (T : Table) → IsTable T → (reads heaviest : ℕ) → heaviest ≡ greatest T.weights → reads ≤ T.degree → reads * heaviest ≤ 1530
acc_small T is reads heaviest h k = let d = few_directions T.degree is.known in let g = light T is in few_sums reads heaviest (omega arith) (omega arith)

pub place_small : (T : Table) → IsTable T → (own heaviest : ℕ) → heaviest ≡ greatest T.weights → own < length T.weights → own * (T.degree * heaviest + 1) ≤ 256 * 1531
place_small T is own heaviest h k =
    let m = acc_small T is T.degree heaviest h (omega arith) in
    let few = is.few in
    let a : own * (T.degree * heaviest + 1) ≤ 256 * (T.degree * heaviest + 1) = mul-le-mul_right (T.degree * heaviest + 1) (omega arith) in
    omega arith

pub place_within : (T : Table) → IsTable T → (own acc heaviest : ℕ) → heaviest ≡ greatest T.weights → own < length T.weights → acc < T.degree * greatest T.weights + 1 → own * (T.degree * heaviest + 1) + acc < length T.next
place_within T is own acc heaviest h k l =
    let row : acc < T.degree * heaviest + 1 = rw h l in
    let b : own * (T.degree * heaviest + 1) + acc < length T.weights * (T.degree * heaviest + 1) = in_row own acc (length T.weights) (T.degree * heaviest + 1) k row in
    let w : length T.next ≡ length T.weights * (T.degree * heaviest + 1) = rw h is.whole in
    omega arith
