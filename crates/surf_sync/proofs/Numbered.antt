-- The list has at each number the rule that the numbering gives there.
use Rattle.std.specs.Prelude.{slice_get, if◌then◌else◌}
use Rattle.std.specs.List.{range_with_len, flat_map}
use Rattle.std.proofs.Common.{◌≡◌, ℕ, zero, suc, ◌+◌, ◌*◌, ◌/◌, ◌%◌, ◌<◌, ◌≤◌, ◌≢◌, List, [], ◌∷◌, ◌++◌, map, length, length-append, append-nil, Some, sym, refl, ap, ◌∙◌, subst, inl, inr, arith}
use Rattle.std.specs.Option.{option_map}
use Rattle.std.proofs.lemmas.List.{length-map}
use Rattle.std.proofs.lemmas.Option.{slice_get-map, slice_get_within}
use Rattle.std.proofs.lemmas.Bool.{cases_eq, eq-eqb, ne_eqb}
use Rattle.std.proofs.lemmas.Grind.{flat_map-append}
use Rattle.std.proofs.lemmas.Nat.{mod_below, div-add-mod', mul-add-lt}
use Rattle.surf_world.specs.Systems.{Rule}
use Rattle.surf_auto.specs.Locals.{following, sum_below, place_count, code_count, reader_count, sight_count, rule_count_in}
use Rattle.surf_sync.specs.declared.code.Code.{Code}
use Rattle.surf_sync.specs.Codes.{Protocol, Mark, OpenBy, WholeBy, beside, next_field, phase, sight, read_rule, IsCode, IsMark}
use Rattle.surf_sync.specs.Codes.Mark.{Frame, Cell}
use Rattle.surf_sync.specs.Rules.{below, turns_of, Place, places_of, code_of, codes_of, readers_of, Seen, sights_of, rules_of, sync_rules}
use Rattle.surf_sync.specs.Numbering.{place_number, previous_count, reader_number, code_number, sight_number, phase_rules, rule_number}
use Rattle.surf_sync.proofs.Members.{get-append_left, get-append_right, numbered}
use Rattle.surf_sync.proofs.Sights.{sight_frame, sight_cell}
use Rattle.surf_sync.proofs.Numbers.{next_apart}
use Rattle.surf_sync.proofs.Listed.{phase_of_next, turn_within}

below_from : (a n : ℕ) → range_with_len a (suc n) ≡ range_with_len a n ++ (a + n) ∷ []
below_from a zero = ap (λ x. x ∷ []) (let e : a ≡ a + 0 = omega arith in e)
below_from a (suc n) = ap (λ xs. a ∷ xs) (below_from (a + 1) n) ∙ ap (λ x. a ∷ (range_with_len (a + 1) n ++ x ∷ [])) (let e : a + 1 + n ≡ a + suc n = omega arith in e)

below_more : (n : ℕ) → below (suc n) ≡ below n ++ n ∷ []
below_more n = below_from 0 n ∙ ap (λ x. below n ++ x ∷ []) (let e : 0 + n ≡ n = omega arith in e)

flat_one : {X Y : Type 0} (f : X → List Y) (x : X) → flat_map f (x ∷ []) ≡ f x
flat_one f x = append-nil (f x)

flat_more : {Y : Type 0} (f : ℕ → List Y) (n : ℕ) → flat_map f (below (suc n)) ≡ flat_map f (below n) ++ f n
flat_more f n = ap (flat_map f) (below_more n) ∙ flat_map-append f (below n) (n ∷ []) ∙ ap (λ ys. flat_map f (below n) ++ ys) (flat_one f n)

module _ {Y : Type 0} (f : ℕ → List Y) (size : ℕ → ℕ) where
  pub flat_length : ((i : ℕ) → length (f i) ≡ size i) → (n : ℕ) → length (flat_map f (below n)) ≡ sum_below size n
  flat_length all zero = refl
  flat_length all (suc n) = ap length (flat_more f n) ∙ length-append (flat_map f (below n)) (f n) ∙ (let a = flat_length all n in let b = all n in omega arith)

  pub up_to : (i n : ℕ) → i < n → sum_below size i + size i ≤ sum_below size n
  up_to i zero h = absurd (omega arith)
  up_to i (suc n) h = elim (cases_eq i n) [
    | inl e ↦ subst (λ x. sum_below size x + size x ≤ sum_below size n + size n) (sym e) (omega arith)
    | inr d ↦ let a = up_to i n (omega arith) in omega arith
  ]

  -- the element of the part i at j stands after all parts below i
  pub flat_at : ((i : ℕ) → length (f i) ≡ size i) → (n i j : ℕ) → i < n → j < size i → slice_get (flat_map f (below n)) (sum_below size i + j) ≡ slice_get (f i) j
  flat_at all zero i j h k = absurd (omega arith)
  flat_at all (suc n) i j h k =
      let l : length (flat_map f (below n)) ≡ sum_below size n = flat_length all n in
      ap (λ xs. slice_get xs (sum_below size i + j)) (flat_more f n) ∙ elim (cases_eq i n) [
        | inl e ↦
            subst (λ x. slice_get (flat_map f (below n) ++ f n) (sum_below size x + j) ≡ slice_get (f x) j) (sym e)
            (ap (λ x. slice_get (flat_map f (below n) ++ f n) (x + j)) (sym l) ∙ get-append_right (flat_map f (below n)) (f n) j)
        | inr d ↦
            let u = up_to i n (omega arith) in
            get-append_left (flat_map f (below n)) (f n) (sum_below size i + j) (omega arith) ∙ flat_at all n i j (omega arith) k
      ]

pub sum_same : (m n : ℕ) → sum_below (λ _. m) n ≡ n * m
sum_same m zero = omega arith
sum_same m (suc n) = let a = sum_same m n in omega arith

-- parts of one length
pub even_length : {Y : Type 0} (f : ℕ → List Y) (m : ℕ) → ((i : ℕ) → length (f i) ≡ m) → (n : ℕ) → length (flat_map f (below n)) ≡ n * m
even_length f m all n = flat_length f (λ _. m) all n ∙ sum_same m n

pub even_at : {Y : Type 0} (f : ℕ → List Y) (m : ℕ) → ((i : ℕ) → length (f i) ≡ m) → (n i j : ℕ) → i < n → j < m → slice_get (flat_map f (below n)) (i * m + j) ≡ slice_get (f i) j
even_at f m all n i j h k = ap (λ x. slice_get (flat_map f (below n)) (x + j)) (sym (sum_same m i)) ∙ flat_at f (λ _. m) all n i j h k

pub map_at : {X Y : Type 0} (f : X → Y) (xs : List X) (k : ℕ) (x : X) → slice_get xs k ≡ Some x → slice_get (map f xs) k ≡ Some (f x)
map_at f xs k x e = slice_get-map f xs k ∙ ap (option_map f) e

pub below_length : (a n : ℕ) → length (range_with_len a n) ≡ n
below_length a zero = refl
below_length a (suc n) = ap suc (below_length (a + 1) n)

pub below_at : (a n i : ℕ) → i < n → slice_get (range_with_len a n) i ≡ Some (a + i)
below_at a zero i h = absurd (omega arith)
below_at a (suc n) zero h = ap Some (let e : a ≡ a + 0 = omega arith in e)
below_at a (suc n) (suc i) h = below_at (a + 1) n i (omega arith) ∙ ap Some (let e : a + 1 + i ≡ a + suc i = omega arith in e)

-- ---- places, codes and readers

row : (P : Protocol) (f r : ℕ) → List Place
row P f r = map (λ a. let p : Place = record { reads = r; acc = a } in p) (below (P.rule.accs f r))

row_length : (P : Protocol) (f r : ℕ) → length (row P f r) ≡ P.rule.accs f r
unfolding row
row_length P f r = length-map (below (P.rule.accs f r)) _ ∙ below_length 0 (P.rule.accs f r)

places_length : (P : Protocol) (f : ℕ) → length (places_of P f) ≡ place_count P.rule f
unfolding row
places_length P f = flat_length (row P f) (P.rule.accs f) (row_length P f) P.rule.degree

places_at : (P : Protocol) (f r a : ℕ) → r < P.rule.degree → a < P.rule.accs f r → slice_get (places_of P f) (sum_below (P.rule.accs f) r + a) ≡ Some (record { reads = r; acc = a })
unfolding row
places_at P f r a h k =
    flat_at (row P f) (P.rule.accs f) (row_length P f) P.rule.degree r a h k
    ∙ map_at (λ a. let p : Place = record { reads = r; acc = a } in p) (below (P.rule.accs f r)) a a (below_at 0 (P.rule.accs f r) a k ∙ ap Some (let e : 0 + a ≡ a = omega arith in e))

place_below : (P : Protocol) (f r a : ℕ) → r < P.rule.degree → a < P.rule.accs f r → sum_below (P.rule.accs f) r + a < place_count P.rule f
place_below P f r a h k = let u = up_to {Y = ℕ} (λ _. []) (P.rule.accs f) r P.rule.degree h in omega arith

coded : (P : Protocol) (f current field colour previous : ℕ) → List Code
coded P f current field colour previous = map (code_of current field colour previous) (places_of P f)

coded_length : (P : Protocol) (f current field colour previous : ℕ) → length (coded P f current field colour previous) ≡ place_count P.rule f
unfolding coded
coded_length P f current field colour previous = length-map (places_of P f) _ ∙ places_length P f

coded_at : (P : Protocol) (f current field colour previous : ℕ) (c : Code) → c ≡ code_of current field colour previous (record { reads = c.reads; acc = c.acc }) → c.reads < P.rule.degree → c.acc < P.rule.accs f c.reads → slice_get (coded P f current field colour previous) (place_number P f c) ≡ Some c
unfolding coded
coded_at P f current field colour previous c e h k =
    map_at (code_of current field colour previous) (places_of P f) (place_number P f c) (record { reads = c.reads; acc = c.acc }) (places_at P f c.reads c.acc h k) ∙ ap Some (sym e)

by_previous : (P : Protocol) (f current field colour : ℕ) → List Code
by_previous P f current field colour = flat_map (coded P f current field colour) (below (previous_count P f))

by_previous_length : (P : Protocol) (f current field colour : ℕ) → length (by_previous P f current field colour) ≡ previous_count P f * place_count P.rule f
unfolding by_previous
by_previous_length P f current field colour = even_length (coded P f current field colour) (place_count P.rule f) (coded_length P f current field colour) (previous_count P f)

by_previous_at : (P : Protocol) (f current field colour : ℕ) (c : Code) → c ≡ code_of current field colour c.previous (record { reads = c.reads; acc = c.acc }) → c.previous < previous_count P f → c.reads < P.rule.degree → c.acc < P.rule.accs f c.reads → slice_get (by_previous P f current field colour) (c.previous * place_count P.rule f + place_number P f c) ≡ Some c
unfolding by_previous
by_previous_at P f current field colour c e b h k =
    even_at (coded P f current field colour) (place_count P.rule f) (coded_length P f current field colour) (previous_count P f) c.previous (place_number P f c) b (place_below P f c.reads c.acc h k)
    ∙ coded_at P f current field colour c.previous c e h k

pub pair_below : (i m j n : ℕ) → i < m → j < n → i * n + j < m * n
pair_below i m j n h k = let a : i * n + j < n * m = mul-add-lt i n j m h k in omega arith

-- a code among those of its phase, field and colour
pub codes_length : (P : Protocol) (f field colour : ℕ) → length (codes_of P f field colour) ≡ code_count P.rule f
unfolding by_previous coded
codes_length P f field colour =
    even_length (λ current. by_previous P f current field colour) (previous_count P f * place_count P.rule f) (λ current. by_previous_length P f current field colour) (P.rule.states f) ∙ (omega arith)

pub codes_at : (P : Protocol) (f : ℕ) (c : Code) → c.current < P.rule.states f → c.previous < previous_count P f → c.reads < P.rule.degree → c.acc < P.rule.accs f c.reads → slice_get (codes_of P f c.generation c.colour) (code_number P f c) ≡ Some c
unfolding by_previous coded
codes_at P f c a b h k =
    let n : code_number P f c ≡ c.current * (previous_count P f * place_count P.rule f) + (c.previous * place_count P.rule f + place_number P f c) = omega arith in
    ap (slice_get (codes_of P f c.generation c.colour)) n
    ∙ even_at (λ current. by_previous P f current c.generation c.colour) (previous_count P f * place_count P.rule f) (λ current. by_previous_length P f current c.generation c.colour) (P.rule.states f) c.current (c.previous * place_count P.rule f + place_number P f c) a
    (pair_below c.previous (previous_count P f) (place_number P f c) (place_count P.rule f) b (place_below P f c.reads c.acc h k))
    ∙ by_previous_at P f c.current c.generation c.colour c refl b h k

by_colour : (P : Protocol) (f current turn : ℕ) → List Code
by_colour P f current turn = flat_map (λ colour. by_previous P f current (turn * P.rule.phases + f) colour) (below (suc P.rule.degree))

by_turn : (P : Protocol) (f current : ℕ) → List Code
by_turn P f current = flat_map (by_colour P f current) (below (turns_of P))

by_colour_length : (P : Protocol) (f current turn : ℕ) → length (by_colour P f current turn) ≡ suc P.rule.degree * (previous_count P f * place_count P.rule f)
unfolding by_colour
by_colour_length P f current turn = even_length (λ colour. by_previous P f current (turn * P.rule.phases + f) colour) (previous_count P f * place_count P.rule f) (λ colour. by_previous_length P f current (turn * P.rule.phases + f) colour) (suc P.rule.degree)

by_turn_length : (P : Protocol) (f current : ℕ) → length (by_turn P f current) ≡ turns_of P * (suc P.rule.degree * (previous_count P f * place_count P.rule f))
unfolding by_turn
by_turn_length P f current = even_length (by_colour P f current) (suc P.rule.degree * (previous_count P f * place_count P.rule f)) (by_colour_length P f current) (turns_of P)

readers_length : (P : Protocol) (f : ℕ) → length (readers_of P f) ≡ reader_count (turns_of P) P.rule f
unfolding by_turn by_colour by_previous coded
readers_length P f =
    even_length (by_turn P f) (turns_of P * (suc P.rule.degree * (previous_count P f * place_count P.rule f))) (by_turn_length P f) (P.rule.states f) ∙ (omega arith)

nested : (a b c d e f g h k : ℕ) → (((a * b + c) * d + e) * f + g) * h + k ≡ a * (b * (d * (f * h))) + (c * (d * (f * h)) + (e * (f * h) + (g * h + k)))
nested a b c d e f g h k = omega arith

readers_at : (P : Protocol) (c : Code) → 0 < P.rule.phases → IsCode P.rule P.last c → c.generation / P.rule.phases < turns_of P → slice_get (readers_of P (phase P.rule c.generation)) (reader_number P (phase P.rule c.generation) c) ≡ Some c
unfolding by_turn by_colour by_previous coded
readers_at P c some is turn =
    let f : ℕ = phase P.rule c.generation in
    let t : ℕ = c.generation / P.rule.phases in
    let e : t * P.rule.phases + f ≡ c.generation = div-add-mod' c.generation P.rule.phases in
    let same : c ≡ code_of c.current (t * P.rule.phases + f) c.colour c.previous (record { reads = c.reads; acc = c.acc }) = ap (λ x. code_of c.current x c.colour c.previous (record { reads = c.reads; acc = c.acc })) (sym e) in
    let i3 : c.previous * place_count P.rule f + place_number P f c < previous_count P f * place_count P.rule f = pair_below c.previous (previous_count P f) (place_number P f c) (place_count P.rule f) is.previous_within (place_below P f c.reads c.acc is.reads_within is.acc_within) in
    let i2 : c.colour * (previous_count P f * place_count P.rule f) + (c.previous * place_count P.rule f + place_number P f c) < suc P.rule.degree * (previous_count P f * place_count P.rule f) = pair_below c.colour (suc P.rule.degree) _ _ is.colour_within i3 in
    let i1 : t * (suc P.rule.degree * (previous_count P f * place_count P.rule f)) + (c.colour * (previous_count P f * place_count P.rule f) + (c.previous * place_count P.rule f + place_number P f c)) < turns_of P * (suc P.rule.degree * (previous_count P f * place_count P.rule f)) = pair_below t (turns_of P) _ _ turn i2 in
    ap (slice_get (readers_of P f)) (nested c.current (turns_of P) t (suc P.rule.degree) c.colour (previous_count P f) c.previous (place_count P.rule f) (place_number P f c))
    ∙ even_at (by_turn P f) (turns_of P * (suc P.rule.degree * (previous_count P f * place_count P.rule f))) (by_turn_length P f) (P.rule.states f) c.current _ is.current_within i1
    ∙ even_at (by_colour P f c.current) (suc P.rule.degree * (previous_count P f * place_count P.rule f)) (by_colour_length P f c.current) (turns_of P) t _ turn i2
    ∙ even_at (λ colour. by_previous P f c.current (t * P.rule.phases + f) colour) (previous_count P f * place_count P.rule f) (λ colour. by_previous_length P f c.current (t * P.rule.phases + f) colour) (suc P.rule.degree) c.colour _ is.colour_within i3
    ∙ by_previous_at P f c.current (t * P.rule.phases + f) c.colour c same is.previous_within is.reads_within is.acc_within

-- what may stand beside a reader
same_sights : (P : Protocol) (f : ℕ) (r : Code) → List Seen
same_sights P f r = map (λ c. let x : Seen = record { mark = Cell c; value = c.current } in x) (codes_of P f r.generation (beside P.rule.degree r.colour r.reads))

next_sights : (P : Protocol) (f : ℕ) (r : Code) → List Seen
next_sights P f r = map (λ c. let x : Seen = record { mark = Cell c; value = c.previous } in x) (codes_of P (following P.rule.phases f) (next_field P r.generation) (beside P.rule.degree r.colour r.reads))

same_sights_length : (P : Protocol) (f : ℕ) (r : Code) → length (same_sights P f r) ≡ code_count P.rule f
unfolding same_sights
same_sights_length P f r = length-map (codes_of P f r.generation (beside P.rule.degree r.colour r.reads)) _ ∙ codes_length P f r.generation (beside P.rule.degree r.colour r.reads)

next_sights_length : (P : Protocol) (f : ℕ) (r : Code) → length (next_sights P f r) ≡ code_count P.rule (following P.rule.phases f)
unfolding next_sights
next_sights_length P f r = length-map (codes_of P (following P.rule.phases f) (next_field P r.generation) (beside P.rule.degree r.colour r.reads)) _ ∙ codes_length P (following P.rule.phases f) (next_field P r.generation) (beside P.rule.degree r.colour r.reads)

sights_length : (P : Protocol) (f : ℕ) (r : Code) → length (sights_of P f r) ≡ sight_count P.rule f
unfolding same_sights next_sights
sights_length P f r =
    let e = length-append (same_sights P f r) (next_sights P f r) in
    let a = same_sights_length P f r in
    let b = next_sights_length P f r in
    let t : suc (length (same_sights P f r ++ next_sights P f r)) ≡ sight_count P.rule f = omega arith in
    t

rules_length : (P : Protocol) (f : ℕ) (r : Code) → length (rules_of P f r) ≡ sight_count P.rule f
unfolding rules_of
rules_length P f r = length-map (sights_of P f r) _ ∙ sights_length P f r

pub code_below : (P : Protocol) (f : ℕ) (c : Code) → c.current < P.rule.states f → c.previous < previous_count P f → c.reads < P.rule.degree → c.acc < P.rule.accs f c.reads → code_number P f c < code_count P.rule f
code_below P f c a b h k =
    let i : c.previous * place_count P.rule f + place_number P f c < previous_count P f * place_count P.rule f = pair_below c.previous (previous_count P f) (place_number P f c) (place_count P.rule f) b (place_below P f c.reads c.acc h k) in
    let j : c.current * (previous_count P f * place_count P.rule f) + (c.previous * place_count P.rule f + place_number P f c) < P.rule.states f * (previous_count P f * place_count P.rule f) = pair_below c.current (P.rule.states f) _ _ a i in
    omega arith

seen_same : (c : Code) → Seen
seen_same c = record { mark = Cell c; value = c.current }

seen_next : (c : Code) → Seen
seen_next c = record { mark = Cell c; value = c.previous }

module _ (P : Protocol) (some : 0 < P.rule.phases) (r : Code) where
  same_at : (n : Code) → IsCode P.rule P.last n → n.colour ≡ beside P.rule.degree r.colour r.reads → n.generation ≡ r.generation → (slice_get (sights_of P (phase P.rule r.generation) r) (1 + code_number P (phase P.rule r.generation) n) ≡ Some (record { mark = Cell n; value = n.current })) × (code_number P (phase P.rule r.generation) n < code_count P.rule (phase P.rule r.generation))
  unfolding same_sights next_sights
  same_at n is colour field =
      let f : ℕ = phase P.rule r.generation in
      let e : phase P.rule n.generation ≡ f = ap (λ x. x % P.rule.phases) field in
      let cw : n.current < P.rule.states f = subst (λ x. n.current < P.rule.states x) e is.current_within in
      let pw : n.previous < previous_count P f = subst (λ x. n.previous < previous_count P x) e is.previous_within in
      let aw : n.acc < P.rule.accs f n.reads = subst (λ x. n.acc < P.rule.accs x n.reads) e is.acc_within in
      let b : code_number P f n < code_count P.rule f = code_below P f n cw pw is.reads_within aw in
      let l : length (same_sights P f r) ≡ code_count P.rule f = same_sights_length P f r in
      let c : slice_get (codes_of P f r.generation (beside P.rule.degree r.colour r.reads)) (code_number P f n) ≡ Some n =
      subst (λ x. slice_get (codes_of P f r.generation x) (code_number P f n) ≡ Some n) colour (subst (λ x. slice_get (codes_of P f x n.colour) (code_number P f n) ≡ Some n) field (codes_at P f n cw pw is.reads_within aw)) in
      let k : 1 + code_number P f n ≡ suc (code_number P f n) = omega arith in (
        ap (slice_get (sights_of P f r)) k
            ∙ get-append_left (same_sights P f r) (next_sights P f r) (code_number P f n) (omega arith)
            ∙ map_at (λ c. let x : Seen = record { mark = Cell c; value = c.current } in x) (codes_of P f r.generation (beside P.rule.degree r.colour r.reads)) (code_number P f n) n c,
        b,
      )

  next_at : (n : Code) → IsCode P.rule P.last n → n.colour ≡ beside P.rule.degree r.colour r.reads → n.generation ≡ next_field P r.generation → (slice_get (sights_of P (phase P.rule r.generation) r) (1 + code_count P.rule (phase P.rule r.generation) + code_number P (following P.rule.phases (phase P.rule r.generation)) n) ≡ Some (record { mark = Cell n; value = n.previous })) × (code_number P (following P.rule.phases (phase P.rule r.generation)) n < code_count P.rule (following P.rule.phases (phase P.rule r.generation)))
  unfolding same_sights next_sights
  next_at n is colour field =
      let f : ℕ = phase P.rule r.generation in
      let g : ℕ = following P.rule.phases f in
      let e : phase P.rule n.generation ≡ g = ap (λ x. x % P.rule.phases) field ∙ phase_of_next P.last P.rule.phases r.generation some in
      let cw : n.current < P.rule.states g = subst (λ x. n.current < P.rule.states x) e is.current_within in
      let pw : n.previous < previous_count P g = subst (λ x. n.previous < previous_count P x) e is.previous_within in
      let aw : n.acc < P.rule.accs g n.reads = subst (λ x. n.acc < P.rule.accs x n.reads) e is.acc_within in
      let b : code_number P g n < code_count P.rule g = code_below P g n cw pw is.reads_within aw in
      let l : length (same_sights P f r) ≡ code_count P.rule f = same_sights_length P f r in
      let c : slice_get (codes_of P g (next_field P r.generation) (beside P.rule.degree r.colour r.reads)) (code_number P g n) ≡ Some n =
      subst (λ x. slice_get (codes_of P g (next_field P r.generation) x) (code_number P g n) ≡ Some n) colour (subst (λ x. slice_get (codes_of P g x n.colour) (code_number P g n) ≡ Some n) field (codes_at P g n cw pw is.reads_within aw)) in
      let k : 1 + code_count P.rule f + code_number P g n ≡ suc (length (same_sights P f r) + code_number P g n) = omega arith in (
        ap (slice_get (sights_of P f r)) k
            ∙ get-append_right (same_sights P f r) (next_sights P f r) (code_number P g n)
            ∙ map_at (λ c. let x : Seen = record { mark = Cell c; value = c.previous } in x) (codes_of P g (next_field P r.generation) (beside P.rule.degree r.colour r.reads)) (code_number P g n) n c,
        b,
      )

  sights_at : (m : Mark) (v : ℕ) → IsMark P m → sight P r m ≡ Some v → (slice_get (sights_of P (phase P.rule r.generation) r) (sight_number P (phase P.rule r.generation) r m) ≡ Some (record { mark = m; value = v })) × (sight_number P (phase P.rule r.generation) r m < sight_count P.rule (phase P.rule r.generation))
  sights_at (Frame k) v is e =
      let w = sight_frame P r k v e in
      (ap (λ x. Some (let y : Seen = record { mark = Frame x; value = P.edge } in y)) (sym w.0) ∙ ap (λ x. Some (let y : Seen = record { mark = Frame k; value = x } in y)) (sym w.1), omega arith)
  sights_at (Cell n) v is e =
      let f : ℕ = phase P.rule r.generation in
      let w = sight_cell P r n v e in
      elim w.1 [
        | inl h ↦
            let s = same_at n is w.0 h.0 in
            let i : sight_number P f r (Cell n) ≡ 1 + code_number P f n = ap (λ b. if b then 1 + code_number P f n else 1 + code_count P.rule f + code_number P (following P.rule.phases f) n) (eq-eqb n.generation r.generation h.0) in
            let b = s.1 in
            (ap (slice_get (sights_of P f r)) i ∙ s.0 ∙ ap (λ x. Some (let y : Seen = record { mark = Cell n; value = x } in y)) (sym h.1), omega arith)
        | inr h ↦
            let s = next_at n is w.0 h.0 in
            let d : n.generation ≢ r.generation = λ x. next_apart P.last P.rule.phases r.generation some (sym h.0 ∙ x) in
            let i : sight_number P f r (Cell n) ≡ 1 + code_count P.rule f + code_number P (following P.rule.phases f) n = ap (λ b. if b then 1 + code_number P f n else 1 + code_count P.rule f + code_number P (following P.rule.phases f) n) (ne_eqb n.generation r.generation d) in
            let b = s.1 in
            (ap (slice_get (sights_of P f r)) i ∙ s.0 ∙ ap (λ x. Some (let y : Seen = record { mark = Cell n; value = x } in y)) (sym h.1), omega arith)
      ]

-- ---- the rules

reader_below : (P : Protocol) (c : Code) → 0 < P.rule.phases → IsCode P.rule P.last c → c.generation / P.rule.phases < turns_of P → reader_number P (phase P.rule c.generation) c < reader_count (turns_of P) P.rule (phase P.rule c.generation)
reader_below P c some is turn = subst (λ n. reader_number P (phase P.rule c.generation) c < n) (readers_length P (phase P.rule c.generation)) (slice_get_within (readers_of P (phase P.rule c.generation)) _ c (readers_at P c some is turn))

list_length : {X Y : Type 0} (f : X → List Y) (m : ℕ) → ((x : X) → length (f x) ≡ m) → (xs : List X) → length (flat_map f xs) ≡ length xs * m
list_length f m all [] = let e : 0 ≡ 0 * m = omega arith in e
list_length f m all (x ∷ xs) = length-append (f x) (flat_map f xs) ∙ (let a = list_length f m all xs in let b = all x in omega arith)

by_reader : (P : Protocol) (f : ℕ) → List (Rule Mark)
by_reader P f = flat_map (rules_of P f) (readers_of P f)

by_reader_length : (P : Protocol) (f : ℕ) → length (by_reader P f) ≡ phase_rules P f
unfolding by_reader
by_reader_length P f = list_length (rules_of P f) (sight_count P.rule f) (rules_length P f) (readers_of P f) ∙ ap (λ n. n * sight_count P.rule f) (readers_length P f)

pub count_is : (P : Protocol) → length (sync_rules P) ≡ rule_count_in (turns_of P) P.rule
unfolding by_reader
count_is P = flat_length (by_reader P) (phase_rules P) (by_reader_length P) P.rule.phases

-- the list has at each number the rule that the numbering gives there
pub rule_at : (P : Protocol) → 0 < P.rule.phases → WholeBy P.last P.rule.phases → (c : Code) (m : Mark) (v : ℕ) → IsCode P.rule P.last c → OpenBy P.last c.generation → IsMark P m → sight P c m ≡ Some v → slice_get (sync_rules P) (rule_number P c m) ≡ Some (read_rule P c m v)
unfolding by_reader rules_of
rule_at P some whole c m v is opened ism saw =
    let f : ℕ = phase P.rule c.generation in
    let turn = turn_within P.last P.rule.phases c.generation some whole is.generation_within opened in
    let s = sights_at P some c m v ism saw in
    let r : slice_get (rules_of P f c) (sight_number P f c m) ≡ Some (read_rule P c m v) = map_at (λ s. read_rule P c s.mark s.value) (sights_of P f c) (sight_number P f c m) (record { mark = m; value = v }) s.0 in
    let b = s.1 in
    let i : reader_number P f c < reader_count (turns_of P) P.rule f = reader_below P c some is turn in
    let j : reader_number P f c * sight_count P.rule f + sight_number P f c m < phase_rules P f = pair_below (reader_number P f c) (reader_count (turns_of P) P.rule f) (sight_number P f c m) (sight_count P.rule f) i b in
    flat_at (by_reader P) (phase_rules P) (by_reader_length P) P.rule.phases f (reader_number P f c * sight_count P.rule f + sight_number P f c m) (mod_below c.generation P.rule.phases some) j
    ∙ numbered (rules_of P f) (sight_count P.rule f) (rules_length P f) (readers_of P f) (reader_number P f c) c (sight_number P f c m) (readers_at P c some is turn) b
    ∙ r
