-- The numbers of the codes of one generation and colour, and the rules that read them.
use Rattle.std.specs.Prelude.{slice_get, slice_index}
use Rattle.std.specs.List.{flat_map}
use Rattle.std.proofs.Common.{◌≡◌, ℕ, suc, ◌+◌, ◌*◌, ◌<◌, ◌≤◌, List, [], ◌∷◌, ◌++◌, map, length, length-append, Option, Some, None, sym, refl, ap, ◌∙◌, arith}
use Rattle.std.specs.Option.{option_map}
use Rattle.std.proofs.lemmas.List.{map-append}
use Rattle.std.proofs.lemmas.List.FromFn.{length-map-range_with_len}
use Rattle.std.proofs.lemmas.Option.{slice_get-map}
use Rattle.std.proofs.Math.Nat.{mul-le-mul_right}
use Rattle.surf_auto.specs.Locals.{LocalRule, code_count, following, preceding, sum_below}
use Rattle.surf_world.specs.Systems as systems
use Rattle.surf_sync.specs.declared.code.Code.{Code}
use Rattle.surf_sync.specs.declared.phase.Shown.{Shown}
use Rattle.surf_sync.specs.declared.phase.Shown.TheVariants.{Current, Previous}
use Rattle.surf_sync.specs.declared.table.Table.{Table}
use Rattle.surf_sync.specs.Codes.{Mark, Protocol, IsCode, OpenBy, beside, fields_by, next_by, next_field, phase, protocol, read_rule}
use Rattle.surf_sync.specs.Codes.Mark.{Frame, Cell}
use Rattle.surf_sync.specs.Listing.{frame_marks, generation_marks, marks_of, start_of}
use Rattle.surf_sync.specs.Moved.{moved}
use Rattle.surf_sync.specs.Phases.{NamesAll, StandFrom, reads_of, state_of}
use Rattle.surf_sync.specs.Rules.{Seen, below, codes_of, rules_of}
use Rattle.surf_sync.specs.Tables.{IsTable}
use Rattle.surf_sync.proofs.AfterReads.{preceding_following}
use Rattle.surf_sync.proofs.Listed.{codes_has, next_within, phase_of_next}
use Rattle.surf_sync.proofs.Loops.{map_map}
use Rattle.surf_sync.proofs.Moved.{moved_codes}
use Rattle.surf_sync.proofs.Numbered.{codes_length, flat_length, up_to}
use Rattle.surf_sync.proofs.Placed.{generation_length, mark_in, number_of}

marks_length : (P : Protocol) → length (marks_of P) ≡ suc P.rule.degree + sum_below (λ g. suc P.rule.degree * code_count P.rule (phase P.rule g)) (fields_by P.last P.rule.phases)
unfolding marks_of
marks_length P =
    length-append (frame_marks P) (flat_map (generation_marks P) (below (fields_by P.last P.rule.phases)))
    ∙ ap (λ n. n + length (flat_map (generation_marks P) (below (fields_by P.last P.rule.phases)))) (length-map-range_with_len _ 0 (suc P.rule.degree))
    ∙ ap (λ n. suc P.rule.degree + n) (flat_length (generation_marks P) (λ g. suc P.rule.degree * code_count P.rule (phase P.rule g)) (λ g. generation_length P g) (fields_by P.last P.rule.phases))

module _ (R : LocalRule) (edge : ℕ) (last : Option ℕ) (T : Table) (is : IsTable (protocol R 0 last) T) (g k f : ℕ) (codes : List Code) (gw : g < fields_by last R.phases) (kw : k < suc R.degree) (in_phase : f ≡ phase R g) (listed : codes ≡ codes_of (protocol R 0 None) f 0 0) where
  many : length codes ≡ code_count R (phase R g)
  many = ap length listed ∙ codes_length (protocol R 0 None) f 0 0 ∙ ap (code_count R) in_phase

  all_moved : map (moved g k) codes ≡ codes_of (protocol R 0 last) (phase R g) g k
  all_moved = ap (map (moved g k)) (listed ∙ ap (λ p. codes_of (protocol R 0 None) p 0 0) in_phase) ∙ moved_codes (protocol R 0 last) (phase R g) g k

  -- they are within the table
  pub block_room : slice_index T.starts.items g + k * length codes + length codes ≤ length T.numbers.items
  block_room =
      let P = protocol R 0 last in
      let size : ℕ → ℕ = λ h. suc R.degree * code_count R (phase R h) in
      let n = many in
      let s = is.starts g gw in
      let w = is.whole in
      let l = marks_length P in
      let u = up_to {Y = ℕ} (λ _. []) size g (fields_by last R.phases) gw in
      let m : (k + 1) * code_count R (phase R g) ≤ suc R.degree * code_count R (phase R g) = mul-le-mul_right (code_count R (phase R g)) (let le : k + 1 ≤ suc R.degree = omega arith in le) in
      let e = ap (λ x. k * x) n in
      omega arith

  pub block_stands : (texts : List (List ℕ)) → NamesAll (protocol R edge last) texts T → StandFrom texts T.numbers.items (slice_index T.starts.items g + k * length codes) (map (moved g k) codes)
  block_stands texts names i c at =
      let there : slice_get (codes_of (protocol R 0 last) (phase R g) g k) i ≡ Some c = ap (λ xs. slice_get xs i) (sym all_moved) ∙ at in
      let place : start_of (protocol R 0 last) g + k * code_count R (phase R g) + i ≡ slice_index T.starts.items g + k * length codes + i =
      ap (λ s. s + k * code_count R (phase R g) + i) (sym (is.starts g gw)) ∙ ap (λ n. slice_index T.starts.items g + k * n + i) (sym many) in
      let n = number_of (protocol R edge last) T texts (start_of (protocol R 0 last) g + k * code_count R (phase R g) + i) (Cell c) names (mark_in (protocol R 0 last) g k i c gw kw there) in
      (n.0, ap (slice_get T.numbers.items) (sym place) ∙ n.1, n.2)

  -- and listed
  pub block_listed : (i : ℕ) (c : Code) → slice_get codes i ≡ Some c → IsCode R last (moved g k c)
  block_listed i c at =
      let there : slice_get (codes_of (protocol R 0 last) (phase R g) g k) i ≡ Some (moved g k c) = ap (λ xs. slice_get xs i) (sym all_moved) ∙ (slice_get-map (moved g k) codes i ∙ ap (option_map (moved g k)) at) in
      (codes_has (protocol R 0 last) (phase R g) g k (moved g k c) gw refl kw (i, there)).2

seen_reads : (P : Protocol) (r : Code) (shown : Shown) (g k f : ℕ) (codes : List Code) → codes ≡ codes_of (protocol P.rule 0 None) f 0 0 → (value : Code → ℕ) → ((c : Code) → value (moved g k c) ≡ state_of shown c) →
    map (λ s. read_rule P r s.mark s.value) (map (λ c. let x : Seen = record { mark = Cell c; value = value c } in x) (codes_of P f g k)) ≡ reads_of P r shown g k codes
seen_reads P r shown g k f codes listed value shows =
    map_map (λ (s : Seen). read_rule P r s.mark s.value) (λ c. let x : Seen = record { mark = Cell c; value = value c } in x) (codes_of P f g k)
    ∙ ap (map (λ c. read_rule P r (Cell c) (value c))) (sym (moved_codes P f g k))
    ∙ map_map (λ c. read_rule P r (Cell c) (value c)) (moved g k) (codes_of P f 0 0)
    ∙ ap (map (λ c. read_rule P r (Cell (moved g k c)) (value (moved g k c)))) (sym listed)
    ∙ same (λ c. read_rule P r (Cell (moved g k c)) (value (moved g k c))) (λ c. read_rule P r (Cell (moved g k c)) (state_of shown c)) (λ c. ap (read_rule P r (Cell (moved g k c))) (shows c)) codes
  where
    same : {X Y : Type 0} (u v : X → Y) → ((x : X) → u x ≡ v x) → (xs : List X) → map u xs ≡ map v xs
    same u v h [] = refl
    same u v h (x ∷ xs) = ap (λ y. y ∷ map u xs) (h x) ∙ ap (λ ys. v x ∷ ys) (same u v h xs)

-- the codes of the generation after g, where a cell at g may read
pub record IsNext (R : LocalRule) (last : Option ℕ) (g f : ℕ) : Type 0 where
  pub within : next_by last R.phases g < fields_by last R.phases
  pub in_phase : following R.phases f ≡ phase R (next_by last R.phases g)
  pub before : preceding R.phases (phase R (next_by last R.phases g)) ≡ f

pub is_next : (R : LocalRule) (last : Option ℕ) (g f : ℕ) → 0 < R.phases → g < fields_by last R.phases → OpenBy last g → phase R g ≡ f → f < R.phases → IsNext R last g f
is_next R last g f some gw opened at fw =
    let later : following R.phases f ≡ phase R (next_by last R.phases g) = ap (following R.phases) (sym at) ∙ sym (phase_of_next last R.phases g some) in
    record {
      within = next_within last R.phases g some gw opened;
      in_phase = later;
      before = ap (preceding R.phases) (sym later) ∙ preceding_following R.phases f fw;
    }

pub colour_below : (d n k : ℕ) → n ≡ d → k ≤ n → k < suc d
colour_below d n k e le = omega (arith, e, le)

-- the rules of a reader: of the frame, of the cells of its generation, and of those of the next
pub reader_rules : (P : Protocol) (r : Code) (f : ℕ) (codes next : List Code) → codes ≡ codes_of (protocol P.rule 0 None) f 0 0 → next ≡ codes_of (protocol P.rule 0 None) (following P.rule.phases f) 0 0 →
    rules_of P f r ≡ (read_rule P r (Frame (beside P.rule.degree r.colour r.reads)) P.edge ∷ [])
    ++ (reads_of P r Current r.generation (beside P.rule.degree r.colour r.reads) codes ++ reads_of P r Previous (next_field P r.generation) (beside P.rule.degree r.colour r.reads) next)
unfolding rules_of
reader_rules P r f codes next listed after =
    let k : ℕ = beside P.rule.degree r.colour r.reads in
    let rule : Seen → systems.Rule Mark = λ s. read_rule P r s.mark s.value in
    let same : List Seen = map (λ c. let x : Seen = record { mark = Cell c; value = c.current } in x) (codes_of P f r.generation k) in
    let ahead : List Seen = map (λ c. let x : Seen = record { mark = Cell c; value = c.previous } in x) (codes_of P (following P.rule.phases f) (next_field P r.generation) k) in
    ap (λ xs. read_rule P r (Frame k) P.edge ∷ xs)
    (map-append rule same ahead
    ∙ ap (λ xs. xs ++ map rule ahead) (seen_reads P r Current r.generation k f codes listed (λ c. c.current) (λ c. refl))
    ∙ ap (λ xs. reads_of P r Current r.generation k codes ++ xs) (seen_reads P r Previous (next_field P r.generation) k (following P.rule.phases f) next after (λ c. c.previous) (λ c. refl)))
