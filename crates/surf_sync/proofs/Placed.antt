-- The place of a mark among all marks.
use Rattle.std.specs.Prelude.{slice_get}
use Rattle.std.specs.List.{flat_map}
use Rattle.std.proofs.Common.{◌≡◌, ℕ, suc, ◌+◌, ◌*◌, ◌<◌, List, map, length, get_or, Option, Some, sym, ap, ◌∙◌, subst, arith}
use Rattle.std.specs.Option.{option_map}
use Rattle.std.proofs.lemmas.List.{length-map}
use Rattle.std.proofs.lemmas.List.FromFn.{length-map-range_with_len}
use Rattle.std.proofs.lemmas.Option.{slice_get-map, slice_get_within, get_or_from_slice_get}
use Rattle.surf_auto.specs.Locals.{LocalRule, code_count, sum_below}
use Rattle.surf_sync.specs.declared.code.Code.{Code}
use Rattle.surf_sync.specs.declared.table.Table.{Table}
use Rattle.surf_sync.specs.Codes.{Mark, Protocol, IsCode, fields_by, phase, protocol}
use Rattle.surf_sync.specs.Codes.Mark.{Frame, Cell}
use Rattle.surf_sync.specs.Listing.{block_marks, frame_marks, generation_marks, marks_of, start_of}
use Rattle.surf_sync.specs.Numbering.{code_number}
use Rattle.surf_sync.specs.Phases.{NamesAll}
use Rattle.surf_sync.specs.Rules.{below, codes_of}
use Rattle.surf_sync.specs.Spelling.{spell}
use Rattle.surf_sync.specs.Tables.{IsTable, place_of}
use Rattle.surf_sync.proofs.Members.{get-append_left, get-append_right}
use Rattle.surf_sync.proofs.Numbered.{below_at, codes_at, codes_length, even_at, even_length, flat_at, map_at, pair_below}
use Rattle.surf_sync.proofs.Said.{name_at}

block_length : (P : Protocol) (g k : ℕ) → length (block_marks P g k) ≡ code_count P.rule (phase P.rule g)
block_length P g k = length-map (codes_of P (phase P.rule g) g k) Cell ∙ codes_length P (phase P.rule g) g k

pub generation_length : (P : Protocol) (g : ℕ) → length (generation_marks P g) ≡ suc P.rule.degree * code_count P.rule (phase P.rule g)
generation_length P g = even_length (block_marks P g) (code_count P.rule (phase P.rule g)) (λ k. block_length P g k) (suc P.rule.degree)

-- the i-th code of a generation and colour
pub mark_in : (P : Protocol) (g k i : ℕ) (c : Code) → g < fields_by P.last P.rule.phases → k < suc P.rule.degree → slice_get (codes_of P (phase P.rule g) g k) i ≡ Some c →
    slice_get (marks_of P) (start_of P g + k * code_count P.rule (phase P.rule g) + i) ≡ Some (Cell c)
unfolding marks_of
mark_in P g k i c gw kw e =
    let n : ℕ = code_count P.rule (phase P.rule g) in
    let size : ℕ → ℕ = λ h. suc P.rule.degree * code_count P.rule (phase P.rule h) in
    let iw : i < n = subst (λ m. i < m) (codes_length P (phase P.rule g) g k) (slice_get_within (codes_of P (phase P.rule g) g k) i c e) in
    let b : k * n + i < suc P.rule.degree * n = pair_below k (suc P.rule.degree) i n kw iw in
    let l : length (frame_marks P) ≡ suc P.rule.degree = length-map-range_with_len _ 0 (suc P.rule.degree) in
    let at : start_of P g + k * n + i ≡ length (frame_marks P) + (sum_below size g + (k * n + i)) = omega arith in
    ap (slice_get (marks_of P)) at
    ∙ get-append_right (frame_marks P) (flat_map (generation_marks P) (below (fields_by P.last P.rule.phases))) (sum_below size g + (k * n + i))
    ∙ flat_at (generation_marks P) size (λ h. generation_length P h) (fields_by P.last P.rule.phases) g (k * n + i) gw b
    ∙ even_at (block_marks P g) n (λ j. block_length P g j) (suc P.rule.degree) k i kw iw
    ∙ map_at Cell (codes_of P (phase P.rule g) g k) i c e

pub mark_at : (P : Protocol) (c : Code) → IsCode P.rule P.last c →
    slice_get (marks_of P) (start_of P c.generation + c.colour * code_count P.rule (phase P.rule c.generation) + code_number P (phase P.rule c.generation) c) ≡ Some (Cell c)
mark_at P c is =
    mark_in P c.generation c.colour (code_number P (phase P.rule c.generation) c) c is.generation_within is.colour_within
    (codes_at P (phase P.rule c.generation) c is.current_within is.previous_within is.reads_within is.acc_within)

pub mark_frame : (P : Protocol) (k : ℕ) → k < suc P.rule.degree → slice_get (marks_of P) k ≡ Some (Frame k)
unfolding marks_of
mark_frame P k h =
    let l : length (frame_marks P) ≡ suc P.rule.degree = length-map-range_with_len _ 0 (suc P.rule.degree) in
    get-append_left (frame_marks P) _ k (omega arith)
    ∙ map_at Frame (below (suc P.rule.degree)) k k (below_at 0 (suc P.rule.degree) k h ∙ ap Some (let z : 0 + k ≡ k = omega arith in z))

-- the number of a mark at its place
pub number_of : (P : Protocol) (T : Table) (texts : List (List ℕ)) (place : ℕ) (m : Mark) → NamesAll P texts T → slice_get (marks_of (protocol P.rule 0 P.last)) place ≡ Some m →
    (k : ℕ) × (slice_get T.numbers.items place ≡ Some k) × (slice_get texts k ≡ Some (spell m))
number_of P T texts place m names at =
    name_at texts T.numbers.items (map spell (marks_of (protocol P.rule 0 P.last))) names place (spell m)
    (slice_get-map spell (marks_of (protocol P.rule 0 P.last)) place ∙ ap (option_map spell) at)

pub place_within : (P : Protocol) (T : Table) (place : ℕ) (m : Mark) → IsTable (protocol P.rule 0 P.last) T → slice_get (marks_of (protocol P.rule 0 P.last)) place ≡ Some m → place < length T.numbers.items
place_within P T place m is at = subst (λ n. place < n) (sym is.whole) (slice_get_within (marks_of (protocol P.rule 0 P.last)) place m at)

-- the place of a code, by its parts
pub place_is : (R : LocalRule) (last : Option ℕ) (c : Code) (f start count number : ℕ) → f ≡ phase R c.generation → start ≡ start_of (protocol R 0 last) c.generation →
    count ≡ code_count R f → number ≡ code_number (protocol R 0 last) f c → start + c.colour * count + number ≡ place_of (protocol R 0 last) c
place_is R last c f start count number is begins many at =
    ap (λ s. s + c.colour * count + number) begins
    ∙ ap (λ n. start_of (protocol R 0 last) c.generation + c.colour * n + number) (many ∙ ap (code_count R) is)
    ∙ ap (λ n. start_of (protocol R 0 last) c.generation + c.colour * code_count R (phase R c.generation) + n) (at ∙ ap (λ p. code_number (protocol R 0 last) p c) is)

pub code_within : (P : Protocol) (T : Table) (c : Code) → IsTable (protocol P.rule 0 P.last) T → IsCode P.rule P.last c → place_of (protocol P.rule 0 P.last) c < length T.numbers.items
code_within P T c is code = place_within P T _ (Cell c) is (mark_at (protocol P.rule 0 P.last) c code)

pub code_named : (P : Protocol) (T : Table) (texts : List (List ℕ)) (c : Code) (place number : ℕ) → NamesAll P texts T → IsCode P.rule P.last c → place ≡ place_of (protocol P.rule 0 P.last) c → number ≡ get_or T.numbers.items place 0 → slice_get texts number ≡ Some (spell (Cell c))
code_named P T texts c place number names code at is =
    let n = number_of P T texts _ (Cell c) names (mark_at (protocol P.rule 0 P.last) c code) in
    let e : number ≡ n.0 = is ∙ ap (λ p. get_or T.numbers.items p 0) at ∙ get_or_from_slice_get T.numbers.items (place_of (protocol P.rule 0 P.last) c) n.0 0 n.1 in
    ap (slice_get texts) e ∙ n.2
