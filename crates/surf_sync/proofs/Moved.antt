-- The texts of loops: how many they are, and one turn more.
use Rattle.std.specs.List.{flat_map}
use Rattle.std.proofs.Common.{◌≡◌, ℕ, suc, ◌+◌, ◌*◌, ◌<◌, ◌≤◌, List, [], ◌∷◌, ◌++◌, map, length, length-append, take, get_or, None, sym, ap, ◌∙◌, arith}
use Rattle.std.proofs.lemmas.List.{length-map, map-append, take_more}
use Rattle.std.proofs.lemmas.List.FromFn.{length-map-range_with_len}
use Rattle.surf_sync.specs.declared.code.Code.{Code}
use Rattle.surf_auto.specs.Locals.{LocalRule, code_count, preceding, sum_below}
use Rattle.surf_sync.specs.Codes.{Protocol, fields_by, phase, protocol}
use Rattle.surf_sync.specs.Codes.Mark.{Cell, Frame}
use Rattle.surf_sync.specs.Listing.{block_marks, frame_marks, generation_marks, marks_of}
use Rattle.surf_sync.specs.Rules.{below, code_of, codes_of, places_of}
use Rattle.surf_sync.specs.Moved.{moved, frame_texts, block_texts, codes_at, generation_texts, all_texts}
use Rattle.surf_sync.specs.Spelling.{spell}
use Rattle.surf_sync.proofs.Loops.{map_map, map_flat, flat_same, flat_one_more}
use Rattle.surf_sync.proofs.Numbered.{codes_length, even_length, flat_length, up_to}

pub frame_length : (n : ℕ) → length (frame_texts n) ≡ n
frame_length n = length-map-range_with_len _ 0 n

pub block_length : (codes : List Code) (g k : ℕ) → length (block_texts codes g k) ≡ length codes
block_length codes g k = length-map codes _

pub generation_length : (codes : List Code) (g n : ℕ) → length (generation_texts codes g n) ≡ n * length codes
generation_length codes g n = even_length (block_texts codes g) (length codes) (λ k. block_length codes g k) n

pub block_more : (codes : List Code) (g k i : ℕ) (d : Code) → i < length codes → block_texts (take (i + 1) codes) g k ≡ block_texts (take i codes) g k ++ spell (Cell (moved g k (get_or codes i d))) ∷ []
block_more codes g k i d h = ap (λ cs. block_texts cs g k) (take_more codes i d h) ∙ map-append (λ c. spell (Cell (moved g k c))) (take i codes) (get_or codes i d ∷ [])

-- ---- all texts

moved_places : (P : Protocol) (f g k current previous : ℕ) → map (moved g k) (map (code_of current 0 0 previous) (places_of P f)) ≡ map (code_of current g k previous) (places_of P f)
moved_places P f g k current previous = map_map (moved g k) (code_of current 0 0 previous) (places_of P f)

-- the codes of a generation and colour are those of its phase, moved
pub moved_codes : (P : Protocol) (f g k : ℕ) → map (moved g k) (codes_of P f 0 0) ≡ codes_of P f g k
moved_codes P f g k =
    map_flat (moved g k) _ (below (P.rule.states f))
    ∙ flat_same _ _ (λ current.
    map_flat (moved g k) _ (below (P.rule.states (preceding P.rule.phases f)))
    ∙ flat_same _ _ (λ previous. moved_places P f g k current previous) (below (P.rule.states (preceding P.rule.phases f)))) (below (P.rule.states f))

block_spelled : (P : Protocol) (g k : ℕ) → map spell (block_marks P g k) ≡ block_texts (codes_at P.rule g) g k
block_spelled P g k =
    map_map spell Cell (codes_of P (phase P.rule g) g k)
    ∙ ap (map (λ c. spell (Cell c))) (sym (moved_codes P (phase P.rule g) g k))
    ∙ map_map (λ c. spell (Cell c)) (moved g k) (codes_of P (phase P.rule g) 0 0)

generation_spelled : (P : Protocol) (g : ℕ) → map spell (generation_marks P g) ≡ generation_texts (codes_at P.rule g) g (suc P.rule.degree)
generation_spelled P g =
    map_flat spell (block_marks P g) (below (suc P.rule.degree))
    ∙ flat_same (λ k. map spell (block_marks P g k)) (block_texts (codes_at P.rule g) g) (λ k. block_spelled P g k) (below (suc P.rule.degree))

-- they are the texts of all marks, in their order
pub all_spelled : (P : Protocol) → frame_texts (suc P.rule.degree) ++ all_texts P.rule (fields_by P.last P.rule.phases) ≡ map spell (marks_of P)
unfolding marks_of
all_spelled P =
    let n = fields_by P.last P.rule.phases in
    sym (map-append spell (frame_marks P) (flat_map (generation_marks P) (below n))
    ∙ ap (λ xs. xs ++ map spell (flat_map (generation_marks P) (below n))) (map_map spell Frame (below (suc P.rule.degree)))
    ∙ ap (λ xs. frame_texts (suc P.rule.degree) ++ xs)
    (map_flat spell (generation_marks P) (below n)
    ∙ flat_same (λ g. map spell (generation_marks P g)) (λ g. generation_texts (codes_at P.rule g) g (suc P.rule.degree)) (λ g. generation_spelled P g) (below n)))

-- and so many are they
unfoldable pub size_at : LocalRule → ℕ → ℕ
size_at R g = suc R.degree * code_count R (phase R g)

pub size_is : (R : LocalRule) (g : ℕ) → length (generation_texts (codes_at R g) g (suc R.degree)) ≡ size_at R g
unfolding size_at
size_is R g = generation_length (codes_at R g) g (suc R.degree) ∙ ap (λ n. suc R.degree * n) (codes_length (protocol R 0 None) (phase R g) 0 0)

pub all_length : (R : LocalRule) (n : ℕ) → length (all_texts R n) ≡ sum_below (size_at R) n
all_length R n = flat_length (λ g. generation_texts (codes_at R g) g (suc R.degree)) (size_at R) (size_is R) n

-- one generation more
pub cells_more : (R : LocalRule) (n : ℕ) (codes : List Code) (d : ℕ) → codes ≡ codes_at R n → d ≡ suc R.degree → all_texts R (n + 1) ≡ all_texts R n ++ generation_texts codes n d
cells_more R n codes d same is =
    flat_one_more (λ g. generation_texts (codes_at R g) g (suc R.degree)) n
    ∙ ap (λ cs. all_texts R n ++ generation_texts cs n (suc R.degree)) (sym same)
    ∙ ap (λ e. all_texts R n ++ generation_texts codes n e) (sym is)

pub cells_count : (R : LocalRule) (n : ℕ) (codes : List Code) (d : ℕ) → codes ≡ codes_at R n → d ≡ suc R.degree → length (all_texts R (n + 1)) ≡ length (all_texts R n) + d * length codes
cells_count R n codes d same is =
    ap length (cells_more R n codes d same is)
    ∙ length-append (all_texts R n) (generation_texts codes n d)
    ∙ ap (λ k. length (all_texts R n) + k) (generation_length codes n d)

pub cells_room : (R : LocalRule) (n generations : ℕ) (codes : List Code) (d : ℕ) → codes ≡ codes_at R n → d ≡ suc R.degree → n < generations → length (all_texts R n) + d * length codes ≤ length (all_texts R generations)
cells_room R n generations codes d same is h =
    let a = all_length R (n + 1) in
    let b = all_length R generations in
    let c = cells_count R n codes d same is in
    let e = ap (sum_below (size_at R)) (let s : n + 1 ≡ suc n = omega arith in s) in
    let u = up_to {Y = ℕ} (λ _. []) (size_at R) n generations h in
    omega arith
