-- Tokens of lines whose bytes may stand in a text are words.
use Rattle.std.proofs.Common.{ℕ, ◌≡◌, Bool, true, false, ◌&&◌, ◌||◌, List, [], ◌∷◌, map, filter, refl, sym, ◌∙◌, if◌then◌else◌, codes}
use Rattle.std.specs.List.{list_all, flat_map, slice_split, onto_first}
use Rattle.std.specs.Str.{bytes_eq}
use Rattle.std.proofs.lemmas.List.Folds.{list_all-append}
use Rattle.surf_text.specs.Bytes.{is_blank, is_filled, is_plain, is_word, tokens_of}
use Rattle.surf_blif.specs.declared.reading.Extent.{Extent}
use Rattle.surf_blif.specs.declared.reading.Extent.TheVariants.{GoesOn, Stops, Ends}
use Rattle.surf_blif.specs.Logical.{Logical, logical_lines}
use Rattle.surf_blif.specs.Lines.{Line, Model, End, Bad, Inputs, Outputs, Names, Other, Row, begins_directive, directive, line_of_tokens, may_stand}
use Rattle.surf_blif.specs.Grammar.{Placed, begins, extent, inputs_in, outputs_in, model_from, model_lines, placed, within}

pub left : (a b : Bool) → (a && b) ≡ true → a ≡ true
left true b h = refl
left false b h = cc

pub right : (a b : Bool) → (a && b) ≡ true → b ≡ true
right true b h = h
right false b h = cc

pub both : (a b : Bool) → a ≡ true → b ≡ true → (a && b) ≡ true
both true b h g = g
both false b h g = cc

-- pieces between blanks
plain_if : (blank plain : Bool) → (blank || plain) ≡ true → blank ≡ false → plain ≡ true
plain_if true plain h f = cc
plain_if false plain h f = h

are_plain : List (List ℕ) → Bool
are_plain ts = list_all (list_all is_plain) ts

onto_plain : (b : ℕ) (ts : List (List ℕ)) → is_plain b ≡ true → are_plain ts ≡ true → are_plain (onto_first b ts) ≡ true
unfolding are_plain
onto_plain b [] h g = both (is_plain b && true) true (both (is_plain b) true h refl) refl
onto_plain b (t ∷ ts) h g = both (list_all is_plain (b ∷ t)) (list_all (list_all is_plain) ts) (both (is_plain b) (list_all is_plain t) h (left _ _ g)) (right _ _ g)

split_if : (c : Bool) (b : ℕ) (ts : List (List ℕ)) → (c ≡ false → is_plain b ≡ true) → are_plain ts ≡ true → are_plain (if c then [] ∷ ts else onto_first b ts) ≡ true
unfolding are_plain
split_if true b ts h g = g
split_if false b ts h g = onto_plain b ts (h refl) g

split_plain : (text : List ℕ) → list_all may_stand text ≡ true → are_plain (slice_split is_blank text) ≡ true
unfolding are_plain
split_plain [] h = refl
split_plain (b ∷ bs) h =
    split_if (is_blank b) b (slice_split is_blank bs) (plain_if (is_blank b) (is_plain b) (left _ _ h)) (split_plain bs (right _ _ h))

filter_if : (c : Bool) (t : List ℕ) (ts : List (List ℕ)) → c ≡ is_filled t → list_all is_plain t ≡ true → list_all is_word ts ≡ true → list_all is_word (if c then t ∷ ts else ts) ≡ true
filter_if true t ts is h g = both (is_word t) (list_all is_word ts) (both (is_filled t) (list_all is_plain t) (sym is) h) g
filter_if false t ts is h g = g

filter_words : (ts : List (List ℕ)) → are_plain ts ≡ true → list_all is_word (filter is_filled ts) ≡ true
unfolding are_plain
filter_words [] h = refl
filter_words (t ∷ ts) h = filter_if (is_filled t) t (filter is_filled ts) refl (left _ _ h) (filter_words ts (right _ _ h))

token_words : (text : List ℕ) → list_all may_stand text ≡ true → list_all is_word (tokens_of text) ≡ true
token_words text h = filter_words (slice_split is_blank text) (split_plain text h)

-- what a line declares
abbrev has_words : Placed → Bool
has_words l = list_all is_word (inputs_in l) && list_all is_word (outputs_in l)

abbrev at : Line → Placed
at l = record { number = 0; line = l }

if_words : (c : Bool) (a b : Line) → has_words (at a) ≡ true → has_words (at b) ≡ true → has_words (at (if c then a else b)) ≡ true
if_words true a b h g = h
if_words false a b h g = g

directive_words : (t : List ℕ) (ts : List (List ℕ)) → list_all is_word ts ≡ true → has_words (at (directive t ts)) ≡ true
directive_words t ts h =
    if_words (bytes_eq t (codes ".inputs")) (Inputs ts) _ (both (list_all is_word ts) true h refl)
    (if_words (bytes_eq t (codes ".outputs")) (Outputs ts) _ h
    (if_words (bytes_eq t (codes ".names")) (Names ts) (Other t) refl refl))

stand_words : (stand : Bool) (t : List ℕ) (ts : List (List ℕ)) → (stand ≡ true → list_all is_word (t ∷ ts) ≡ true) → has_words (at (if stand then (if begins_directive t then directive t ts else Row (t ∷ ts)) else Bad)) ≡ true
stand_words true t ts h = if_words (begins_directive t) (directive t ts) (Row (t ∷ ts)) (directive_words t ts (right _ _ (h refl))) refl
stand_words false t ts h = refl

tokens_line : (stand : Bool) (ts : List (List ℕ)) → (stand ≡ true → list_all is_word ts ≡ true) → has_words (at (line_of_tokens stand ts)) ≡ true
tokens_line stand [] h = refl
tokens_line stand (t ∷ ts) h =
    if_words (bytes_eq t (codes ".model")) (Model stand) _ refl
    (if_words (bytes_eq t (codes ".end")) (End stand) _ refl (stand_words stand t ts h))

lines_words : (ls : List Logical) → list_all has_words (map placed ls) ≡ true
lines_words [] = refl
lines_words (l ∷ ls) = both (has_words (placed l)) (list_all has_words (map placed ls)) (tokens_line (list_all may_stand l.text) (tokens_of l.text) (token_words l.text)) (lines_words ls)

within_words : (e : Extent) (l : Placed) (ms : List Placed) → has_words l ≡ true → list_all has_words ms ≡ true → list_all has_words (within e l ms) ≡ true
within_words GoesOn l ms h g = both (has_words l) (list_all has_words ms) h g
within_words Stops l ms h g = refl
within_words Ends l ms h g = both (has_words l) true h refl

model_words : (begun : Bool) (ls : List Placed) → list_all has_words ls ≡ true → list_all has_words (model_from begun ls) ≡ true
model_words begun [] h = refl
model_words begun (l ∷ ls) h = within_words (extent begun l.line) l (model_from (begins begun l.line) ls) (left _ _ h) (model_words (begins begun l.line) ls (right _ _ h))

inputs_words : (ms : List Placed) → list_all has_words ms ≡ true → list_all is_word (flat_map inputs_in ms) ≡ true
inputs_words [] h = refl
inputs_words (l ∷ ms) h =
    list_all-append is_word (inputs_in l) (flat_map inputs_in ms) ∙ both (list_all is_word (inputs_in l)) (list_all is_word (flat_map inputs_in ms)) (left _ _ (left _ _ h)) (inputs_words ms (right _ _ h))

outputs_words : (ms : List Placed) → list_all has_words ms ≡ true → list_all is_word (flat_map outputs_in ms) ≡ true
outputs_words [] h = refl
outputs_words (l ∷ ms) h =
    list_all-append is_word (outputs_in l) (flat_map outputs_in ms) ∙ both (list_all is_word (outputs_in l)) (list_all is_word (flat_map outputs_in ms)) (right _ _ (left _ _ h)) (outputs_words ms (right _ _ h))

pub input_words : (bytes : List ℕ) → list_all is_word (flat_map inputs_in (model_lines bytes)) ≡ true
input_words bytes = inputs_words (model_lines bytes) (model_words false (map placed (logical_lines bytes)) (lines_words (logical_lines bytes)))

pub output_words : (bytes : List ℕ) → list_all is_word (flat_map outputs_in (model_lines bytes)) ≡ true
output_words bytes = outputs_words (model_lines bytes) (model_words false (map placed (logical_lines bytes)) (lines_words (logical_lines bytes)))
