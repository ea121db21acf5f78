-- What is known of the next line is what a step leaves.
use Rattle.std.proofs.Common.{ℕ, ◌≡◌, ◌+◌, List, [], ◌∷◌, ◌++◌, length, map, refl, sym, arith, Bool, false, ◌==◌, Option, Some, None, Result, Ok, Err, if◌then◌else◌, length-append, append_assoc, append-nil}
use Rattle.std.specs.List.{filter_map}
use Rattle.std.proofs.lemmas.List.Elements.{filter_map-append}
use Rattle.surf_lattice.specs.declared.site.GridKind.{GridKind}
use Rattle.surf_lattice.specs.declared.site.GridKind.TheVariants.{Square}
use Rattle.std.proofs.lemmas.Bool.{ne_eqb}
use Rattle.surf_manifest_lines.specs.declared.error.ManifestError.{ManifestError}
use Rattle.surf_text.specs.Bytes.{lines_of}
use Rattle.surf_manifest_lines.specs.Line.{Line, Skipped, Opens, Closes, Includes, Unknown, Content, line_of}
use Rattle.surf_manifest_lines.specs.Item.{Item, Geometry, Wrap, Kept, Rule, Row, Colour, item_of}
use Rattle.surf_manifest.specs.Grammar.{known, parts_of, items, block_of, with_item, kind_in, wrap_in, kept_in, rule_in, row_in, colour_in, width_of, joined, read_from, line_number}
use Rattle.surf_manifest.specs.Steps.{with_part, with_result, next, run_from, StepsRead}

kind_more : (k : GridKind) (is js : List Item) → kind_in k (is ++ js) ≡ kind_in (kind_in k is) js
kind_more k [] js = refl
kind_more k (Geometry new ∷ is) js = kind_more new is js
kind_more k (Wrap b ∷ is) js = kind_more k is js
kind_more k (Kept o ∷ is) js = kind_more k is js
kind_more k (Rule r ∷ is) js = kind_more k is js
kind_more k (Row names ∷ is) js = kind_more k is js
kind_more k (Colour t ∷ is) js = kind_more k is js

wrap_more : (b : Bool) (is js : List Item) → wrap_in b (is ++ js) ≡ wrap_in (wrap_in b is) js
wrap_more b [] js = refl
wrap_more b (Geometry k ∷ is) js = wrap_more b is js
wrap_more b (Wrap new ∷ is) js = wrap_more new is js
wrap_more b (Kept o ∷ is) js = wrap_more b is js
wrap_more b (Rule r ∷ is) js = wrap_more b is js
wrap_more b (Row names ∷ is) js = wrap_more b is js
wrap_more b (Colour t ∷ is) js = wrap_more b is js

width_more : (rs : List (List (List ℕ))) (r : List (List ℕ)) → width_of (rs ++ r ∷ []) ≡ (if length rs == 0 then length r else width_of rs)
width_more [] r = refl
width_more (q ∷ rs) r = rw (ne_eqb (length (q ∷ rs)) 0 (λ e. absurd (omega (arith, e)))) refl

joined_more : (rs : List (List (List ℕ))) (r : List (List ℕ)) → joined (rs ++ r ∷ []) ≡ joined rs ++ r
joined_more [] r = append-nil r
joined_more (q ∷ rs) r = rw (joined_more rs r) (sym (append_assoc q (joined rs) r))

height_more : (rs : List (List (List ℕ))) (r : List (List ℕ)) → length (rs ++ r ∷ []) ≡ length rs + 1
height_more rs r = length-append rs (r ∷ [])

same_rest : {Y : Type 0} (h : Item → Option Y) (is : List Item) (i : Item) → h i ≡ None → filter_map h (is ++ i ∷ []) ≡ filter_map h is
same_rest h is i none = rw (filter_map-append h is (i ∷ []), none) (append-nil (filter_map h is))

one_more : {Y : Type 0} (h : Item → Option Y) (is : List Item) (i : Item) (y : Y) → h i ≡ Some y → filter_map h (is ++ i ∷ []) ≡ filter_map h is ++ y ∷ []
one_more h is i y some = rw (filter_map-append h is (i ∷ []), some) refl

part_more : (is : List Item) (i : Item) → parts_of (is ++ i ∷ []) ≡ with_part (parts_of is) i
part_more is (Geometry k) = rw (kind_more Square is (Geometry k ∷ []), wrap_more false is (Geometry k ∷ []), same_rest kept_in is (Geometry k) refl, same_rest rule_in is (Geometry k) refl, same_rest row_in is (Geometry k) refl, same_rest colour_in is (Geometry k) refl) refl
part_more is (Wrap b) = rw (kind_more Square is (Wrap b ∷ []), wrap_more false is (Wrap b ∷ []), same_rest kept_in is (Wrap b) refl, same_rest rule_in is (Wrap b) refl, same_rest row_in is (Wrap b) refl, same_rest colour_in is (Wrap b) refl) refl
part_more is (Kept o) = rw (kind_more Square is (Kept o ∷ []), wrap_more false is (Kept o ∷ []), one_more kept_in is (Kept o) o refl, same_rest rule_in is (Kept o) refl, same_rest row_in is (Kept o) refl, same_rest colour_in is (Kept o) refl) refl
part_more is (Rule r) = rw (kind_more Square is (Rule r ∷ []), wrap_more false is (Rule r ∷ []), same_rest kept_in is (Rule r) refl, one_more rule_in is (Rule r) r refl, same_rest row_in is (Rule r) refl, same_rest colour_in is (Rule r) refl) refl
part_more is (Colour t) = rw (kind_more Square is (Colour t ∷ []), wrap_more false is (Colour t ∷ []), same_rest kept_in is (Colour t) refl, same_rest rule_in is (Colour t) refl, same_rest row_in is (Colour t) refl, one_more colour_in is (Colour t) t refl) refl
part_more is (Row names) =
    rw (kind_more Square is (Row names ∷ []), wrap_more false is (Row names ∷ []), same_rest kept_in is (Row names) refl, same_rest rule_in is (Row names) refl, one_more row_in is (Row names) names refl, same_rest colour_in is (Row names) refl)
    (rw (width_more (filter_map row_in is) names, height_more (filter_map row_in is) names, joined_more (filter_map row_in is) names) refl)

result_more : (is : List Item) (r : Result Item ManifestError) → with_result (parts_of is) r ≡ parts_of (with_item is r)
result_more is (Ok i) = sym (part_more is i)
result_more is (Err f) = refl

pub next_is : (above : List Line) (l : Line) → next (known above) l ≡ known (l ∷ above)
next_is above Skipped = refl
next_is above (Opens p) = refl
next_is above (Closes p) = refl
next_is above Includes = refl
next_is above Unknown = refl
next_is above (Content t) = rw (result_more (items above) (item_of (line_number above) (block_of above) t)) refl

pub run_is : (above ls : List Line) → run_from (known above) ls ≡ read_from above ls
run_is above [] = refl
run_is above (l ∷ ls) = rw (next_is above l, run_is (l ∷ above) ls) refl

pub steps_read : StepsRead
steps_read bytes = run_is [] (map line_of (lines_of bytes))
