-- The names that are held after all lines are those of the text, where rules and sites are within the limits.
use Rattle.std.proofs.Common.{ℕ, ◌≡◌, ◌+◌, ◌-◌, ◌≤◌, true, nat_lt, is_some, not, ◌==◌, List, [], ◌∷◌, ◌++◌, length, take, map, Option, Some, None, Result, Ok, Err, IfOk, refl, sym, ◌∙◌, ap, subst, arith}
use Rattle.std.proofs.lemmas.Bool.{lt-ltb, ltb-false}
use Rattle.std.proofs.lemmas.List.{take_all}
use Rattle.surf_rules.specs.Names.{with_text}
use Rattle.surf_text.specs.Bytes.{lines_of}
use Rattle.surf_manifest_lines.specs.declared.error.ManifestError.{ManifestError}
use Rattle.surf_manifest_lines.specs.declared.error.ManifestError.TheVariants as faults
use Rattle.surf_manifest_lines.specs.declared.error.Block.TheVariants as blocks
use Rattle.surf_manifest.specs.Grammar.{ManifestText, Parts, known, line_number, block_of, unless_fault, manifest_from}
use Rattle.surf_manifest_lines.specs.Item.{Item, Geometry, Wrap, Kept, Rule, Row, Colour, item_of}
use Rattle.surf_manifest_lines.specs.Line.{Line, Skipped, Opens, Closes, Includes, Unknown, Content, line_of}
use Rattle.surf_manifest.specs.Limits.{Held, held_of, holding_result, Reached, reached, parts_held, after_line, after_lines, finished, end_fault, at_start}
use Rattle.surf_manifest.specs.Naming.{line_names, names_from, names_in, result_names, with_texts}
use Rattle.surf_manifest.specs.Numbered.{NamedManifest}
use Rattle.surf_manifest.proofs.Good.{none_if}
use Rattle.surf_manifest.proofs.LimitLemmas.{after_is}
use Rattle.surf_manifest.proofs.StepLemmas.{next_is}

with_texts-append : (ns xs ys : List (List ℕ)) → with_texts ns (xs ++ ys) ≡ with_texts (with_texts ns xs) ys
with_texts-append ns [] ys = refl
with_texts-append ns (x ∷ xs) ys = with_texts-append (with_text ns x) xs ys

-- all rules and sites so far, and no more, are held within the limits
pub record IsWithin (h : Held) : Type 0 where
  pub rules : h.rule_count ≤ 1048576
  pub sites : h.site_count ≤ 33554432

-- the counts never fall
item_grows : (h : Held) (r : Result Item ManifestError) → IsWithin (holding_result h r) → IsWithin h
item_grows h (Err f) w = w
item_grows h (Ok (Geometry k)) w = record { rules = w.rules; sites = w.sites }
item_grows h (Ok (Wrap b)) w = record { rules = w.rules; sites = w.sites }
item_grows h (Ok (Kept o)) w = record { rules = w.rules; sites = w.sites }
item_grows h (Ok (Rule r)) w = record { rules = omega (arith, w.rules); sites = w.sites }
item_grows h (Ok (Row names)) w = record { rules = w.rules; sites = omega (arith, w.sites) }
item_grows h (Ok (Colour t)) w = record { rules = w.rules; sites = w.sites }

line_grows : (s : Reached) (l : Line) → IsWithin (after_line s l).held → IsWithin s.held
line_grows s Skipped w = w
line_grows s (Opens p) w = w
line_grows s (Closes p) w = w
line_grows s Includes w = w
line_grows s Unknown w = w
line_grows s (Content t) w = item_grows s.held (item_of s.number s.block t) w

lines_grow : (s : Reached) (ls : List Line) → IsWithin (after_lines s ls).held → IsWithin s.held
lines_grow s [] w = w
lines_grow s (l ∷ ls) w = line_grows s l (lines_grow (after_line s l) ls w)

-- the names of one line
rule_room : (p : Parts) → length p.rules + 1 ≤ 1048576 → nat_lt (length (take 1048576 p.rules)) 1048576 ≡ true
rule_room p few =
    rw (take_all 1048576 p.rules (omega (arith, few))) (lt-ltb (length p.rules) 1048576 (omega (arith, few)))

row_room : (p : Parts) (names : List (List ℕ)) → length p.start + length names ≤ 33554432 → take (33554432 - length (take 33554432 p.start)) names ≡ names
row_room p names few =
    rw (take_all 33554432 p.start (omega (arith, few))) (take_all (33554432 - length p.start) names (omega (arith, few)))

item_named : (ns : List (List ℕ)) (p : Parts) (r : Result Item ManifestError) → IsWithin (holding_result (held_of ns p) r) → (holding_result (held_of ns p) r).names ≡ with_texts ns (result_names r)
item_named ns p (Err f) w = refl
item_named ns p (Ok (Geometry k)) w = refl
item_named ns p (Ok (Wrap b)) w = refl
item_named ns p (Ok (Kept o)) w = refl
item_named ns p (Ok (Rule r)) w = rw (rule_room p w.rules) refl
item_named ns p (Ok (Row names)) w = ap (with_texts ns) (row_room p names w.sites)
item_named ns p (Ok (Colour t)) w = refl

line_named : (ns : List (List ℕ)) (above : List Line) (l : Line) → IsWithin (after_line (reached ns (known above)) l).held
    → (after_line (reached ns (known above)) l).held.names ≡ with_texts ns (line_names (line_number above) (block_of above) l)
line_named ns above Skipped w = refl
line_named ns above (Opens p) w = refl
line_named ns above (Closes p) w = refl
line_named ns above Includes w = refl
line_named ns above Unknown w = refl
line_named ns above (Content t) w = item_named ns (known above).parts (item_of (line_number above) (block_of above) t) w

-- of all lines
lines_named : (ns : List (List ℕ)) (above ls : List Line) → IsWithin (after_lines (reached ns (known above)) ls).held
    → (after_lines (reached ns (known above)) ls).held.names ≡ with_texts ns (names_from above ls)
lines_named ns above [] w = refl
lines_named ns above (l ∷ ls) w =
    let s = reached ns (known above) in
    let more = (after_line s l).held.names in
    let is : after_line s l ≡ reached more (known (l ∷ above)) = after_is ns (known above) l ∙ ap (λ c. reached more c) (next_is above l) in
    let names = line_names (line_number above) (block_of above) l in
    let new : more ≡ with_texts ns names = line_named ns above l (lines_grow (after_line s l) ls w) in
    let rest = lines_named more (l ∷ above) ls (subst (λ (r : Reached). IsWithin (after_lines r ls).held) is w) in
    ap (λ (r : Reached). (after_lines r ls).held.names) is
    ∙ rest
    ∙ ap (λ v. with_texts v (names_from (l ∷ above) ls)) new
    ∙ sym (with_texts-append ns names (names_from (l ∷ above) ls))

unless_none : (o : Option ManifestError) (a b : ManifestText) → unless_fault o (Ok a) ≡ Ok b → o ≡ None
unless_none None a b h = refl
unless_none (Some f) a b h = cc

finished_within : (s : Reached) (m : ManifestText) → finished s ≡ Ok m → IsWithin s.held
finished_within s m is =
    let h = s.held in
    let f = unless_none (end_fault s h) (manifest_from s.has_colours (parts_held h)) m is in
    let f1 = none_if (is_some s.block) (faults.Unclosed s.opened) _ f in
    let f2 = none_if (not s.has_rules) (faults.MissingBlock blocks.Rules) _ f1.1 in
    let f3 = none_if (not s.has_state) (faults.MissingBlock blocks.State) _ f2.1 in
    let f4 = none_if (h.height == 0) faults.NoSites _ f3.1 in
    let f5 = none_if (nat_lt 1048576 h.rule_count) (faults.TooManyRules h.rule_count) _ f4.1 in
    let f6 = none_if (nat_lt 33554432 h.site_count) (faults.TooManySites h.site_count) _ f5.1 in
    record { rules = ltb-false 1048576 h.rule_count f5.0; sites = ltb-false 33554432 h.site_count f6.0 }

-- the names of a manifest that was read
named : (bytes : List ℕ) (s : Reached) (m : ManifestText) (names : List (List ℕ)) → after_lines at_start (map line_of (lines_of bytes)) ≡ s → finished s ≡ Ok m → names ≡ s.held.names → names ≡ names_in bytes
named bytes s m names is ok held =
    let w = subst (λ (r : Reached). IsWithin r.held) (sym is) (finished_within s m ok) in
    held ∙ ap (λ (r : Reached). r.held.names) (sym is) ∙ lines_named [] [] (map line_of (lines_of bytes)) w

pub named_result : {E : Type 0} (bytes : List ℕ) (s : Reached) (r : Result NamedManifest E) → after_lines at_start (map line_of (lines_of bytes)) ≡ s → IfOk r (λ m. finished s ≡ Ok m.text) → IfOk r (λ m. m.names ≡ s.held.names)
    → IfOk r (λ m. m.names ≡ names_in bytes)
named_result bytes s (Ok m) is ok held = named bytes s m.text m.names is ok held
named_result bytes s (Err f) is ok held = tt
