-- The legend of a printed text is the legend that was printed.
use Rattle.std.proofs.Common.{ℕ, zero, suc, ◌≡◌, ◌+◌, ◌*◌, ◌^◌, ◌<◌, ◌≤◌, List, [], ◌∷◌, ◌++◌, length, map, take, drop, filter, refl, sym, ◌∙◌, ap, arith, Bool, true, false, ◌&&◌, ◌==◌, nat_lt, nat_le, Option, Some, None, Ok, codes, ⊎_elim, subst, append_assoc, append-nil}
use Rattle.std.specs.List.{list_all, onto_first, slice_split}
use Rattle.std.specs.Str.{bytes_eq}
use Rattle.std.specs.Fmt.{decimal}
use Rattle.std.proofs.lemmas.Fmt.{length-decimal-le}
use Rattle.std.proofs.lemmas.Bool.{and_parts, cases_Bool, eqb-true, ltb-true, le-leb, lt-ltb, leb-true}
use Rattle.std.proofs.lemmas.Option.{slice_get_within}
use Rattle.std.proofs.lemmas.List.Folds.{list_all-append}
use Rattle.surf_base.specs.Decimal.{decimal_of, decimal_below, if_below}
use Rattle.surf_lattice.specs.declared.site.GridKind.{GridKind}
use Rattle.surf_lattice.specs.declared.site.GridKind.TheVariants.{Square, Hex}
use Rattle.surf_lattice.specs.Grids.{site_from}
use Rattle.surf_world.specs.Systems as systems
use Rattle.surf_text.specs.Bytes.{is_blank, is_filled, is_word, lacks, spaced, rows_of}
use Rattle.surf_manifest_lines.specs.Line.{Skipped, Content, line_of}
use Rattle.surf_manifest_lines.specs.Item.{is_name}
use Rattle.surf_manifest_lines.specs.declared.options.OptionLine.{OptionLine}
use Rattle.surf_manifest.specs.Grammar.{ManifestText}
use Rattle.surf_manifest_lines.specs.WellFormed.{is_option, is_rule, is_colour}
use Rattle.surf_manifest.specs.WellFormed.{IsWellFormed, are_colours}
use Rattle.surf_manifest_print.specs.declared.legend.Place.{Place}
use Rattle.surf_manifest_print.specs.declared.legend_line.LegendLine.{LegendLine}
use Rattle.surf_manifest_print.specs.declared.legend_line.LegendLine.TheVariants.{Other, Input, Output, Events, Faulty}
use Rattle.surf_manifest_print.specs.Legends.{LegendText, is_place, IsLegend, has_site, AreApart}
use Rattle.surf_manifest_print.specs.Prints.{option_text, rule_text, geometry_text, wrap_text, place_text, events_text, legend_lines, colour_lines, rule_block, state_block, block_lines, print_lines}
use Rattle.surf_manifest_print.specs.LegendTexts.{site_of, place_from, place_of, input_line, output_line, number_line, tokens_line, legend_line, LegendParts, with_line, legend_from, unless_bad, legend_in, ReadsLegend}
use Rattle.surf_manifest_print.proofs.Texts.{both, lines_ended, tokens_spaced, spaced_lacks, comment_line}
use Rattle.surf_manifest_print.proofs.Rates.{spells, decimal_word}
use Rattle.surf_manifest_print.proofs.Printed.{IsContent, option_parts, option_content, rule_is_line, colour_content, row_content}
use Rattle.surf_manifest_print.proofs.Segments.{split}
use Rattle.surf_manifest_print.proofs.LegendRead.{has_at, before_last, at_last}

-- numbers
filled_length : (ds : List ℕ) → is_filled ds ≡ true → 1 ≤ length ds
filled_length [] h = cc
filled_length (d ∷ ds) h = omega arith

decimal_read : (n : ℕ) → n < 2 ^ 64 → decimal_of (decimal n) ≡ Some n
decimal_read n lt =
    let s = spells n lt in
    let few : length (decimal n) ≤ 20 = length-decimal-le 20 n (omega arith) (omega (arith, lt)) lt in
    rw (le-leb 1 (length (decimal n)) (filled_length (decimal n) s.some), le-leb (length (decimal n)) 20 few, s.digits, s.value, lt-ltb n (2 ^ 64) lt) refl

short_read : (n : ℕ) → n < 2 ^ 32 → decimal_below (2 ^ 32) (decimal n) ≡ Some n
short_read n lt = ap (if_below (2 ^ 32)) (decimal_read n (omega (arith, lt))) ∙ rw (lt-ltb n (2 ^ 32) lt) refl

-- a line of a legend is a comment, so the lines that are content say nothing of it
tokens_other : (t : List ℕ) (ts : List (List ℕ)) → bytes_eq t (codes "#") ≡ false → tokens_line (t ∷ ts) ≡ Other
tokens_other t [] h = refl
tokens_other t (s ∷ ts) h = rw h refl

other_first : (b : ℕ) (ws : List (List ℕ)) → (b == 35) ≡ false → tokens_line (filter is_filled (onto_first b ws)) ≡ Other
other_first b [] h = refl
other_first b (w ∷ ws) h = tokens_other (b ∷ w) (filter is_filled ws) (rw h refl)

other_byte : (b : ℕ) (bs : List ℕ) → is_blank b ≡ false → (b == 35) ≡ false → legend_line (b ∷ bs) ≡ Other
other_byte b bs filled h =
    let step : slice_split is_blank (b ∷ bs) ≡ onto_first b (slice_split is_blank bs) = rw filled refl in
    ap (λ ws. tokens_line (filter is_filled ws)) step ∙ other_first b (slice_split is_blank bs) h

other_blank : (b : ℕ) (bs : List ℕ) → is_blank b ≡ true → legend_line (b ∷ bs) ≡ legend_line bs
other_blank b bs blank =
    let step : slice_split is_blank (b ∷ bs) ≡ [] ∷ slice_split is_blank bs = rw blank refl in
    ap (λ ws. tokens_line (filter is_filled ws)) step

line_blank : (b : ℕ) (bs : List ℕ) → is_blank b ≡ true → line_of (b ∷ bs) ≡ line_of bs
line_blank b bs blank = rw blank refl

no_content : (b : ℕ) (bs t : List ℕ) → b ≡ 35 → line_of (b ∷ bs) ≡ Content t → {X : Type 0} → X
no_content b bs t is h = let skipped : line_of (b ∷ bs) ≡ Skipped = ap (λ x. line_of (x ∷ bs)) is ∙ comment_line bs in cc

content_other : (l t : List ℕ) → line_of l ≡ Content t → legend_line l ≡ Other
content_other [] t h = refl
content_other (b ∷ bs) t h =
    ⊎_elim
    (λ blank. other_blank b bs blank ∙ content_other bs t (sym (line_blank b bs blank) ∙ h))
    (λ filled. ⊎_elim (λ hash. no_content b bs t (eqb-true b 35 hash) h) (λ other. other_byte b bs filled other) (cases_Bool (b == 35)))
    (cases_Bool (is_blank b))

-- lines that say nothing of a legend
abbrev is_other : LegendLine → Bool
is_other Other = true
is_other (Input p) = false
is_other (Output p) = false
is_other (Events n) = false
is_other Faulty = false

abbrev is_quiet : List ℕ → Bool
is_quiet t = lacks 10 t && is_other (legend_line t)

quiet : (t : List ℕ) → lacks 10 t ≡ true → legend_line t ≡ Other → is_quiet t ≡ true
quiet t one other = both (lacks 10 t) _ one (ap is_other other)

content_quiet : (t : List ℕ) → IsContent t → is_quiet t ≡ true
content_quiet t c = quiet t c.one_line (content_other t t c.line)

other_is : (s : LegendLine) → is_other s ≡ true → s ≡ Other
other_is Other h = refl
other_is (Input p) h = cc
other_is (Output p) h = cc
other_is (Events n) h = cc
other_is Faulty h = cc

joined_quiet : (xs ys : List (List ℕ)) → list_all is_quiet xs ≡ true → list_all is_quiet ys ≡ true → list_all is_quiet (xs ++ ys) ≡ true
joined_quiet xs ys h k = list_all-append is_quiet xs ys ∙ both (list_all is_quiet xs) (list_all is_quiet ys) h k

next_quiet : (t : List ℕ) (ts : List (List ℕ)) → is_quiet t ≡ true → list_all is_quiet ts ≡ true → list_all is_quiet (t ∷ ts) ≡ true
next_quiet t ts h k = both (is_quiet t) (list_all is_quiet ts) h k

-- the lines of a manifest
options_quiet : (os : List OptionLine) → list_all is_option os ≡ true → list_all is_quiet (map option_text os) ≡ true
options_quiet [] h = refl
options_quiet (o ∷ os) h =
    let q = and_parts (is_option o) (list_all is_option os) h in
    let p = option_parts o q.0 in
    next_quiet (option_text o) (map option_text os) (content_quiet (option_text o) (option_content o.key o.value p.key p.value)) (options_quiet os q.1)

rules_quiet : (rs : List (systems.Rule (List ℕ))) → list_all is_rule rs ≡ true → list_all is_quiet (map rule_text rs) ≡ true
rules_quiet [] h = refl
rules_quiet (r ∷ rs) h =
    let q = and_parts (is_rule r) (list_all is_rule rs) h in
    let p = and_parts (nat_le r.rate 1000000000000) _ q.0 in
    let l = rule_is_line r.rate r.left r.right r.left_after r.right_after (leb-true r.rate 1000000000000 p.0) p.1 in
    next_quiet (rule_text r) (map rule_text rs) (content_quiet (rule_text r) l.content) (rules_quiet rs q.1)

colours_quiet : (ts : List (List ℕ)) → list_all is_colour ts ≡ true → list_all is_quiet ts ≡ true
colours_quiet [] h = refl
colours_quiet (t ∷ ts) h =
    let q = and_parts (is_colour t) (list_all is_colour ts) h in
    next_quiet t ts (content_quiet t (colour_content t q.0)) (colours_quiet ts q.1)

rows_quiet : (h w : ℕ) (names : List (List ℕ)) → 1 ≤ w → length names ≡ w * h → list_all is_name names ≡ true → list_all is_quiet (map spaced (rows_of w h names)) ≡ true
rows_quiet zero w names pos count h = refl
rows_quiet (suc k) w names pos count h =
    let s = split w k names pos count h in
    next_quiet (spaced (take w names)) (map spaced (rows_of w k (drop w names)))
    (content_quiet (spaced (take w names)) (row_content (take w names) s.first.filled s.first.names))
    (rows_quiet k w (drop w names) pos s.count s.rest)

geometry_quiet : (k : GridKind) → is_quiet (geometry_text k) ≡ true
geometry_quiet Square = refl
geometry_quiet Hex = refl

wrap_quiet : (b : Bool) → is_quiet (wrap_text b) ≡ true
wrap_quiet true = refl
wrap_quiet false = refl

colormap_quiet : (cm : Option (List (List ℕ))) → are_colours cm ≡ true → list_all is_quiet (colour_lines cm) ≡ true
colormap_quiet None h = refl
colormap_quiet (Some ts) h =
    next_quiet (codes "!START_COLORMAP") (ts ++ (codes "!END_COLORMAP" ∷ [])) refl (joined_quiet ts (codes "!END_COLORMAP" ∷ []) (colours_quiet ts h) refl)

-- all lines that are printed behind a legend
abbrev lines_behind : ManifestText → List (List ℕ)
lines_behind m = geometry_text m.system.surface.grid.kind ∷ wrap_text m.system.surface.grid.wrap ∷ (map option_text m.options ++ block_lines m)

manifest_quiet : (m : ManifestText) → IsWellFormed m → list_all is_quiet (lines_behind m) ≡ true
manifest_quiet m w =
    let g = m.system.surface.grid in
    let rules = map rule_text m.system.surface.rules in
    let rows = map spaced (rows_of g.width g.height m.system.start) in
    let rule_lines : list_all is_quiet (rule_block m) ≡ true =
    next_quiet (codes "!START_TRANSITION_RULES") (rules ++ (codes "!END_TRANSITION_RULES" ∷ [])) refl
    (joined_quiet rules (codes "!END_TRANSITION_RULES" ∷ []) (rules_quiet m.system.surface.rules w.rules) refl) in
    let state_lines : list_all is_quiet (state_block m) ≡ true =
    next_quiet (codes "!START_INIT_STATE") (rows ++ (codes "!END_INIT_STATE" ∷ [])) refl
    (joined_quiet rows (codes "!END_INIT_STATE" ∷ []) (rows_quiet g.height g.width m.system.start w.width w.sites w.names) refl) in
    next_quiet (geometry_text g.kind) (wrap_text g.wrap ∷ (map option_text m.options ++ block_lines m)) (geometry_quiet g.kind)
    (next_quiet (wrap_text g.wrap) (map option_text m.options ++ block_lines m) (wrap_quiet g.wrap)
    (joined_quiet (map option_text m.options) (block_lines m) (options_quiet m.options w.options)
    (joined_quiet (rule_block m) (state_block m ++ colour_lines m.colormap) rule_lines
    (joined_quiet (state_block m) (colour_lines m.colormap) state_lines (colormap_quiet m.colormap w.colours)))))

-- quiet lines at the end change nothing
quiet_end : (ts : List (List ℕ)) (line : ℕ) (p : LegendParts) → list_all is_quiet ts ≡ true → legend_in line p ts ≡ legend_from p.inputs p.outputs p.events
quiet_end [] line p h = refl
quiet_end (t ∷ ts) line p h =
    let q = and_parts (is_quiet t) (list_all is_quiet ts) h in
    let o = other_is (legend_line t) (and_parts (lacks 10 t) (is_other (legend_line t)) q.0).1 in
    ap (λ s. unless_bad (with_line p s) (line + 1) (λ v. legend_in (line + 1) v ts)) o ∙ quiet_end ts (line + 1) p q.1

-- the lines of a legend
abbrev place_words : List ℕ → Place → List (List ℕ)
place_words word p = codes "#" ∷ codes "surf" ∷ word ∷ p.name ∷ decimal p.site.x ∷ decimal p.site.y ∷ []

record IsShortPlace (p : Place) : Type 0 where
  pub name : is_word p.name ≡ true
  pub x : p.site.x < 2 ^ 32
  pub y : p.site.y < 2 ^ 32

short_place : (p : Place) → is_place p ≡ true → IsShortPlace p
short_place p h =
    let q = and_parts (is_word p.name) (nat_lt p.site.x (2 ^ 32) && nat_lt p.site.y (2 ^ 32)) h in
    let r = and_parts (nat_lt p.site.x (2 ^ 32)) (nat_lt p.site.y (2 ^ 32)) q.1 in
    record { name = q.0; x = ltb-true p.site.x (2 ^ 32) r.0; y = ltb-true p.site.y (2 ^ 32) r.1 }

words_there : (word : List ℕ) (p : Place) → is_word word ≡ true → IsShortPlace p → list_all is_word (place_words word p) ≡ true
words_there word p w h =
    both (is_word word) _ w (both (is_word p.name) _ h.name (both _ _ (decimal_word p.site.x (let lt = h.x in omega (arith, lt))) (both _ true (decimal_word p.site.y (let lt = h.y in omega (arith, lt))) refl)))

site_back : (p : Place) → IsShortPlace p → site_of (decimal p.site.x) (decimal p.site.y) ≡ Some p.site
site_back p h = ap (λ o. site_from o (decimal_below (2 ^ 32) (decimal p.site.y))) (short_read p.site.x h.x) ∙ ap (λ o. site_from (Some p.site.x) o) (short_read p.site.y h.y)

place_back : (p : Place) → IsShortPlace p → place_of (p.name ∷ decimal p.site.x ∷ decimal p.site.y ∷ []) ≡ Some p
place_back p h = ap (place_from p.name) (site_back p h) ∙ rw h.name refl

input_back : (p : Place) → IsShortPlace p → legend_line (place_text (codes "input") p) ≡ Input p
input_back p h = ap tokens_line (tokens_spaced (place_words (codes "input") p) (words_there (codes "input") p refl h)) ∙ ap input_line (place_back p h)

output_back : (p : Place) → IsShortPlace p → legend_line (place_text (codes "output") p) ≡ Output p
output_back p h = ap tokens_line (tokens_spaced (place_words (codes "output") p) (words_there (codes "output") p refl h)) ∙ ap output_line (place_back p h)

abbrev events_words : ℕ → List (List ℕ)
events_words n = codes "#" ∷ codes "surf" ∷ codes "events" ∷ decimal n ∷ []

events_are_words : (n : ℕ) → n < 2 ^ 64 → list_all is_word (events_words n) ≡ true
events_are_words n lt = both (is_word (decimal n)) true (decimal_word n lt) refl

events_back : (n : ℕ) → n < 2 ^ 64 → legend_line (events_text n) ≡ Events n
events_back n lt = ap tokens_line (tokens_spaced (events_words n) (events_are_words n lt)) ∙ ap number_line (decimal_read n lt)

-- and none of them has a line feed
places_lines : (word : List ℕ) (ps : List Place) → is_word word ≡ true → list_all is_place ps ≡ true → list_all (lacks 10) (map (place_text word) ps) ≡ true
places_lines word [] w h = refl
places_lines word (p ∷ ps) w h =
    let q = and_parts (is_place p) (list_all is_place ps) h in
    both (lacks 10 (place_text word p)) _ (spaced_lacks 10 (place_words word p) (omega arith) (words_there word p w (short_place p q.0))) (places_lines word ps w q.1)

quiet_lines : (ts : List (List ℕ)) → list_all is_quiet ts ≡ true → list_all (lacks 10) ts ≡ true
quiet_lines [] h = refl
quiet_lines (t ∷ ts) h =
    let q = and_parts (is_quiet t) (list_all is_quiet ts) h in
    both (lacks 10 t) _ (and_parts (lacks 10 t) (is_other (legend_line t)) q.0).0 (quiet_lines ts q.1)

-- one more input stands at a new site
site_new : (done : List Place) (p : Place) (ps : List Place) → AreApart (done ++ p ∷ ps) → (b : Bool) → has_site done p.site ≡ b → b ≡ false
site_new done p ps apart false h = refl
site_new done p ps apart true h =
    let a = has_at done p.site h in
    let within = slice_get_within done a.index a.place a.listed in
    absurd (let same = apart a.index (length done) a.place p (before_last done (p ∷ ps) a.index within ∙ a.listed) (at_last done ps p) a.there in omega (arith, within, same))

abbrev told : List Place → List Place → Option ℕ → LegendParts
told inputs outputs events = record { inputs = inputs; outputs = outputs; events = events }

one_input : (done : List Place) (p : Place) (line : ℕ) (t : List ℕ) (ls : List (List ℕ)) → legend_line t ≡ Input p → has_site done p.site ≡ false → legend_in line (told done [] None) (t ∷ ls) ≡ legend_in (line + 1) (told (done ++ p ∷ []) [] None) ls
one_input done p line t ls is new = rw (is, new) refl

run_inputs : (done ps : List Place) (line : ℕ) (ls : List (List ℕ)) → list_all is_place ps ≡ true → AreApart (done ++ ps)
    → (n : ℕ) × (legend_in line (told done [] None) (map (place_text (codes "input")) ps ++ ls) ≡ legend_in n (told (done ++ ps) [] None) ls)
run_inputs done [] line ls h apart = (line, ap (λ d. legend_in line (told d [] None) ls) (sym (append-nil done)))
run_inputs done (p ∷ ps) line ls h apart =
    let q = and_parts (is_place p) (list_all is_place ps) h in
    let more = append_assoc done (p ∷ []) ps in
    let r = run_inputs (done ++ p ∷ []) ps (line + 1) ls q.1 (subst AreApart (sym more) apart) in (
      r.0,
      one_input done p line (place_text (codes "input") p) (map (place_text (codes "input")) ps ++ ls) (input_back p (short_place p q.0)) (site_new done p ps apart (has_site done p.site) refl)
          ∙ r.1 ∙ ap (λ d. legend_in r.0 (told d [] None) ls) more,
    )

run_outputs : (inputs done ps : List Place) (line : ℕ) (ls : List (List ℕ)) → list_all is_place ps ≡ true
    → (n : ℕ) × (legend_in line (told inputs done None) (map (place_text (codes "output")) ps ++ ls) ≡ legend_in n (told inputs (done ++ ps) None) ls)
run_outputs inputs done [] line ls h = (line, ap (λ d. legend_in line (told inputs d None) ls) (sym (append-nil done)))
run_outputs inputs done (p ∷ ps) line ls h =
    let q = and_parts (is_place p) (list_all is_place ps) h in
    let r = run_outputs inputs (done ++ p ∷ []) ps (line + 1) ls q.1 in (
      r.0,
      ap (λ s. unless_bad (with_line (told inputs done None) s) (line + 1) (λ v. legend_in (line + 1) v (map (place_text (codes "output")) ps ++ ls))) (output_back p (short_place p q.0))
          ∙ r.1 ∙ ap (λ d. legend_in r.0 (told inputs d None) ls) (append_assoc done (p ∷ []) ps),
    )

run_events : (inputs outputs : List Place) (n line : ℕ) (ls : List (List ℕ)) → n < 2 ^ 64 → legend_in line (told inputs outputs None) (events_text n ∷ ls) ≡ legend_in (line + 1) (told inputs outputs (Some n)) ls
run_events inputs outputs n line ls lt = ap (λ s. unless_bad (with_line (told inputs outputs None) s) (line + 1) (λ v. legend_in (line + 1) v ls)) (events_back n lt)

run_legend_lines : (l : LegendText) (ls : List (List ℕ)) → IsLegend (Some l) → AreApart l.inputs → list_all is_quiet ls ≡ true → legend_in 0 (told [] [] None) (legend_lines (Some l) ++ ls) ≡ Ok l
run_legend_lines l ls h apart q =
    let ins = map (place_text (codes "input")) l.inputs in
    let outs = map (place_text (codes "output")) l.outputs in
    let events = events_text l.events in
    let r = run_inputs [] l.inputs 0 (outs ++ (events ∷ ls)) h.0 apart in
    let s = run_outputs l.inputs [] l.outputs r.0 (events ∷ ls) h.1 in
    ap (legend_in 0 (told [] [] None)) (append_assoc ins (outs ++ (events ∷ [])) ls ∙ ap (λ v. ins ++ v) (append_assoc outs (events ∷ []) ls))
    ∙ (r.1 ∙ (s.1 ∙ (run_events l.inputs l.outputs l.events s.0 ls h.2 ∙ quiet_end ls (s.0 + 1) (told l.inputs l.outputs (Some l.events)) q)))

legend_one_line : (l : LegendText) → IsLegend (Some l) → list_all (lacks 10) (legend_lines (Some l)) ≡ true
legend_one_line l h =
    let ins = map (place_text (codes "input")) l.inputs in
    let outs = map (place_text (codes "output")) l.outputs in
    let events = events_text l.events in
    let last : list_all (lacks 10) (events ∷ []) ≡ true = both (lacks 10 events) true (spaced_lacks 10 (events_words l.events) (omega arith) (events_are_words l.events h.2)) refl in
    list_all-append (lacks 10) ins (outs ++ (events ∷ []))
    ∙ both _ _ (places_lines (codes "input") l.inputs refl h.0) (list_all-append (lacks 10) outs (events ∷ []) ∙ both _ _ (places_lines (codes "output") l.outputs refl h.1) last)

pub reads_legend : ReadsLegend
reads_legend m l w h apart =
    let behind = manifest_quiet m w in
    let lines : list_all (lacks 10) (print_lines m (Some l)) ≡ true = list_all-append (lacks 10) (legend_lines (Some l)) (lines_behind m) ∙ both _ _ (legend_one_line l h) (quiet_lines (lines_behind m) behind) in
    ap (legend_in 0 (told [] [] None)) (lines_ended (print_lines m (Some l)) lines) ∙ run_legend_lines l (lines_behind m) h apart behind
