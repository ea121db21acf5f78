-- The steps over the printed lines give the manifest.
use Rattle.std.proofs.Common.{ℕ, zero, suc, ◌≡◌, ◌+◌, ◌*◌, ◌<◌, ◌≤◌, List, [], ◌∷◌, ◌++◌, length, map, take, drop, codes, refl, sym, ◌∙◌, ap, arith, Bool, true, false, ◌||◌, ◌==◌, nat_le, Option, Some, None, Result, Ok, append-nil, append_assoc, if◌then◌else◌, length-drop}
use Rattle.std.specs.List.{list_all}
use Rattle.std.proofs.Math.Nat.{mul-suc}
use Rattle.std.proofs.lemmas.Bool.{and_parts, eq-eqb, leb-true}
use Rattle.std.proofs.lemmas.List.{length-take-le, take-append-drop}
use Rattle.std.proofs.lemmas.List.Folds.{list_all-append}
use Rattle.surf_world.specs.Systems as systems
use Rattle.surf_manifest_lines.specs.declared.error.ManifestError.{ManifestError}
use Rattle.surf_manifest_lines.specs.declared.error.ManifestError.TheVariants.{Ragged}
use Rattle.surf_text.specs.Bytes.{lines_of, lacks, ended, spaced}
use Rattle.surf_manifest_lines.specs.Line.{Line, Skipped, Content, line_of}
use Rattle.surf_manifest_lines.specs.declared.line.BlockKind.TheVariants.{Rules, State, Colormap}
use Rattle.surf_manifest_lines.specs.declared.options.OptionLine.{OptionLine}
use Rattle.surf_manifest_lines.specs.Item.{Item, Kept, Rule, Row, Colour, is_name, item_of}
use Rattle.surf_manifest.specs.Grammar.{ManifestText, Known, line_fault, item_fault, row_fault, unless_fault}
use Rattle.surf_manifest.specs.Steps.{with_part, with_result, next, run_from}
use Rattle.surf_text.specs.Bytes.{rows_of}
use Rattle.surf_manifest_lines.specs.WellFormed.{is_option, is_colour, is_rule}
use Rattle.surf_manifest_print.specs.declared.legend.Place.{Place}
use Rattle.surf_manifest_print.specs.Legends.{LegendText, is_place, IsLegend}
use Rattle.surf_manifest_print.specs.Prints.{option_text, rule_text, place_text, legend_lines, events_text}
use Rattle.surf_manifest_print.proofs.Texts.{line_first}
use Rattle.surf_manifest_print.proofs.Printed.{IsContent, IsSkipped, option_parts, option_read, option_content, rule_is_line, colour_content, row_content, row_read, place_skipped, events_skipped}

abbrev pub run_texts : Known → List (List ℕ) → Result ManifestText ManifestError
run_texts c ts = run_from c (map line_of (lines_of (ended ts)))

-- one line
pub step_line : (c : Known) (t : List ℕ) (ts : List (List ℕ)) (l : Line) → lacks 10 t ≡ true → line_of t ≡ l → line_fault c l ≡ None → run_texts c (t ∷ ts) ≡ run_texts (next c l) ts
step_line c t ts l one is none =
    ap (λ v. run_from c (map line_of v)) (line_first t (ended ts) one)
    ∙ (ap (λ k. unless_fault (line_fault c k) (run_from (next c k) (map line_of (lines_of (ended ts))))) is
    ∙ ap (λ o. unless_fault o (run_from (next c l) (map line_of (lines_of (ended ts))))) none)

abbrev pub item_next : Known → Item → Known
item_next c i = record c { number = c.number + 1; parts = with_part c.parts i }

pub step_item : (c : Known) (t : List ℕ) (ts : List (List ℕ)) (i : Item) → IsContent t → item_of c.number c.block t ≡ Ok i → item_fault c.number c.parts (Ok i) ≡ None
    → run_texts c (t ∷ ts) ≡ run_texts (item_next c i) ts
step_item c t ts i content is none =
    step_line c t ts (Content t) content.one_line content.line (ap (item_fault c.number c.parts) is ∙ none)
    ∙ ap (λ r. run_texts (record c { number = c.number + 1; parts = with_result c.parts r }) ts) is

-- the number behind some lines
abbrev pub past : {X : Type 0} → ℕ → List X → ℕ
past n [] = n
past n (x ∷ xs) = past (n + 1) xs

-- legend lines
abbrev pub at : Known → ℕ → Known
at c n = record c { number = n }

run_skipped : (f : Place → List ℕ) (ps : List Place) (c : Known) (rest : List (List ℕ)) → ((p : Place) → is_place p ≡ true → IsSkipped (f p)) → list_all is_place ps ≡ true
    → run_texts c (map f ps ++ rest) ≡ run_texts (at c (past c.number ps)) rest
run_skipped f [] c rest each h = refl
run_skipped f (p ∷ ps) c rest each h =
    let q = and_parts (is_place p) (list_all is_place ps) h in
    let s = each p q.0 in
    step_line c (f p) (map f ps ++ rest) Skipped s.one_line s.line refl ∙ run_skipped f ps (at c (c.number + 1)) rest each q.1

pub legend_end : Option LegendText → ℕ → ℕ
legend_end None n = n
legend_end (Some l) n = past (past n l.inputs) l.outputs + 1

pub run_legend : (l : Option LegendText) (c : Known) (rest : List (List ℕ)) → IsLegend l → run_texts c (legend_lines l ++ rest) ≡ run_texts (at c (legend_end l c.number)) rest
unfolding legend_end
run_legend None c rest h = refl
run_legend (Some l) c rest h =
    let ins = map (place_text (codes "input")) l.inputs in
    let outs = map (place_text (codes "output")) l.outputs in
    let events = events_text l.events in
    let s = events_skipped l.events h.2 in
    let c1 = at c (past c.number l.inputs) in
    let c2 = at c (past (past c.number l.inputs) l.outputs) in
    ap (run_texts c) (append_assoc ins (outs ++ (events ∷ [])) rest)
    ∙ (run_skipped (place_text (codes "input")) l.inputs c ((outs ++ (events ∷ [])) ++ rest) (λ p k. place_skipped (codes "input") p refl k) h.0
    ∙ (ap (run_texts c1) (append_assoc outs (events ∷ []) rest)
    ∙ (run_skipped (place_text (codes "output")) l.outputs c1 (events ∷ rest) (λ p k. place_skipped (codes "output") p refl k) h.1
    ∙ step_line c2 events rest Skipped s.one_line s.line refl)))

-- options
pub run_options : (os : List OptionLine) (c : Known) (rest : List (List ℕ)) → list_all is_option os ≡ true → c.block ≡ None
    → run_texts c (map option_text os ++ rest) ≡ run_texts (record c { number = past c.number os; parts = record c.parts { options = c.parts.options ++ os } }) rest
run_options [] c rest h out = ap (λ v. run_texts (record c { parts = record c.parts { options = v } }) rest) (sym (append-nil c.parts.options))
run_options (o ∷ os) c rest h out =
    let q = and_parts (is_option o) (list_all is_option os) h in
    let p = option_parts o q.0 in
    let is : item_of c.number c.block (option_text o) ≡ Ok (Kept o) = ap (λ b. item_of c.number b (option_text o)) out ∙ option_read c.number o.key o.value p.key p.value in
    step_item c (option_text o) (map option_text os ++ rest) (Kept o) (option_content o.key o.value p.key p.value) is refl
    ∙ (run_options os (item_next c (Kept o)) rest q.1 out
    ∙ ap (λ v. run_texts (record c { number = past (c.number + 1) os; parts = record c.parts { options = v } }) rest) (append_assoc c.parts.options (o ∷ []) os))

-- rules
pub run_rules : (rs : List (systems.Rule (List ℕ))) (c : Known) (rest : List (List ℕ)) → list_all is_rule rs ≡ true → c.block ≡ Some Rules
    → run_texts c (map rule_text rs ++ rest) ≡ run_texts (record c { number = past c.number rs; parts = record c.parts { rules = c.parts.rules ++ rs } }) rest
run_rules [] c rest h here = ap (λ v. run_texts (record c { parts = record c.parts { rules = v } }) rest) (sym (append-nil c.parts.rules))
run_rules (r ∷ rs) c rest h here =
    let q = and_parts (is_rule r) (list_all is_rule rs) h in
    let p = and_parts (nat_le r.rate 1000000000000) _ q.0 in
    let l = rule_is_line r.rate r.left r.right r.left_after r.right_after (leb-true r.rate 1000000000000 p.0) p.1 in
    let is : item_of c.number c.block (rule_text r) ≡ Ok (Rule r) = ap (λ b. item_of c.number b (rule_text r)) here ∙ l.read c.number in
    step_item c (rule_text r) (map rule_text rs ++ rest) (Rule r) l.content is refl
    ∙ (run_rules rs (item_next c (Rule r)) rest q.1 here
    ∙ ap (λ v. run_texts (record c { number = past (c.number + 1) rs; parts = record c.parts { rules = v } }) rest) (append_assoc c.parts.rules (r ∷ []) rs))

-- lines of the colormap
pub run_colours : (ts : List (List ℕ)) (c : Known) (rest : List (List ℕ)) → list_all is_colour ts ≡ true → c.block ≡ Some Colormap
    → run_texts c (ts ++ rest) ≡ run_texts (record c { number = past c.number ts; parts = record c.parts { colours = c.parts.colours ++ ts } }) rest
run_colours [] c rest h here = ap (λ v. run_texts (record c { parts = record c.parts { colours = v } }) rest) (sym (append-nil c.parts.colours))
run_colours (t ∷ ts) c rest h here =
    let q = and_parts (is_colour t) (list_all is_colour ts) h in
    let is : item_of c.number c.block t ≡ Ok (Colour t) = ap (λ b. item_of c.number b t) here in
    step_item c t (ts ++ rest) (Colour t) (colour_content t q.0) is refl
    ∙ (run_colours ts (item_next c (Colour t)) rest q.1 here
    ∙ ap (λ v. run_texts (record c { number = past (c.number + 1) ts; parts = record c.parts { colours = v } }) rest) (append_assoc c.parts.colours (t ∷ []) ts))

-- rows
abbrev pub up : ℕ → ℕ → ℕ
up n zero = n
up n (suc h) = up (n + 1) h

pub up_is : (n h : ℕ) → up n h ≡ n + h
up_is n zero = omega arith
up_is n (suc h) = omega (arith, up_is (n + 1) h)

pub record AreRow (w : ℕ) (r : List (List ℕ)) : Type 0 where
  pub filled : 0 < length r
  pub wide : length r ≡ w
  pub names : list_all is_name r ≡ true

pub row_step : (c : Known) (w : ℕ) (r : List (List ℕ)) (rest : List (List ℕ)) → c.block ≡ Some State → AreRow w r → row_fault c.number c.parts r ≡ None
    → run_texts c (spaced r ∷ rest) ≡ run_texts (item_next c (Row r)) rest
row_step c w r rest here k none =
    let is : item_of c.number c.block (spaced r) ≡ Ok (Row r) = ap (λ b. item_of c.number b (spaced r)) here ∙ row_read c.number r k.names in
    step_item c (spaced r) rest (Row r) (row_content r k.filled k.names) is none

pub record Split (w h : ℕ) (names : List (List ℕ)) : Type 0 where
  pub first : AreRow w (take w names)
  pub count : length (drop w names) ≡ w * h
  pub rest : list_all is_name (drop w names) ≡ true
  pub whole : take w names ++ drop w names ≡ names

pub split : (w h : ℕ) (names : List (List ℕ)) → 1 ≤ w → length names ≡ w * suc h → list_all is_name names ≡ true → Split w h names
split w h names pos is h2 =
    let s : length names ≡ w * h + w = is ∙ mul-suc w h in
    let l : length (take w names) ≡ w = length-take-le w names (omega (arith, s)) in
    let whole = take-append-drop w names in
    let p = and_parts (list_all is_name (take w names)) (list_all is_name (drop w names)) (sym (list_all-append is_name (take w names) (drop w names)) ∙ (ap (list_all is_name) whole ∙ h2)) in
    record {
      first = record { filled = omega (arith, l); wide = l; names = p.0 };
      count = omega (arith, s, length-drop w names);
      rest = p.1;
      whole = whole;
    }

same_width : (b : Bool) (x y : ℕ) → x ≡ y → (if b then x else y) ≡ y
same_width true x y e = e
same_width false x y e = refl

no_row_fault : (n : ℕ) (b : Bool) (x y : ℕ) → x ≡ y → (if b || (x == y) then None else Some (Ragged n)) ≡ None
no_row_fault n true x y e = refl
no_row_fault n false x y e = rw (eq-eqb x y e) refl

none_left : (names : List (List ℕ)) → length names ≡ 0 → names ≡ []
none_left [] is = refl
none_left (x ∷ xs) is = absurd (omega (arith, is))

pub run_rows : (h w : ℕ) (names : List (List ℕ)) (c : Known) (rest : List (List ℕ)) → 1 ≤ w → length names ≡ w * h → list_all is_name names ≡ true → c.block ≡ Some State → c.parts.width ≡ w
    → run_texts c (map spaced (rows_of w h names) ++ rest) ≡ run_texts (record c { number = up c.number h; parts = record c.parts { height = up c.parts.height h; start = c.parts.start ++ names } }) rest
run_rows zero w names c rest pos count h here wide =
    ap (λ v. run_texts (record c { parts = record c.parts { start = v } }) rest) (sym (append-nil c.parts.start) ∙ ap (λ v. c.parts.start ++ v) (sym (none_left names (omega (arith, count)))))
run_rows (suc k) w names c rest pos count h here wide =
    let s = split w k names pos count h in
    let r = take w names in
    let d = drop w names in
    let e : length r ≡ c.parts.width = s.first.wide ∙ sym wide in
    row_step c w r (map spaced (rows_of w k d) ++ rest) here s.first (no_row_fault c.number (c.parts.height == 0) (length r) c.parts.width e)
    ∙ (ap (λ v. run_texts (record c { number = c.number + 1; parts = record c.parts { width = v; height = c.parts.height + 1; start = c.parts.start ++ r } }) (map spaced (rows_of w k d) ++ rest))
    (same_width (c.parts.height == 0) (length r) c.parts.width e)
    ∙ (run_rows k w d (record c { number = c.number + 1; parts = record c.parts { height = c.parts.height + 1; start = c.parts.start ++ r } }) rest pos s.count s.rest here wide
    ∙ ap (λ v. run_texts (record c { number = up (c.number + 1) k; parts = record c.parts { height = up (c.parts.height + 1) k; start = v } }) rest)
    (append_assoc c.parts.start r d ∙ ap (λ v. c.parts.start ++ v) s.whole)))
