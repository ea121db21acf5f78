-- The grammar reads what is printed.
use Rattle.std.proofs.Common.{ℕ, zero, suc, ◌≡◌, ◌+◌, ◌*◌, ◌≤◌, List, [], ◌∷◌, ◌++◌, length, map, take, drop, codes, refl, sym, append_assoc, ◌∙◌, ap, arith, Bool, true, false, ◌&&◌, ◌||◌, nat_lt, Option, Some, None, Result, Ok, Err, subst}
use Rattle.std.specs.List.{list_all}
use Rattle.std.proofs.lemmas.Bool.{le-ltb, ne_eqb}
use Rattle.surf_lattice.specs.declared.site.GridKind.{GridKind}
use Rattle.surf_lattice.specs.declared.site.GridKind.TheVariants.{Square, Hex}
use Rattle.surf_world.specs.Systems as systems
use Rattle.surf_text.specs.Bytes.{spaced}
use Rattle.surf_manifest_lines.specs.Line.{Opens, Closes}
use Rattle.surf_manifest_lines.specs.declared.line.BlockKind.TheVariants.{Rules, State, Colormap}
use Rattle.surf_manifest_lines.specs.declared.options.OptionLine.{OptionLine}
use Rattle.surf_manifest_lines.specs.Item.{Geometry, Wrap, is_name}
use Rattle.surf_manifest.specs.Grammar.{ManifestText, Parts, Known, finish, manifest_from, manifest_of}
use Rattle.surf_manifest.specs.Steps.{nothing}
use Rattle.surf_text.specs.Bytes.{rows_of}
use Rattle.surf_manifest.specs.WellFormed.{are_colours, IsWellFormed}
use Rattle.surf_manifest_print.specs.Legends.{LegendText, IsLegend}
use Rattle.surf_manifest_print.specs.Prints.{option_text, rule_text, geometry_text, wrap_text, colour_lines, block_lines, state_block, legend_lines, print_lines, print_of, ReadsPrint, formatted, formatted_manifest, KeepsFormat}
use Rattle.surf_manifest_print.proofs.Segments.{run_texts, at, past, up, up_is, split, step_line, step_item, row_step, run_legend, legend_end, run_options, run_rules, run_colours, run_rows}
use Rattle.surf_manifest.proofs.StepLemmas.{steps_read}
use Rattle.surf_manifest.proofs.Good.{gives_well_formed}
use Rattle.surf_manifest_lines.specs.declared.error.ManifestError.{ManifestError}

pub record FitsLimits (p : Parts) : Type 0 where
  pub height : 1 ≤ p.height
  pub rules : length p.rules ≤ 1048576
  pub sites : length p.start ≤ 33554432
  pub joined : p.wrap ≡ true → (3 ≤ p.width) × (3 ≤ p.height)

wrap_fits : (w : Bool) (x y : ℕ) → (w ≡ true → (3 ≤ x) × (3 ≤ y)) → (w && (nat_lt x 3 || nat_lt y 3)) ≡ false
wrap_fits false x y h = refl
wrap_fits true x y h = let p = h refl in rw (le-ltb x 3 p.0, le-ltb y 3 p.1) refl

finish_ok : (n o : ℕ) (has : Bool) (p : Parts) → FitsLimits p
    → finish (record { number = n; block = None; opened = o; has_rules = true; has_state = true; has_colours = has; parts = p }) ≡ Ok (manifest_from has p)
finish_ok n o has p f =
    rw (ne_eqb p.height 0 (λ e. absurd (omega (arith, e, f.height))), le-ltb 1048576 (length p.rules) f.rules, le-ltb 33554432 (length p.start) f.sites, wrap_fits p.wrap p.width p.height f.joined) refl

-- what the lines so far said, without a colormap
abbrev said : GridKind → Bool → List OptionLine → List (systems.Rule (List ℕ)) → ℕ → ℕ → List (List ℕ) → Parts
said kind wrap options rules width height start = record {
  kind = kind;
  wrap = wrap;
  options = options;
  rules = rules;
  width = width;
  height = height;
  start = start;
  colours = [];
}

abbrev with_colours : Parts → List (List ℕ) → Parts
with_colours p ts = record p { colours = ts }

abbrev whole_of : Parts → Option (List (List ℕ)) → ManifestText
whole_of p cm = record {
  system = record {
    surface = record {
      grid = record { kind = p.kind; wrap = p.wrap; width = p.width; height = p.height };
      rules = p.rules;
    };
    start = p.start;
  };
  options = p.options;
  colormap = cm;
}

run_end : (cm : Option (List (List ℕ))) (n o : ℕ) (p : Parts) → p.colours ≡ [] → are_colours cm ≡ true → FitsLimits p
    → run_texts (record { number = n; block = None; opened = o; has_rules = true; has_state = true; has_colours = false; parts = p }) (colour_lines cm) ≡ Ok (whole_of p cm)
run_end None n o p none h f = finish_ok n o false p f
run_end (Some ts) n o p none h f =
    let c1 : Known = record { number = n + 1; block = Some Colormap; opened = n; has_rules = true; has_state = true; has_colours = true; parts = p } in
    let c2 : Known = record { number = past (n + 1) ts; block = Some Colormap; opened = n; has_rules = true; has_state = true; has_colours = true; parts = with_colours p (p.colours ++ ts) } in
    step_line (record { number = n; block = None; opened = o; has_rules = true; has_state = true; has_colours = false; parts = p }) (codes "!START_COLORMAP") (ts ++ (codes "!END_COLORMAP" ∷ [])) (Opens Colormap) refl refl refl
    ∙ (run_colours ts c1 (codes "!END_COLORMAP" ∷ []) h refl
    ∙ (step_line c2 (codes "!END_COLORMAP") [] (Closes Colormap) refl refl refl
    ∙ (finish_ok (past (n + 1) ts + 1) n true (with_colours p (p.colours ++ ts)) (record { height = f.height; rules = f.rules; sites = f.sites; joined = f.joined })
    ∙ ap (λ v. Ok (whole_of p (Some (v ++ ts)))) none)))

-- the first row tells the width
run_all_rows : (h w n o : ℕ) (names : List (List ℕ)) (kind : GridKind) (wrap : Bool) (options : List OptionLine) (rules : List (systems.Rule (List ℕ))) (rest : List (List ℕ))
    → 1 ≤ w → 1 ≤ h → length names ≡ w * h → list_all is_name names ≡ true
    → run_texts (record { number = n; block = Some State; opened = o; has_rules = true; has_state = true; has_colours = false; parts = said kind wrap options rules 0 0 [] }) (map spaced (rows_of w h names) ++ rest)
    ≡ run_texts (record { number = up n h; block = Some State; opened = o; has_rules = true; has_state = true; has_colours = false; parts = said kind wrap options rules w h names }) rest
run_all_rows zero w n o names kind wrap options rules rest pos some count h = absurd (omega arith)
run_all_rows (suc k) w n o names kind wrap options rules rest pos some count h =
    let s = split w k names pos count h in
    let r = take w names in
    let d = drop w names in
    let c : Known = record { number = n; block = Some State; opened = o; has_rules = true; has_state = true; has_colours = false; parts = said kind wrap options rules 0 0 [] } in
    let at_width : ℕ → Known = λ v. record { number = n + 1; block = Some State; opened = o; has_rules = true; has_state = true; has_colours = false; parts = said kind wrap options rules v 1 r } in
    let at_height : ℕ → Known = λ v. record { number = up (n + 1) k; block = Some State; opened = o; has_rules = true; has_state = true; has_colours = false; parts = said kind wrap options rules w v (r ++ d) } in
    let at_start : List (List ℕ) → Known = λ v. record { number = up (n + 1) k; block = Some State; opened = o; has_rules = true; has_state = true; has_colours = false; parts = said kind wrap options rules w (suc k) v } in
    let e : up 1 k ≡ suc k = omega (arith, up_is 1 k) in
    row_step c w r (map spaced (rows_of w k d) ++ rest) refl s.first refl
    ∙ (ap (λ v. run_texts (at_width v) (map spaced (rows_of w k d) ++ rest)) s.first.wide
    ∙ (run_rows k w d (at_width w) rest pos s.count s.rest refl refl
    ∙ (ap (λ v. run_texts (at_height v) rest) e ∙ ap (λ v. run_texts (at_start v) rest) s.whole)))

geometry_step : (k : GridKind) (n : ℕ) (rest : List (List ℕ)) → run_texts (at nothing n) (geometry_text k ∷ rest)
    ≡ run_texts (record nothing { number = n + 1; parts = said k false [] [] 0 0 [] }) rest
geometry_step Square n rest = step_item (at nothing n) (codes "geometry = square") rest (Geometry Square) (record { line = refl; one_line = refl }) refl refl
geometry_step Hex n rest = step_item (at nothing n) (codes "geometry = hex") rest (Geometry Hex) (record { line = refl; one_line = refl }) refl refl

wrap_step : (b : Bool) (k : GridKind) (n : ℕ) (rest : List (List ℕ)) → run_texts (record nothing { number = n; parts = said k false [] [] 0 0 [] }) (wrap_text b ∷ rest)
    ≡ run_texts (record nothing { number = n + 1; parts = said k b [] [] 0 0 [] }) rest
wrap_step true k n rest = step_item (record nothing { number = n; parts = said k false [] [] 0 0 [] }) (codes "wrap = true") rest (Wrap true) (record { line = refl; one_line = refl }) refl refl
wrap_step false k n rest = step_item (record nothing { number = n; parts = said k false [] [] 0 0 [] }) (codes "wrap = false") rest (Wrap false) (record { line = refl; one_line = refl }) refl refl

fits : (m : ManifestText) → IsWellFormed m → FitsLimits (said m.system.surface.grid.kind m.system.surface.grid.wrap m.options m.system.surface.rules m.system.surface.grid.width m.system.surface.grid.height m.system.start)
fits m w = record { height = w.height; rules = w.few_rules; sites = w.few_sites; joined = w.joined }

abbrev state_lines : ManifestText → List (List ℕ)
state_lines m =
    codes "!START_INIT_STATE" ∷ (map spaced (rows_of m.system.surface.grid.width m.system.surface.grid.height m.system.start)
    ++ (codes "!END_INIT_STATE" ∷ colour_lines m.colormap))

abbrev rule_lines : ManifestText → List (List ℕ)
rule_lines m =
    codes "!START_TRANSITION_RULES" ∷ (map rule_text m.system.surface.rules ++ (codes "!END_TRANSITION_RULES" ∷ state_lines m))

run_state : (m : ManifestText) → IsWellFormed m → (n o : ℕ)
    → run_texts (record { number = n; block = None; opened = o; has_rules = true; has_state = false; has_colours = false; parts = said m.system.surface.grid.kind m.system.surface.grid.wrap m.options m.system.surface.rules 0 0 [] }) (state_lines m) ≡ Ok m
run_state m w n o =
    let g = m.system.surface.grid in
    let rules = m.system.surface.rules in
    let after_rows = codes "!END_INIT_STATE" ∷ colour_lines m.colormap in
    let c0 : Known = record { number = n; block = None; opened = o; has_rules = true; has_state = false; has_colours = false; parts = said g.kind g.wrap m.options rules 0 0 [] } in
    let c1 : Known = record { number = up (n + 1) g.height; block = Some State; opened = n; has_rules = true; has_state = true; has_colours = false; parts = said g.kind g.wrap m.options rules g.width g.height m.system.start } in
    step_line c0 (codes "!START_INIT_STATE") (map spaced (rows_of g.width g.height m.system.start) ++ after_rows) (Opens State) refl refl refl
    ∙ (run_all_rows g.height g.width (n + 1) n m.system.start g.kind g.wrap m.options rules after_rows w.width w.height w.sites w.names
    ∙ (step_line c1 (codes "!END_INIT_STATE") (colour_lines m.colormap) (Closes State) refl refl refl
    ∙ run_end m.colormap (up (n + 1) g.height + 1) n c1.parts refl w.colours (fits m w)))

run_rule_lines : (m : ManifestText) → IsWellFormed m → (n o : ℕ)
    → run_texts (record { number = n; block = None; opened = o; has_rules = false; has_state = false; has_colours = false; parts = said m.system.surface.grid.kind m.system.surface.grid.wrap m.options [] 0 0 [] }) (rule_lines m) ≡ Ok m
run_rule_lines m w n o =
    let g = m.system.surface.grid in
    let rules = m.system.surface.rules in
    let after_rules = codes "!END_TRANSITION_RULES" ∷ state_lines m in
    let c0 : Known = record { number = n; block = None; opened = o; has_rules = false; has_state = false; has_colours = false; parts = said g.kind g.wrap m.options [] 0 0 [] } in
    let c1 : Known = record { number = n + 1; block = Some Rules; opened = n; has_rules = true; has_state = false; has_colours = false; parts = said g.kind g.wrap m.options [] 0 0 [] } in
    let c2 : Known = record { number = past (n + 1) rules; block = Some Rules; opened = n; has_rules = true; has_state = false; has_colours = false; parts = said g.kind g.wrap m.options rules 0 0 [] } in
    step_line c0 (codes "!START_TRANSITION_RULES") (map rule_text rules ++ after_rules) (Opens Rules) refl refl refl
    ∙ (run_rules rules c1 after_rules w.rules refl
    ∙ (step_line c2 (codes "!END_TRANSITION_RULES") (state_lines m) (Closes Rules) refl refl refl
    ∙ run_state m w (past (n + 1) rules + 1) n))

lines_are : (m : ManifestText) → block_lines m ≡ rule_lines m
lines_are m =
    let rows = map spaced (rows_of m.system.surface.grid.width m.system.surface.grid.height m.system.start) in
    let rules = map rule_text m.system.surface.rules in
    ap (λ v. codes "!START_TRANSITION_RULES" ∷ v) (append_assoc rules (codes "!END_TRANSITION_RULES" ∷ []) (state_block m ++ colour_lines m.colormap))
    ∙ ap (λ v. codes "!START_TRANSITION_RULES" ∷ (rules ++ (codes "!END_TRANSITION_RULES" ∷ (codes "!START_INIT_STATE" ∷ v)))) (append_assoc rows (codes "!END_INIT_STATE" ∷ []) (colour_lines m.colormap))

run_print : (m : ManifestText) (l : Option LegendText) → IsWellFormed m → IsLegend l → run_texts nothing (print_lines m l) ≡ Ok m
run_print m l w h =
    let g = m.system.surface.grid in
    let n = legend_end l 1 in
    let after_wrap = map option_text m.options ++ rule_lines m in
    ap (λ v. run_texts nothing (legend_lines l ++ (geometry_text g.kind ∷ wrap_text g.wrap ∷ (map option_text m.options ++ v)))) (lines_are m)
    ∙ (run_legend l nothing (geometry_text g.kind ∷ wrap_text g.wrap ∷ after_wrap) h
    ∙ (geometry_step g.kind n (wrap_text g.wrap ∷ after_wrap)
    ∙ (wrap_step g.wrap g.kind (n + 1) after_wrap
    ∙ (run_options m.options (record nothing { number = n + 1 + 1; parts = said g.kind g.wrap [] [] 0 0 [] }) (rule_lines m) w.options refl
    ∙ run_rule_lines m w (past (n + 1 + 1) m.options) 0))))

pub reads_print : ReadsPrint
reads_print m l w h = sym (steps_read (print_of m l)) ∙ run_print m l w h

abbrev text_in : Result (List ℕ) ManifestError → List ℕ
text_in (Ok t) = t
text_in (Err f) = []

kept : (m : ManifestText) (text : List ℕ) → IsWellFormed m → formatted_manifest (Ok m) ≡ Ok text → formatted text ≡ Ok text
kept m text w e = let is : print_of m None ≡ text = ap text_in e in subst (λ t. formatted t ≡ Ok t) is (ap formatted_manifest (reads_print m None w tt))

keeps_from : (bytes text : List ℕ) (r : Result ManifestText ManifestError) → manifest_of bytes ≡ r → formatted_manifest r ≡ Ok text → formatted text ≡ Ok text
keeps_from bytes text (Ok m) is e = kept m text (gives_well_formed bytes m is) e
keeps_from bytes text (Err f) is e = cc

pub keeps_format : KeepsFormat
keeps_format bytes text e = keeps_from bytes text (manifest_of bytes) refl e
