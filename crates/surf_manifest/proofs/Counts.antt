-- The counts of a reading are at most the bytes that were read.
use Rattle.std.proofs.Common.{ℕ, suc, ◌≡◌, ◌+◌, ◌≤◌, List, [], ◌∷◌, length, map, filter, codes, subst, arith, Bool, true, false, ◌==◌, Option, Some, None, Result, Ok, Err, if◌then◌else◌, ⊎_elim}
use Rattle.std.specs.Char.{to_ascii_lowercase}
use Rattle.std.specs.List.{list_all, slice_split, onto_first}
use Rattle.std.specs.Str.{bytes_eq}
use Rattle.std.proofs.lemmas.Bool.{cases_Bool}
use Rattle.surf_world.specs.Systems as systems
use Rattle.surf_lattice.specs.declared.site.GridKind.TheVariants.{Square, Hex}
use Rattle.surf_manifest_lines.specs.declared.error.ManifestError.{ManifestError}
use Rattle.surf_manifest_lines.specs.declared.error.ManifestError.TheVariants.{BadLine, BadOption}
use Rattle.surf_manifest_lines.specs.declared.line.BlockKind.{BlockKind}
use Rattle.surf_manifest_lines.specs.declared.line.BlockKind.TheVariants.{Rules, State, Colormap}
use Rattle.surf_text.specs.Bytes.{is_blank, is_filled, is_word, tokens_of, trimmed, before, after}
use Rattle.surf_manifest.specs.Drafts.{HasRoom}
use Rattle.surf_manifest.specs.Grammar.{line_fault, unless_fault}
use Rattle.surf_manifest_lines.specs.Item.{Item, Geometry, Wrap, Kept, Rule, Row, Colour, is_name, item_of, option_from, setting_of, geometry_of, wrap_of, bracketed_rule, rated_rule, rule_found, rule_from, rule_of_tokens, rate_of, rule_line_of}
use Rattle.surf_manifest.specs.Limits.{Held, Reached, holding_result, known_by, after_line, line_step}
use Rattle.surf_manifest_lines.specs.Line.{Line, Skipped, Opens, Closes, Includes, Unknown, Content, is_comment_sign, is_include, mark_of, line_of_text, line_of}
use Rattle.surf_manifest.specs.Readings.{IsHeldWithin, IsCounted}
use Rattle.surf_manifest.proofs.ReadingLemmas.{trim_shorter}

-- tokens are no more than the bytes
onto_counts : (b : ℕ) (parts : List (List ℕ)) → length (filter is_filled (onto_first b parts)) ≤ suc (length (filter is_filled parts))
onto_counts b [] = omega arith
onto_counts b ([] ∷ ts) = omega arith
onto_counts b ((c ∷ cs) ∷ ts) = omega arith

split_counts : (t : List ℕ) → length (filter is_filled (slice_split is_blank t)) ≤ length t
split_counts [] = omega arith
split_counts (b ∷ bs) =
    ⊎_elim
    (λ z. rw z (omega (arith, split_counts bs)))
    (λ z. rw z (omega (arith, onto_counts b (slice_split is_blank bs), split_counts bs)))
    (cases_Bool (is_blank b))

-- a row has no more names than its line has bytes
abbrev RowWithin : ℕ → Result Item ManifestError → Type 0
RowWithin m (Err f) = Unit {0}
RowWithin m (Ok (Row names)) = length names ≤ m
RowWithin m (Ok (Geometry k)) = Unit {0}
RowWithin m (Ok (Wrap b)) = Unit {0}
RowWithin m (Ok (Kept o)) = Unit {0}
RowWithin m (Ok (Rule r)) = Unit {0}
RowWithin m (Ok (Colour t)) = Unit {0}

if_within : (m : ℕ) (b : Bool) (x y : Result Item ManifestError) → RowWithin m x → RowWithin m y → RowWithin m (if b then x else y)
if_within m true x y p q = p
if_within m false x y p q = q

option_within : (m n : ℕ) (key : List ℕ) (o : Option (List ℕ)) → RowWithin m (option_from n key o)
option_within m n key None = tt
option_within m n key (Some v) =
    let w = trimmed v in
    let low = map to_ascii_lowercase w in
    let geometry : RowWithin m (geometry_of n low) = if_within m (bytes_eq low (codes "square")) (Ok (Geometry Square)) (if bytes_eq low (codes "hex") then Ok (Geometry Hex) else Err (BadOption n)) tt (if_within m (bytes_eq low (codes "hex")) (Ok (Geometry Hex)) (Err (BadOption n)) tt tt) in
    let wrap : RowWithin m (wrap_of n low) = if_within m (bytes_eq low (codes "true")) (Ok (Wrap true)) (if bytes_eq low (codes "false") then Ok (Wrap false) else Err (BadOption n)) tt (if_within m (bytes_eq low (codes "false")) (Ok (Wrap false)) (Err (BadOption n)) tt tt) in
    let kept : Result Item ManifestError = Ok (Kept (record { key = key; value = w })) in
    let set : RowWithin m (setting_of n key w) = if_within m (bytes_eq key (codes "geometry")) (geometry_of n low) (if bytes_eq key (codes "wrap") then wrap_of n low else kept) geometry (if_within m (bytes_eq key (codes "wrap")) (wrap_of n low) kept wrap tt) in
    if_within m (is_word key) (setting_of n key w) (Err (BadLine n)) set tt

found_within : (m n : ℕ) (o : Option (systems.Rule (List ℕ))) → RowWithin m (rule_found n o)
found_within m n None = tt
found_within m n (Some r) = tt

rated_within : (m n : ℕ) (o : Option ℕ) (ts : List (List ℕ)) → RowWithin m (rated_rule n o ts)
rated_within m n None ts = tt
rated_within m n (Some rate) ts = found_within m n (rule_of_tokens rate ts)

bracket_within : (m n : ℕ) (inside : List ℕ) (o : Option (List ℕ)) → RowWithin m (bracketed_rule n inside o)
bracket_within m n inside None = tt
bracket_within m n inside (Some rest) = rated_within m n (rate_of (trimmed inside)) (tokens_of rest)

rule_within : (m n : ℕ) (t : List ℕ) → RowWithin m (rule_line_of n t)
rule_within m n [] = tt
rule_within m n (b ∷ bs) = if_within m (b == 40) (bracketed_rule n (before 41 bs) (after 41 bs)) (rule_from n 1000000 (tokens_of (b ∷ bs))) (bracket_within m n (before 41 bs) (after 41 bs)) (found_within m n (rule_of_tokens 1000000 (tokens_of (b ∷ bs))))

item_within : (m n : ℕ) (block : Option BlockKind) (t : List ℕ) → length t ≤ m → RowWithin m (item_of n block t)
item_within m n None t le = option_within m n (trimmed (before 61 t)) (after 61 t)
item_within m n (Some Rules) t le = rule_within m n t
item_within m n (Some State) t le = if_within m (list_all is_name (tokens_of t)) (Ok (Row (tokens_of t))) (Err (BadLine n)) (omega (arith, le, split_counts t)) tt
item_within m n (Some Colormap) t le = tt

-- the counts after a line of at most m bytes
if_below : (b : Bool) (x y n : ℕ) → x ≤ n → y ≤ n → (if b then x else y) ≤ n
if_below true x y n p q = p
if_below false x y n p q = q

held_more : (n m : ℕ) (h : Held) → IsHeldWithin n h → IsHeldWithin (n + m) h
held_more n m h w = record { rules = omega (arith, w.rules); sites = omega (arith, w.sites); width = omega (arith, w.width); height = omega (arith, w.height) }

holding_within : (n m : ℕ) (h : Held) (r : Result Item ManifestError) → 1 ≤ m → IsHeldWithin n h → RowWithin m r → IsHeldWithin (n + m) (holding_result h r)
holding_within n m h (Err f) one w r = held_more n m h w
holding_within n m h (Ok (Geometry k)) one w r = record { rules = omega (arith, w.rules); sites = omega (arith, w.sites); width = omega (arith, w.width); height = omega (arith, w.height) }
holding_within n m h (Ok (Wrap b)) one w r = record { rules = omega (arith, w.rules); sites = omega (arith, w.sites); width = omega (arith, w.width); height = omega (arith, w.height) }
holding_within n m h (Ok (Kept o)) one w r = record { rules = omega (arith, w.rules); sites = omega (arith, w.sites); width = omega (arith, w.width); height = omega (arith, w.height) }
holding_within n m h (Ok (Colour t)) one w r = record { rules = omega (arith, w.rules); sites = omega (arith, w.sites); width = omega (arith, w.width); height = omega (arith, w.height) }
holding_within n m h (Ok (Rule r)) one w e = record { rules = omega (arith, w.rules, one); sites = omega (arith, w.sites); width = omega (arith, w.width); height = omega (arith, w.height) }
holding_within n m h (Ok (Row names)) one w e = record {
  rules = omega (arith, w.rules);
  sites = omega (arith, w.sites, e);
  width = if_below (h.height == 0) (length names) h.width (n + m) (omega (arith, e)) (omega (arith, w.width));
  height = omega (arith, w.height, one);
}

abbrev ContentWithin : ℕ → Line → Type 0
ContentWithin m (Content t) = length t ≤ m
ContentWithin m (Opens p) = Unit {0}
ContentWithin m (Closes p) = Unit {0}
ContentWithin m Skipped = Unit {0}
ContentWithin m Includes = Unit {0}
ContentWithin m Unknown = Unit {0}

line_within : (n m : ℕ) (s : Reached) (l : Line) → 1 ≤ m → ContentWithin m l → IsCounted n s → IsCounted (n + m) (after_line s l)
line_within n m s Skipped one c w = record { number = omega (arith, w.number, one); held = held_more n m s.held w.held }
line_within n m s (Opens p) one c w = record { number = omega (arith, w.number, one); held = held_more n m s.held w.held }
line_within n m s (Closes p) one c w = record { number = omega (arith, w.number, one); held = held_more n m s.held w.held }
line_within n m s Includes one c w = record { number = omega (arith, w.number, one); held = held_more n m s.held w.held }
line_within n m s Unknown one c w = record { number = omega (arith, w.number, one); held = held_more n m s.held w.held }
line_within n m s (Content t) one c w = record {
  number = omega (arith, w.number, one);
  held = holding_within n m s.held (item_of s.number s.block t) one w.held (item_within m s.number s.block t c);
}

marks_within : (m : ℕ) (a b c d e f g : Bool) → ContentWithin m (if a then Opens Rules else (if b then Closes Rules else (if c then Opens State else (if d then Closes State else (if e then Opens Colormap else (if f then Closes Colormap else (if g then Includes else Unknown)))))))
marks_within m true b c d e f g = tt
marks_within m false true c d e f g = tt
marks_within m false false true d e f g = tt
marks_within m false false false true e f g = tt
marks_within m false false false false true f g = tt
marks_within m false false false false false true g = tt
marks_within m false false false false false false true = tt
marks_within m false false false false false false false = tt

content_within : (m : ℕ) (u v : Bool) (t : List ℕ) → length t ≤ m → ContentWithin m (if u then Skipped else (if v then mark_of t else Content t))
content_within m true v t le = tt
content_within m false true t le = marks_within m (bytes_eq t (codes "!START_TRANSITION_RULES")) (bytes_eq t (codes "!END_TRANSITION_RULES")) (bytes_eq t (codes "!START_INIT_STATE")) (bytes_eq t (codes "!END_INIT_STATE")) (bytes_eq t (codes "!START_COLORMAP")) (bytes_eq t (codes "!END_COLORMAP")) (is_include (tokens_of t))
content_within m false false t le = le

text_within : (m : ℕ) (t : List ℕ) → length t ≤ m → ContentWithin m (line_of_text t)
text_within m [] le = tt
text_within m (b ∷ bs) le = content_within m (is_comment_sign b) (b == 33) (b ∷ bs) le

step_is : (o : Option ManifestError) (a b : Reached) → unless_fault o (Ok a) ≡ Ok b → a ≡ b
step_is None a b h = cc
step_is (Some f) a b h = cc

pub counted_line : (n m : ℕ) (s d : Reached) (line : List ℕ) → 1 ≤ m → length line ≤ m → IsCounted n s → line_step s (line_of line) ≡ Ok d → IsCounted (n + m) d
counted_line n m s d line one le w is =
    subst (λ (v : Reached). IsCounted (n + m) v) (step_is (line_fault (known_by s) (line_of line)) (after_line s (line_of line)) d is)
    (line_within n m s (line_of line) one (text_within m (trimmed line) (omega (arith, le, trim_shorter line))) w)

pub room_by : (n m : ℕ) (s : Reached) → n + m ≤ 2147483648 → IsCounted n s → HasRoom s.held m
room_by n m s le w = record {
  rules = omega (arith, w.held.rules, le);
  rows = omega (arith, w.held.height, le);
  sites = omega (arith, w.held.sites, le);
}
