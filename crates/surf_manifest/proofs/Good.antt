-- What the steps keep is well formed.
use Rattle.std.proofs.Common.{ℕ, ◌≡◌, ◌+◌, ◌*◌, ◌<◌, ◌≤◌, List, [], ◌∷◌, ◌++◌, length, map, refl, ◌∙◌, ap, subst, arith, Bool, true, false, not, ◌&&◌, ◌||◌, ◌==◌, nat_lt, Option, Some, None, Result, Ok, Err, if◌then◌else◌, length-append, ⊎_elim, is_some, add-one}
use Rattle.std.specs.List.{list_all, onto_first}
use Rattle.std.proofs.Math.Nat.{mul-suc}
use Rattle.std.proofs.lemmas.Bool.{and_parts, eqb-true, eqb-false, cases_Bool, ltb-false}
use Rattle.std.proofs.lemmas.List.Folds.{list_all-append}
use Rattle.surf_manifest_lines.specs.declared.error.ManifestError.{ManifestError}
use Rattle.surf_manifest_lines.specs.declared.error.ManifestError.TheVariants as faults
use Rattle.surf_manifest_lines.specs.declared.error.Block.TheVariants as blocks
use Rattle.surf_text.specs.Bytes.{lines_of, lacks}
use Rattle.surf_manifest_lines.specs.Line.{Line, Skipped, Opens, Closes, Includes, Unknown, Content, line_of}
use Rattle.surf_manifest_lines.specs.Item.{Item, Geometry, Wrap, Kept, Rule, Row, Colour, is_name, item_of}
use Rattle.surf_manifest.specs.Grammar.{ManifestText, Parts, Known, line_fault, item_fault, text_fault, unless_fault, manifest_from}
use Rattle.surf_manifest.specs.Steps.{with_part, with_result, next, nothing, run_from}
use Rattle.surf_manifest_lines.specs.WellFormed.{is_option, is_colour, is_rule}
use Rattle.surf_manifest.specs.WellFormed.{are_colours, IsWellFormed, GivesWellFormed}
use Rattle.surf_manifest_lines.proofs.WellFormed.{both}
use Rattle.surf_manifest.proofs.StepLemmas.{steps_read}
use Rattle.surf_manifest_lines.proofs.WellFormed.{LineHolds, line_holds, ItemHolds, ResultHolds, item_holds}

pub record Good (p : Parts) : Type 0 where
  pub options : list_all is_option p.options ≡ true
  pub rules : list_all is_rule p.rules ≡ true
  pub names : list_all is_name p.start ≡ true
  pub colours : list_all is_colour p.colours ≡ true
  pub count : length p.start ≡ p.width * p.height
  pub wide : 0 < p.height → 0 < p.width

all_more : {X : Type 0} (q : X → Bool) (xs : List X) (y : X) → list_all q xs ≡ true → q y ≡ true → list_all q (xs ++ y ∷ []) ≡ true
all_more q xs y h e = list_all-append q xs (y ∷ []) ∙ both (list_all q xs) (q y && true) h (both (q y) true e refl)

row_fits : (n : ℕ) (b c : Bool) → (if b || c then None else Some (faults.Ragged n)) ≡ None → b ≡ false → c ≡ true
row_fits n b true h e = refl
row_fits n true false h e = cc
row_fits n false false h e = cc

-- the row's width, and the count with it
row_count : (b : Bool) (sites width height row : ℕ) → (height == 0) ≡ b → (b ≡ false → (row == width) ≡ true) → sites ≡ width * height → sites + row ≡ (if b then row else width) * (height + 1)
row_count true sites width height row z fits count =
    let e : height ≡ 0 = eqb-true height 0 z in
    let none : width * height ≡ 0 = ap (λ v. width * v) e ∙ (let none : width * 0 ≡ 0 = omega arith in none) in
    let s : row * (height + 1) ≡ row = ap (λ v. row * (v + 1)) e ∙ (let one : row * 1 ≡ row = omega arith in one) in
    omega (arith, none, s, count)
row_count false sites width height row z fits count =
    let e : row ≡ width = eqb-true row width (fits refl) in
    let s : width * (height + 1) ≡ width * height + width = rw add-one (mul-suc width height) in
    omega (arith, e, s, count)

row_wide : (b : Bool) (width height row : ℕ) → (height == 0) ≡ b → 0 < row → (0 < height → 0 < width) → 0 < (if b then row else width)
row_wide true width height row z some wide = some
row_wide false width height row z some wide = let ne = eqb-false height 0 z in wide (omega (arith, ne))

good_part : (n : ℕ) (p : Parts) (i : Item) → Good p → ItemHolds i → item_fault n p (Ok i) ≡ None → Good (with_part p i)
good_part n p (Geometry k) g h f = record { options = g.options; rules = g.rules; names = g.names; colours = g.colours; count = g.count; wide = g.wide }
good_part n p (Wrap b) g h f = record { options = g.options; rules = g.rules; names = g.names; colours = g.colours; count = g.count; wide = g.wide }
good_part n p (Kept o) g h f = record { options = all_more is_option p.options o g.options h; rules = g.rules; names = g.names; colours = g.colours; count = g.count; wide = g.wide }
good_part n p (Rule r) g h f = record { options = g.options; rules = all_more is_rule p.rules r g.rules h; names = g.names; colours = g.colours; count = g.count; wide = g.wide }
good_part n p (Colour t) g h f = record { options = g.options; rules = g.rules; names = g.names; colours = all_more is_colour p.colours t g.colours h; count = g.count; wide = g.wide }
good_part n p (Row names) g h f = record {
  options = g.options;
  rules = g.rules;
  names = list_all-append is_name p.start names ∙ both (list_all is_name p.start) (list_all is_name names) g.names h.0;
  colours = g.colours;
  count = length-append p.start names ∙ row_count (p.height == 0) (length p.start) p.width p.height (length names) refl (λ e. row_fits n (p.height == 0) (length names == p.width) f e) g.count;
  wide = λ _. row_wide (p.height == 0) p.width p.height (length names) refl h.1 g.wide;
}

good_result : (n : ℕ) (p : Parts) (r : Result Item ManifestError) → Good p → ResultHolds r → item_fault n p r ≡ None → Good (with_result p r)
good_result n p (Ok i) g h f = good_part n p i g h f
good_result n p (Err e) g h f = g

good_next : (c : Known) (l : Line) → Good c.parts → LineHolds l → line_fault c l ≡ None → Good (next c l).parts
good_next c Skipped g h f = g
good_next c (Opens p) g h f = g
good_next c (Closes p) g h f = g
good_next c Includes g h f = g
good_next c Unknown g h f = g
good_next c (Content t) g h f = good_result c.number c.parts (item_of c.number c.block t) g (item_holds c.number c.block t h.0 h.1).is f

-- what the end asks
pub none_if : (b : Bool) (f : ManifestError) (o : Option ManifestError) → (if b then Some f else o) ≡ None → (b ≡ false) × (o ≡ None)
none_if true f o h = cc
none_if false f o h = (refl, h)

pub no_fault : {M : Type 0} (o : Option ManifestError) (r : Result M ManifestError) (m : M) → unless_fault o r ≡ Ok m → (o ≡ None) × (r ≡ Ok m)
no_fault None r m h = (refl, h)
no_fault (Some f) r m h = cc

both_false : (a b : Bool) → (a || b) ≡ false → (a ≡ false) × (b ≡ false)
both_false true b h = cc
both_false false b h = (refl, h)

not_narrow : (w : Bool) (x y : ℕ) → (w && (nat_lt x 3 || nat_lt y 3)) ≡ false → w ≡ true → (3 ≤ x) × (3 ≤ y)
not_narrow false x y h e = cc
not_narrow true x y h e = let p = both_false (nat_lt x 3) (nat_lt y 3) h in (ltb-false x 3 p.0, ltb-false y 3 p.1)

colours_if : (b : Bool) (ts : List (List ℕ)) → list_all is_colour ts ≡ true → are_colours (if b then Some ts else None) ≡ true
colours_if true ts h = h
colours_if false ts h = refl

good_end : (c : Known) → Good c.parts → text_fault c c.parts ≡ None → IsWellFormed (manifest_from c.has_colours c.parts)
good_end c g f =
    let p = c.parts in
    let f1 = none_if (is_some c.block) (faults.Unclosed c.opened) _ f in
    let f2 = none_if (not c.has_rules) (faults.MissingBlock blocks.Rules) _ f1.1 in
    let f3 = none_if (not c.has_state) (faults.MissingBlock blocks.State) _ f2.1 in
    let f4 = none_if (p.height == 0) faults.NoSites _ f3.1 in
    let f5 = none_if (nat_lt 1048576 (length p.rules)) (faults.TooManyRules (length p.rules)) _ f4.1 in
    let f6 = none_if (nat_lt 33554432 (length p.start)) (faults.TooManySites (length p.start)) _ f5.1 in
    let f7 = none_if (p.wrap && (nat_lt p.width 3 || nat_lt p.height 3)) faults.WrapSize None f6.1 in
    let ne = eqb-false p.height 0 f4.0 in
    let high : 0 < p.height = omega (arith, ne) in
    record {
      options = g.options;
      few_rules = ltb-false 1048576 (length p.rules) f5.0;
      rules = g.rules;
      width = omega (arith, g.wide high);
      height = omega (arith, high);
      sites = g.count;
      few_sites = ltb-false 33554432 (length p.start) f6.0;
      joined = not_narrow p.wrap p.width p.height f7.0;
      names = g.names;
      colours = colours_if c.has_colours p.colours g.colours;
    }

good_run : (ts : List (List ℕ)) (c : Known) (m : ManifestText) → list_all (lacks 10) ts ≡ true → Good c.parts → run_from c (map line_of ts) ≡ Ok m → IsWellFormed m
good_run [] c m h g is =
    let p = no_fault (text_fault c c.parts) (Ok (manifest_from c.has_colours c.parts)) m is in
    let e : manifest_from c.has_colours c.parts ≡ m = cc in
    subst (λ (v : ManifestText). IsWellFormed v) e (good_end c g p.0)
good_run (t ∷ ts) c m h g is =
    let q = and_parts (lacks 10 t) (list_all (lacks 10) ts) h in
    let p = no_fault (line_fault c (line_of t)) (run_from (next c (line_of t)) (map line_of ts)) m is in
    good_run ts (next c (line_of t)) m q.1 (good_next c (line_of t) g (line_holds t q.0).is p.0) p.1

-- lines have no line feed
onto_lacks : (b : ℕ) (ts : List (List ℕ)) → (b == 10) ≡ false → list_all (lacks 10) ts ≡ true → list_all (lacks 10) (onto_first b ts) ≡ true
onto_lacks b [] e h = rw e refl
onto_lacks b (t ∷ ts) e h = rw e h

lines_lack : (bytes : List ℕ) → list_all (lacks 10) (lines_of bytes) ≡ true
lines_lack [] = refl
lines_lack (b ∷ bs) = ⊎_elim (λ z. rw z (lines_lack bs)) (λ z. rw z (onto_lacks b (lines_of bs) z (lines_lack bs))) (cases_Bool (b == 10))

good_nothing : Good nothing.parts
good_nothing = record { options = refl; rules = refl; names = refl; colours = refl; count = refl; wide = λ h. absurd (omega (arith, h)) }

pub gives_well_formed : GivesWellFormed
gives_well_formed bytes m is = good_run (lines_of bytes) nothing m (lines_lack bytes) good_nothing (steps_read bytes ∙ is)
