-- The names of a row with the bytes behind them, and the rows of a surface.
use Rattle.std.proofs.Common.{ℕ, zero, suc, ◌≡◌, ◌+◌, ◌-◌, ◌*◌, ◌<◌, ◌≤◌, List, [], ◌∷◌, ◌++◌, length, map, take, drop, Option, Some, Result, Ok, IsErr, refl, sym, ◌∙◌, ap, subst, arith, append_assoc, append-nil, slice_get, get_or, ne_eqb, eq-eqb}
use Rattle.std.proofs.Math.Seq.{take-suc}
use Rattle.std.proofs.Math.Nat.{mul-le-mul_right}
use Rattle.std.proofs.lemmas.List.{take-append-drop, drop-drop, get_or-take, get_or-drop, length-take-le, length-drop, map-append, take_all}
use Rattle.std.proofs.lemmas.Option.{slice_get_within, get_or_from_slice_get, slice_get-get_or}
use Rattle.surf_base.specs.Emits.{Sent, Emits, outlet}
use Rattle.surf_base.proofs.EmitLemmas.{sent_more, cut_part, all_parts}
use Rattle.surf_text.specs.Bytes.{spaced, ended, rows_of}
use Rattle.surf_cells.specs.Rows.{cells, behind_name}

pub cells_append : (width x : ℕ) (ts us : List (List ℕ)) → cells width x (ts ++ us) ≡ cells width x ts ++ cells width (x + length ts) us
cells_append width x [] us = ap (λ k. cells width k us) (let e : x ≡ x + 0 = omega arith in e)
cells_append width x (t ∷ ts) us =
    ap (λ s. (t ++ behind_name width x ∷ []) ++ s) (cells_append width (x + 1) ts us)
    ∙ sym (append_assoc (t ++ behind_name width x ∷ []) (cells width (x + 1) ts) (cells width (x + 1 + length ts) us))
    ∙ ap (λ k. ((t ++ behind_name width x ∷ []) ++ cells width (x + 1) ts) ++ cells width k us) (let e : x + 1 + length ts ≡ x + suc (length ts) = omega arith in e)

last_behind : (width x : ℕ) → x + 1 ≡ width → behind_name width x ≡ 10
last_behind width x is = rw (eq-eqb (x + 1) width is) refl

inner_behind : (width x : ℕ) → x + 1 < width → behind_name width x ≡ 32
inner_behind width x lt = rw (ne_eqb (x + 1) width (λ e. omega (arith, lt, e))) refl

-- the names of a row from column x to its end
pub row_cells : (width x : ℕ) (t : List ℕ) (ts : List (List ℕ)) → x + suc (length ts) ≡ width → cells width x (t ∷ ts) ≡ spaced (t ∷ ts) ++ 10 ∷ []
row_cells width x t [] is = append-nil _ ∙ ap (λ b. t ++ b ∷ []) (last_behind width x (omega (arith, is)))
row_cells width x t (u ∷ us) is =
    ap (λ b. (t ++ b ∷ []) ++ cells width (x + 1) (u ∷ us)) (inner_behind width x (omega (arith, is)))
    ∙ append_assoc t (32 ∷ []) (cells width (x + 1) (u ∷ us))
    ∙ ap (λ s. t ++ 32 ∷ s) (row_cells width (x + 1) u us (omega (arith, is)))
    ∙ sym (append_assoc t (32 ∷ spaced (u ∷ us)) (10 ∷ []))

pub whole_row : (width : ℕ) (row : List (List ℕ)) → length row ≡ width → 1 ≤ width → cells width 0 row ≡ spaced row ++ 10 ∷ []
whole_row width [] is le = absurd (omega (arith, is, le))
whole_row width (t ∷ ts) is le = row_cells width 0 t ts (omega (arith, is))

-- the name at column x of a row
module _ (width : ℕ) (row : List (List ℕ)) (len : length row ≡ width) (x : ℕ) (t : List ℕ) (at : slice_get row x ≡ Some t) where
  within : x < length row
  within = slice_get_within row x t at

  name_is : get_or row x t ≡ t
  name_is = get_or_from_slice_get row x t t at

  took : take (x + 1) row ≡ take x row ++ t ∷ []
  took =
      ap (λ k. take k row) (let e : x + 1 ≡ suc x = omega arith in e)
      ∙ take-suc row x t within
      ∙ ap (λ u. take x row ++ u ∷ []) name_is

  -- where the names before it were printed
  pub cell_more : cells width 0 (take (x + 1) row) ≡ cells width 0 (take x row) ++ (t ++ behind_name width x ∷ [])
  cell_more =
      ap (cells width 0) took
      ∙ cells_append width 0 (take x row) (t ∷ [])
      ∙ ap (λ k. cells width 0 (take x row) ++ cells width k (t ∷ []))
      (let e : 0 + length (take x row) ≡ x = omega (arith, length-take-le x row (omega (arith, within))) in e)
      ∙ ap (λ s. cells width 0 (take x row) ++ s) (append-nil (t ++ behind_name width x ∷ []))

  -- the whole row around it
  pub cell_split : cells width 0 row ≡ cells width 0 (take x row) ++ ((t ++ behind_name width x ∷ []) ++ cells width (x + 1) (drop (x + 1) row))
  cell_split =
      ap (cells width 0) (sym (take-append-drop (x + 1) row))
      ∙ cells_append width 0 (take (x + 1) row) (drop (x + 1) row)
      ∙ ap (λ s. s ++ cells width (0 + length (take (x + 1) row)) (drop (x + 1) row)) cell_more
      ∙ ap (λ k. (cells width 0 (take x row) ++ (t ++ behind_name width x ∷ [])) ++ cells width k (drop (x + 1) row))
      (let e : 0 + length (take (x + 1) row) ≡ x + 1 = omega (arith, length-take-le (x + 1) row (omega (arith, within))) in e)
      ∙ append_assoc (cells width 0 (take x row)) (t ++ behind_name width x ∷ []) (cells width (x + 1) (drop (x + 1) row))

pub row_within : (width height y : ℕ) → y < height → y * width + width ≤ width * height
row_within width height y lt =
    let fits : (y + 1) * width ≤ height * width = mul-le-mul_right width (omega (arith, lt)) in omega (arith, fits)

pub row_long : (width y : ℕ) (names : List (List ℕ)) → y * width + width ≤ length names → length (take width (drop (y * width) names)) ≡ width
row_long width y names le =
    length-take-le width (drop (y * width) names) (omega (arith, le, length-drop (y * width) names))

pub row_at : (width k x : ℕ) (names : List (List ℕ)) (t : List ℕ) → x < width → length (take width (drop k names)) ≡ width → slice_get names (k + x) ≡ Some t → slice_get (take width (drop k names)) x ≡ Some t
row_at width k x names t lt len at =
    slice_get-get_or (take width (drop k names)) x t (omega (arith, lt, len))
    ∙ ap Some (get_or-take width (drop k names) x t lt ∙ get_or-drop k names x t ∙ get_or_from_slice_get names (k + x) t t at)

-- rows one after another
pub rows_append : (width a b : ℕ) (names : List (List ℕ)) → rows_of width (a + b) names ≡ rows_of width a names ++ rows_of width b (drop (a * width) names)
rows_append width zero b names =
    ap (λ k. rows_of width k names) (let e : 0 + b ≡ b = omega arith in e)
    ∙ ap (λ k. rows_of width b (drop k names)) (let e : 0 ≡ 0 * width = omega arith in e)
rows_append width (suc a) b names =
    ap (λ k. rows_of width k names) (let e : suc a + b ≡ suc (a + b) = omega arith in e)
    ∙ ap (λ rs. take width names ∷ rs) (rows_append width a b (drop width names))
    ∙ ap (λ l. (take width names ∷ rows_of width a (drop width names)) ++ rows_of width b l)
    (drop-drop (a * width) width names ∙ ap (λ k. drop k names) (let e : width + a * width ≡ suc a * width = omega arith in e))

pub ended_append : (ts us : List (List ℕ)) → ended (ts ++ us) ≡ ended ts ++ ended us
ended_append [] us = refl
ended_append (t ∷ ts) us =
    ap (λ s. t ++ 10 ∷ s) (ended_append ts us) ∙ sym (append_assoc t (10 ∷ ended ts) (ended us))

abbrev pub row_lines : ℕ → ℕ → List (List ℕ) → List ℕ
row_lines width height names = ended (map spaced (rows_of width height names))

lines_append : (width a b : ℕ) (names : List (List ℕ)) → row_lines width (a + b) names ≡ row_lines width a names ++ row_lines width b (drop (a * width) names)
lines_append width a b names =
    ap (λ rs. ended (map spaced rs)) (rows_append width a b names)
    ∙ ap ended (map-append spaced (rows_of width a names) (rows_of width b (drop (a * width) names)))
    ∙ ended_append (map spaced (rows_of width a names)) (map spaced (rows_of width b (drop (a * width) names)))

-- one more row
pub row_more : (width y : ℕ) (names : List (List ℕ)) → row_lines width (y + 1) names ≡ row_lines width y names ++ (spaced (take width (drop (y * width) names)) ++ 10 ∷ [])
row_more width y names = lines_append width y 1 names

-- the rows around one
pub row_split : (width height y : ℕ) (names : List (List ℕ)) → y < height → row_lines width height names ≡ row_lines width y names ++ ((spaced (take width (drop (y * width) names)) ++ 10 ∷ []) ++ row_lines width (height - (y + 1)) (drop width (drop (y * width) names)))
row_split width height y names lt =
    ap (λ k. row_lines width k names) (let e : height ≡ y + suc (height - (y + 1)) = omega (arith, lt) in e)
    ∙ lines_append width y (suc (height - (y + 1))) names
    ∙ ap (λ s. row_lines width y names ++ s)
    (sym (append_assoc (spaced (take width (drop (y * width) names))) (10 ∷ []) (row_lines width (height - (y + 1)) (drop width (drop (y * width) names)))))

-- a part was taken, after others
pub sent_part : (old mid new : Option (List ℕ)) (held kept left xs ys text : List ℕ) → text ≡ xs ++ ys → Sent old mid held kept xs → Sent mid new kept left ys → Sent old new held left text
sent_part old mid new held kept left xs ys text is a b = subst (λ (t : List ℕ). Sent old new held left t) (sym is) (sent_more old mid new held kept left xs ys a b)

-- a name of a row was printed, with the byte behind it
module _ (width : ℕ) (row : List (List ℕ)) (len : length row ≡ width) (x : ℕ) (t : List ℕ) (at : slice_get row x ≡ Some t) (behind : ℕ) (is : behind ≡ behind_name width x) where
  pub cell_sent : (old mid new : Option (List ℕ)) (held kept left : List ℕ) → Sent old mid held kept (cells width 0 (take x row)) → Sent mid new kept left (t ++ behind ∷ []) → Sent old new held left (cells width 0 (take (x + 1) row))
  cell_sent old mid new held kept left before cell =
      sent_part old mid new held kept left (cells width 0 (take x row)) (t ++ behind_name width x ∷ []) (cells width 0 (take (x + 1) row)) (cell_more width row len x t at) before
      (subst (λ (b : ℕ). Sent mid new kept left (t ++ b ∷ [])) is cell)

  pub cell_cut : {T U E : Type 0} (old mid new : Option (List ℕ)) (held kept left : List ℕ) (a b c : ℕ) (q : Result T E) (r : Result U E) → 1 ≤ width → Sent old mid held kept (cells width 0 (take x row)) → a ≤ b → IsErr q → IsErr r → Emits (outlet mid kept b) (outlet new left c) (t ++ behind ∷ []) q
      → Emits (outlet old held a) (outlet new left c) (spaced row ++ 10 ∷ []) r
  cell_cut old mid new held kept left a b c q r some before le err out cell =
      cut_part old mid new held kept left a b c (cells width 0 (take x row)) (t ++ behind_name width x ∷ []) (cells width (x + 1) (drop (x + 1) row)) (spaced row ++ 10 ∷ []) q r
      (sym (whole_row width row len some) ∙ cell_split width row len x t at) before le err out
      (subst (λ (d : ℕ). Emits (outlet mid kept b) (outlet new left c) (t ++ d ∷ []) q) is cell)

-- all names of a row were printed
pub row_done : {E : Type 0} (width : ℕ) (row : List (List ℕ)) (x : ℕ) (old new : Option (List ℕ)) (held left : List ℕ) (a c : ℕ) → length row ≡ width → 1 ≤ width → width ≤ x → Sent old new held left (cells width 0 (take x row)) → a ≤ c
    → Emits {T = Unit {0}} {E = E} (outlet old held a) (outlet new left c) (spaced row ++ 10 ∷ []) (Ok tt)
row_done width row x old new held left a c len some le s later =
    all_parts old new held left a c (cells width 0 (take x row)) (spaced row ++ 10 ∷ [])
    (sym (whole_row width row len some) ∙ ap (cells width 0) (sym (take_all x row (omega (arith, le, len))))) s later

-- all rows were printed
pub rows_done : {E : Type 0} (width height y : ℕ) (names : List (List ℕ)) (old new : Option (List ℕ)) (held left : List ℕ) (a c : ℕ) → y ≡ height → Sent old new held left (row_lines width y names) → a ≤ c
    → Emits {T = Unit {0}} {E = E} (outlet old held a) (outlet new left c) (row_lines width height names) (Ok tt)
rows_done width height y names old new held left a c is s later =
    all_parts old new held left a c (row_lines width y names) (row_lines width height names) (ap (λ k. row_lines width k names) (sym is)) s later
