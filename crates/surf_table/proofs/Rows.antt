-- Rows that are read one after another.
use Rattle.std.proofs.Common.{ℕ, suc, ◌≡◌, ◌-◌, ◌+◌, ◌<◌, ◌≤◌, List, [], ◌∷◌, ◌++◌, map, replicate, Option, Result, Ok, Err, refl, sym, ◌∙◌, ap, arith, append_assoc, append-nil}
use Rattle.std.specs.List.{concat, flat_map, range_with_len}
use Rattle.std.proofs.lemmas.List.Concat.{concat_is}
use Rattle.surf_auto.specs.declared.error.SourceError.{SourceError}
use Rattle.surf_table.specs.TableLines.{Line}
use Rattle.surf_table.specs.TableTexts.{Refuses, and_then, framed, gathered, margin_rows, read, read_all, widened}
use Rattle.surf_table.specs.Readings.{kept_with, each_kept_with, all_kept_with}
use Rattle.surf_table.proofs.Refusals.{refused_first, refused_over, refused_under}

abbrev Expected : Type 0
Expected = List (List ℕ) → Option (List ℕ)

abbrev Row : Type 0
Row = Result (List ℕ × List Line) SourceError

pub plain_kept : (kept : List ℕ) (r : Row) → kept_with kept r ≡ each_kept_with (λ row. row) kept r
plain_kept kept (Err f) = refl
plain_kept kept (Ok r) = refl

module _ (f : List ℕ → List ℕ) where
  one_more : (kept row : List ℕ) (r : Result (List (List ℕ) × List Line) SourceError) →
      all_kept_with f kept (and_then r (λ further behind. Ok (row ∷ further, behind))) ≡ all_kept_with f (kept ++ f row) r
  one_more kept row (Err e) = refl
  one_more kept row (Ok r) = ap (λ v. Ok (v, r.1)) (sym (append_assoc kept (f row) (flat_map f r.0)))

  goes_on : (kept new : List ℕ) (es : List Expected) (ls : List Line) (r : Row) → each_kept_with f kept r ≡ Ok (new, ls) →
      all_kept_with f kept (and_then r (λ row rest. and_then (read_all es rest) (λ further behind. Ok (row ∷ further, behind)))) ≡ all_kept_with f new (read_all es ls)
  goes_on kept new es ls (Err e) h = absurd cc
  goes_on kept new es ls (Ok r) h =
      let p : (kept ++ f r.0, r.1) ≡ (new, ls) = cc in
      let k : kept ++ f r.0 ≡ new = ap (λ (v : List ℕ × List Line). v.0) p in
      let l : r.1 ≡ ls = ap (λ (v : List ℕ × List Line). v.1) p in
      one_more kept r.0 (read_all es r.1) ∙ ap (λ v. all_kept_with f v (read_all es r.1)) k ∙ ap (λ v. all_kept_with f new (read_all es v)) l

  -- a row that was read is kept, and the others are left
  pub row_kept : (kept new : List ℕ) (e : Expected) (es : List Expected) (ls rest : List Line) → each_kept_with f kept (read e ls) ≡ Ok (new, rest) →
      all_kept_with f kept (read_all (e ∷ es) ls) ≡ all_kept_with f new (read_all es rest)
  row_kept kept new e es ls rest h = goes_on kept new es rest (read e ls) h

  back : (kept : List ℕ) (r : Result (List (List ℕ) × List Line) SourceError) (e : SourceError) → all_kept_with f kept r ≡ Err e → r ≡ Err e
  back kept (Err g) e h = let i : g ≡ e = cc in ap (λ v. Err v) i
  back kept (Ok r) e h = absurd cc

  -- the refusal of a row is that of all
  pub row_refused : (base kept : List ℕ) (all : Result (List (List ℕ) × List Line) SourceError) (e : Expected) (es : List Expected) (ls : List Line) (fault : SourceError) →
      all_kept_with f base all ≡ all_kept_with f kept (read_all (e ∷ es) ls) → Refuses (read e ls) fault → Refuses all fault
  row_refused base kept all e es ls fault h r =
      let first : Refuses (read_all (e ∷ es) ls) fault = refused_first (read e ls) (λ row rest. and_then (read_all es rest) (λ further behind. Ok (row ∷ further, behind))) fault r in
      let over : Refuses (all_kept_with f kept (read_all (e ∷ es) ls)) fault = refused_over (all_kept_with f kept) (λ g. refl) (read_all (e ∷ es) ls) fault first in
      refused_under (all_kept_with f base) (back base) all (all_kept_with f kept (read_all (e ∷ es) ls)) fault h over

  pub none_left : (kept : List ℕ) (ls : List Line) → all_kept_with f kept (read_all [] ls) ≡ Ok (kept, ls)
  none_left kept ls = ap (λ v. Ok (v, ls)) (append-nil kept)

pub all_joined : (r : Result (List (List ℕ) × List Line) SourceError) → gathered concat r ≡ all_kept_with (λ row. row) [] r
all_joined (Err e) = refl
all_joined (Ok r) = ap (λ v. Ok (v, r.1)) (concat_is r.0)

pub all_framed : (margin edge width : ℕ) (kept : List ℕ) (ls : List Line) (r : Result (List (List ℕ) × List Line) SourceError) →
    all_kept_with (widened margin edge) (margin_rows margin edge width) r ≡ Ok (kept, ls) →
    gathered (framed margin edge width) r ≡ Ok (kept ++ margin_rows margin edge width, ls)
all_framed margin edge width kept ls (Err e) h = absurd cc
all_framed margin edge width kept ls (Ok r) h =
    let m = margin_rows margin edge width in
    let p : (m ++ flat_map (widened margin edge) r.0, r.1) ≡ (kept, ls) = cc in
    ap (λ v. Ok (v, r.1)) (sym (append_assoc m (flat_map (widened margin edge) r.0) m))
    ∙ ap (λ (v : List ℕ × List Line). Ok (v.0 ++ m, v.1)) p

-- ---- the lines of next states from one on

pub left_one : (a n : ℕ) → a < n → n - a ≡ suc (n - (a + 1))
left_one a n lt = omega arith

pub left_none : (a n : ℕ) → n ≤ a → n - a ≡ 0
left_none a n le = omega arith

pub range_at : (E : ℕ → Expected) (a n : ℕ) → a < n → map E (range_with_len a (n - a)) ≡ E a ∷ map E (range_with_len (a + 1) (n - (a + 1)))
range_at E a n lt = ap (λ k. map E (range_with_len a k)) (left_one a n lt)

pub range_end : (E : ℕ → Expected) (a n : ℕ) → n ≤ a → map E (range_with_len a (n - a)) ≡ []
range_end E a n le = ap (λ k. map E (range_with_len a k)) (left_none a n le)

-- ---- the rows from one on

pub rows_at : (e : Expected) (a n : ℕ) → a < n → replicate (n - a) e ≡ e ∷ replicate (n - (a + 1)) e
rows_at e a n lt = ap (λ k. replicate k e) (left_one a n lt)

pub rows_end : (e : Expected) (a n : ℕ) → n ≤ a → replicate (n - a) e ≡ []
rows_end e a n le = ap (λ k. replicate k e) (left_none a n le)
