-- A torus has no margin: it is one source with any.
use Rattle.std.specs.Prelude.{IfOk}
use Rattle.std.proofs.Common.{ℕ, ◌≡◌, ◌+◌, Bool, true, false, List, [], ◌∷◌, length, Option, Some, None, Result, Ok, Err, refl, sym, ◌∙◌, ap, inl, inr, if◌then◌else◌}
use Rattle.std.proofs.lemmas.Bool.{false≢true}
use Rattle.std.proofs.lemmas.Result.{IfOk-at_ok}
use Rattle.surf_lattice.specs.declared.site.GridKind.{GridKind}
use Rattle.surf_text.specs.Bytes.{lines_of, trimmed}
use Rattle.surf_auto.specs.Lines.{is_table}
use Rattle.surf_auto.specs.Sync.{Universe}
use Rattle.surf_auto.specs.declared.error.SourceError.{SourceError}
use Rattle.surf_table.specs.TableLines.{Line, lines_from, end_line}
use Rattle.surf_table.specs.TableTexts.{and_then, read, read_head, read_next, read_size, read_cells, read_table, sums_of, table_of}
use Rattle.surf_rle.specs.Headers.{Header, header_of}
use Rattle.surf_rle.specs.RuleTexts.{RuleText, kind_of}
use Rattle.surf_rle.specs.Rle.{box_read, cells_of, if_header, if_rule, is_skipped, rle_from, rle_of, with_rule}
use Rattle.surf_rle.specs.Patterns.{unless}
use Rattle.surf_rle.specs.Sheets.{sheet_of}
use Rattle.surf_rle.specs.Sources.{Source, Plain}
use Rattle.surf_rle.specs.Tori.{HeaderRule, header_rule_of, torus_fault}
use Rattle.surf_rle.specs.declared.rule.Neighbours.{Neighbours}
use Rattle.surf_rle.specs.declared.rule.Neighbours.TheVariants.{Four, Six, Eight}
use Rattle.surf_rle.specs.declared.sheet.Sheet.{Sheet}
use Rattle.surf_rle.specs.declared.torus.Sides.{Sides}
use Rattle.surf_laws.specs.AutomataRound.{HasNoMargin}
use Rattle.surf_command_automata.specs.Generations.{as_source, source_of, source_grid}

-- a table spells no torus
abbrev IsPlain : Universe → Type 0
IsPlain U = U.grid.wrap ≡ false

then_ok : {A B : Type 0} (P : B → Type 0) (r : Result (A × List Line) SourceError) (more : A → List Line → Result B SourceError) → ((a : A) (ls : List Line) → IfOk (more a ls) P) → IfOk (and_then r more) P
then_ok P (Ok r) more h = h r.0 r.1
then_ok P (Err f) more h = tt

table_plain : (margin : ℕ) (ls : List Line) → IfOk (read_table margin ls) IsPlain
table_plain margin ls0 =
    then_ok IsPlain (read_head ls0) _ (λ head ls1.
    then_ok IsPlain (read_next (sums_of head.degree head.weights) (length head.weights) ls1) _ (λ next ls2.
    then_ok IsPlain (read_size margin ls2) _ (λ size ls3.
    then_ok IsPlain (read_cells margin head.edge (length head.weights) size ls3) _ (λ cells ls4.
    then_ok IsPlain (read end_line ls4) _ (λ end ls5. refl)))))

abbrev IsFlat : Source → Type 0
IsFlat T = (source_grid T).wrap ≡ false

module _ (S : Source) (torus : (source_grid S).wrap ≡ true) where
  -- a source that is no torus isn't S
  none_flat : (r : Result Source SourceError) → IfOk r IsFlat → r ≡ Ok S → ⊥
  none_flat r flat is = false≢true (sym (IfOk-at_ok IsFlat is flat) ∙ torus)

  no_table : (r : Result Universe SourceError) → IfOk r IsPlain → as_source r ≡ Ok S → ⊥
  no_table (Ok U) flat is = none_flat (Ok (Plain U)) flat is
  no_table (Err f) flat is = absurd cc

  flat_cells : (s : Sheet) (r : RuleText) (n : Neighbours) (cells : List ℕ) → (source_grid (cells_of s r n cells)).wrap ≡ s.wrap
  flat_cells s r Four cells = refl
  flat_cells s r Six cells = refl
  flat_cells s r Eight cells = refl

  no_box : (s : Sheet) (r : RuleText) (cells : Result (List ℕ) SourceError) → s.wrap ≡ false → with_rule s r cells ≡ Ok S → ⊥
  no_box s r (Ok cells) flat is = none_flat (Ok (cells_of s r r.neighbours cells)) (flat_cells s r r.neighbours cells ∙ flat) is
  no_box s r (Err f) flat is = absurd cc

  same_grid : (margin n : ℕ) (h : Header) (r : RuleText) (t : Option Sides) (kind : GridKind) (lines : List (List ℕ))
      → unless (torus_fault n kind h t) (with_rule (sheet_of margin kind h t) r (box_read n (sheet_of margin kind h t) lines)) ≡ Ok S
      → unless (torus_fault n kind h t) (with_rule (sheet_of 0 kind h t) r (box_read n (sheet_of 0 kind h t) lines)) ≡ Ok S
  same_grid margin n h r None kind lines is = absurd (no_box (sheet_of margin kind h None) r (box_read n (sheet_of margin kind h None) lines) refl is)
  same_grid margin n h r (Some t) kind lines is = is

  same_rule : (margin n : ℕ) (h : Header) (r : Option HeaderRule) (lines : List (List ℕ)) → if_rule margin n h r lines ≡ Ok S → if_rule 0 n h r lines ≡ Ok S
  same_rule margin n h None lines is = is
  same_rule margin n h (Some r) lines is = same_grid margin n h r.rule r.torus (kind_of r.rule.neighbours) lines is

  same_header : (margin n : ℕ) (h : Option Header) (lines : List (List ℕ)) → if_header margin n h lines ≡ Ok S → if_header 0 n h lines ≡ Ok S
  same_header margin n None lines is = is
  same_header margin n (Some h) lines is = same_rule margin n h (header_rule_of h.rule) lines is

  same_if : (b : Bool) (x y v w : Result Source SourceError) → (x ≡ Ok S → v ≡ Ok S) → (y ≡ Ok S → w ≡ Ok S) → (if b then x else y) ≡ Ok S → (if b then v else w) ≡ Ok S
  same_if true x y v w h k is = h is
  same_if false x y v w h k is = k is

  same_rle : (margin n : ℕ) (lines : List (List ℕ)) → rle_from margin n lines ≡ Ok S → rle_from 0 n lines ≡ Ok S
  same_rle margin n [] is = is
  same_rle margin n (line ∷ lines) is =
      same_if (is_skipped (trimmed line)) (rle_from margin (n + 1) lines) (if_header margin n (header_of (trimmed line)) lines)
      (rle_from 0 (n + 1) lines) (if_header 0 n (header_of (trimmed line)) lines)
      (λ h. same_rle margin (n + 1) lines h) (λ h. same_header margin n (header_of (trimmed line)) lines h) is

  same_torus : (margin : ℕ) (input : List ℕ) → source_of margin input ≡ Ok S → source_of 0 input ≡ Ok S
  same_torus margin input is =
      same_if (is_table input) (as_source (table_of margin input)) (rle_of margin input) (as_source (table_of 0 input)) (rle_of 0 input)
      (λ h. absurd (no_table (table_of margin input) (table_plain margin (lines_from 0 (lines_of input))) h))
      (λ h. same_rle margin 1 (lines_of input) h) is

-- without a margin the source is the one of margin 0
pub spelled_so : (margin : ℕ) (input : List ℕ) (S : Source) → HasNoMargin margin S → source_of margin input ≡ Ok S → source_of 0 input ≡ Ok S
spelled_so margin input S (inl none) is = ap (λ n. source_of n input) (sym none) ∙ is
spelled_so margin input S (inr torus) is = same_torus S torus margin input is
