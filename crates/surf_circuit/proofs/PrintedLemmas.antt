-- The text of a layout's surface, one step after another.
use Rattle.std.proofs.Common.{ℕ, zero, suc, ◌≡◌, ◌+◌, false, List, [], ◌∷◌, ◌++◌, None, Some, map, take, codes, refl, sym, ◌∙◌, ap, arith, append-nil, slice_get, slice_index_or}
use Rattle.std.proofs.lemmas.List.{map-append}
use Rattle.std.proofs.lemmas.Option.{slice_get_past}
use Rattle.surf_lattice.specs.declared.site.GridKind.TheVariants.{Square}
use Rattle.surf_text.specs.Bytes.{ended, rows_of, spaced}
use Rattle.surf_rules.specs.declared.rule.Rule.{Rule}
use Rattle.surf_tiles.specs.declared.kind.Kind.{Kind}
use Rattle.surf_tiles.specs.declared.kind.Kind.TheVariants.{Empty, Input, Value, Wire, A, B, H, V, P, Q, Gate1, Gate2, Centre}
use Rattle.surf_tiles.specs.Kinds.{name_of}
use Rattle.surf_tiles.specs.Reactions.{reactions}
use Rattle.surf_tiles.specs.Rules.{SayAll}
use Rattle.surf_settle.specs.Indices.{all_kinds, kind_index}
use Rattle.surf_settle.specs.Law.{Plan}
use Rattle.surf_settle.specs.Settling.{blank_names}
use Rattle.surf_settle.proofs.Listed.{at_index}
use Rattle.surf_settle.proofs.Said.{named}
use Rattle.surf_manifest.specs.Drafts.{named_rule}
use Rattle.surf_manifest_print.specs.Legends.{LegendText}
use Rattle.surf_manifest_print.specs.Rows.{short_text}
use Rattle.surf_manifest_print.specs.Prints.{geometry_text, legend_lines, print_lines, print_of, rule_text, state_block, wrap_text}
use Rattle.surf_manifest_print.proofs.PrintLemmas.{block, manifest_put, then_lines}
use Rattle.surf_circuit.specs.Surfaces.{layout_system, plain_manifest}

-- the names of kinds are short
short_name : (k : Kind) → short_text (name_of k) ≡ 32 ∷ name_of k
short_name Empty = refl
short_name Input = refl
short_name (Value v) = refl
short_name Wire = refl
short_name A = refl
short_name B = refl
short_name H = refl
short_name V = refl
short_name P = refl
short_name Q = refl
short_name Centre = refl
short_name (Gate1 f t) = refl
short_name (Gate2 t00 t01 t10 t11) = refl

at_kind : (kinds : List Kind) (i : ℕ) (k : Kind) (d : List ℕ) → slice_get kinds i ≡ Some k → slice_index_or (map (λ x. short_text (name_of x)) kinds) i d ≡ short_text (name_of k)
at_kind [] i k d at = absurd (cc (sym (slice_get_past [] i (omega arith)) ∙ at))
at_kind (x ∷ xs) zero k d at = let is : x ≡ k = cc in ap (λ v. short_text (name_of v)) is
at_kind (x ∷ xs) (suc i) k d at = at_kind xs i k d at

-- what stands in the table is the name with its blank
pub short_of : (shorts : List (List ℕ)) (k : Kind) (d : List ℕ) → shorts ≡ map (λ x. short_text (name_of x)) all_kinds → slice_index_or shorts (kind_index k) d ≡ 32 ∷ name_of k
short_of shorts k d is = ap (λ v. slice_index_or v (kind_index k) d) is ∙ (at_kind all_kinds (kind_index k) k d (at_index k) ∙ short_name k)

-- the table gets one name more
pub shorts_more : (kinds : List Kind) (n : ℕ) (k : Kind) (old new : List (List ℕ)) → old ≡ map (λ x. short_text (name_of x)) (take n kinds) → new ≡ old ++ short_text (name_of k) ∷ []
    → take (n + 1) kinds ≡ take n kinds ++ k ∷ [] → new ≡ map (λ x. short_text (name_of x)) (take (n + 1) kinds)
shorts_more kinds n k old new so_far put next =
    let short = λ (x : Kind). short_text (name_of x) in
    put ∙ ap (λ v. v ++ short_text (name_of k) ∷ []) so_far ∙ sym (ap (map short) next ∙ map-append short (take n kinds) (k ∷ []))

module _ (L : Plan) (l : LegendText) (texts : List (List ℕ)) (rules : List Rule) where
  pub layout_printed : (z a b c d e f new : List ℕ) → z ≡ [] → a ≡ z ++ ended (legend_lines (Some l)) → b ≡ a ++ (geometry_text Square ++ 10 ∷ []) → c ≡ b ++ (wrap_text false ++ 10 ∷ [])
      → d ≡ c ++ ended (codes "!START_TRANSITION_RULES" ∷ (map rule_text (map (named_rule texts) rules) ++ (codes "!END_TRANSITION_RULES" ∷ [])))
      → e ≡ d ++ (codes "!START_INIT_STATE" ++ 10 ∷ [])
      → f ≡ e ++ ended (map spaced (rows_of L.width L.height (blank_names L)))
      → new ≡ f ++ (codes "!END_INIT_STATE" ++ 10 ∷ []) → SayAll texts rules reactions → new ≡ print_of (plain_manifest (layout_system L)) (Some l)
  layout_printed z a b c d e f new p q r s t u v w said =
      let m = plain_manifest (layout_system L) in
      let lined = λ (x : List (List ℕ)). ended (codes "!START_TRANSITION_RULES" ∷ (x ++ (codes "!END_TRANSITION_RULES" ∷ []))) in
      let state : new ≡ d ++ ended (state_block m) =
      block (codes "!START_INIT_STATE") (map spaced (rows_of L.width L.height (blank_names L))) (codes "!END_INIT_STATE") d e f new u v w in
      let ruled = t ∙ ap (λ x. c ++ lined (map rule_text x)) (named texts rules reactions said) in
      let put : new ≡ a ++ print_of m None = manifest_put m a b c c d new new r s (sym (append-nil c)) ruled state (sym (append-nil new)) in
      then_lines (legend_lines (Some l)) (print_lines m None) [] a new (q ∙ ap (λ x. x ++ ended (legend_lines (Some l))) p) put
