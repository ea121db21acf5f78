-- A reader that keeps rules and sites within the limits reads the grammar.
use Rattle.std.proofs.Common.{ℕ, zero, suc, ◌≡◌, ◌+◌, ◌-◌, ◌⊎◌, inl, inr, List, [], ◌∷◌, ◌++◌, length, take, map, refl, ◌∙◌, ap, arith, not, ◌==◌, nat_lt, is_some, Option, Some, None, Result, Ok, Err, length-append, append_assoc}
use Rattle.std.proofs.lemmas.List.{take_all, length-take-le}
use Rattle.std.proofs.lemmas.Bool.{ltb-false, cases_lt}
use Rattle.surf_manifest_lines.specs.declared.error.ManifestError.{ManifestError}
use Rattle.surf_manifest_lines.specs.declared.error.ManifestError.TheVariants as faults
use Rattle.surf_manifest_lines.specs.declared.error.Block.TheVariants as blocks
use Rattle.surf_manifest_lines.specs.declared.line.BlockKind.{BlockKind}
use Rattle.surf_manifest_lines.specs.declared.line.BlockKind.TheVariants.{Rules, State, Colormap}
use Rattle.surf_text.specs.Bytes.{lines_of}
use Rattle.surf_manifest_lines.specs.Line.{Line, Skipped, Opens, Closes, Includes, Unknown, Content, line_of}
use Rattle.surf_manifest_lines.specs.Item.{Item, Geometry, Wrap, Kept, Rule, Row, Colour, item_of}
use Rattle.surf_manifest.specs.Grammar.{ManifestText, Parts, Known, open_fault, item_fault, line_fault, text_fault, unless_fault, manifest_from, finish, manifest_of}
use Rattle.surf_manifest.specs.Steps.{with_part, with_result, next, nothing, run_from}
use Rattle.surf_manifest.specs.Limits.{Held, held_of, with_names, holding, holding_result, reached, parts_held, known_by, counted, after_line, finished, read_on, at_start}
use Rattle.surf_manifest.specs.Naming.{with_texts}
use Rattle.surf_rules.specs.Names.{with_text}
use Rattle.surf_manifest.proofs.StepLemmas.{steps_read}
use Rattle.surf_manifest.proofs.Good.{none_if}

pub take_more : {X : Type 0} (n : ℕ) (xs ys : List X) → take n (take n xs ++ ys) ≡ take n (xs ++ ys)
take_more zero xs ys = refl
take_more (suc n) [] ys = refl
take_more (suc n) (x ∷ xs) ys = ap (λ v. x ∷ v) (take_more n xs ys)

pub take_nil : {X : Type 0} (n : ℕ) (xs : List X) → xs ≡ [] → take n xs ≡ []
take_nil zero xs is = refl
take_nil (suc n) [] is = refl
take_nil (suc n) (x ∷ xs) is = cc

-- a part more
holds_more : (ns : List (List ℕ)) (p : Parts) (i : Item) → holding (held_of ns p) i ≡ held_of (holding (held_of ns p) i).names (with_part p i)
holds_more ns p (Geometry k) = refl
holds_more ns p (Wrap b) = refl
holds_more ns p (Kept o) = refl
holds_more ns p (Colour t) = refl
holds_more ns p (Rule r) = rw (take_more 1048576 p.rules (r ∷ []), length-append p.rules (r ∷ [])) refl
holds_more ns p (Row names) = rw (take_more 33554432 p.start names, length-append p.start names) refl

holds_result : (ns : List (List ℕ)) (p : Parts) (r : Result Item ManifestError) → holding_result (held_of ns p) r ≡ held_of (holding_result (held_of ns p) r).names (with_result p r)
holds_result ns p (Ok i) = holds_more ns p i
holds_result ns p (Err f) = refl

-- the same step
pub after_is : (ns : List (List ℕ)) (c : Known) (l : Line) → after_line (reached ns c) l ≡ reached (after_line (reached ns c) l).held.names (next c l)
after_is ns c Skipped = refl
after_is ns c (Opens p) = refl
after_is ns c (Closes p) = refl
after_is ns c Includes = refl
after_is ns c Unknown = refl
after_is ns c (Content t) =
    ap (λ (h : Held). counted (record (reached ns c) { held = h })) (holds_result ns c.parts (item_of c.number c.block t))

open_is : (ns : List (List ℕ)) (c : Known) (p : BlockKind) (o : Option BlockKind) → open_fault (known_by (reached ns c)) p o ≡ open_fault c p o
open_is ns c Rules None = refl
open_is ns c State None = refl
open_is ns c Colormap None = refl
open_is ns c p (Some q) = refl

item_is : (ns : List (List ℕ)) (n : ℕ) (p : Parts) (r : Result Item ManifestError) → item_fault n (parts_held (held_of ns p)) r ≡ item_fault n p r
item_is ns n p (Err f) = refl
item_is ns n p (Ok (Geometry k)) = refl
item_is ns n p (Ok (Wrap b)) = refl
item_is ns n p (Ok (Kept o)) = refl
item_is ns n p (Ok (Rule r)) = refl
item_is ns n p (Ok (Row names)) = refl
item_is ns n p (Ok (Colour t)) = refl

fault_is : (ns : List (List ℕ)) (c : Known) (l : Line) → line_fault (known_by (reached ns c)) l ≡ line_fault c l
fault_is ns c Skipped = refl
fault_is ns c (Opens p) = open_is ns c p c.block
fault_is ns c (Closes p) = refl
fault_is ns c Includes = refl
fault_is ns c Unknown = refl
fault_is ns c (Content t) = item_is ns c.number c.parts (item_of c.number c.block t)

-- within the limits everything is held
unless_same : (o : Option ManifestError) (a b : ManifestText) → (o ≡ None → a ≡ b) → unless_fault o (Ok a) ≡ unless_fault o (Ok b)
unless_same None a b h = ap (λ v. Ok v) (h refl)
unless_same (Some f) a b h = refl

within : (ns : List (List ℕ)) (c : Known) → text_fault c c.parts ≡ None → manifest_from c.has_colours (parts_held (held_of ns c.parts)) ≡ manifest_from c.has_colours c.parts
within ns c f =
    let p = c.parts in
    let f1 = none_if (is_some c.block) (faults.Unclosed c.opened) _ f in
    let f2 = none_if (not c.has_rules) (faults.MissingBlock blocks.Rules) _ f1.1 in
    let f3 = none_if (not c.has_state) (faults.MissingBlock blocks.State) _ f2.1 in
    let f4 = none_if (p.height == 0) faults.NoSites _ f3.1 in
    let f5 = none_if (nat_lt 1048576 (length p.rules)) (faults.TooManyRules (length p.rules)) _ f4.1 in
    let f6 = none_if (nat_lt 33554432 (length p.start)) (faults.TooManySites (length p.start)) _ f5.1 in
    rw (take_all 1048576 p.rules (ltb-false 1048576 (length p.rules) f5.0), take_all 33554432 p.start (ltb-false 33554432 (length p.start) f6.0)) refl

finish_is : (ns : List (List ℕ)) (c : Known) → finished (reached ns c) ≡ finish c
finish_is ns c = unless_same (text_fault c c.parts) (manifest_from c.has_colours (parts_held (held_of ns c.parts))) (manifest_from c.has_colours c.parts) (within ns c)

run_is : (ns : List (List ℕ)) (c : Known) (ls : List Line) → read_on (reached ns c) ls ≡ run_from c ls
run_is ns c [] = finish_is ns c
run_is ns c (l ∷ ls) =
    ap (λ o. unless_fault o (read_on (after_line (reached ns c) l) ls)) (fault_is ns c l)
    ∙ ap (λ r. unless_fault (line_fault c l) r) (ap (λ s. read_on s ls) (after_is ns c l) ∙ run_is (after_line (reached ns c) l).held.names (next c l) ls)

pub reads_on : (bytes : List ℕ) → read_on at_start (map line_of (lines_of bytes)) ≡ manifest_of bytes
reads_on bytes = run_is [] nothing (map line_of (lines_of bytes)) ∙ steps_read bytes

-- names in turn
texts_more : (ns : List (List ℕ)) (k j : ℕ) (t : List ℕ) (ts : List (List ℕ)) → ((k ≡ 0) × (j ≡ 0)) ⊎ (k ≡ suc j) → with_texts (with_texts ns (take k (t ∷ []))) (take j ts) ≡ with_texts ns (take k (t ∷ ts))
texts_more ns k j t ts w = elim w [
  | inl none ↦ rw (none.0, none.1) refl
  | inr some ↦ rw some (ap (λ v. with_texts (with_texts (with_text ns t) v) (take j ts)) (take_nil j [] refl))
]

room_left : (n : ℕ) (xs : List (List ℕ)) (t : List ℕ) → ((n - length xs ≡ 0) × (n - length (take n (xs ++ t ∷ [])) ≡ 0)) ⊎ (n - length xs ≡ suc (n - length (take n (xs ++ t ∷ []))))
room_left n xs t =
    let more = length-append xs (t ∷ []) in
    elim (cases_lt (length xs) n) [
      | inl lt ↦
          let whole = ap length (take_all n (xs ++ t ∷ []) (omega (arith, lt, more))) in
          inr (omega (arith, lt, more, whole))
      | inr le ↦
          let full = length-take-le n (xs ++ t ∷ []) (omega (arith, le, more)) in
          inl (omega (arith, le), omega (arith, full))
    ]

pub names_more : (h : Held) (t : List ℕ) (ts : List (List ℕ)) → with_names (with_names h (t ∷ [])) ts ≡ with_names h (t ∷ ts)
names_more h t ts =
    let e : h.site_count + 1 + length ts ≡ h.site_count + suc (length ts) = omega arith in
    let names = texts_more h.names (33554432 - length h.start) (33554432 - length (take 33554432 (h.start ++ t ∷ []))) t ts (room_left 33554432 h.start t) in
    rw (names, take_more 33554432 (h.start ++ t ∷ []) ts, append_assoc h.start (t ∷ []) ts, e) refl
