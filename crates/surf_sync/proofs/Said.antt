-- What rules over numbers say.
use Rattle.std.specs.Prelude.{slice_get, Option}
use Rattle.std.proofs.Common.{◌≡◌, ℕ, zero, suc, ◌+◌, ◌<◌, List, [], ◌∷◌, ◌++◌, map, length, take, get_or, Some, append_assoc, append-nil, sym, refl, ap, ◌∙◌, subst, arith}
use Rattle.std.proofs.lemmas.List.{map-append, take_more}
use Rattle.std.proofs.lemmas.Option.{slice_get-map, slice_get-get_or, get_or_from_slice_get}
use Rattle.std.specs.Option.{option_map}
use Rattle.surf_rules.specs.declared.rule.Rule.{Rule}
use Rattle.surf_world.specs.Systems as systems
use Rattle.surf_world.specs.Renamings.{renamed_rule}
use Rattle.surf_world.specs.Worlds.{rule_of}
use Rattle.surf_sync.specs.declared.code.Code.{Code}
use Rattle.surf_sync.specs.Codes.{Mark, Protocol, read, read_rule}
use Rattle.surf_sync.specs.Codes.Mark.{Cell}
use Rattle.surf_sync.specs.Listing.{Adds, Name, Say, said, spelled}
use Rattle.surf_sync.specs.Phases.{Knows, StandFrom, read_by, reads_of, state_of}
use Rattle.surf_sync.specs.declared.phase.Shown.{Shown}
use Rattle.surf_sync.specs.Moved.{moved}
use Rattle.surf_sync.specs.Rules.{below}
use Rattle.surf_sync.proofs.Loops.{map_one_more}
use Rattle.surf_sync.proofs.Numbered.{below_at}
use Rattle.surf_sync.specs.Spelling.{spell}

-- the text of the number at a place
pub name_at : (texts : List (List ℕ)) (numbers : List ℕ) (ts : List (List ℕ)) → Name texts numbers ts → (i : ℕ) (t : List ℕ) → slice_get ts i ≡ Some t → (k : ℕ) × (slice_get numbers i ≡ Some k) × (slice_get texts k ≡ Some t)
name_at texts numbers [] n i t e = absurd cc
name_at texts [] (u ∷ ts) n i t e = absurd cc
name_at texts (k ∷ ns) (u ∷ ts) n zero t e = let h : slice_get texts k ≡ Some u = cc in (k, refl, h ∙ e)
name_at texts (k ∷ ns) (u ∷ ts) n (suc i) t e = let h : map (slice_get texts) ns ≡ map Some ts = cc in name_at texts ns ts h i t e

pub said_read : (texts : List (List ℕ)) (r : Rule) (left right after : ℕ) (P : Protocol) (reader : Code) (m : Mark) (v : ℕ) → rule_of r ≡ read_by left right after →
    slice_get texts left ≡ Some (spell (Cell reader)) → slice_get texts right ≡ Some (spell m) → slice_get texts after ≡ Some (spell (Cell (read P reader v))) → said texts r ≡ spelled (read_rule P reader m v)
said_read texts r left right after P reader m v is a b c =
    ap (renamed_rule (slice_get texts)) is
    ∙ ap (λ x. let s : systems.Rule (Option (List ℕ)) = record { rate = 1000000; left = x; right = Some (slice_get texts right); left_after = slice_get texts after; right_after = Some (slice_get texts right) } in s) a
    ∙ ap (λ x. let s : systems.Rule (Option (List ℕ)) = record { rate = 1000000; left = Some (spell (Cell reader)); right = Some x; left_after = slice_get texts after; right_after = Some x } in s) b
    ∙ ap (λ x. let s : systems.Rule (Option (List ℕ)) = record { rate = 1000000; left = Some (spell (Cell reader)); right = Some (Some (spell m)); left_after = x; right_after = Some (Some (spell m)) } in s) c

-- ---- rules that are added one after another

pub adds_none : (texts : List (List ℕ)) (rules : List Rule) → Adds texts rules [] rules
adds_none texts rules known e = subst (Say texts rules) (sym (append-nil known)) e

pub adds_then : (texts : List (List ℕ)) (a : List Rule) (xs : List (systems.Rule Mark)) (b : List Rule) (ys : List (systems.Rule Mark)) (c : List Rule) → Adds texts a xs b → Adds texts b ys c → Adds texts a (xs ++ ys) c
adds_then texts a xs b ys c f g known e = subst (Say texts c) (append_assoc known xs ys) (g (known ++ xs) (f known e))

pub adds_one : (texts : List (List ℕ)) (a : List Rule) (r : Rule) (R : systems.Rule Mark) (b : List Rule) → b ≡ a ++ r ∷ [] → said texts r ≡ spelled R → Adds texts a (R ∷ []) b
adds_one texts a r R b pushed says known e =
    ap (map (said texts)) pushed
    ∙ map-append (said texts) a (r ∷ [])
    ∙ ap (λ xs. xs ++ said texts r ∷ []) e
    ∙ ap (λ x. map spelled known ++ x ∷ []) says
    ∙ sym (map-append spelled known (R ∷ []))

pub adds_more : (texts : List (List ℕ)) (a : List Rule) (xs ys zs : List (systems.Rule Mark)) (b c : List Rule) → Adds texts a xs b → Adds texts b ys c → zs ≡ xs ++ ys → Adds texts a zs c
adds_more texts a xs ys zs b c f g is = subst (λ ws. Adds texts a ws c) (sym is) (adds_then texts a xs b ys c f g)

-- what a reader becomes by a state, and the rule by which it reads a mark that shows the state
pub mark_read : (texts : List (List ℕ)) (P : Protocol) (reader : Code) (left : ℕ) (afters : List ℕ) (m : Mark) (v right : ℕ) (before : List Rule) (r : Rule) (after : List Rule) →
    Knows texts P reader left afters → v < length afters → slice_get texts right ≡ Some (spell m) → rule_of r ≡ read_by left right (get_or afters v 0) → after ≡ before ++ r ∷ [] →
    Adds texts before (read_rule P reader m v ∷ []) after
mark_read texts P reader left afters m v right before r after knows small named is pushed =
    let state : slice_get (map (λ s. spell (Cell (read P reader s))) (below (length afters))) v ≡ Some (spell (Cell (read P reader v))) =
    slice_get-map (λ s. spell (Cell (read P reader s))) (below (length afters)) v ∙ ap (option_map (λ s. spell (Cell (read P reader s)))) (below_at 0 (length afters) v small ∙ ap Some (let z : 0 + v ≡ v = omega arith in z)) in
    let a = name_at texts afters (map (λ s. spell (Cell (read P reader s))) (below (length afters))) knows.turned v (spell (Cell (read P reader v))) state in
    let turned : a.0 ≡ get_or afters v 0 = sym (get_or_from_slice_get afters v a.0 0 a.1) in
    adds_one texts before r (read_rule P reader m v) after pushed
    (said_read texts r left right (get_or afters v 0) P reader m v is knows.own named (subst (λ x. slice_get texts x ≡ Some (spell (Cell (read P reader v)))) turned a.2))

-- one code more is read
pub one_read : (texts : List (List ℕ)) (P : Protocol) (reader : Code) (g k : ℕ) (shown : Shown) (left : ℕ) (afters numbers : List ℕ) (start : ℕ) (codes : List Code) (i : ℕ) (d : Code) (before : List Rule) (r : Rule) (after : List Rule) →
    Knows texts P reader left afters → StandFrom texts numbers start (map (moved g k) codes) → i < length codes →
    state_of shown (get_or codes i d) < length afters →
    rule_of r ≡ read_by left (get_or numbers (start + i) 0) (get_or afters (state_of shown (get_or codes i d)) 0) →
    after ≡ before ++ r ∷ [] →
    Adds texts before (read_rule P reader (Cell (moved g k (get_or codes i d))) (state_of shown (get_or codes i d)) ∷ []) after
one_read texts P reader g k shown left afters numbers start codes i d before r after knows stand h small is pushed =
    let c : Code = get_or codes i d in
    let at : slice_get (map (moved g k) codes) i ≡ Some (moved g k c) = slice_get-map (moved g k) codes i ∙ ap (option_map (moved g k)) (slice_get-get_or codes i d h) in
    let n = stand i (moved g k c) at in
    let right : n.0 ≡ get_or numbers (start + i) 0 = sym (get_or_from_slice_get numbers (start + i) n.0 0 n.1) in
    mark_read texts P reader left afters (Cell (moved g k c)) (state_of shown c) (get_or numbers (start + i) 0) before r after knows small (subst (λ x. slice_get texts x ≡ Some (spell (Cell (moved g k c)))) right n.2) is pushed

pub reads_more : (P : Protocol) (reader : Code) (shown : Shown) (g k : ℕ) (codes : List Code) (i : ℕ) (d : Code) → i < length codes →
    reads_of P reader shown g k (take (i + 1) codes) ≡ reads_of P reader shown g k (take i codes) ++ read_rule P reader (Cell (moved g k (get_or codes i d))) (state_of shown (get_or codes i d)) ∷ []
reads_more P reader shown g k codes i d h =
    ap (reads_of P reader shown g k) (take_more codes i d h)
    ∙ map-append (λ c. read_rule P reader (Cell (moved g k c)) (state_of shown c)) (take i codes) (get_or codes i d ∷ [])

-- one number more
pub name_push : (texts : List (List ℕ)) (numbers : List ℕ) (f : ℕ → List ℕ) (n number : ℕ) (after : List ℕ) → Name texts numbers (map f (below n)) → slice_get texts number ≡ Some (f n) → after ≡ numbers ++ number ∷ [] → Name texts after (map f (below (n + 1)))
name_push texts numbers f n number after named is pushed =
    ap (map (slice_get texts)) pushed
    ∙ map-append (slice_get texts) numbers (number ∷ [])
    ∙ ap (λ xs. xs ++ slice_get texts number ∷ []) named
    ∙ ap (λ x. map Some (map f (below n)) ++ x ∷ []) is
    ∙ sym (map-append Some (map f (below n)) (f n ∷ []))
    ∙ ap (map Some) (sym (map_one_more f n))
