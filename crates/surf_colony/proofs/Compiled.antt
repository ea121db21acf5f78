-- Colonies over the numbers of their names.
use Rattle.std.specs.Prelude.{slice_get, get_or}
use Rattle.std.specs.List.{flat_map, list_all}
use Rattle.std.specs.Option.{option_map}
use Rattle.std.proofs.Common.{◌≡◌, ℕ, zero, suc, ◌+◌, ◌*◌, ◌/◌, ◌<◌, ◌≤◌, Bool, List, [], ◌∷◌, map, length, length-append, Option, Some, None, Result, IfOk, All, IfSome, true, false, sym, refl, ap, ◌∙◌, subst, inl, inr, arith}
use Rattle.std.proofs.lemmas.List.Elements.{All-nil, All-cons}
use Rattle.std.proofs.lemmas.List.{length-map}
use Rattle.std.proofs.lemmas.Nat.{div-mul-add, mul-le}
use Rattle.std.proofs.lemmas.Option.{slice_get-get_or, slice_get_within}
use Rattle.std.proofs.lemmas.Result.{IfOk-weaker}
use Rattle.surf_lattice.specs.Grids.{Grid, sites}
use Rattle.surf_rules.specs.Names.{text_of, with_text}
use Rattle.surf_rules.specs.declared.rule.Rule.{Rule}
use Rattle.surf_world.specs.Renamings.{RuleBelow, renamed_rule}
use Rattle.surf_world.specs.Systems as systems
use Rattle.surf_world.specs.Worlds.{rule_of}
use Rattle.surf_auto.specs.Locals.{rule_count_in}
use Rattle.surf_auto.specs.Sync.{IsUniverse, Universe}
use Rattle.surf_manifest.specs.Drafts.{named_rule, NamesBelow, RulesBelow}
use Rattle.surf_manifest_lines.specs.Item.{is_name}
use Rattle.surf_manifest.proofs.Growth.{text_at, texts_with}
use Rattle.surf_sync.specs.Codes.{IsCode, IsMark, Mark, Protocol, fields_by, phase, protocol}
use Rattle.surf_sync.specs.Codes.Mark.{Cell, Frame}
use Rattle.surf_sync.specs.Listing.{Keeps, Name, Say, block_marks, frame_marks, generation_marks, marks_of, said, spelled, with_texts}
use Rattle.surf_sync.specs.Moved.{all_texts, frame_texts}
use Rattle.surf_sync.specs.Rules.{below, codes_of, sync_rules, turns_by}
use Rattle.surf_sync.specs.Spelling.{spell}
use Rattle.surf_sync.proofs.Few.{few_degree, texts_few}
use Rattle.surf_sync.proofs.Growing.{few_all}
use Rattle.surf_sync.proofs.Listed.{codes_has, holds_reads}
use Rattle.surf_sync.proofs.Members.{Has, below_has, flat_has, has_append, has_later, map_has}
use Rattle.surf_sync.proofs.Loops.{map_map}
use Rattle.surf_sync.proofs.Moved.{all_spelled, frame_length}
use Rattle.surf_sync.proofs.Numbered.{count_is}
use Rattle.surf_world.proofs.Places.{sites_length}
use Rattle.surf_colony.specs.Colonies.{StartsWithin, border, first_mark, framed, printed}
use Rattle.surf_colony.specs.InStep.{IsLast, KeepsInStep}
use Rattle.surf_colony.specs.Parts.{AreParts}
use Rattle.surf_colony.proofs.Built.{plan_of}
use Rattle.surf_colony.proofs.Plans.{protocol_of}
use Rattle.surf_colony.proofs.Printed.{mark_small, printed_synchrony, whole}
use Rattle.surf_colony.proofs.Starts.{mark_name}

-- ---- texts that keep their numbers

pub longer_kept : (a b : List (List ℕ)) → Keeps a b → length a ≤ length b
longer_kept [] b keeps = omega arith
longer_kept (t ∷ ts) b keeps =
    let w : length ts < length b = slice_get_within b (length ts) (get_or (t ∷ ts) (length ts) []) (keeps (length ts) (get_or (t ∷ ts) (length ts) []) (slice_get-get_or (t ∷ ts) (length ts) [] (omega arith))) in
    omega (arith, w)

some_kept : (a b : List (List ℕ)) → Keeps a b → (o : Option ℕ) (p : Option Mark) → option_map (slice_get a) o ≡ option_map (λ m. Some (spell m)) p → option_map (slice_get b) o ≡ option_map (λ m. Some (spell m)) p
some_kept a b keeps None None e = refl
some_kept a b keeps None (Some m) e = absurd cc
some_kept a b keeps (Some k) None e = absurd cc
some_kept a b keeps (Some k) (Some m) e = let h : slice_get a k ≡ Some (spell m) = cc in ap Some (keeps k (spell m) h)

rule_kept : (a b : List (List ℕ)) → Keeps a b → (r : Rule) (R : systems.Rule Mark) → said a r ≡ spelled R → said b r ≡ spelled R
rule_kept a b keeps r R e =
    let rate : r.rate ≡ R.rate = ap (λ x. x.rate) e in
    let left = keeps r.left (spell R.left) (ap (λ x. x.left) e) in
    let right = some_kept a b keeps r.right R.right (ap (λ x. x.right) e) in
    let left_after = keeps r.left_after (spell R.left_after) (ap (λ x. x.left_after) e) in
    let right_after = some_kept a b keeps r.right_after R.right_after (ap (λ x. x.right_after) e) in
    rw (rate, left, right, left_after, right_after) refl

say_kept : (a b : List (List ℕ)) → Keeps a b → (rules : List Rule) (marked : List (systems.Rule Mark)) → Say a rules marked → Say b rules marked
say_kept a b keeps [] [] e = refl
say_kept a b keeps [] (R ∷ Rs) e = absurd cc
say_kept a b keeps (r ∷ rs) [] e = absurd cc
say_kept a b keeps (r ∷ rs) (R ∷ Rs) e =
    let h : said a r ≡ spelled R = cc in
    let t : map (said a) rs ≡ map spelled Rs = cc in
    ap (λ x. x ∷ map (said b) rs) (rule_kept a b keeps r R h) ∙ ap (λ xs. spelled R ∷ xs) (say_kept a b keeps rs Rs t)

-- ---- what rules over numbers are

some_said : (texts : List (List ℕ)) (o : Option ℕ) (p : Option Mark) → option_map (slice_get texts) o ≡ option_map (λ m. Some (spell m)) p → IfSome o (λ k. k < length texts) × (option_map (text_of texts) o ≡ option_map spell p)
some_said texts None None e = (tt, refl)
some_said texts None (Some m) e = absurd cc
some_said texts (Some k) None e = absurd cc
some_said texts (Some k) (Some m) e = let h : slice_get texts k ≡ Some (spell m) = cc in (slice_get_within texts k (spell m) h, ap Some (text_at texts k (spell m) h))

rule_said : (texts : List (List ℕ)) (r : Rule) (R : systems.Rule Mark) → said texts r ≡ spelled R → RuleBelow (length texts) (rule_of r) × (named_rule texts r ≡ renamed_rule spell R)
rule_said texts r R e =
    let rate : r.rate ≡ R.rate = ap (λ x. x.rate) e in
    let a : slice_get texts r.left ≡ Some (spell R.left) = ap (λ x. x.left) e in
    let b : slice_get texts r.left_after ≡ Some (spell R.left_after) = ap (λ x. x.left_after) e in
    let p = some_said texts r.right R.right (ap (λ x. x.right) e) in
    let q = some_said texts r.right_after R.right_after (ap (λ x. x.right_after) e) in (
      record { left = slice_get_within texts r.left (spell R.left) a; right = p.0; left_after = slice_get_within texts r.left_after (spell R.left_after) b; right_after = q.0 },
      rw (rate, text_at texts r.left (spell R.left) a, p.1, text_at texts r.left_after (spell R.left_after) b, q.1) refl,
    )

pub record Sound (texts : List (List ℕ)) (rules : List Rule) (marked : List (systems.Rule Mark)) : Type 0 where
  pub numbers : RulesBelow (length texts) rules
  pub named : map (named_rule texts) rules ≡ map (renamed_rule spell) marked
  pub count : length rules ≡ length marked

sound : (texts : List (List ℕ)) (rules : List Rule) (marked : List (systems.Rule Mark)) → Say texts rules marked → Sound texts rules marked
sound texts [] [] e = record { numbers = All-nil (λ r. RuleBelow (length texts) (rule_of r)); named = refl; count = refl }
sound texts [] (R ∷ Rs) e = absurd cc
sound texts (r ∷ rs) [] e = absurd cc
sound texts (r ∷ rs) (R ∷ Rs) e =
    let h : said texts r ≡ spelled R = cc in
    let t : map (said texts) rs ≡ map spelled Rs = cc in
    let one = rule_said texts r R h in
    let rest = sound texts rs Rs t in
    record {
      numbers = All-cons (λ r. RuleBelow (length texts) (rule_of r)) r rs one.0 rest.numbers;
      named = ap (λ x. x ∷ map (named_rule texts) rs) one.1 ∙ ap (λ xs. renamed_rule spell R ∷ xs) rest.named;
      count = ap suc rest.count;
    }

rates : (texts : List (List ℕ)) (rules : List Rule) (marked : List (systems.Rule Mark)) → Say texts rules marked → ((R : systems.Rule Mark) → Has marked R → R.rate ≡ 1000000) → All (λ r. r.rate ≤ 1000000000000) rules
rates texts [] marked e one = All-nil (λ r. r.rate ≤ 1000000000000)
rates texts (r ∷ rs) [] e one = absurd cc
rates texts (r ∷ rs) (R ∷ Rs) e one =
    let h : said texts r ≡ spelled R = cc in
    let t : map (said texts) rs ≡ map spelled Rs = cc in
    let same : r.rate ≡ R.rate = ap (λ x. x.rate) h in
    let is = one R (0, refl) in
    All-cons (λ r. r.rate ≤ 1000000000000) r rs (omega (arith, same, is)) (rates texts rs Rs t (λ S m. one S (has_later R Rs S m)))

-- ---- numbers that name texts

pub record Placed (texts : List (List ℕ)) (numbers : List ℕ) (ts : List (List ℕ)) : Type 0 where
  pub within : NamesBelow (length texts) numbers
  pub named : map (text_of texts) numbers ≡ ts
  pub count : length numbers ≡ length ts

pub placed : (texts : List (List ℕ)) (numbers : List ℕ) (ts : List (List ℕ)) → Name texts numbers ts → Placed texts numbers ts
placed texts [] [] e = record { within = All-nil (λ k. k < length texts); named = refl; count = refl }
placed texts [] (t ∷ ts) e = absurd cc
placed texts (n ∷ ns) [] e = absurd cc
placed texts (n ∷ ns) (t ∷ ts) e =
    let h : slice_get texts n ≡ Some t = cc in
    let r : map (slice_get texts) ns ≡ map Some ts = cc in
    let rest = placed texts ns ts r in
    record {
      within = All-cons (λ k. k < length texts) n ns (slice_get_within texts n t h) rest.within;
      named = ap (λ x. x ∷ map (text_of texts) ns) (text_at texts n t h) ∙ ap (λ xs. t ∷ xs) rest.named;
      count = ap suc rest.count;
    }

-- ---- the names of a colony

texts_all : (old ts : List (List ℕ)) → list_all is_name old ≡ true → ((t : List ℕ) → Has ts t → is_name t ≡ true) → list_all is_name (with_texts old ts) ≡ true
texts_all old [] h e = h
texts_all old (t ∷ ts) h e = texts_all (with_text old t) ts (texts_with old t h (e t (0, refl))) (λ u m. e u (has_later t ts u m))

marks_are : (P : Protocol) → 0 < P.rule.phases → (m : Mark) → Has (marks_of P) m → IsMark P m
unfolding marks_of
marks_are P some m h = elim (has_append (frame_marks P) (flat_map (generation_marks P) (below (fields_by P.last P.rule.phases))) m h) [
  | inl a ↦
      let k = map_has Frame (below (suc P.rule.degree)) m a in
      subst (IsMark P) (sym k.2) (below_has (suc P.rule.degree) k.0 k.1)
  | inr b ↦
      let g = flat_has (generation_marks P) (below (fields_by P.last P.rule.phases)) m b in
      let k = flat_has (block_marks P g.0) (below (suc P.rule.degree)) m g.2 in
      let c = map_has Cell (codes_of P (phase P.rule g.0) g.0 k.0) m k.2 in
      let w = codes_has P (phase P.rule g.0) g.0 k.0 c.0 (below_has (fields_by P.last P.rule.phases) g.0 g.1) refl (below_has (suc P.rule.degree) k.0 k.1) c.1 in
      subst (IsMark P) (sym c.2) w.2
]

any_edge : (P Q : Protocol) → P.rule ≡ Q.rule → P.last ≡ Q.last → (m : Mark) → IsMark P m → IsMark Q m
any_edge P Q a b (Frame k) h = subst (λ R. k < suc R.degree) a h
any_edge P Q a b (Cell c) h = subst (λ l. IsCode Q.rule l c) b (subst (λ R. IsCode R P.last c) a h)

-- ---- what a colony's names and rules are

pub are_parts : (U : Universe) (last : Option ℕ) → IsUniverse U → StartsWithin U → IsLast last U.rule.phases → 0 < turns_by last U.rule.phases → rule_count_in (turns_by last U.rule.phases) U.rule ≤ 1048576 →
    (names : List (List ℕ)) (rules : List Rule) → names ≡ with_texts [] (map spell (marks_of (protocol U.rule 0 last))) → Say names rules (sync_rules (protocol U.rule U.edge last)) → AreParts names rules
are_parts U last is within ok turns small names rules named say =
    let P : Protocol = protocol U.rule U.edge last in
    let N : Protocol = protocol U.rule 0 last in
    let ts : List (List ℕ) = map spell (marks_of N) in
    let some = is.is_local.some_phase in
    let w = whole last U.rule.phases ok in
    let all : list_all is_name (with_texts [] ts) ≡ true = texts_all [] ts refl (λ t h.
    let m = map_has spell (marks_of N) t h in
    subst (λ u. is_name u ≡ true) (sym m.2) (mark_name m.0 (mark_small U last is within ok m.0 (any_edge N (protocol_of (plan_of U last)) refl refl m.0 (marks_are N some m.0 m.1))))) in
    let long : length ts ≡ suc U.rule.degree + length (all_texts U.rule (fields_by last U.rule.phases)) =
    ap length (sym (all_spelled N)) ∙ length-append (frame_texts (suc U.rule.degree)) (all_texts U.rule (fields_by last U.rule.phases)) ∙ ap (λ n. n + length (all_texts U.rule (fields_by last U.rule.phases))) (frame_length (suc U.rule.degree)) in
    let few = texts_few U.rule last (few_degree U.rule.degree is.is_local.known) some w turns in
    let most = few_all [] ts in
    let room : length (with_texts [] ts) ≤ 2147483648 = omega (arith, long, few, most, small) in
    let s = sound names rules (sync_rules P) say in
    record {
      texts = subst (λ ns. list_all is_name ns ≡ true) (sym named) all;
      room = subst (λ ns. length ns ≤ 2147483648) (sym named) room;
      below = s.numbers;
      rates = rates names rules (sync_rules P) say (λ R m. let o = (holds_reads P some w).only m.0 R m.1 in ap (λ x. x.rate) o.4);
      few = subst (λ n. n ≤ 1048576) (sym (s.count ∙ count_is P)) small;
    }

pub system_is : (U : Universe) (last : Option ℕ) (names grown : List (List ℕ)) (rules : List Rule) (start : List ℕ) (grid : Grid) → Keeps names grown → grid ≡ framed U.grid →
    Name grown start (map (λ s. spell (first_mark U s)) (sites (framed U.grid))) → Say names rules (sync_rules (protocol U.rule U.edge last)) →
    (let S : systems.System (List ℕ) = record { surface = record { grid = grid; rules = map (named_rule grown) rules }; start = map (text_of grown) start } in S) ≡ printed U last
system_is U last names grown rules start grid keeps on name say =
    let s = sound grown rules (sync_rules (protocol U.rule U.edge last)) (say_kept names grown keeps rules (sync_rules (protocol U.rule U.edge last)) say) in
    let p = placed grown start (map (λ s. spell (first_mark U s)) (sites (framed U.grid))) name in
    let q : map (text_of grown) start ≡ map spell (map (first_mark U) (sites (framed U.grid))) = p.named ∙ sym (map_map spell (first_mark U) (sites (framed U.grid))) in
    rw (on, s.named, q) refl

-- ---- what is made of them, with a last generation or without

pub colony_in : {X E : Type 0} (r : Result X E) (system : X → systems.System (List ℕ)) (U : Universe) (last : Option ℕ) (names : List (List ℕ)) (rules : List Rule) →
    IfOk r (λ m. (l : Option ℕ) → Say names rules (sync_rules (protocol U.rule U.edge l)) → system m ≡ printed U l) → Say names rules (sync_rules (protocol U.rule U.edge last)) → IfOk r (λ m. system m ≡ printed U last)
colony_in r system U last names rules made say =
    IfOk-weaker r (λ m. (l : Option ℕ) → Say names rules (sync_rules (protocol U.rule U.edge l)) → system m ≡ printed U l) (λ m. system m ≡ printed U last) (λ m is. is last say) made

pub in_step_in : {X E : Type 0} (r : Result X E) (system : X → systems.System (List ℕ)) (U : Universe) (last : Option ℕ) → IsUniverse U → StartsWithin U → IsLast last U.rule.phases → IfOk r (λ m. system m ≡ printed U last) → IfOk r (λ m. KeepsInStep U last (system m))
in_step_in r system U last is within ok made =
    IfOk-weaker r (λ m. system m ≡ printed U last) (λ m. KeepsInStep U last (system m)) (λ m e. subst (KeepsInStep U last) (sym e) (printed_synchrony U last is within ok)) made

pub sites_placed : (U : Universe) (names : List (List ℕ)) (start : List ℕ) → Name names start (map (λ s. spell (first_mark U s)) (sites (framed U.grid))) → length start ≡ (framed U.grid).width * (framed U.grid).height
sites_placed U names start name = (placed names start (map (λ s. spell (first_mark U s)) (sites (framed U.grid))) name).count ∙ length-map (sites (framed U.grid)) (λ s. spell (first_mark U s)) ∙ sites_length (framed U.grid)

-- ---- few sites and few generations

self_mul : (w h : ℕ) → 1 ≤ h → w ≤ w * h
self_mul w zero le = absurd (omega (arith, le))
self_mul w (suc h) le = omega arith

framed_size : (wrap : Bool) (w h : ℕ) → 1 ≤ w → 1 ≤ h → w * h ≤ 1000000 → (w + 2 * border wrap) * (h + 2 * border wrap) ≤ 33554432
framed_size true w h a b m = omega (arith, m)
framed_size false w h a b m =
    let p = self_mul w h b in
    let q : h ≤ w * h = (let r = self_mul h w a in omega (arith, r)) in
    omega (arith, m, p, q)

pub framed_few : (U : Universe) → IsUniverse U → (framed U.grid).width * (framed U.grid).height ≤ 33554432
framed_few U is =
    let one = is.one_per_site in
    let few = is.few_sites in
    framed_size U.grid.wrap U.grid.width U.grid.height is.is_grid.wide is.is_grid.high (omega (arith, one, few))

pub last_turns : (last n : ℕ) → 0 < n → turns_by (Some (last * n)) n ≡ last
last_turns last n some =
    let z : last * n ≡ last * n + 0 = omega arith in
    ap (λ m. m / n) z ∙ div-mul-add last n 0 some

pub is_last : (last n : ℕ) → last ≤ 1000000 → n ≤ 16 → IsLast (Some (last * n)) n
is_last last n a b = (last, refl, (let m = mul-le last n 1000000 16 a b in omega (arith, m)))
