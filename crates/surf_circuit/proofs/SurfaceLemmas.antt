-- The manifest of a layout.
use Rattle.std.proofs.Common.{ℕ, zero, suc, ◌≡◌, ◌<◌, Bool, true, false, ◌&&◌, List, [], ◌∷◌, map, length, slice_get, Option, Some, None, refl, ◌∙◌, ap, arith, unwrap_or, IfSome}
use Rattle.std.specs.Prelude.{slice_index_or}
use Rattle.std.specs.List.{list_all}
use Rattle.std.specs.Option.{option_and_then}
use Rattle.std.proofs.lemmas.Bool.{false≢true}
use Rattle.std.proofs.lemmas.List.{length-map}
use Rattle.std.proofs.lemmas.Option.{slice_get_within}
use Rattle.surf_lattice.specs.Grids.{Grid}
use Rattle.surf_rules.specs.Names.{text_of}
use Rattle.surf_rules.specs.declared.rule.Rule.{Rule}
use Rattle.surf_world.specs.Systems as systems
use Rattle.surf_tiles.specs.declared.kind.Kind.{Kind}
use Rattle.surf_tiles.specs.declared.reaction.Reaction.{Reaction}
use Rattle.surf_tiles.specs.declared.state.Port.TheVariants.{AtA, AtB, AtH, AtV}
use Rattle.surf_tiles.specs.declared.state.State.{State}
use Rattle.surf_tiles.specs.declared.state.State.TheVariants.{Dot, Unset, Bit, BlankWire, Held, BlankP, BlankQ, OneGate, TwoGate, WaitsA, WaitsB, Crossing}
use Rattle.surf_tiles.specs.Kinds.{blank, name_of}
use Rattle.surf_tiles.specs.Reactions.{giver, reader, outcome, reactions}
use Rattle.surf_tiles.specs.Rules.{IsGrown, SayAll}
use Rattle.surf_tiles.specs.States.{spell}
use Rattle.surf_tiles.proofs.Growing.{grown_then}
use Rattle.surf_settle.specs.Law.{Plan, grid_of}
use Rattle.surf_settle.specs.Plans.{IsLayout}
use Rattle.surf_settle.specs.Settling.{circuit_rules}
use Rattle.surf_settle.proofs.Said.{named}
use Rattle.surf_manifest.specs.Drafts.{NamesBelow, RulesBelow, named_rule}
use Rattle.surf_manifest_lines.specs.Item.{is_name}
use Rattle.surf_manifest.specs.WellFormed.{IsWellFormed}
use Rattle.surf_settle.specs.Indices.{kind_index}
use Rattle.surf_circuit.specs.Numbering.{NumbersAll}
use Rattle.surf_circuit.specs.Surfaces.{layout_system, plain_manifest}

-- the name of a state is a name of the manifest grammar
state_name : (s : State) → is_name (spell s) ≡ true
state_name Dot = refl
state_name Unset = refl
state_name BlankWire = refl
state_name BlankP = refl
state_name BlankQ = refl
state_name (Bit false) = refl
state_name (Bit true) = refl
state_name (Held AtA None) = refl
state_name (Held AtA (Some false)) = refl
state_name (Held AtA (Some true)) = refl
state_name (Held AtB None) = refl
state_name (Held AtB (Some false)) = refl
state_name (Held AtB (Some true)) = refl
state_name (Held AtH None) = refl
state_name (Held AtH (Some false)) = refl
state_name (Held AtH (Some true)) = refl
state_name (Held AtV None) = refl
state_name (Held AtV (Some false)) = refl
state_name (Held AtV (Some true)) = refl
state_name (OneGate false false) = refl
state_name (OneGate false true) = refl
state_name (OneGate true false) = refl
state_name (OneGate true true) = refl
state_name (WaitsA false false) = refl
state_name (WaitsA false true) = refl
state_name (WaitsA true false) = refl
state_name (WaitsA true true) = refl
state_name (WaitsB false false) = refl
state_name (WaitsB false true) = refl
state_name (WaitsB true false) = refl
state_name (WaitsB true true) = refl
state_name (Crossing None None) = refl
state_name (Crossing None (Some false)) = refl
state_name (Crossing None (Some true)) = refl
state_name (Crossing (Some false) None) = refl
state_name (Crossing (Some false) (Some false)) = refl
state_name (Crossing (Some false) (Some true)) = refl
state_name (Crossing (Some true) None) = refl
state_name (Crossing (Some true) (Some false)) = refl
state_name (Crossing (Some true) (Some true)) = refl
state_name (TwoGate false false false false) = refl
state_name (TwoGate false false false true) = refl
state_name (TwoGate false false true false) = refl
state_name (TwoGate false false true true) = refl
state_name (TwoGate false true false false) = refl
state_name (TwoGate false true false true) = refl
state_name (TwoGate false true true false) = refl
state_name (TwoGate false true true true) = refl
state_name (TwoGate true false false false) = refl
state_name (TwoGate true false false true) = refl
state_name (TwoGate true false true false) = refl
state_name (TwoGate true false true true) = refl
state_name (TwoGate true true false false) = refl
state_name (TwoGate true true false true) = refl
state_name (TwoGate true true true false) = refl
state_name (TwoGate true true true true) = refl

abbrev AreStates : List (List ℕ) → Type 0
AreStates texts = (i : ℕ) (t : List ℕ) → slice_get texts i ≡ Some t → (s : State) × (t ≡ spell s)

both : (a b : Bool) → a ≡ true → b ≡ true → (a && b) ≡ true
both a b p q = rw (p, q) refl

states_names : (texts : List (List ℕ)) → AreStates texts → list_all is_name texts ≡ true
states_names [] h = refl
states_names (t ∷ ts) h =
    let s = h zero t refl in
    both (is_name t) (list_all is_name ts) (ap is_name s.1 ∙ state_name s.0) (states_names ts (λ i u at. h (suc i) u at))

-- the names of the rules, and then of the kinds
pub grown_names : (none texts more : List (List ℕ)) → none ≡ [] → IsGrown 366 none texts → IsGrown 32 texts more → list_all is_name more ≡ true
grown_names none texts more is g h =
    let all = grown_then 366 32 398 none texts more (omega arith) g h in
    states_names more (λ i t at. all.new i t (omega (arith, ap length is)) at)

-- the numbers of the rules are in range
second_below : (texts : List (List ℕ)) (o : Option ℕ) (t : List ℕ) → option_and_then (slice_get texts) o ≡ Some t → IfSome o (λ k. k < length texts)
second_below texts None t at = tt
second_below texts (Some k) t at = slice_get_within texts k t at

pub rules_below : (texts : List (List ℕ)) (rules : List Rule) (rs : List Reaction) → SayAll texts rules rs → RulesBelow (length texts) rules
rules_below texts [] rs h k d lt = absurd (omega arith)
rules_below texts (rule ∷ rules) [] h k d lt = absurd h
rules_below texts (rule ∷ rules) (r ∷ rs) h zero d lt = record {
  left = slice_get_within texts rule.left (spell (giver r)) h.0.left;
  right = second_below texts rule.right (spell (reader r)) h.0.right;
  left_after = slice_get_within texts rule.left_after (spell (giver r)) h.0.left_after;
  right_after = second_below texts rule.right_after (spell (outcome r)) h.0.right_after;
}
rules_below texts (rule ∷ rules) (r ∷ rs) h (suc k) d lt = rules_below texts rules rs h.1 k d (omega arith)

-- and so are those of the sites, which are named by their kinds
abbrev number_in : List ℕ → Kind → ℕ
number_in numbers k = slice_index_or numbers (kind_index k) 0

pub start_below : (texts : List (List ℕ)) (numbers : List ℕ) (kinds : List Kind) → NumbersAll texts numbers → NamesBelow (length texts) (map (λ k. slice_index_or numbers (kind_index k) 0) kinds)
start_below texts numbers [] h i d lt = absurd (omega arith)
start_below texts numbers (k ∷ ks) h zero d lt = slice_get_within texts (number_in numbers k) (name_of k) (h k)
start_below texts numbers (k ∷ ks) h (suc i) d lt = start_below texts numbers ks h i d (omega arith)

pub start_named : (texts : List (List ℕ)) (numbers : List ℕ) (kinds : List Kind) → NumbersAll texts numbers → map (text_of texts) (map (λ k. slice_index_or numbers (kind_index k) 0) kinds) ≡ map name_of kinds
start_named texts numbers [] h = refl
start_named texts numbers (k ∷ ks) h =
    ap (λ v. v ∷ map (text_of texts) (map (λ k. slice_index_or numbers (kind_index k) 0) ks)) (ap (λ o. unwrap_or o []) (h k))
    ∙ ap (λ v. name_of k ∷ v) (start_named texts numbers ks h)

-- the surface of a layout is well formed
kind_names : (kinds : List Kind) → list_all is_name (map name_of kinds) ≡ true
kind_names [] = refl
kind_names (k ∷ ks) = both (is_name (name_of k)) (list_all is_name (map name_of ks)) (state_name (blank k)) (kind_names ks)

pub formed : (L : Plan) → IsLayout L → IsWellFormed (plain_manifest (layout_system L))
unfolding reactions
formed L h =
    let sites = length-map L.kinds name_of in
    let count : length circuit_rules ≡ 122 = refl in
    record {
      options = refl;
      few_rules = omega (arith, count);
      rules = refl;
      width = h.wide;
      height = h.high;
      sites = sites ∙ h.lawful.1.long;
      few_sites = omega (arith, sites, h.small);
      joined = λ e. absurd (false≢true e);
      names = kind_names L.kinds;
      colours = refl;
    }

abbrev system_of : Grid → List (systems.Rule (List ℕ)) → List (List ℕ) → systems.System (List ℕ)
system_of g rules start = record { surface = record { grid = g; rules = rules }; start = start }

pub assembled : (L : Plan) (texts : List (List ℕ)) (numbers : List ℕ) (rules : List Rule) (start : List ℕ) (g : Grid)
    → g ≡ grid_of L → SayAll texts rules reactions → NumbersAll texts numbers → start ≡ map (λ k. slice_index_or numbers (kind_index k) 0) L.kinds
    → plain_manifest (system_of g (map (named_rule texts) rules) (map (text_of texts) start)) ≡ plain_manifest (layout_system L)
assembled L texts numbers rules start g grid said all is =
    ap (λ x. plain_manifest (system_of x (map (named_rule texts) rules) (map (text_of texts) start))) grid
    ∙ (ap (λ x. plain_manifest (system_of (grid_of L) x (map (text_of texts) start))) (named texts rules reactions said)
    ∙ ap (λ x. plain_manifest (system_of (grid_of L) circuit_rules x)) (ap (map (text_of texts)) is ∙ start_named texts numbers L.kinds all))
