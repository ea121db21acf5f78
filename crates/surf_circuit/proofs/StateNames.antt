-- The names of the states among the names of a manifest.
use Rattle.std.proofs.Common.{ℕ, zero, suc, ◌≡◌, true, false, List, [], ◌∷◌, map, length, get_or, slice_get, Option, Some, None, refl, sym, ◌∙◌, ap, subst, arith}
use Rattle.std.specs.Prelude.{slice_index_or}
use Rattle.std.specs.Cmp.{IsEquivalence}
use Rattle.std.specs.List.{Contains, IsDistinct}
use Rattle.std.specs.Option.{option_and_then, option_map}
use Rattle.std.specs.Str.{bytes_eq}
use Rattle.std.proofs.lemmas.Bool.Decides.{same_from_decides}
use Rattle.std.proofs.lemmas.Map.Made.{IsDistinct-from_AllPairs, IsDistinct-from_count, is_member-Decides, length-from_same_keys}
use Rattle.std.proofs.lemmas.Option.{get_or_from_slice_get, slice_get-get_or, slice_get-map, slice_get_past, slice_get_within}
use Rattle.std.proofs.lemmas.Slice.Eq.{bytes_eq-Decides}
use Rattle.surf_rules.specs.Names.{AreDistinct}
use Rattle.surf_rules.specs.declared.rule.Rule.{Rule}
use Rattle.surf_tiles.specs.declared.kind.Kind.{Kind}
use Rattle.surf_tiles.specs.declared.kind.Kind.TheVariants.{Empty, Input, Value, Wire, A, B, H, V, P, Q, Gate1, Gate2, Centre}
use Rattle.surf_tiles.specs.declared.reaction.Reaction.{Reaction}
use Rattle.surf_tiles.specs.declared.reaction.Reaction.TheVariants.{PortReads, AcrossReads, DownReads, ReadsLastA, ReadsLastB}
use Rattle.surf_tiles.specs.declared.state.Port.TheVariants.{AtA, AtB, AtH, AtV}
use Rattle.surf_tiles.specs.declared.state.State.{State}
use Rattle.surf_tiles.specs.declared.state.State.TheVariants.{Dot, Unset, Bit, BlankWire, Held, BlankP, BlankQ, OneGate, TwoGate, WaitsA, WaitsB, Crossing}
use Rattle.surf_tiles.specs.Kinds.{name_of}
use Rattle.surf_tiles.specs.Reactions.{reader, outcome, reactions}
use Rattle.surf_tiles.specs.Rules.{IsGrown, Says, SayAll}
use Rattle.surf_tiles.specs.States.{spell}
use Rattle.surf_tiles.proofs.Growing.{grown_then}
use Rattle.surf_settle.specs.Indices.{kind_index}
use Rattle.surf_circuit.specs.Numbering.{AreStateNames, AreStates, NumbersAll}

abbrev IsIn : List (List ℕ) → List ℕ → Type 0
IsIn texts t = (i : ℕ) × (slice_get texts i ≡ Some t)

said_at : (texts : List (List ℕ)) (rules : List Rule) (rs : List Reaction) (i : ℕ) (r : Reaction) → SayAll texts rules rs → slice_get rs i ≡ Some r → (rule : Rule) × Says texts rule r
said_at texts [] [] i r h at = absurd (cc (sym (slice_get_past [] i (omega arith)) ∙ at))
said_at texts [] (x ∷ xs) i r h at = absurd h
said_at texts (y ∷ ys) [] i r h at = absurd h
said_at texts (y ∷ ys) (x ∷ xs) zero r h at = let is : x ≡ r = cc in (y, subst (Says texts y) is h.0)
said_at texts (y ∷ ys) (x ∷ xs) (suc i) r h at = said_at texts ys xs i r h.1 at

number_in : (texts : List (List ℕ)) (o : Option ℕ) (t : List ℕ) → option_and_then (slice_get texts) o ≡ Some t → IsIn texts t
number_in texts None t at = absurd cc
number_in texts (Some k) t at = (k, at)

-- each state is a kind's blank name, or one that a reaction reads or makes
module _ (texts : List (List ℕ)) (rules : List Rule) (numbers : List ℕ) (said : SayAll texts rules reactions) (all : NumbersAll texts numbers) where
  kind_in : (k : Kind) → IsIn texts (name_of k)
  kind_in k = (slice_index_or numbers (kind_index k) 0, all k)

  reader_in : (i : ℕ) (r : Reaction) → slice_get reactions i ≡ Some r → IsIn texts (spell (reader r))
  reader_in i r at = let h = said_at texts rules reactions i r said at in number_in texts h.0.right _ h.1.right

  outcome_in : (i : ℕ) (r : Reaction) → slice_get reactions i ≡ Some r → IsIn texts (spell (outcome r))
  outcome_in i r at = let h = said_at texts rules reactions i r said at in number_in texts h.0.right_after _ h.1.right_after

  state_in : (s : State) → IsIn texts (spell s)
  unfolding reactions
  state_in Dot = kind_in Empty
  state_in Unset = kind_in Input
  state_in (Bit false) = kind_in (Value false)
  state_in (Bit true) = kind_in (Value true)
  state_in BlankWire = kind_in Wire
  state_in (Held AtA None) = kind_in A
  state_in (Held AtA (Some false)) = outcome_in 2 (PortReads AtA false) refl
  state_in (Held AtA (Some true)) = outcome_in 3 (PortReads AtA true) refl
  state_in (Held AtB None) = kind_in B
  state_in (Held AtB (Some false)) = outcome_in 4 (PortReads AtB false) refl
  state_in (Held AtB (Some true)) = outcome_in 5 (PortReads AtB true) refl
  state_in (Held AtH None) = kind_in H
  state_in (Held AtH (Some false)) = outcome_in 6 (PortReads AtH false) refl
  state_in (Held AtH (Some true)) = outcome_in 7 (PortReads AtH true) refl
  state_in (Held AtV None) = kind_in V
  state_in (Held AtV (Some false)) = outcome_in 8 (PortReads AtV false) refl
  state_in (Held AtV (Some true)) = outcome_in 9 (PortReads AtV true) refl
  state_in BlankP = kind_in P
  state_in BlankQ = kind_in Q
  state_in (OneGate false false) = kind_in (Gate1 false false)
  state_in (OneGate false true) = kind_in (Gate1 false true)
  state_in (OneGate true false) = kind_in (Gate1 true false)
  state_in (OneGate true true) = kind_in (Gate1 true true)
  state_in (TwoGate false false false false) = kind_in (Gate2 false false false false)
  state_in (TwoGate false false false true) = kind_in (Gate2 false false false true)
  state_in (TwoGate false false true false) = kind_in (Gate2 false false true false)
  state_in (TwoGate false false true true) = kind_in (Gate2 false false true true)
  state_in (TwoGate false true false false) = kind_in (Gate2 false true false false)
  state_in (TwoGate false true false true) = kind_in (Gate2 false true false true)
  state_in (TwoGate false true true false) = kind_in (Gate2 false true true false)
  state_in (TwoGate false true true true) = kind_in (Gate2 false true true true)
  state_in (TwoGate true false false false) = kind_in (Gate2 true false false false)
  state_in (TwoGate true false false true) = kind_in (Gate2 true false false true)
  state_in (TwoGate true false true false) = kind_in (Gate2 true false true false)
  state_in (TwoGate true false true true) = kind_in (Gate2 true false true true)
  state_in (TwoGate true true false false) = kind_in (Gate2 true true false false)
  state_in (TwoGate true true false true) = kind_in (Gate2 true true false true)
  state_in (TwoGate true true true false) = kind_in (Gate2 true true true false)
  state_in (TwoGate true true true true) = kind_in (Gate2 true true true true)
  state_in (WaitsA false false) = reader_in 106 (ReadsLastA false false false) refl
  state_in (WaitsA false true) = reader_in 108 (ReadsLastA false true false) refl
  state_in (WaitsA true false) = reader_in 110 (ReadsLastA true false false) refl
  state_in (WaitsA true true) = reader_in 112 (ReadsLastA true true false) refl
  state_in (WaitsB false false) = reader_in 114 (ReadsLastB false false false) refl
  state_in (WaitsB false true) = reader_in 116 (ReadsLastB false true false) refl
  state_in (WaitsB true false) = reader_in 118 (ReadsLastB true false false) refl
  state_in (WaitsB true true) = reader_in 120 (ReadsLastB true true false) refl
  state_in (Crossing None None) = kind_in Centre
  state_in (Crossing None (Some false)) = outcome_in 24 (DownReads None false) refl
  state_in (Crossing None (Some true)) = outcome_in 25 (DownReads None true) refl
  state_in (Crossing (Some false) None) = outcome_in 18 (AcrossReads None false) refl
  state_in (Crossing (Some false) (Some false)) = outcome_in 20 (AcrossReads (Some false) false) refl
  state_in (Crossing (Some false) (Some true)) = outcome_in 22 (AcrossReads (Some true) false) refl
  state_in (Crossing (Some true) None) = outcome_in 19 (AcrossReads None true) refl
  state_in (Crossing (Some true) (Some false)) = outcome_in 21 (AcrossReads (Some false) true) refl
  state_in (Crossing (Some true) (Some true)) = outcome_in 23 (AcrossReads (Some true) true) refl

every : List State
every =
    Dot ∷ Unset ∷ Bit false ∷ Bit true ∷ BlankWire ∷ Held AtA None ∷ Held AtA (Some false) ∷ Held AtA (Some true)
    ∷ Held AtB None ∷ Held AtB (Some false) ∷ Held AtB (Some true) ∷ Held AtH None ∷ Held AtH (Some false)
    ∷ Held AtH (Some true) ∷ Held AtV None ∷ Held AtV (Some false) ∷ Held AtV (Some true) ∷ BlankP ∷ BlankQ
    ∷ OneGate false false ∷ OneGate false true ∷ OneGate true false ∷ OneGate true true
    ∷ TwoGate false false false false ∷ TwoGate false false false true ∷ TwoGate false false true false
    ∷ TwoGate false false true true ∷ TwoGate false true false false ∷ TwoGate false true false true
    ∷ TwoGate false true true false ∷ TwoGate false true true true ∷ TwoGate true false false false
    ∷ TwoGate true false false true ∷ TwoGate true false true false ∷ TwoGate true false true true
    ∷ TwoGate true true false false ∷ TwoGate true true false true ∷ TwoGate true true true false
    ∷ TwoGate true true true true ∷ WaitsA false false ∷ WaitsA false true ∷ WaitsA true false ∷ WaitsA true true
    ∷ WaitsB false false ∷ WaitsB false true ∷ WaitsB true false ∷ WaitsB true true ∷ Crossing None None
    ∷ Crossing None (Some false) ∷ Crossing None (Some true) ∷ Crossing (Some false) None
    ∷ Crossing (Some false) (Some false) ∷ Crossing (Some false) (Some true) ∷ Crossing (Some true) None
    ∷ Crossing (Some true) (Some false) ∷ Crossing (Some true) (Some true) ∷ []

names : List (List ℕ)
names = map spell every

listed : (s : State) → IsIn names (spell s)
unfolding names every
listed Dot = (0, refl)
listed Unset = (1, refl)
listed (Bit false) = (2, refl)
listed (Bit true) = (3, refl)
listed BlankWire = (4, refl)
listed (Held AtA None) = (5, refl)
listed (Held AtA (Some false)) = (6, refl)
listed (Held AtA (Some true)) = (7, refl)
listed (Held AtB None) = (8, refl)
listed (Held AtB (Some false)) = (9, refl)
listed (Held AtB (Some true)) = (10, refl)
listed (Held AtH None) = (11, refl)
listed (Held AtH (Some false)) = (12, refl)
listed (Held AtH (Some true)) = (13, refl)
listed (Held AtV None) = (14, refl)
listed (Held AtV (Some false)) = (15, refl)
listed (Held AtV (Some true)) = (16, refl)
listed BlankP = (17, refl)
listed BlankQ = (18, refl)
listed (OneGate false false) = (19, refl)
listed (OneGate false true) = (20, refl)
listed (OneGate true false) = (21, refl)
listed (OneGate true true) = (22, refl)
listed (TwoGate false false false false) = (23, refl)
listed (TwoGate false false false true) = (24, refl)
listed (TwoGate false false true false) = (25, refl)
listed (TwoGate false false true true) = (26, refl)
listed (TwoGate false true false false) = (27, refl)
listed (TwoGate false true false true) = (28, refl)
listed (TwoGate false true true false) = (29, refl)
listed (TwoGate false true true true) = (30, refl)
listed (TwoGate true false false false) = (31, refl)
listed (TwoGate true false false true) = (32, refl)
listed (TwoGate true false true false) = (33, refl)
listed (TwoGate true false true true) = (34, refl)
listed (TwoGate true true false false) = (35, refl)
listed (TwoGate true true false true) = (36, refl)
listed (TwoGate true true true false) = (37, refl)
listed (TwoGate true true true true) = (38, refl)
listed (WaitsA false false) = (39, refl)
listed (WaitsA false true) = (40, refl)
listed (WaitsA true false) = (41, refl)
listed (WaitsA true true) = (42, refl)
listed (WaitsB false false) = (43, refl)
listed (WaitsB false true) = (44, refl)
listed (WaitsB true false) = (45, refl)
listed (WaitsB true true) = (46, refl)
listed (Crossing None None) = (47, refl)
listed (Crossing None (Some false)) = (48, refl)
listed (Crossing None (Some true)) = (49, refl)
listed (Crossing (Some false) None) = (50, refl)
listed (Crossing (Some false) (Some false)) = (51, refl)
listed (Crossing (Some false) (Some true)) = (52, refl)
listed (Crossing (Some true) None) = (53, refl)
listed (Crossing (Some true) (Some false)) = (54, refl)
listed (Crossing (Some true) (Some true)) = (55, refl)

laws : IsEquivalence bytes_eq
laws = record {
  refl = λ x. (bytes_eq-Decides x x).1 refl;
  symm = λ x y. same_from_decides _ _ (bytes_eq-Decides x y) (λ e. sym ((bytes_eq-Decides y x).0 e), λ e. (bytes_eq-Decides y x).1 (sym e));
  congr = λ x y z e. ap (λ t. bytes_eq t z) ((bytes_eq-Decides x y).0 e);
}

names_distinct : IsDistinct bytes_eq names
unfolding names every
names_distinct = IsDistinct-from_count laws names refl

is_distinct : (texts : List (List ℕ)) → AreDistinct texts → IsDistinct bytes_eq texts
is_distinct texts h =
    IsDistinct-from_AllPairs bytes_eq-Decides texts
    (λ i j d l m e. let same : i ≡ j = h i j (get_or texts j d) (slice_get-get_or texts i d (omega (arith, l, m)) ∙ ap (λ t. Some t) e) (slice_get-get_or texts j d m) in omega (arith, same, l))

state_of : (o : Option State) (t : List ℕ) → option_map spell o ≡ Some t → (s : State) × (t ≡ spell s)
state_of None t at = absurd cc
state_of (Some s) t at = (s, cc)

names_states : AreStates names
unfolding names
names_states i t at = state_of (slice_get every i) t (sym (slice_get-map spell every i) ∙ at)

to_in : (texts : List (List ℕ)) (t : List ℕ) → Contains texts t → IsIn texts t
to_in texts t h = (h.0, slice_get-get_or texts h.0 t h.1 ∙ ap (λ u. Some u) h.2)

from_in : (texts : List (List ℕ)) (t : List ℕ) → IsIn texts t → Contains texts t
from_in texts t h = (h.0, slice_get_within texts h.0 t h.1, get_or_from_slice_get texts h.0 t t h.1)

-- what has each state's name has what has none but these
moved : (texts more : List (List ℕ)) → AreStates texts → ((s : State) → IsIn more (spell s)) → (t : List ℕ) → Contains texts t → Contains more t
moved texts more states all t h =
    let at = to_in texts t h in
    let s = states at.0 t at.1 in
    from_in more t (subst (IsIn more) (sym s.1) (all s.0))

counted : (texts : List (List ℕ)) → AreStates texts → ((s : State) → IsIn texts (spell s)) → AreDistinct texts → length texts ≡ 56
unfolding names every
counted texts states all distinct =
    length-from_same_keys laws texts names (is_distinct texts distinct) names_distinct
    (λ q. let at = is_member-Decides bytes_eq-Decides names q in
    same_from_decides _ _ (is_member-Decides bytes_eq-Decides texts q)
    (λ e. moved names texts names_states all q (at.0 e), λ h. at.1 (moved texts names states listed q h)))

-- the names of the rules, and then of the kinds
pub state_names : (none texts more : List (List ℕ)) (rules : List Rule) (numbers : List ℕ) → none ≡ [] → IsGrown 366 none texts → IsGrown 32 texts more → SayAll more rules reactions → NumbersAll more numbers → AreDistinct more → AreStateNames more
state_names none texts more rules numbers is g h said all distinct =
    let grown = grown_then 366 32 398 none texts more (omega arith) g h in
    let states : AreStates more = λ i t at. grown.new i t (omega (arith, ap length is)) at in
    record {
      states = states;
      all = state_in more rules numbers said all;
      distinct = distinct;
      count = counted more states (state_in more rules numbers said all) distinct;
    }
