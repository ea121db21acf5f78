-- Names are spelled apart, and each reaction has a number.
use Rattle.std.proofs.Common.{◌≡◌, ℕ, zero, suc, Bool, true, false, cond, eqb, Option, Some, None, List, [], ◌∷◌, ◌++◌, refl, sym, ap, ◌∙◌, subst}
use Rattle.std.specs.Prelude.{slice_get}
use Rattle.std.specs.List.{flat_map}
use Rattle.surf_tiles.specs.declared.state.Port.TheVariants.{AtA, AtB, AtH, AtV}
use Rattle.surf_tiles.specs.declared.state.State.{State}
use Rattle.surf_tiles.specs.declared.state.State.TheVariants.{Dot, Unset, Bit, BlankWire, Held, BlankP, BlankQ, OneGate, TwoGate, WaitsA, WaitsB, Crossing}
use Rattle.surf_tiles.specs.declared.reaction.Reaction.{Reaction}
use Rattle.surf_tiles.specs.declared.reaction.Reaction.TheVariants.{WireReads, PortReads, OneReads, AcrossReads, DownReads, PReads, QReads, GateReadsA, GateReadsB, ReadsLastA, ReadsLastB}
use Rattle.surf_tiles.specs.States.{digit, mark, spell}
use Rattle.surf_tiles.specs.declared.state.Port.{Port}
use Rattle.surf_tiles.specs.Reactions.{marks, tables, first_reads, for_each_port, for_each_bit, for_each_mark, for_each_table, groups, reactions}

abbrev bit : ℕ → Bool
bit d = eqb d 49

abbrev unmark : ℕ → Option Bool
unmark d = cond (eqb d 45) None (Some (bit d))

abbrev held : List ℕ → Option Bool
held [] = None
held (d ∷ ds) = Some (bit d)

abbrev two : (Bool → Bool → State) → List ℕ → State
two f [] = Dot
two f (p ∷ []) = Dot
two f (p ∷ q ∷ ds) = f (bit p) (bit q)

abbrev four : List ℕ → State
four (p ∷ q ∷ r ∷ s ∷ ds) = TwoGate (bit p) (bit q) (bit r) (bit s)
four _ = Dot

abbrev crossed : List ℕ → State
crossed (x ∷ y ∷ ds) = Crossing (unmark x) (unmark y)
crossed _ = Dot

abbrev waits : List ℕ → State
waits (x ∷ ds) = cond (eqb x 97) (two WaitsA ds) (two WaitsB ds)
waits _ = Dot

-- the state that is spelled so
abbrev unspell : List ℕ → State
unspell [] = Dot
unspell (x ∷ xs) =
    cond (eqb x 46) Dot (cond (eqb x 63) Unset (cond (eqb x 48) (Bit false) (cond (eqb x 49) (Bit true) (cond (eqb x 119) BlankWire
    (cond (eqb x 97) (Held AtA (held xs)) (cond (eqb x 98) (Held AtB (held xs)) (cond (eqb x 104) (Held AtH (held xs)) (cond (eqb x 118) (Held AtV (held xs))
    (cond (eqb x 112) BlankP (cond (eqb x 113) BlankQ (cond (eqb x 110) (two OneGate xs) (cond (eqb x 103) (four xs) (cond (eqb x 116) (waits xs) (crossed xs))))))))))))))

bit-digit : (b : Bool) → bit (digit b) ≡ b
bit-digit true = refl
bit-digit false = refl

unmark-mark : (o : Option Bool) → unmark (mark o) ≡ o
unmark-mark None = refl
unmark-mark (Some true) = refl
unmark-mark (Some false) = refl

unspell-spell : (s : State) → unspell (spell s) ≡ s
unspell-spell Dot = refl
unspell-spell Unset = refl
unspell-spell (Bit true) = refl
unspell-spell (Bit false) = refl
unspell-spell BlankWire = refl
unspell-spell (Held AtA None) = refl
unspell-spell (Held AtB None) = refl
unspell-spell (Held AtH None) = refl
unspell-spell (Held AtV None) = refl
unspell-spell (Held AtA (Some b)) = ap (λ (x : Bool). Held AtA (Some x)) (bit-digit b)
unspell-spell (Held AtB (Some b)) = ap (λ (x : Bool). Held AtB (Some x)) (bit-digit b)
unspell-spell (Held AtH (Some b)) = ap (λ (x : Bool). Held AtH (Some x)) (bit-digit b)
unspell-spell (Held AtV (Some b)) = ap (λ (x : Bool). Held AtV (Some x)) (bit-digit b)
unspell-spell BlankP = refl
unspell-spell BlankQ = refl
unspell-spell (OneGate p q) = cc (bit-digit p, bit-digit q)
unspell-spell (TwoGate t00 t01 t10 t11) = cc (bit-digit t00, bit-digit t01, bit-digit t10, bit-digit t11)
unspell-spell (WaitsA p q) = cc (bit-digit p, bit-digit q)
unspell-spell (WaitsB p q) = cc (bit-digit p, bit-digit q)
unspell-spell (Crossing across down) = cc (unmark-mark across, unmark-mark down)

pub spell_apart : (s t : State) → spell s ≡ spell t → s ≡ t
spell_apart s t e = sym (unspell-spell s) ∙ ap unspell e ∙ unspell-spell t

-- x stands in the list
pub record In {A : Type 0} (x : A) (xs : List A) : Type 0 where
  pub at : ℕ
  pub is : slice_get xs at ≡ Some x

in_next : {A : Type 0} (x y : A) (xs : List A) → In x xs → In x (y ∷ xs)
in_next x y xs h = record { at = suc h.at; is = h.is }

in_left : {A : Type 0} (x : A) (xs ys : List A) (n : ℕ) → slice_get xs n ≡ Some x → In x (xs ++ ys)
in_left x [] ys n h = absurd cc
in_left x (y ∷ xs) ys zero h = record { at = zero; is = h }
in_left x (y ∷ xs) ys (suc n) h = in_next x y (xs ++ ys) (in_left x xs ys n h)

in_right : {A : Type 0} (x : A) (xs ys : List A) → In x ys → In x (xs ++ ys)
in_right x [] ys h = h
in_right x (y ∷ xs) ys h = in_next x y (xs ++ ys) (in_right x xs ys h)

in_flat_at : {A B : Type 0} (f : A → List B) (a : A) (b : B) (xs : List A) (n : ℕ) → slice_get xs n ≡ Some a → In b (f a) → In b (flat_map f xs)
in_flat_at f a b [] n h k = absurd cc
in_flat_at {A = X} f a b (x ∷ xs) zero h k = in_left b (f x) (flat_map f xs) k.at (let e : a ≡ x = cc in subst (λ (y : X). slice_get (f y) k.at ≡ Some b) e k.is)
in_flat_at f a b (x ∷ xs) (suc n) h k = in_right b (f x) (flat_map f xs) (in_flat_at f a b xs n h k)

in_flat : {A B : Type 0} (f : A → List B) (a : A) (b : B) (xs : List A) → In a xs → In b (f a) → In b (flat_map f xs)
in_flat f a b xs h k = in_flat_at f a b xs h.at h.is k

in_tables : (p q : Bool) → In (p, q) tables
in_tables false false = record { at = 0; is = refl }
in_tables false true = record { at = 1; is = refl }
in_tables true false = record { at = 2; is = refl }
in_tables true true = record { at = 3; is = refl }

abbrev ports : List Port
ports = AtA ∷ AtB ∷ AtH ∷ AtV ∷ []

in_port : (r : Port → List Reaction) (port : Port) (x : Reaction) → In x (r port) → In x (for_each_port r)
in_port r AtA x h = in_flat r AtA x ports (record { at = 0; is = refl }) h
in_port r AtB x h = in_flat r AtB x ports (record { at = 1; is = refl }) h
in_port r AtH x h = in_flat r AtH x ports (record { at = 2; is = refl }) h
in_port r AtV x h = in_flat r AtV x ports (record { at = 3; is = refl }) h

in_marks : (o : Option Bool) → In o marks
in_marks None = record { at = 0; is = refl }
in_marks (Some false) = record { at = 1; is = refl }
in_marks (Some true) = record { at = 2; is = refl }

in_pair : (r : Bool → Reaction) (v : Bool) → In (r v) (for_each_bit r)
in_pair r false = record { at = 0; is = refl }
in_pair r true = record { at = 1; is = refl }

in_mark : (r : Option Bool → Bool → Reaction) (o : Option Bool) (v : Bool) → In (r o v) (for_each_mark r)
in_mark r o v = in_flat (λ y. for_each_bit (r y)) o (r o v) marks (in_marks o) (in_pair (r o) v)

in_table : (r : Bool → Bool → List Reaction) (p q : Bool) (x : Reaction) → In x (r p q) → In x (for_each_table r)
in_table r p q x h = in_flat (λ (p', q'). r p' q') (p, q) x tables (in_tables p q) h

in_group : (n : ℕ) (group : List Reaction) (r : Reaction) → slice_get groups n ≡ Some group → In r group → In r reactions
unfolding reactions
in_group n group r e h = in_flat_at (λ g. g) group r groups n e h

-- each reaction has a number
pub numbered : (r : Reaction) → In r reactions
numbered (WireReads v) = in_group 0 _ _ refl (in_pair WireReads v)
numbered (PortReads port v) = in_group 1 _ _ refl (in_port (λ x. for_each_bit (PortReads x)) port _ (in_pair (PortReads port) v))
numbered (OneReads p q v) = in_group 2 _ _ refl (in_table (λ p' q'. for_each_bit (OneReads p' q')) p q _ (in_pair (OneReads p q) v))
numbered (AcrossReads y v) = in_group 3 _ _ refl (in_mark AcrossReads y v)
numbered (DownReads x v) = in_group 4 _ _ refl (in_mark DownReads x v)
numbered (PReads y v) = in_group 5 _ _ refl (in_mark PReads y v)
numbered (QReads x v) = in_group 6 _ _ refl (in_mark QReads x v)
numbered (GateReadsA p q r s v) =
    let h = in_pair (GateReadsA p q r s) v in
    in_group 7 _ _ refl (in_table (λ p' q'. for_each_table (first_reads p' q')) p q _ (in_table (first_reads p q) r s _ (in_left _ (for_each_bit (GateReadsA p q r s)) (for_each_bit (GateReadsB p q r s)) h.at h.is)))
numbered (GateReadsB p q r s v) =
    in_group 7 _ _ refl (in_table (λ p' q'. for_each_table (first_reads p' q')) p q _ (in_table (first_reads p q) r s _ (in_right _ (for_each_bit (GateReadsA p q r s)) (for_each_bit (GateReadsB p q r s)) (in_pair (GateReadsB p q r s) v))))
numbered (ReadsLastA p q v) = in_group 8 _ _ refl (in_table (λ p' q'. for_each_bit (ReadsLastA p' q')) p q _ (in_pair (ReadsLastA p q) v))
numbered (ReadsLastB p q v) = in_group 9 _ _ refl (in_table (λ p' q'. for_each_bit (ReadsLastB p' q')) p q _ (in_pair (ReadsLastB p q) v))
