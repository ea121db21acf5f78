-- What one reaction says of the two sites that it is at, by their kinds.
use Rattle.std.proofs.Common.{◌≡◌, Bool, true, false, cond, Option, Some, None, refl, sym, ap, subst, ◌⊎◌, inl, inr}
use Rattle.std.proofs.lemmas.Option.{cond_some}
use Rattle.surf_tiles.specs.declared.kind.Kind.{Kind}
use Rattle.surf_tiles.specs.declared.kind.Kind.TheVariants.{Empty, Input, Value, Wire, A, B, H, V, P, Q, Gate1, Gate2, Centre}
use Rattle.surf_tiles.specs.declared.state.Port.{Port}
use Rattle.surf_tiles.specs.declared.state.Port.TheVariants.{AtA, AtB, AtH, AtV}
use Rattle.surf_tiles.specs.declared.state.State.{State}
use Rattle.surf_tiles.specs.declared.state.State.TheVariants.{Dot, Unset, Bit, BlankWire, Held, BlankP, BlankQ, OneGate, TwoGate, WaitsA, WaitsB, Crossing}
use Rattle.surf_tiles.specs.declared.reaction.Reaction.{Reaction}
use Rattle.surf_tiles.specs.declared.reaction.Reaction.TheVariants.{WireReads, PortReads, OneReads, AcrossReads, DownReads, PReads, QReads, GateReadsA, GateReadsB, ReadsLastA, ReadsLastB}
use Rattle.surf_tiles.specs.Reactions.{giver, reader, outcome}
use Rattle.surf_settle.proofs.Shown.{moved, way, shown, filled}
use Rattle.surf_settle.specs.Ways.{Way, Plain, By, Across, Down, offers, wants}
use Rattle.surf_settle.proofs.Places.{Fed}

-- a site whose name is the reader's reads its first or its second value, which it hasn't read yet
pub record Takes (k : Kind) (first second own below one two : Bool) (r : Reaction) : Type 0 where
  pub which : Bool
  pub wanted : wants k which ≡ Some (way r)
  pub unread : cond which second first ≡ false
  pub after : moved r ≡ cond which two one → outcome r ≡ shown k (cond which first true) (cond which true second) own below one two

last_a : (t00 t01 t10 t11 own one two zero o v : Bool) → own ≡ cond one (cond two t11 t10) (cond two t01 t00) → cond two t01 t00 ≡ zero → cond two t11 t10 ≡ o → v ≡ one → cond v o zero ≡ own
last_a t00 t01 t10 t11 own one two zero o true f p q m = cc
last_a t00 t01 t10 t11 own one two zero o false f p q m = cc

last_b : (t00 t01 t10 t11 own one two zero o v : Bool) → own ≡ cond one (cond two t11 t10) (cond two t01 t00) → cond one t10 t00 ≡ zero → cond one t11 t01 ≡ o → v ≡ two → cond v o zero ≡ own
last_b t00 t01 t10 t11 own true two zero o true f p q m = cc
last_b t00 t01 t10 t11 own true two zero o false f p q m = cc
last_b t00 t01 t10 t11 own false two zero o true f p q m = cc
last_b t00 t01 t10 t11 own false two zero o false f p q m = cc

bit_reads_not : (b : Bool) (r : Reaction) → Bit b ≡ reader r → ⊥
bit_reads_not b (WireReads v) e = absurd cc
bit_reads_not b _ e = cc

dot_reads_not : (r : Reaction) → Dot ≡ reader r → ⊥
dot_reads_not (WireReads v) e = absurd cc
dot_reads_not _ e = cc

held_reads_not : (port : Port) (b : Bool) (r : Reaction) → Held port (Some b) ≡ reader r → ⊥
held_reads_not port b (WireReads v) e = absurd cc
held_reads_not port b _ e = cc

crossed_reads_not : (a b : Bool) (r : Reaction) → Crossing (Some a) (Some b) ≡ reader r → ⊥
crossed_reads_not a b (WireReads v) e = absurd cc
crossed_reads_not a b _ e = cc

pub takes : (k : Kind) (first second own below one two : Bool) (r : Reaction) → Fed k own below one two → shown k first second own below one two ≡ reader r → Takes k first second own below one two r
takes Wire false second own below one two (WireReads v) f e = record { which = false; wanted = refl; unread = refl; after = λ m. cc }
takes A false second own below one two (PortReads AtA v) f e = record { which = false; wanted = refl; unread = refl; after = λ m. cc }
takes B false second own below one two (PortReads AtB v) f e = record { which = false; wanted = refl; unread = refl; after = λ m. cc }
takes H false second own below one two (PortReads AtH v) f e = record { which = false; wanted = refl; unread = refl; after = λ m. cc }
takes V false second own below one two (PortReads AtV v) f e = record { which = false; wanted = refl; unread = refl; after = λ m. cc }
takes P false second own below one two (PReads down v) f e = record { which = false; wanted = refl; unread = refl; after = λ m. cc }
takes Q false second own below one two (QReads across v) f e = record { which = false; wanted = refl; unread = refl; after = λ m. cc }
takes (Gate1 z o) false second own below one two (OneReads zero o' v) f e = record { which = false; wanted = refl; unread = refl; after = λ m. cc }
takes (Gate2 t00 t01 t10 t11) false false own below one two (GateReadsA s00 s01 s10 s11 v) f e = record { which = false; wanted = refl; unread = refl; after = λ m. cc }
takes (Gate2 t00 t01 t10 t11) false false own below one two (GateReadsB s00 s01 s10 s11 v) f e = record { which = true; wanted = refl; unread = refl; after = λ m. cc }
takes (Gate2 t00 t01 t10 t11) false true own below one two (ReadsLastA zero o v) f e =
    record { which = false; wanted = refl; unread = refl; after = λ m. let p : cond two t01 t00 ≡ zero = cc in let q : cond two t11 t10 ≡ o = cc in let d = last_a t00 t01 t10 t11 own one two zero o v f p q m in cc }
takes (Gate2 t00 t01 t10 t11) true false own below one two (ReadsLastB zero o v) f e =
    record { which = true; wanted = refl; unread = refl; after = λ m. let p : cond one t10 t00 ≡ zero = cc in let q : cond one t11 t01 ≡ o = cc in let d = last_b t00 t01 t10 t11 own one two zero o v f p q m in cc }
takes Centre false second own below one two (AcrossReads down v) f e = record { which = false; wanted = refl; unread = refl; after = λ m. cc (f.0) }
takes Centre first false own below one two (DownReads across v) f e = record { which = true; wanted = refl; unread = refl; after = λ m. cc (f.1) }
takes Empty first second own below one two r f e = absurd (dot_reads_not r e)
takes Input first second own below one two r f e = absurd (bit_reads_not _ r e)
takes (Value v) first second own below one two r f e = absurd (bit_reads_not _ r e)
takes Wire true second own below one two r f e = absurd (bit_reads_not _ r e)
takes P true second own below one two r f e = absurd (bit_reads_not _ r e)
takes Q true second own below one two r f e = absurd (bit_reads_not _ r e)
takes (Gate1 z o) true second own below one two r f e = absurd (bit_reads_not _ r e)
takes (Gate2 t00 t01 t10 t11) true true own below one two r f e = absurd (bit_reads_not _ r e)
takes A true second own below one two r f e = absurd (held_reads_not AtA _ r e)
takes B true second own below one two r f e = absurd (held_reads_not AtB _ r e)
takes H true second own below one two r f e = absurd (held_reads_not AtH _ r e)
takes V true second own below one two r f e = absurd (held_reads_not AtV _ r e)
takes Centre true true own below one two r f e = absurd (crossed_reads_not _ _ r e)
takes _ _ _ _ _ _ _ _ f e = absurd cc

-- whether a name is one that a first site can give from
abbrev speaks : State → Bool
speaks Dot = false
speaks Unset = false
speaks (Bit v) = true
speaks BlankWire = false
speaks (Held port None) = false
speaks (Held port (Some v)) = true
speaks BlankP = false
speaks BlankQ = false
speaks (OneGate zero one) = false
speaks (TwoGate t00 t01 t10 t11) = false
speaks (WaitsA zero one) = false
speaks (WaitsB zero one) = false
speaks (Crossing None None) = false
speaks (Crossing (Some v) down) = true
speaks (Crossing None (Some v)) = true

speaks-giver : (r : Reaction) → speaks (giver r) ≡ true
speaks-giver (QReads None v) = refl
speaks-giver (QReads (Some w) v) = refl
speaks-giver (WireReads v) = refl
speaks-giver _ = refl

mute : (s : State) (r : Reaction) → speaks s ≡ false → s ≡ giver r → ⊥
mute s r h e = let p = ap speaks e in let q = speaks-giver r in absurd (cc (p, q, h))

bit_gives : (b : Bool) (r : Reaction) → Bit b ≡ giver r → (way r ≡ Plain) × (moved r ≡ b)
bit_gives b (WireReads v) e = (refl, cc)
bit_gives b (PortReads port v) e = (refl, cc)
bit_gives b (OneReads zero one v) e = (refl, cc)
bit_gives b _ e = absurd cc

held_gives : (port : Port) (b : Bool) (r : Reaction) → Held port (Some b) ≡ giver r → (way r ≡ By port) × (moved r ≡ b)
held_gives port b (AcrossReads down v) e = (cc, cc)
held_gives port b (DownReads across v) e = (cc, cc)
held_gives port b (GateReadsA t00 t01 t10 t11 v) e = (cc, cc)
held_gives port b (GateReadsB t00 t01 t10 t11 v) e = (cc, cc)
held_gives port b (ReadsLastA zero one v) e = (cc, cc)
held_gives port b (ReadsLastB zero one v) e = (cc, cc)
held_gives port b _ e = absurd cc

crossed_gives : (a d : Option Bool) (r : Reaction) → Crossing a d ≡ giver r → (way r ≡ Across) × (a ≡ Some (moved r)) ⊎ (way r ≡ Down) × (d ≡ Some (moved r))
crossed_gives a d (PReads down v) e = inl (refl, cc)
crossed_gives a d (QReads across v) e = inr (refl, cc)
crossed_gives a d _ e = absurd cc

-- a site whose name is the giver's gives from a slot that is filled, and what it gives is the value of that slot
pub record Gives (k : Kind) (first second own below : Bool) (r : Reaction) : Type 0 where
  pub slot : Bool
  pub offered : offers k slot ≡ Some (way r)
  pub full : filled k first second slot ≡ true
  pub value : moved r ≡ cond slot below own

plain : (k : Kind) (first second own below : Bool) (r : Reaction) → offers k false ≡ Some Plain → filled k first second false ≡ true → Bit own ≡ giver r → Gives k first second own below r
plain k first second own below r o f e = let g = bit_gives own r e in record { slot = false; offered = cc (g.0); full = f; value = g.1 }

ported : (port : Port) (k : Kind) (first second own below : Bool) (r : Reaction) → offers k false ≡ Some (By port) → filled k first second false ≡ true → Held port (Some own) ≡ giver r → Gives k first second own below r
ported port k first second own below r o f e = let g = held_gives port own r e in record { slot = false; offered = cc (g.0); full = f; value = g.1 }

crossed : (first second own below : Bool) (r : Reaction) → Crossing (cond first (Some own) None) (cond second (Some below) None) ≡ giver r → Gives Centre first second own below r
crossed first second own below r e =
    elim (crossed_gives _ _ r e) [
      | inl g ↦ record { slot = false; offered = cc (g.0); full = (cond_some first own (moved r) (g.1)).0; value = sym (cond_some first own (moved r) (g.1)).1 }
      | inr g ↦ record { slot = true; offered = cc (g.0); full = (cond_some second below (moved r) (g.1)).0; value = sym (cond_some second below (moved r) (g.1)).1 }
    ]

pub gives : (k : Kind) (first second own below one two : Bool) (r : Reaction) → Fed k own below one two → shown k first second own below one two ≡ giver r → Gives k first second own below r
gives Empty first second own below one two r f e = absurd (mute _ r refl e)
gives Input first second own below one two r f e = plain _ _ _ _ _ r refl refl e
gives (Value v) first second own below one two r f e = plain _ _ _ _ _ r refl refl (cc (e, f))
gives Wire true second own below one two r f e = plain _ _ _ _ _ r refl refl e
gives A true second own below one two r f e = ported AtA _ _ _ _ _ r refl refl e
gives B true second own below one two r f e = ported AtB _ _ _ _ _ r refl refl e
gives H true second own below one two r f e = ported AtH _ _ _ _ _ r refl refl e
gives V true second own below one two r f e = ported AtV _ _ _ _ _ r refl refl e
gives P true second own below one two r f e = plain _ _ _ _ _ r refl refl e
gives Q true second own below one two r f e = plain _ _ _ _ _ r refl refl e
gives (Gate1 z o) true second own below one two r f e = plain _ _ _ _ _ r refl refl e
gives (Gate2 t00 t01 t10 t11) true true own below one two r f e = plain _ _ _ _ _ r refl refl e
gives (Gate2 t00 t01 t10 t11) true false own below one two r f e = absurd (mute _ r refl e)
gives (Gate2 t00 t01 t10 t11) false true own below one two r f e = absurd (mute _ r refl e)
gives (Gate2 t00 t01 t10 t11) false false own below one two r f e = absurd (mute _ r refl e)
gives Centre first second own below one two r f e = crossed first second own below r e
gives _ _ _ _ _ _ _ r f e = absurd (mute _ r refl e)

-- the name that offers a value on a way
abbrev pub Says : Way → Bool → State → Type 0
Says Plain b s = s ≡ Bit b
Says (By port) b s = s ≡ Held port (Some b)
Says Across b s = (down : Option Bool) × (s ≡ Crossing (Some b) down)
Says Down b s = (across : Option Bool) × (s ≡ Crossing across (Some b))

says_at : (s : State) (w w' : Way) → w ≡ w' → (b : Bool) × Says w b s → (b : Bool) × Says w' b s
says_at s w w' e h = subst (λ (x : Way). (b : Bool) × Says x b s) e h

-- a slot that is filled says its value
pub says : (u : Bool) (k : Kind) (first second own below one two : Bool) (w : Way) → offers k u ≡ Some w → filled k first second u ≡ true → (b : Bool) × Says w b (shown k first second own below one two)
says false Input first second own below one two w o f = says_at _ Plain w (cc) (own, refl)
says false (Value v) first second own below one two w o f = says_at _ Plain w (cc) (v, refl)
says false Wire true second own below one two w o f = says_at _ Plain w (cc) (own, refl)
says false A true second own below one two w o f = says_at _ (By AtA) w (cc) (own, refl)
says false B true second own below one two w o f = says_at _ (By AtB) w (cc) (own, refl)
says false H true second own below one two w o f = says_at _ (By AtH) w (cc) (own, refl)
says false V true second own below one two w o f = says_at _ (By AtV) w (cc) (own, refl)
says false P true second own below one two w o f = says_at _ Plain w (cc) (own, refl)
says false Q true second own below one two w o f = says_at _ Plain w (cc) (own, refl)
says false (Gate1 z e) true second own below one two w o f = says_at _ Plain w (cc) (own, refl)
says false (Gate2 t00 t01 t10 t11) true true own below one two w o f = says_at _ Plain w (cc) (own, refl)
says false Centre true second own below one two w o f = says_at _ Across w (cc) (own, (_, refl))
says true Centre first true own below one two w o f = says_at _ Down w (cc) (below, (_, refl))
says _ _ _ _ _ _ _ _ w o f = absurd cc

-- a read that is wanted and not done reacts with what is said
pub record Reacts (s t : State) : Type 0 where
  pub reaction : Reaction
  pub gives : s ≡ giver reaction
  pub reads : t ≡ reader reaction

reacts_plain : (w : Way) (b : Bool) (s t : State) (r : Bool → Reaction) → Plain ≡ w → Says w b s → ((v : Bool) → giver (r v) ≡ Bit v) → ((v : Bool) → t ≡ reader (r v)) → Reacts s t
reacts_plain Plain b s t r e h g q = record { reaction = r b; gives = cc (g b); reads = q b }
reacts_plain _ b s t r e h g q = absurd cc

reacts_by : (port : Port) (w : Way) (b : Bool) (s t : State) (r : Bool → Reaction) → By port ≡ w → Says w b s → ((v : Bool) → giver (r v) ≡ Held port (Some v)) → ((v : Bool) → t ≡ reader (r v)) → Reacts s t
reacts_by port (By port') b s t r e h g q = record { reaction = r b; gives = cc (g b); reads = q b }
reacts_by port _ b s t r e h g q = absurd cc

pub reacts : (i : Bool) (k : Kind) (first second own below one two : Bool) (w : Way) (b : Bool) (s : State) → wants k i ≡ Some w → cond i second first ≡ false → Says w b s → Reacts s (shown k first second own below one two)
reacts false Wire false second own below one two w b s o f h = reacts_plain w b s _ WireReads (cc) h (λ v. refl) (λ v. refl)
reacts false A false second own below one two w b s o f h = reacts_plain w b s _ (PortReads AtA) (cc) h (λ v. refl) (λ v. refl)
reacts false B false second own below one two w b s o f h = reacts_plain w b s _ (PortReads AtB) (cc) h (λ v. refl) (λ v. refl)
reacts false H false second own below one two w b s o f h = reacts_plain w b s _ (PortReads AtH) (cc) h (λ v. refl) (λ v. refl)
reacts false V false second own below one two w b s o f h = reacts_plain w b s _ (PortReads AtV) (cc) h (λ v. refl) (λ v. refl)
reacts false (Gate1 z e) false second own below one two w b s o f h = reacts_plain w b s _ (OneReads z e) (cc) h (λ v. refl) (λ v. refl)
reacts false P false second own below one two Across b s o f h = record { reaction = PReads h.0 b; gives = h.1; reads = refl }
reacts false Q false second own below one two Down b s o f h = record { reaction = QReads h.0 b; gives = h.1; reads = refl }
reacts false (Gate2 t00 t01 t10 t11) false false own below one two w b s o f h = reacts_by AtA w b s _ (GateReadsA t00 t01 t10 t11) (cc) h (λ v. refl) (λ v. refl)
reacts true (Gate2 t00 t01 t10 t11) false false own below one two w b s o f h = reacts_by AtB w b s _ (GateReadsB t00 t01 t10 t11) (cc) h (λ v. refl) (λ v. refl)
reacts false (Gate2 t00 t01 t10 t11) false true own below one two w b s o f h = reacts_by AtA w b s _ (ReadsLastA _ _) (cc) h (λ v. refl) (λ v. refl)
reacts true (Gate2 t00 t01 t10 t11) true false own below one two w b s o f h = reacts_by AtB w b s _ (ReadsLastB _ _) (cc) h (λ v. refl) (λ v. refl)
reacts false Centre false second own below one two w b s o f h = reacts_by AtH w b s _ (AcrossReads _) (cc) h (λ v. refl) (λ v. refl)
reacts true Centre first false own below one two w b s o f h = reacts_by AtV w b s _ (DownReads _) (cc) h (λ v. refl) (λ v. refl)
reacts _ _ _ _ _ _ _ _ w b s o f h = absurd cc

-- where a filled slot of one site offers what another site wants and hasn't read, the two react
pub offered_reacts : (k : Kind) (first second own below one two u : Bool) (k' : Kind) (first' second' own' below' one' two' i : Bool) (w : Way) → offers k u ≡ Some w → filled k first second u ≡ true → wants k' i ≡ Some w → cond i second' first' ≡ false → Reacts (shown k first second own below one two) (shown k' first' second' own' below' one' two')
offered_reacts k first second own below one two u k' first' second' own' below' one' two' i w o f q r =
    let h = says u k first second own below one two w o f in
    reacts i k' first' second' own' below' one' two' w h.0 _ q r h.1
