-- Facts on the tables of kinds, by cases on the kind.
use Rattle.std.proofs.Common.{◌≡◌, ℕ, ◌+◌, ◌≤◌, Bool, true, false, cond, Some, refl, ◌⊎◌, inl, inr, arith}
use Rattle.surf_tiles.specs.declared.kind.Kind.{Kind}
use Rattle.surf_tiles.specs.declared.kind.Kind.TheVariants.{Empty, Input, Value, Wire, A, B, H, V, P, Q, Gate1, Gate2, Centre}
use Rattle.surf_tiles.specs.declared.state.Port.TheVariants.{AtA, AtB, AtH, AtV}
use Rattle.surf_settle.specs.Ways.{Way, Plain, By, Across, Down, offers, wants}
use Rattle.surf_settle.proofs.Shown.{shown, filled}
use Rattle.surf_tiles.specs.Kinds.{changes_of, blank}
use Rattle.surf_settle.specs.Law.{slot_of}

-- more reads fill no fewer slots
pub filled_more : (k : Kind) (first second first' second' u : Bool) → (first ≡ true → first' ≡ true) → (second ≡ true → second' ≡ true) → filled k first second u ≡ true → filled k first' second' u ≡ true
filled_more Empty first second first' second' u f s h = refl
filled_more Input first second first' second' u f s h = refl
filled_more (Value v) first second first' second' u f s h = refl
filled_more (Gate2 t00 t01 t10 t11) true second first' second' u f s h = cc (f refl, s h)
filled_more (Gate2 t00 t01 t10 t11) false second first' second' u f s h = absurd cc
filled_more Centre first second first' second' true f s h = s h
filled_more Centre first second first' second' false f s h = f h
filled_more _ _ _ _ _ _ f s h = f h

-- what a filled slot's site wants is read, but at a centre
pub full_reads : (j : Bool) (k : Kind) (first second u : Bool) (w : Way) → wants k j ≡ Some w → filled k first second u ≡ true → (cond j second first ≡ true) ⊎ (k ≡ Centre)
full_reads false (Gate2 t00 t01 t10 t11) true second u w o f = inl refl
full_reads false (Gate2 t00 t01 t10 t11) false second u w o f = absurd cc
full_reads true (Gate2 t00 t01 t10 t11) true second u w o f = inl f
full_reads true (Gate2 t00 t01 t10 t11) false second u w o f = absurd cc
full_reads j Centre first second u w o f = inr refl
full_reads false Empty first second u w o f = absurd cc
full_reads false Input first second u w o f = absurd cc
full_reads false (Value v) first second u w o f = absurd cc
full_reads false _ first second u w o f = inl f
full_reads true _ first second u w o f = absurd cc

-- a centre and another site do not want of each other
pub centre_apart : (i u' j u : Bool) (k : Kind) (w w' : Way) → offers k u ≡ Some w → wants Centre i ≡ Some w → wants k j ≡ Some w' → offers Centre u' ≡ Some w' → ⊥
centre_apart true true true true Empty w w' o p q r = absurd cc
centre_apart true true true false Empty w w' o p q r = absurd cc
centre_apart true true false true Empty w w' o p q r = absurd cc
centre_apart true true false false Empty w w' o p q r = absurd cc
centre_apart true false true true Empty w w' o p q r = absurd cc
centre_apart true false true false Empty w w' o p q r = absurd cc
centre_apart true false false true Empty w w' o p q r = absurd cc
centre_apart true false false false Empty w w' o p q r = absurd cc
centre_apart false true true true Empty w w' o p q r = absurd cc
centre_apart false true true false Empty w w' o p q r = absurd cc
centre_apart false true false true Empty w w' o p q r = absurd cc
centre_apart false true false false Empty w w' o p q r = absurd cc
centre_apart false false true true Empty w w' o p q r = absurd cc
centre_apart false false true false Empty w w' o p q r = absurd cc
centre_apart false false false true Empty w w' o p q r = absurd cc
centre_apart false false false false Empty w w' o p q r = absurd cc
centre_apart _ _ _ _ _ w w' o p q r = absurd cc

-- a slot is filled once all that it waits for is read
pub filled_from : (u : Bool) (k : Kind) (first second : Bool) (w : Way) → offers k u ≡ Some w → ((j : Bool) (v : Way) → wants k j ≡ Some v → slot_of k j ≡ u → cond j second first ≡ true) → filled k first second u ≡ true
filled_from u Empty first second w o h = refl
filled_from u Input first second w o h = refl
filled_from u (Value v) first second w o h = refl
filled_from false P first second w o h = h false Across refl refl
filled_from false Q first second w o h = h false Down refl refl
filled_from false (Gate2 t00 t01 t10 t11) first second w o h = cc (h false (By AtA) refl refl, h true (By AtB) refl refl)
filled_from false Centre first second w o h = h false (By AtH) refl refl
filled_from true Centre first second w o h = h true (By AtV) refl refl
filled_from false _ first second w o h = h false Plain refl refl
filled_from true _ first second w o h = absurd cc

-- once all is read, the name is settled
pub shown_settled : (k : Kind) (first second first' second' own below one two : Bool) → ((j : Bool) (v : Way) → wants k j ≡ Some v → cond j second first ≡ true) → ((j : Bool) (v : Way) → wants k j ≡ Some v → cond j second' first' ≡ true) → shown k first second own below one two ≡ shown k first' second' own below one two
shown_settled Empty first second first' second' own below one two h h' = refl
shown_settled Input first second first' second' own below one two h h' = refl
shown_settled (Value v) first second first' second' own below one two h h' = refl
shown_settled P first second first' second' own below one two h h' = cc (h false Across refl, h' false Across refl)
shown_settled Q first second first' second' own below one two h h' = cc (h false Down refl, h' false Down refl)
shown_settled (Gate2 t00 t01 t10 t11) first second first' second' own below one two h h' = cc (h false (By AtA) refl, h true (By AtB) refl, h' false (By AtA) refl, h' true (By AtB) refl)
shown_settled Centre first second first' second' own below one two h h' = cc (h false (By AtH) refl, h true (By AtV) refl, h' false (By AtH) refl, h' true (By AtV) refl)
shown_settled _ first second first' second' own below one two h h' = cc (h false Plain refl, h' false Plain refl)

-- how many events a site had
abbrev pub tally : Kind → (first second : Bool) → ℕ
tally Empty first second = 0
tally Input first second = 0
tally (Value v) first second = 0
tally Wire first second = cond first 1 0
tally A first second = cond first 1 0
tally B first second = cond first 1 0
tally H first second = cond first 1 0
tally V first second = cond first 1 0
tally P first second = cond first 1 0
tally Q first second = cond first 1 0
tally (Gate1 zero one) first second = cond first 1 0
tally (Gate2 t00 t01 t10 t11) first second = cond first 1 0 + cond second 1 0
tally Centre first second = cond first 1 0 + cond second 1 0

pub tally_more : (i : Bool) (k : Kind) (first second : Bool) (w : Way) → wants k i ≡ Some w → cond i second first ≡ false → tally k (cond i first true) (cond i true second) ≡ tally k first second + 1
tally_more false Empty first second w o h = absurd cc
tally_more false Input first second w o h = absurd cc
tally_more false (Value v) first second w o h = absurd cc
tally_more false (Gate2 t00 t01 t10 t11) false true w o h = refl
tally_more false (Gate2 t00 t01 t10 t11) false false w o h = refl
tally_more false Centre false true w o h = refl
tally_more false Centre false false w o h = refl
tally_more true (Gate2 t00 t01 t10 t11) true false w o h = refl
tally_more true (Gate2 t00 t01 t10 t11) false false w o h = refl
tally_more true Centre true false w o h = refl
tally_more true Centre false false w o h = refl
tally_more false _ false second w o h = refl
tally_more _ _ _ _ w o h = absurd cc

bit-le : (b : Bool) → cond b 1 0 ≤ 1
bit-le true = omega arith
bit-le false = omega arith

pub tally-le : (k : Kind) (first second : Bool) → tally k first second ≤ changes_of k
tally-le Empty first second = omega arith
tally-le Input first second = omega arith
tally-le (Value v) first second = omega arith
tally-le (Gate2 t00 t01 t10 t11) first second = omega (arith, bit-le first, bit-le second)
tally-le Centre first second = omega (arith, bit-le first, bit-le second)
tally-le _ first second = bit-le first

pub tally_settled : (k : Kind) (first second : Bool) → ((j : Bool) (v : Way) → wants k j ≡ Some v → cond j second first ≡ true) → tally k first second ≡ changes_of k
tally_settled Empty first second h = refl
tally_settled Input first second h = refl
tally_settled (Value v) first second h = refl
tally_settled P first second h = cc (h false Across refl)
tally_settled Q first second h = cc (h false Down refl)
tally_settled (Gate2 t00 t01 t10 t11) first second h = cc (h false (By AtA) refl, h true (By AtB) refl)
tally_settled Centre first second h = cc (h false (By AtH) refl, h true (By AtV) refl)
tally_settled _ first second h = cc (h false Plain refl)

pub tally_none : (k : Kind) → tally k false false ≡ 0
tally_none Empty = refl
tally_none _ = refl

-- before anything is read, a site but an input has its blank name
pub shown_blank : (k : Kind) (own below one two : Bool) → (k ≡ Input → ⊥) → shown k false false own below one two ≡ blank k
shown_blank Input own below one two n = absurd (n refl)
shown_blank _ own below one two n = refl
