-- The events of a simulation, and their lines, as far as they have come.
use Rattle.std.proofs.Common.{ℕ, suc, ◌≡◌, ◌+◌, ◌-◌, ◌<◌, ◌≤◌, nat_eq, List, [], ◌∷◌, ◌++◌, length, Option, Some, None, Result, Ok, IsErr, refl, sym, ◌∙◌, ap, subst, arith, append_assoc, append-nil, length-append}
use Rattle.rand_core.specs.Stream.{Stream}
use Rattle.surf_base.specs.Emits.{Sent, Emits, outlet}
use Rattle.surf_base.proofs.EmitLemmas.{sent_nothing, sent_more, cut_part}
use Rattle.surf_world.specs.declared.event.Event.{Event}
use Rattle.surf_world.specs.Systems.{Surface, after, left_by}
use Rattle.surf_world.specs.Worlds.{Placed}
use Rattle.surf_sim.specs.Simulations.{sim_events, next_of, event_then}
use Rattle.surf_trace.specs.Traces.{event_text, events_text}
use Rattle.surf_command_runs.specs.Prints.{placed_events, left_world, SoFar}

-- the world after an event
abbrev pub next_world : Placed → Event → Placed
next_world w e = record w { names = after w.surface w.names e }

pub none_next : (w : Placed) (t : Stream) (m : ℕ) → next_of nat_eq w.surface w.names t ≡ None → placed_events w t (suc m) ≡ []
none_next w t m is = ap (λ o. event_then o (λ e u. sim_events nat_eq w.surface (after w.surface w.names e) u m)) is

pub some_next : (w : Placed) (t u : Stream) (m : ℕ) (e : Event) → next_of nat_eq w.surface w.names t ≡ Some (e, u) → placed_events w t (suc m) ≡ e ∷ placed_events (next_world w e) u m
some_next w t u m e is = ap (λ o. event_then o (λ f v. sim_events nat_eq w.surface (after w.surface w.names f) v m)) is

pub lines_append : (n : ℕ) (es fs : List Event) → events_text n (es ++ fs) ≡ events_text n es ++ events_text (n + length es) fs
lines_append n [] fs = ap (λ k. events_text k fs) (let e : n ≡ n + 0 = omega arith in e)
lines_append n (e ∷ es) fs =
    ap (λ t. event_text (n + 1) e ++ t) (lines_append (n + 1) es fs)
    ∙ sym (append_assoc (event_text (n + 1) e) (events_text (n + 1) es) (events_text (n + 1 + length es) fs))
    ∙ ap (λ k. (event_text (n + 1) e ++ events_text (n + 1) es) ++ events_text k fs) (let e : n + 1 + length es ≡ n + suc (length es) = omega arith in e)

left_append : (S : Surface ℕ) (c : List ℕ) (es fs : List Event) → left_by S c (es ++ fs) ≡ left_by S (left_by S c es) fs
left_append S c [] fs = refl
left_append S c (e ∷ es) fs = left_append S (after S c e) es fs

-- the lines of the first n events, of the next one and of the rest
lines_split : (taken : List Event) (n : ℕ) (e : Event) (rest : List Event) → length taken ≡ n → events_text 0 (taken ++ e ∷ rest) ≡ events_text 0 taken ++ (event_text (n + 1) e ++ events_text (n + 1) rest)
lines_split taken n e rest is =
    lines_append 0 taken (e ∷ rest)
    ∙ ap (λ k. events_text 0 taken ++ (event_text (k + 1) e ++ events_text (k + 1) rest)) (let same : 0 + length taken ≡ n = omega (arith, is) in same)

next_line : (taken : List Event) (n : ℕ) (e : Event) → length taken ≡ n → events_text 0 (taken ++ e ∷ []) ≡ events_text 0 taken ++ event_text (n + 1) e
next_line taken n e is = lines_split taken n e [] is ∙ ap (λ t. events_text 0 taken ++ t) (append-nil (event_text (n + 1) e))

module _ (w : Placed) (s : Stream) (count : ℕ) where
  pub begun : (old : Option (List ℕ)) (held : List ℕ) → SoFar w s count 0 w s old old held held
  begun old held = record { taken = []; rest = ap (λ m. placed_events w s m) (let e : count ≡ count - 0 = omega arith in e); world = refl; number = refl; text = sent_nothing old held }

  pub went_on : (n : ℕ) (now : Placed) (t u : Stream) (old mid new : Option (List ℕ)) (held kept left : List ℕ) (e : Event) → n < count → SoFar w s count n now t old mid held kept
      → next_of nat_eq now.surface now.names t ≡ Some (e, u) → Sent mid new kept left (event_text (n + 1) e) → SoFar w s count (n + 1) (next_world now e) u old new held left
  went_on n now t u old mid new held kept left e lt f is line = record {
    taken = f.taken ++ e ∷ [];
    rest =
        f.rest
        ∙ ap (λ es. f.taken ++ es)
        (ap (λ m. placed_events now t m) (let one : count - n ≡ suc (count - (n + 1)) = omega (arith, lt) in one) ∙ some_next now t u (count - (n + 1)) e is)
        ∙ sym (append_assoc f.taken (e ∷ []) (placed_events (next_world now e) u (count - (n + 1))));
    world =
        ap (λ v. next_world v e) f.world
        ∙ ap (λ c. record w { names = c }) (sym (left_append w.surface w.names f.taken (e ∷ [])));
    number = omega (arith, length-append f.taken (e ∷ []), f.number);
    text =
        subst (λ (x : List ℕ). Sent old new held left x) (sym (next_line f.taken n e f.number))
        (sent_more old mid new held kept left (events_text 0 f.taken) (event_text (n + 1) e) f.text line);
  }

  -- all events are taken
  all_taken : (n : ℕ) (now : Placed) (t : Stream) (old new : Option (List ℕ)) (held left : List ℕ) → (f : SoFar w s count n now t old new held left) → placed_events now t (count - n) ≡ [] → f.taken ≡ placed_events w s count
  all_taken n now t old new held left f none = sym (f.rest ∙ ap (λ es. f.taken ++ es) none ∙ append-nil f.taken)

  whole : {E : Type 0} (n : ℕ) (now : Placed) (t : Stream) (old new : Option (List ℕ)) (held left : List ℕ) (a c : ℕ) → a ≤ c → SoFar w s count n now t old new held left → placed_events now t (count - n) ≡ []
      → Emits {T = Unit {0}} {E = E} (outlet old held a) (outlet new left c) (events_text 0 (placed_events w s count)) (Ok tt)
  whole n now t old new held left a c le f none = record {
    whole = subst (λ (es : List Event). Sent old new held left (events_text 0 es)) (all_taken n now t old new held left f none) f.text;
    cut = tt;
    later = le;
    cause = tt;
  }

  world_whole : (n : ℕ) (now : Placed) (t : Stream) (old new : Option (List ℕ)) (held left : List ℕ) → SoFar w s count n now t old new held left → placed_events now t (count - n) ≡ [] → now ≡ left_world w (placed_events w s count)
  world_whole n now t old new held left f none = f.world ∙ ap (left_world w) (all_taken n now t old new held left f none)

  none_at : (n : ℕ) (now : Placed) (t : Stream) → n < count → next_of nat_eq now.surface now.names t ≡ None → placed_events now t (count - n) ≡ []
  none_at n now t lt is = ap (λ m. placed_events now t m) (let one : count - n ≡ suc (count - (n + 1)) = omega (arith, lt) in one) ∙ none_next now t (count - (n + 1)) is

  none_after : (n : ℕ) (now : Placed) (t : Stream) → count ≤ n → placed_events now t (count - n) ≡ []
  none_after n now t le = ap (λ m. placed_events now t m) (let none : count - n ≡ 0 = omega (arith, le) in none)

  -- no event is left
  pub stopped : {E : Type 0} (n : ℕ) (now : Placed) (t : Stream) (old new : Option (List ℕ)) (held left : List ℕ) (a c : ℕ) → a ≤ c → n < count → SoFar w s count n now t old new held left → next_of nat_eq now.surface now.names t ≡ None
      → Emits {T = Unit {0}} {E = E} (outlet old held a) (outlet new left c) (events_text 0 (placed_events w s count)) (Ok tt)
  stopped n now t old new held left a c le lt f is = whole n now t old new held left a c le f (none_at n now t lt is)

  pub stopped_world : (n : ℕ) (now : Placed) (t : Stream) (old new : Option (List ℕ)) (held left : List ℕ) → n < count → SoFar w s count n now t old new held left → next_of nat_eq now.surface now.names t ≡ None → now ≡ left_world w (placed_events w s count)
  stopped_world n now t old new held left lt f is = world_whole n now t old new held left f (none_at n now t lt is)

  -- so many events were taken
  pub counted : {E : Type 0} (n : ℕ) (now : Placed) (t : Stream) (old new : Option (List ℕ)) (held left : List ℕ) (a c : ℕ) → a ≤ c → count ≤ n → SoFar w s count n now t old new held left
      → Emits {T = Unit {0}} {E = E} (outlet old held a) (outlet new left c) (events_text 0 (placed_events w s count)) (Ok tt)
  counted n now t old new held left a c le ge f = whole n now t old new held left a c le f (none_after n now t ge)

  pub counted_world : (n : ℕ) (now : Placed) (t : Stream) (old new : Option (List ℕ)) (held left : List ℕ) → count ≤ n → SoFar w s count n now t old new held left → now ≡ left_world w (placed_events w s count)
  counted_world n now t old new held left ge f = world_whole n now t old new held left f (none_after n now t ge)

  -- a line was cut short
  pub cut_short : {T U E : Type 0} (n : ℕ) (now : Placed) (t u : Stream) (old mid new : Option (List ℕ)) (held kept left : List ℕ) (a b c : ℕ) (e : Event) (q : Result T E) (r : Result U E) → a ≤ b → n < count → SoFar w s count n now t old mid held kept
      → next_of nat_eq now.surface now.names t ≡ Some (e, u) → IsErr q → IsErr r → Emits (outlet mid kept b) (outlet new left c) (event_text (n + 1) e) q
      → Emits (outlet old held a) (outlet new left c) (events_text 0 (placed_events w s count)) r
  cut_short n now t u old mid new held kept left a b c e q r le lt f is err out line =
      let rest = placed_events (next_world now e) u (count - (n + 1)) in
      let all : placed_events w s count ≡ f.taken ++ (e ∷ rest) =
      f.rest ∙ ap (λ es. f.taken ++ es) (ap (λ m. placed_events now t m) (let one : count - n ≡ suc (count - (n + 1)) = omega (arith, lt) in one) ∙ some_next now t u (count - (n + 1)) e is) in
      let text : events_text 0 (placed_events w s count) ≡ events_text 0 f.taken ++ (event_text (n + 1) e ++ events_text (n + 1) rest) =
      ap (events_text 0) all ∙ lines_split f.taken n e rest f.number in
      cut_part old mid new held kept left a b c (events_text 0 f.taken) (event_text (n + 1) e) (events_text (n + 1) rest) (events_text 0 (placed_events w s count)) q r text f.text le err out line
