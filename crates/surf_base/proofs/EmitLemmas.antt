-- Texts that are emitted in parts.
use Rattle.std.proofs.Common.{ℕ, ◌≡◌, ◌≤◌, List, [], ◌++◌, Option, Result, Ok, Err, OnOk, OnErr, IsErr, sym, ◌∙◌, ap, subst, arith, append_assoc, append-nil, length-append, refl}
use Rattle.std.specs.Io.KnownBytes.{Appends}
use Rattle.surf_base.specs.Causes.{Rose, HasCause}
use Rattle.surf_base.specs.Known.{AppendsFront}
use Rattle.surf_base.specs.Emits.{Sent, Cut, Emits, outlet}
use Rattle.surf_base.proofs.KnownLemmas.{appends_none, appends_more, front_more, front_before}

pub rose_earlier : (a b c : ℕ) → a ≤ b → Rose b c → Rose a c
rose_earlier a b c le rose = record { risen = omega (arith, le, rose.risen); counted = rose.counted }

pub sent_nothing : (old : Option (List ℕ)) (held : List ℕ) → Sent old old held held []
sent_nothing old held = record { sent = []; appended = appends_none old; all = sym (append-nil held) }

-- texts that follow one another, where part of the first is still held
joined : (sent kept held xs ys : List ℕ) → sent ++ kept ≡ held ++ xs → sent ++ (kept ++ ys) ≡ held ++ (xs ++ ys)
joined sent kept held xs ys all =
    sym (append_assoc sent kept ys) ∙ ap (λ t. t ++ ys) all ∙ append_assoc held xs ys

-- one text was taken whole, and then another
pub sent_more : (old mid new : Option (List ℕ)) (held kept left xs ys : List ℕ) → Sent old mid held kept xs → Sent mid new kept left ys → Sent old new held left (xs ++ ys)
sent_more old mid new held kept left xs ys a b = record {
  sent = a.sent ++ b.sent;
  appended = appends_more old mid new a.sent b.sent a.appended b.appended;
  all =
      append_assoc a.sent b.sent left ∙ ap (λ t. a.sent ++ t) b.all ∙ joined a.sent kept held xs ys a.all;
}

-- the sink failed while it was sent what is held
pub cut_held : (old new : Option (List ℕ)) (held : List ℕ) → AppendsFront old new held → Cut old new held held []
cut_held old new held f = record {
  sent = [];
  dropped = [];
  between = old;
  before = appends_none old;
  front = front_before old new held [] f;
  all = refl;
  of_text = omega arith;
}

-- the sink failed while it was sent a text, where nothing is held
pub cut_text : (old new : Option (List ℕ)) (held left text : List ℕ) → held ≡ [] → left ≡ [] → AppendsFront old new text → Cut old new held left text
cut_text old new held left text none empty f = record {
  sent = [];
  dropped = text;
  between = old;
  before = appends_none old;
  front = subst (λ (t : List ℕ). AppendsFront old new (t ++ text)) (sym empty) f;
  all = ap (λ t. t ++ text) (empty ∙ sym none);
  of_text = omega arith;
}

-- what was sent up to the fault is a front of what was held and the text
pub cut_front : (old new : Option (List ℕ)) (held left text : List ℕ) → Cut old new held left text → AppendsFront old new (held ++ text)
cut_front old new held left text c =
    subst (λ (t : List ℕ). AppendsFront old new t) c.all
    (front_more old c.between new c.sent (left ++ c.dropped) c.before c.front)

-- one text was taken whole, and the sink failed at another
pub cut_after : (old mid new : Option (List ℕ)) (held kept left xs ys : List ℕ) → Sent old mid held kept xs → Cut mid new kept left ys → Cut old new held left (xs ++ ys)
cut_after old mid new held kept left xs ys a c = record {
  sent = a.sent ++ c.sent;
  dropped = c.dropped;
  between = c.between;
  before = appends_more old mid c.between a.sent c.sent a.appended c.before;
  front = c.front;
  all =
      append_assoc a.sent c.sent (left ++ c.dropped) ∙ ap (λ t. a.sent ++ t) c.all ∙ joined a.sent kept held xs ys a.all;
  of_text = omega (arith, c.of_text, length-append xs ys);
}

-- the sink failed at a text, before another
pub cut_longer : (old new : Option (List ℕ)) (held left xs ys : List ℕ) → Cut old new held left xs → Cut old new held left (xs ++ ys)
cut_longer old new held left xs ys c = record {
  sent = c.sent;
  dropped = c.dropped ++ ys;
  between = c.between;
  before = c.before;
  front =
      subst (λ (t : List ℕ). AppendsFront c.between new t) (append_assoc left c.dropped ys)
      (front_before c.between new (left ++ c.dropped) ys c.front);
  all =
      ap (λ t. c.sent ++ t) (sym (append_assoc left c.dropped ys)) ∙ joined c.sent (left ++ c.dropped) held xs ys c.all;
  of_text = omega (arith, c.of_text, length-append c.dropped ys, length-append xs ys);
}

-- the sink failed
pub emits_cut : {T E : Type 0} (old new : Option (List ℕ)) (held left : List ℕ) (a c : ℕ) (text : List ℕ) (r : Result T E) → IsErr r → Cut old new held left text → a ≤ c → Rose a c → Emits (outlet old held a) (outlet new left c) text r
emits_cut old new held left a c text (Ok y) is cut le rose = cc
emits_cut old new held left a c text (Err y) is cut le rose = record { whole = tt; cut = cut; later = le; cause = rose }

-- a text was sent past an outbox that holds nothing
pub sent_past : {T E : Type 0} (old new : Option (List ℕ)) (held left : List ℕ) (a c : ℕ) (text : List ℕ) (r : Result T E) → held ≡ [] → left ≡ [] → OnOk r (Appends old new text) → OnErr r (AppendsFront old new text) → HasCause a c r → Emits (outlet old held a) (outlet new left c) text r
sent_past old new held left a c text (Ok y) none empty all front cause = record {
  whole = record { sent = text; appended = all; all = ap (λ t. text ++ t) empty ∙ append-nil text ∙ ap (λ t. t ++ text) (sym none) };
  cut = tt;
  later = cause.later;
  cause = tt;
}
sent_past old new held left a c text (Err y) none empty all front cause =
    record { whole = tt; cut = cut_text old new held left text none empty front; later = cause.later; cause = cause.failed }

-- one text was taken whole, and then another was emitted
pub after_whole : {T E : Type 0} (old mid new : Option (List ℕ)) (held kept left : List ℕ) (a b c : ℕ) (xs ys : List ℕ) (r : Result T E) → Sent old mid held kept xs → a ≤ b → Emits (outlet mid kept b) (outlet new left c) ys r → Emits (outlet old held a) (outlet new left c) (xs ++ ys) r
after_whole old mid new held kept left a b c xs ys (Ok x) s le e = record {
  whole = sent_more old mid new held kept left xs ys s e.whole;
  cut = tt;
  later = omega (arith, le, e.later);
  cause = tt;
}
after_whole old mid new held kept left a b c xs ys (Err x) s le e = record {
  whole = tt;
  cut = cut_after old mid new held kept left xs ys s e.cut;
  later = omega (arith, le, e.later);
  cause = rose_earlier a b c le e.cause;
}

-- the first of two texts was cut short
pub cut_first : {T U E : Type 0} (old new : Option (List ℕ)) (held left : List ℕ) (a c : ℕ) (xs ys : List ℕ) (r : Result T E) (x : E) → r ≡ Err x → Emits (outlet old held a) (outlet new left c) xs r → Emits {T = U} {E = E} (outlet old held a) (outlet new left c) (xs ++ ys) (Err x)
cut_first old new held left a c xs ys (Ok y) x is e = cc
cut_first old new held left a c xs ys (Err y) x is e = record { whole = tt; cut = cut_longer old new held left xs ys e.cut; later = e.later; cause = e.cause }

-- all parts of a text were taken, or its sink failed at one of them
pub all_parts : {E : Type 0} (old new : Option (List ℕ)) (held left : List ℕ) (a c : ℕ) (xs text : List ℕ) → text ≡ xs → Sent old new held left xs → a ≤ c → Emits {T = Unit {0}} {E = E} (outlet old held a) (outlet new left c) text (Ok tt)
all_parts old new held left a c xs text is s le =
    record { whole = subst (λ (t : List ℕ). Sent old new held left t) (sym is) s; cut = tt; later = le; cause = tt }

pub cut_part : {T U E : Type 0} (old mid new : Option (List ℕ)) (held kept left : List ℕ) (a b c : ℕ) (xs ys zs text : List ℕ) (q : Result T E) (r : Result U E) → text ≡ xs ++ (ys ++ zs) → Sent old mid held kept xs → a ≤ b → IsErr q → IsErr r → Emits (outlet mid kept b) (outlet new left c) ys q
    → Emits (outlet old held a) (outlet new left c) text r
cut_part old mid new held kept left a b c xs ys zs text (Ok z) r is s le err out e = cc
cut_part old mid new held kept left a b c xs ys zs text (Err z) r is s le err out e =
    emits_cut old new held left a c text r out
    (subst (λ (t : List ℕ). Cut old new held left t) (sym is) (cut_after old mid new held kept left xs (ys ++ zs) s (cut_longer mid new kept left ys zs e.cut)))
    (omega (arith, le, e.later)) (rose_earlier a b c le e.cause)

-- a text was taken, and then all that is held was sent
pub after_flush : {T E : Type 0} (old mid new : Option (List ℕ)) (held kept left : List ℕ) (a b c : ℕ) (xs : List ℕ) (r : Result T E) → Sent old mid held kept xs → a ≤ b → Emits (outlet mid kept b) (outlet new left c) [] r → Emits (outlet old held a) (outlet new left c) xs r
after_flush old mid new held kept left a b c xs r s le e =
    subst (λ (t : List ℕ). Emits (outlet old held a) (outlet new left c) t r) (append-nil xs) (after_whole old mid new held kept left a b c xs [] r s le e)

-- what a printer wrote that held nothing before and holds nothing after
pub all_sent : (old new : Option (List ℕ)) (held left text : List ℕ) → held ≡ [] → left ≡ [] → Sent old new held left text → Appends old new text
all_sent old new held left text none empty s =
    subst (λ (t : List ℕ). Appends old new t)
    (sym (append-nil s.sent) ∙ ap (λ t. s.sent ++ t) (sym empty) ∙ s.all ∙ ap (λ t. t ++ text) none)
    s.appended

pub wrote_all : {T E : Type 0} (old new : Option (List ℕ)) (held left : List ℕ) (a c : ℕ) (text : List ℕ) (r : Result T E) → held ≡ [] → Emits (outlet old held a) (outlet new left c) text r → OnOk r (left ≡ []) → OnOk r (Appends old new text)
wrote_all old new held left a c text (Ok x) none e empty = all_sent old new held left text none empty e.whole
wrote_all old new held left a c text (Err x) none e empty = tt

pub wrote_front : {T E : Type 0} (old new : Option (List ℕ)) (held left : List ℕ) (a c : ℕ) (text : List ℕ) (r : Result T E) → held ≡ [] → Emits (outlet old held a) (outlet new left c) text r → OnErr r (AppendsFront old new text)
wrote_front old new held left a c text (Ok x) none e = tt
wrote_front old new held left a c text (Err x) none e =
    subst (λ (t : List ℕ). AppendsFront old new (t ++ text)) none (cut_front old new held left text e.cut)

-- the same, where another call answers the fault
pub wrote_front_then : {T U E : Type 0} (old new : Option (List ℕ)) (held left : List ℕ) (a c : ℕ) (text : List ℕ) (q : Result T E) (r : Result U E) → IsErr q → held ≡ [] → Emits (outlet old held a) (outlet new left c) text q → OnErr r (AppendsFront old new text)
wrote_front_then old new held left a c text (Ok x) r is none e = cc
wrote_front_then old new held left a c text (Err x) (Ok y) is none e = tt
wrote_front_then old new held left a c text (Err x) (Err y) is none e =
    subst (λ (t : List ℕ). AppendsFront old new (t ++ text)) none (cut_front old new held left text e.cut)
