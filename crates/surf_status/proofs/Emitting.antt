-- Texts that are emitted in parts, and texts that were written.
use Rattle.std.proofs.Common.{ℕ, ◌≡◌, ◌≤◌, List, [], ◌∷◌, ◌++◌, Option, Result, Ok, Err, OnOk, OnErr, IsErr, sym, ◌∙◌, ap, append_assoc, append-nil}
use Rattle.std.specs.Io.KnownBytes.{Appends}
use Rattle.surf_base.specs.Causes.{Rose, HasCause}
use Rattle.surf_base.specs.Known.{AppendsFront}
use Rattle.surf_base.specs.Emits.{Sent, Emits, outlet}
use Rattle.surf_base.proofs.KnownLemmas.{front_of}
use Rattle.surf_base.proofs.EmitLemmas.{emits_cut, cut_longer, after_flush, wrote_all, wrote_front}
use Rattle.surf_status.specs.Notes.{Notes}
use Rattle.surf_status.specs.Writes.{Writes, Wrote}

-- the sink failed at the first of two texts, and another call answers the fault
pub cut_before : {T U E : Type 0} (old new : Option (List ℕ)) (held left : List ℕ) (a c : ℕ) (xs ys : List ℕ) (q : Result T E) (r : Result U E) → IsErr q → IsErr r → Emits (outlet old held a) (outlet new left c) xs q → Emits (outlet old held a) (outlet new left c) (xs ++ ys) r
cut_before old new held left a c xs ys (Ok x) r is out e = cc
cut_before old new held left a c xs ys (Err x) r is out e = emits_cut old new held left a c (xs ++ ys) r out (cut_longer old new held left xs ys e.cut) e.later e.cause

-- a text was written
pub text_written : {T E : Type 0} (w : Writes) (text : List ℕ) (r : Result T E) → OnOk r (Appends w.old w.new text) → OnErr r (AppendsFront w.old w.new text) → HasCause w.before w.now r → Wrote w text r
text_written w text r whole front cause = record { whole = whole; front = front; later = cause.later; cause = cause.failed }

-- a text was printed where nothing was held, and then all that was held was sent
pub printed : {T E : Type 0} (w : Writes) (mid : Option (List ℕ)) (held kept left : List ℕ) (b : ℕ) (text : List ℕ) (r : Result T E) → held ≡ [] → Sent w.old mid held kept text → w.before ≤ b → Emits (outlet mid kept b) (outlet w.new left w.now) [] r → OnOk r (left ≡ []) → Wrote w text r
printed w mid held kept left b text r none sent le e empty =
    let all : Emits (outlet w.old held w.before) (outlet w.new left w.now) text r = after_flush w.old mid w.new held kept left w.before b w.now text r sent le e in
    record {
      whole = wrote_all w.old w.new held left w.before w.now text r none all empty;
      front = wrote_front w.old w.new held left w.before w.now text r none all;
      later = all.later;
      cause = all.cause;
    }

-- a text was cut short where nothing was held, and another call answers the fault
pub printed_cut : {T U E : Type 0} (w : Writes) (held left text : List ℕ) (q : Result T E) (r : Result U E) → IsErr q → IsErr r → held ≡ [] → Emits (outlet w.old held w.before) (outlet w.new left w.now) text q → Wrote w text r
printed_cut w held left text (Ok x) r is out none e = cc
printed_cut w held left text (Err x) (Ok y) is out none e = cc
printed_cut w held left text (Err x) (Err y) is out none e = record {
  whole = tt;
  front = wrote_front w.old w.new held left w.before w.now text (Err x) none e;
  later = e.later;
  cause = e.cause;
}

front_all : (old new : Option (List ℕ)) (text : List ℕ) → Appends old new text → AppendsFront old new text
front_all old new text p = front_of old new text [] text (append-nil text) p

-- a line was written whole, or a front of it
pub noted : {T E : Type 0} (w : Writes) (line : List ℕ) (r : Result T E) → OnOk r (Appends w.old w.new line) → OnErr r (AppendsFront w.old w.new line) → w.before ≤ w.now → OnErr r (Rose w.before w.now) → Notes w line
noted w line (Ok x) whole front later cause =
    record { front = front_all w.old w.new line whole; whole = λ quiet. whole; later = later }
noted w line (Err x) whole front later cause =
    record { front = front; whole = λ quiet. absurd (quiet cause); later = later }

-- the line of a refusal: its words and what follows them in four parts
pub refusal_line : (words a b c d all tail : List ℕ) → all ≡ words ++ tail → a ++ (b ++ (c ++ d)) ≡ tail → words ++ (a ++ (b ++ (c ++ (d ++ 10 ∷ [])))) ≡ all ++ 10 ∷ []
refusal_line words a b c d all tail is parts =
    let e : (words ++ (a ++ (b ++ (c ++ d)))) ++ 10 ∷ [] ≡ words ++ (a ++ (b ++ (c ++ (d ++ 10 ∷ [])))) = simp append_assoc in
    sym e ∙ ap (λ s. s ++ 10 ∷ []) (ap (λ s. words ++ s) parts ∙ sym is)
