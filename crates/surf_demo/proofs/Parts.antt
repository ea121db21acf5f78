-- Texts that are appended part by part.
use Rattle.std.proofs.Common.{◌≡◌, List, ◌++◌, Result, Ok, Err, OnOk, ◌∙◌, ap, append_assoc}

-- a text behind what was appended before
pub two : {X : Type 0} (old a b one new : List X) → one ≡ old ++ a → new ≡ one ++ b → new ≡ old ++ (a ++ b)
two old a b one new first second = second ∙ ap (λ t. t ++ b) first ∙ append_assoc old a b

pub three : {X : Type 0} (old a b c one two_ new : List X) → one ≡ old ++ a → two_ ≡ one ++ b → new ≡ two_ ++ c → new ≡ old ++ (a ++ (b ++ c))
three old a b c one two_ new first second third = two old a (b ++ c) one new first (two one b c two_ new second third)

pub four : {X : Type 0} (old a b c d one two_ three_ new : List X) → one ≡ old ++ a → two_ ≡ one ++ b → three_ ≡ two_ ++ c → new ≡ three_ ++ d → new ≡ old ++ (a ++ (b ++ (c ++ d)))
four old a b c d one two_ three_ new first second third last = two old a (b ++ (c ++ d)) one new first (three one b c d two_ three_ new second third last)

-- the same where the last part may fail
pub on_ok : {T E : Type 0} (r : Result T E) {P Q : Type 0} → (P → Q) → OnOk r P → OnOk r Q
on_ok (Ok x) h p = h p
on_ok (Err e) h p = tt
