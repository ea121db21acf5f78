-- What follows for a value that is answered.
use Rattle.std.proofs.Common.{Result, Ok, Err, IfOk, OnOk}

pub on_if : {T E : Type 0} {P Q : T → Type 0} (r : Result T E) → ((x : T) → P x → Q x) → IfOk r P → IfOk r Q
on_if (Ok x) f p = f x p
on_if (Err e) f p = tt

pub on_both : {T E A : Type 0} {P Q : T → Type 0} (r : Result T E) → ((x : T) → A → P x → Q x) → OnOk r A → IfOk r P → IfOk r Q
on_both (Ok x) f a p = f x a p
on_both (Err e) f a p = tt
