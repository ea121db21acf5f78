use Rattle.std.proofs.Common.{ap, sym, ◌∙◌, slice_get, false, ◌≡◌, ℕ, Option, Some, None, IfNone}
use Rattle.std.specs.List.{list_any}
use Rattle.std.specs.Str.{bytes_eq}
use Rattle.surf_rules.proofs.TextLemmas.{found_text, no_text}
use Rattle.surf_rules.proofs.names.Names.find.Goals as goal

if_none : (o : Option ℕ) (P : Type 0) → P → IfNone o P
if_none None P p = p
if_none (Some k) P p = tt

pub returns-clause-found : goal.returns-clause-found
returns-clause-found c =
    ap (λ v. slice_get v c.in_ok-place.place) (sym c.self.view_is) ∙ found_text c.self.inside.set.keys c.args.bytes.now c.in_ok-place.place (sym c.in_ok-place.ensures.index)

pub returns-in_err-place-clause-none : goal.returns-in_err-place-clause-none
returns-in_err-place-clause-none c =
    let none : list_any (λ k. bytes_eq c.args.bytes.now k.items) c.self.inside.set.keys ≡ false = sym c.in_err-place.ensures.found in
    if_none c.from_residual.result ((k : ℕ) → slice_get c.args.self.now k ≡ Some c.args.bytes.now → ⊥) (λ k is. no_text c.self.inside.set.keys c.args.bytes.now k none (ap (λ v. slice_get v k) c.self.view_is ∙ is))
