use Rattle.std.proofs.Common.{◌≡◌, drop}
use Rattle.surf_flatten.specs.Tables.{with_texts}
use Rattle.surf_flatten.proofs.texts.add_texts.Given as goal

abbrev pub invariant-loop-text : goal.invariant-loop-text
invariant-loop-text l = with_texts l.names (drop l.text-index l.texts) ≡ with_texts l.initial.names l.texts
