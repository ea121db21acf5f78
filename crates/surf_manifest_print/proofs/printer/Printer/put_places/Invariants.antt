use Rattle.std.proofs.Common.{◌≡◌, ◌++◌, drop, map}
use Rattle.surf_text.specs.Bytes.{ended}
use Rattle.surf_manifest_print.specs.Prints.{place_text}
use Rattle.surf_manifest_print.proofs.printer.Printer.put_places.Given as goal

abbrev pub invariant-loop-place : goal.invariant-loop-place
invariant-loop-place l = l.self ++ ended (map (place_text l.word) (drop l.place-index l.places)) ≡ l.initial.self ++ ended (map (place_text l.word) l.places)
