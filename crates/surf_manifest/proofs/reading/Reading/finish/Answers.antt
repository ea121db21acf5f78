use Rattle.std.proofs.Common.{ap, ◌≡◌, Ok, None}
use Rattle.surf_manifest.specs.Grammar.{ManifestText, manifest_from, unless_fault}
use Rattle.surf_manifest.specs.Limits.{end_fault, parts_held}
use Rattle.surf_manifest.specs.Readings.{reached_by}
use Rattle.surf_manifest.specs.WellFormed.{IsWellFormed}
use Rattle.surf_manifest.proofs.reading.Reading.finish.Goals as goal

pub invariant_of-result : goal.invariant_of-result
invariant_of-result c =
    let s = reached_by c.args.self in
    let m : ManifestText = manifest_from s.has_colours (parts_held s.held) in
    let none : end_fault s s.held ≡ None = c.in_default.ensures in
    let w : IsWellFormed m = c.requires.whole m (ap (λ o. unless_fault o (Ok m)) none) in
    record {
      well_formed = rw (c.colormap.ensures, c.into_names.ensures) w;
      texts = rw c.into_names.ensures c.requires.draft.texts;
      rules = rw c.into_names.ensures c.requires.draft.rules;
      start = rw c.into_names.ensures c.requires.draft.start;
    }
