use Rattle.std.proofs.Common.{◌≡◌, ◌+◌, ◌≤◌, length}
use Rattle.std.specs.List.{list_all}
use Rattle.surf_text.specs.Bytes.{tokens_of}
use Rattle.surf_manifest.specs.Drafts.{IsDraft, held_by}
use Rattle.surf_manifest_lines.specs.Item.{is_name}
use Rattle.surf_manifest.specs.Limits.{with_names}
use Rattle.surf_manifest.proofs.draft.Draft.add_names.Given as goal

abbrev pub invariant-loop-token : goal.invariant-loop-token
invariant-loop-token l = record {
  draft : IsDraft l.self;
  held : with_names (held_by l.self) (tokens_of l.rest) ≡ with_names (held_by l.initial.self) (tokens_of l.text);
  names : list_all is_name (tokens_of l.rest) ≡ list_all is_name (tokens_of l.text);
  count : l.count + length (tokens_of l.rest) ≡ length (tokens_of l.text);
  within : l.count + length l.rest ≤ length l.text;
  room : l.self.site_count + length l.rest ≤ l.initial.self.site_count + length l.text;
}

abbrev pub decreases-loop-token : goal.decreases-loop-token
decreases-loop-token l = length l.rest
