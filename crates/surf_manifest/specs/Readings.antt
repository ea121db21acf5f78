-- What a reading stands for.
use Rattle.std.specs.Prelude.{ℕ, ◌+◌, ◌≤◌}
use Rattle.surf_manifest.specs.declared.reading.Reading.{Reading}
use Rattle.surf_manifest.specs.Drafts.{held_by}
use Rattle.surf_manifest.specs.Limits.{Held, Reached}

abbrev pub reached_by : Reading → Reached
reached_by r = record {
  number = r.number;
  block = r.block;
  opened = r.opened;
  has_rules = r.has_rules;
  has_state = r.has_state;
  has_colours = r.has_colours;
  held = held_by r.draft;
}

-- the counts of n bytes
pub record IsHeldWithin (n : ℕ) (h : Held) : Type 0 where
  pub rules : h.rule_count ≤ n
  pub sites : h.site_count ≤ n
  pub width : h.width ≤ n
  pub height : h.height ≤ n

pub record IsCounted (n : ℕ) (s : Reached) : Type 0 where
  pub number : s.number ≤ n + 1
  pub held : IsHeldWithin n s.held
