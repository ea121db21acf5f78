use Rattle.surf_blif.specs.Drafts.{numbered_parts}
use Rattle.surf_blif.proofs.Fits.{in_range}
use Rattle.surf_blif.proofs.reader.circuit_of.Goals as goal

pub returns-in-Ok-clause-named : goal.returns-in-Ok-clause-named
returns-in-Ok-clause-named c = record {
  distinct = c.len-name_count.ensures.distinct;
  range = in_range c.args.draft.names (numbered_parts c.args.draft) c.len-name_count.ensures.bound c.requires.draft c.requires.rows;
}

pub returns-in-Err-clause-named : goal.returns-in-Err-clause-named
returns-in-Err-clause-named c = record {
  distinct = c.len-name_count.ensures.distinct;
  range = in_range c.args.draft.names (numbered_parts c.args.draft) c.len-name_count.ensures.bound c.requires.draft c.requires.rows;
}
