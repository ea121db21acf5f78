use Rattle.surf_sync.proofs.Listed.{holds_reads}
use Rattle.surf_sync.proofs.Numbered.{count_is, rule_at}
use Rattle.surf_sync.proofs.Spelling.{code_read, frame_read}
use Rattle.surf_sync.proofs.laws.sync_laws.Goals as goal

pub returns-clause-listed : goal.returns-clause-listed
returns-clause-listed c = holds_reads

pub returns-clause-numbered : goal.returns-clause-numbered
returns-clause-numbered c = rule_at

pub returns-clause-counted : goal.returns-clause-counted
returns-clause-counted c = count_is

pub returns-clause-read : goal.returns-clause-read
returns-clause-read c = code_read

pub returns-clause-frame_read : goal.returns-clause-frame_read
returns-clause-frame_read c = frame_read
