use Rattle.std.proofs.Common.{rules}
use Rattle.std.proofs.lemmas.List.Sorted.{IsPartitionPoint-from_clause, IsPartitionedBy-ltb}
use Rattle.std.proofs.Math.Dec.{ltb}
use Rattle.surf_rules.specs.declared.index.Entry.{Entry}
use Rattle.surf_rules.proofs.Cuts.{start_lt}
use Rattle.surf_rules.proofs.index.start.Goals as goal

pub returns : goal.returns
returns c =
    let es = c.args.entries.now in
    start_lt (λ (e : Entry). e.left) c.args.name es _ c.partition_point.ensures.bound
    (IsPartitionPoint-from_clause (λ (e : Entry). ltb e.left c.args.name) es _ c.partition_point.ensures.partitioned (IsPartitionedBy-ltb (λ (e : Entry). e.left) es c.args.name c.requires.rising) (λ a r q k. search rules))
