use Rattle.std.proofs.Common.{rules, ℕ}
use Rattle.std.proofs.lemmas.List.Sorted.{IsPartitionPoint-from_clause, IsPartitionedBy-ltb, IsPartitionedBy-leb}
use Rattle.std.proofs.Math.Dec.{ltb, leb}
use Rattle.surf_rules.proofs.Cuts.{start_lt, start_le}
use Rattle.surf_rules.proofs.index.places.Goals as goal

pub returns-clause-first : goal.returns-clause-first
returns-clause-first c =
    let ks = c.args.ranks.now in
    start_lt (λ (m : ℕ). m) c.args.rank ks _ c.partition_point-first.ensures.bound
    (IsPartitionPoint-from_clause (λ y. ltb y c.args.rank) ks _ c.partition_point-first.ensures.partitioned (IsPartitionedBy-ltb (λ y. y) ks c.args.rank c.requires) (λ a r q k. search rules))

pub returns-clause-last : goal.returns-clause-last
returns-clause-last c =
    let ks = c.args.ranks.now in
    start_le (λ (m : ℕ). m) c.args.rank ks _ c.partition_point-last.ensures.bound
    (IsPartitionPoint-from_clause (λ y. leb y c.args.rank) ks _ c.partition_point-last.ensures.partitioned (IsPartitionedBy-leb (λ y. y) ks c.args.rank c.requires) (λ a r q k. search rules))
