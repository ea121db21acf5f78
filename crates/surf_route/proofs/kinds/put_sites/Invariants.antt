use Rattle.std.proofs.Common.{◌≡◌, ◌++◌, take}
use Rattle.surf_route.proofs.kinds.put_sites.Given as goal

abbrev pub invariant-loop-site : goal.invariant-loop-site
invariant-loop-site l = l.kinds.items ≡ l.initial.kinds.items ++ take l.site-index l.sites
