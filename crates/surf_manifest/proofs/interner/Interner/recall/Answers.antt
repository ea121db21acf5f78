use Rattle.std.proofs.Common.{rules, ◌≡◌}
use Rattle.surf_manifest.proofs.Growth.{known_here}
use Rattle.surf_manifest.proofs.interner.Interner.recall.Goals as goal

pub returns-then-eq-clause-known : goal.returns-then-eq-clause-known
returns-then-eq-clause-known c =
    let same : c.text.result.now ≡ c.args.bytes.now = search rules in
    known_here _ _ _ _ _ c.text.ensures same c.self.view_is
