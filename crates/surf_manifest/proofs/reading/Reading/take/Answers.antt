use Rattle.surf_manifest.specs.Drafts.{held_by}
use Rattle.surf_manifest.specs.Readings.{reached_by}
use Rattle.surf_manifest.proofs.ReadingLemmas.{content_step}
use Rattle.surf_manifest.proofs.reading.Reading.take.Goals as goal

pub returns-in-Content-clause-step : goal.returns-in-Content-clause-step
returns-in-Content-clause-step c =
    rw c.in-Content.is (content_step (reached_by c.args.self.now) (held_by c.add_line.new.self) c.in-Content.text.now c.add_line.result c.add_line.ensures.step)
