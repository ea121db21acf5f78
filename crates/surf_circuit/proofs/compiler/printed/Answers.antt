use Rattle.std.proofs.Common.{refl}
use Rattle.surf_circuit.specs.Surfaces.{layout_system, plain_manifest}
use Rattle.surf_circuit.proofs.Answered.{on_both}
use Rattle.surf_circuit.proofs.Holding.{spelled_fits, spelled_holds}
use Rattle.surf_circuit.proofs.SurfaceLemmas.{formed}
use Rattle.surf_circuit.proofs.compiler.printed.Goals as goal

pub returns : goal.returns
returns c =
    let circuit = c.args.circuit.now in
    let L = c.args.layout.now in
    let l = c.in_ok-legend.legend in
    let told = c.in_ok-legend.ensures in
    on_both c.print_layout.result
    (λ text facts is.
    record {
      manifest = plain_manifest (layout_system L);
      legend = l;
      surface = record { layout = L; drawn = c.requires.drawn; manifest = refl; legend = told.is };
      formed = formed L facts.0;
      holds = λ B spelled. spelled_holds circuit B L spelled c.requires.values facts.0 told.settles (plain_manifest (layout_system L)) l refl told.is;
      form = λ B spelled words. spelled_fits circuit B L spelled facts.0 words facts.1.0 facts.1.1 told.events l told.is;
      is = is;
    })
    c.print_layout.ensures.layout c.print_layout.ensures.text
