-- What a replay of numbers says of the names.
use Rattle.std.proofs.Common.{ℕ, ◌≡◌, ◌-◌, List, [], length, map, take, Result, Ok, refl, sym, ◌∙◌, ap, subst}
use Rattle.surf_rules.specs.Names.{text_of}
use Rattle.surf_world.specs.declared.event.Event.{Event}
use Rattle.surf_world.specs.Systems.{System, Enabled, IsRun, left_by}
use Rattle.surf_world.specs.Worlds.{Placed}
use Rattle.surf_world.specs.Renamings.{renamed}
use Rattle.surf_world.proofs.Renamed.{left_renamed, enabled_back, run_both, texts_apart}
use Rattle.surf_text.specs.Bytes.{lines_of}
use Rattle.surf_manifest_lines.specs.Line.{line_of}
use Rattle.surf_manifest.specs.Grammar.{ManifestText, manifest_of, read_from}
use Rattle.surf_manifest.specs.Numbered.{IsNumbered}
use Rattle.surf_manifest_lines.specs.declared.error.ManifestError.{ManifestError}
use Rattle.surf_trace.specs.Replays.{FirstBad}
use Rattle.surf_trace.specs.Splits.{before_trace}
use Rattle.surf_trace.specs.TraceTexts.{trace_of}
use Rattle.surf_status.specs.declared.status.Refusal.{Refusal}
use Rattle.surf_status.specs.declared.status.Status.TheVariants.{NotEnabled}
use Rattle.surf_status.specs.Calls.{EndsAs}
use Rattle.surf_command_traces.specs.Traced.{replay_input, replay_of, manifest_before, valid_text, IsValidText, IsBadAt}
use Rattle.surf_status.specs.Writes.{Writes}
use Rattle.surf_cells.proofs.Below.{left_below}
use Rattle.surf_command_traces.specs.Calls.{replay_call}

pub numbered_run : (S : System (List ℕ)) (w : Placed) (texts : List (List ℕ)) (es : List Event) → IsNumbered S w texts → IsRun w.surface w.names es → IsRun S.surface S.start es
numbered_run S w texts es n run =
    subst (λ (T : System (List ℕ)). IsRun T.surface T.start es) n.named
    ((run_both (length texts) (text_of texts) (texts_apart texts n.distinct) w.surface w.names es n.below).0 run)

pub numbered_bad : (S : System (List ℕ)) (w : Placed) (texts : List (List ℕ)) (es : List Event) (k : ℕ) → IsNumbered S w texts → FirstBad w.surface w.names es k → FirstBad S.surface S.start es k
numbered_bad S w texts es k n bad =
    let f = text_of texts in
    let one = texts_apart texts n.distinct in
    let before = take (k - 1) es in
    subst (λ (T : System (List ℕ)). FirstBad T.surface T.start es k) n.named
    (record {
      counted = bad.counted;
      run = (run_both (length texts) f one w.surface w.names before n.below).0 bad.run;
      event = bad.event;
      listed = bad.listed;
      fails = λ h.
          bad.fails (enabled_back (length texts) f one w.surface (left_by w.surface w.names before) bad.event (left_below (length texts) w.surface w.names before n.below)
          (subst (λ (c : List (List ℕ)). Enabled (renamed f w.surface) c bad.event) (left_renamed f w.surface w.names before) h));
    })

-- the manifest of the part before the trace
pub part_is : (input part : List ℕ) (r : Result ManifestText ManifestError) → lines_of part ≡ before_trace (lines_of input) → manifest_of part ≡ r → manifest_before input ≡ r
part_is input part r lines is = ap (λ ls. read_from [] (map line_of ls)) (sym lines) ∙ is

pub replay_is : (input : List ℕ) (m : ManifestText) (es : List Event) → manifest_before input ≡ Ok m → trace_of input ≡ Ok es → replay_input input ≡ Ok (m, es)
replay_is input m es read trace = ap (λ r. replay_of r (trace_of input)) read ∙ ap (λ t. replay_of (Ok m) t) trace

module _ (input : List ℕ) (m : ManifestText) (es : List Event) (w : Placed) (texts : List (List ℕ)) (is : replay_input input ≡ Ok (m, es)) (numbered : IsNumbered m.system w texts) where
  pub valid : IsRun w.surface w.names es → (replay_call input).Is (valid_text es)
  valid run = subst (λ (r : Result (ManifestText × List Event) Refusal). IsValidText r (valid_text es)) (sym is) (numbered_run m.system w texts es numbered run, refl)

  pub bad_ends : (o : Writes) (k : ℕ) → FirstBad w.surface w.names es k → EndsAs (replay_call input) o (NotEnabled k)
  bad_ends o k bad = subst (λ (r : Result (ManifestText × List Event) Refusal). IsBadAt r k) (sym is) (numbered_bad m.system w texts es k numbered bad)
