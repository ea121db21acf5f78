use Rattle.std.proofs.Common.{◌≡◌, ◌+◌, ◌<◌, ◌∙◌, sym, ap, subst, true, false, arith, Some, get_or, drop, length}
use Rattle.std.specs.Prelude.{slice_get, slice_set}
use Rattle.std.proofs.lemmas.List.{get_or_default}
use Rattle.surf_lattice.specs.Grids.{place}
use Rattle.surf_inputs.specs.Inputs.{bit_name, is_unset}
use Rattle.surf_inputs.proofs.InputLemmas.{unset_at, unset_inside, still_inside, still_named, put_more, put_next, same_more, left_more}
use Rattle.surf_inputs.proofs.inputs.put_bits.Goals as goal
use Rattle.surf_inputs.proofs.inputs.put_bits.Goals.{then-bits-i, else-bits-i}

module _ (c : goal.Joined-bits-i) where
  named : slice_get c.args.manifest.now.names c.if-bits-i.put ≡ Some (bit_name (get_or c.args.bits.now c.loop-i.i false))
  named =
      elim c.if-bits-i.branch [
        | then-bits-i w ↦ ap (slice_get c.args.manifest.now.names) w.put-is ∙ c.requires.one ∙ ap (λ b. Some (bit_name b)) (sym w.if-bits-i.true)
        | else-bits-i w ↦ ap (slice_get c.args.manifest.now.names) w.put-is ∙ c.requires.zero ∙ ap (λ b. Some (bit_name b)) (sym w.if-bits-i.false)
      ]

pub put-requires-clause-inside : goal.put-requires-clause-inside
put-requires-clause-inside c =
    let p = c.index-inputs-i.result in
    let unset = unset_at c.args.manifest.now.text.system c.args.inputs.now c.loop-i.i p c.requires.inside c.loop-i-test.true in
    let here : is_unset c.args.manifest.now.text.system p.site ≡ true = subst (λ q. is_unset c.args.manifest.now.text.system q.site ≡ true) (sym c.index-inputs-i.is) unset in
    still_inside c.loop-i.manifest c.args.manifest.now c.loop-i.invariant.same p (unset_inside c.args.manifest.now.text.system p here)

pub put-requires-clause-name : goal.put-requires-clause-name
put-requires-clause-name c = still_named c.loop-i.manifest c.args.manifest.now c.loop-i.invariant.same c.if-bits-i.put _ (named c)

module _ (c : goal.After-put) where
  put_named : slice_get c.args.manifest.now.names c.if-bits-i.put ≡ Some (bit_name (get_or c.args.bits.now c.loop-i.i false))
  put_named =
      elim c.if-bits-i.branch [
        | then-bits-i w ↦ ap (slice_get c.args.manifest.now.names) w.put-is ∙ c.requires.one ∙ ap (λ b. Some (bit_name b)) (sym w.if-bits-i.true)
        | else-bits-i w ↦ ap (slice_get c.args.manifest.now.names) w.put-is ∙ c.requires.zero ∙ ap (λ b. Some (bit_name b)) (sym w.if-bits-i.false)
      ]

pub loop-i-preserved : goal.loop-i-preserved
loop-i-preserved c =
    let n = c.args.manifest.now in
    let m = c.loop-i.manifest in
    let p = c.index-inputs-i.result in
    let b = get_or c.args.bits.now c.loop-i.i false in
    let within = c.loop-i-test.true in
    let g = n.text.system.surface.grid in
    let start = slice_set m.text.system.start (place g p.site) (bit_name b) in
    let is = put_more m n c.loop-i.invariant.same c.put.new.self p c.if-bits-i.put (bit_name b) (put_named c) c.put.ensures in
    let less : c.loop-i.i < length c.args.bits.now = omega (arith, within, c.requires.same) in
    let same_bit : b ≡ get_or c.args.bits.now c.loop-i.i b = get_or_default c.args.bits.now c.loop-i.i false b less in
    record {
      same = same_more m n c.loop-i.invariant.same c.put.new.self start is;
      left = c.loop-i.invariant.left
          ∙ put_next g m.text.system.start c.args.inputs.now c.args.bits.now c.loop-i.i p b within c.index-inputs-i.is less same_bit
          ∙ left_more m n c.loop-i.invariant.same c.put.new.self g start (drop (c.loop-i.i + 1) c.args.inputs.now) (drop (c.loop-i.i + 1) c.args.bits.now) is;
    }
