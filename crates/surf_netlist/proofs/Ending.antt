-- How the gates of an equation end.
use Rattle.std.proofs.Common.{◌≡◌, ℕ, zero, suc, ◌+◌, ◌-◌, ◌<◌, Bool, true, false, not, Option, Some, None, List, [], ◌∷◌, ◌++◌, map, take, drop, length, get_or, refl, sym, ap, ◌∙◌, arith}
use Rattle.std.specs.Prelude.{◌&&◌, nat_eq}
use Rattle.std.proofs.Math.ListN.{set}
use Rattle.std.proofs.Math.Seq.{take-append_seam, drop-append_seam}
use Rattle.std.proofs.lemmas.List.{set-append_right, length-drop, length-take, get_or-drop, take-append-drop}
use Rattle.surf_tiles.specs.declared.netlist.Gate.{Gate}
use Rattle.surf_tiles.specs.declared.netlist.Gate.TheVariants.{Constant}
use Rattle.surf_netlist.specs.declared.signed.Signed.{Signed}
use Rattle.surf_netlist.specs.Gates.{complement, complement_last, finished, cover_gates}
use Rattle.surf_netlist.specs.Making.{Making, or_all}
use Rattle.surf_netlist.proofs.Growing.{or_kept, constant_made, finished_made}

-- the last of some gates is complemented by one write
last_set : (gates : List Gate) (i : ℕ) (x : Gate) → i + 1 ≡ length gates → x ≡ get_or gates i x → set gates i (complement x) ≡ complement_last gates
last_set [] i x l at = absurd (omega (arith, l))
last_set (g ∷ []) zero x l at = ap (λ (h : Gate). complement h ∷ []) at
last_set (g ∷ []) (suc i) x l at = absurd (omega (arith, l))
last_set (g ∷ h ∷ gates) zero x l at = absurd (omega (arith, l))
last_set (g ∷ h ∷ gates) (suc i) x l at = ap (λ (gs : List Gate). g ∷ gs) (last_set (h ∷ gates) i x (omega (arith, l)) at)

finished_false : (gates : List Gate) (s : Signed) → 0 < length gates → finished false gates s ≡ complement_last gates
finished_false [] s some = absurd (omega (arith, some))
finished_false (g ∷ gates) s some = refl

finished_true : (gates : List Gate) (s : Signed) → 0 < length gates → finished true gates s ≡ gates
finished_true [] s some = absurd (omega (arith, some))
finished_true (g ∷ gates) s some = refl

pub finished_by_write : (gates : List Gate) (start : ℕ) (x : Gate) (s : Signed) → start < length gates → x ≡ get_or gates (length gates - 1) x →
    set gates (length gates - 1) (complement x) ≡ take start gates ++ finished false (drop start gates) s
finished_by_write gates start x s within at =
    let n : ℕ = length gates - 1 in
    let front = take start gates in
    let back = drop start gates in
    let long : length front ≡ start = (let l = length-take start gates in omega (arith, l, within)) in
    let rest = length-drop start gates in
    let last : start + (n - start) ≡ n = omega (arith, within) in
    let at' : x ≡ get_or back (n - start) x = at ∙ sym (get_or-drop start gates (n - start) x ∙ ap (λ (k : ℕ). get_or gates k x) last) in
    ap (λ (gs : List Gate). set gs n (complement x)) (sym (take-append-drop start gates))
    ∙ set-append_right front back start n (complement x) long (omega (arith, within))
    ∙ ap (λ (gs : List Gate). front ++ gs) (last_set back (n - start) x (omega (arith, rest, within)) at' ∙ sym (finished_false back s (omega (arith, rest, within))))

pub finished_as_is : (gates : List Gate) (start : ℕ) (s : Signed) → start < length gates → gates ≡ take start gates ++ finished true (drop start gates) s
finished_as_is gates start s within =
    let rest = length-drop start gates in
    sym (take-append-drop start gates) ∙ ap (λ (gs : List Gate). take start gates ++ gs) (sym (finished_true (drop start gates) s (omega (arith, rest, within))))

-- where the rows give nothing, one constant follows the gates that were there
pub constant_added : {X : Type 0} (f : X → List Signed) (inputs : ℕ) (gates : List Gate) (rows : List X) (polarity : Bool) (now : List Gate) (o : Option Signed) →
    (let m : Making = record { gates = now; so_far = o } in m ≡ or_all inputs gates None (map f rows)) → o ≡ None →
    take (length gates) now ++ Constant (polarity && not (nat_eq (length rows) 0)) ∷ [] ≡ gates ++ cover_gates (inputs + length gates) (map f rows) polarity
constant_added f inputs gates rows polarity now o is none =
    ap (λ (gs : List Gate). take (length gates) gs ++ Constant (polarity && not (nat_eq (length rows) 0)) ∷ []) (ap (λ (m : Making). m.gates) is)
    ∙ ap (λ (gs : List Gate). gs ++ Constant (polarity && not (nat_eq (length rows) 0)) ∷ []) (or_kept inputs gates None (map f rows))
    ∙ ap (λ (gs : List Gate). gates ++ gs) (sym (constant_made f inputs gates rows polarity (sym (ap (λ (m : Making). m.so_far) is) ∙ none)))

-- where they give a signed net, the gates after those that were there are finished
pub finished_added : {X : Type 0} (f : X → List Signed) (inputs : ℕ) (gates : List Gate) (rows : List X) (polarity : Bool) (now : List Gate) (o : Option Signed) (s : Signed) →
    (let m : Making = record { gates = now; so_far = o } in m ≡ or_all inputs gates None (map f rows)) → o ≡ Some s →
    take (length gates) now ++ finished polarity (drop (length gates) now) s ≡ gates ++ cover_gates (inputs + length gates) (map f rows) polarity
finished_added f inputs gates rows polarity now o s is some =
    let k = finished_made f inputs gates rows polarity s (sym (ap (λ (m : Making). m.so_far) is) ∙ some) in
    let e : now ≡ gates ++ k.made = ap (λ (m : Making). m.gates) is ∙ k.is in
    ap (λ (gs : List Gate). take (length gates) gs ++ finished polarity (drop (length gates) gs) s) e
    ∙ ap (λ (gs : List Gate). gs ++ finished polarity (drop (length gates) (gates ++ k.made)) s) (take-append_seam gates k.made)
    ∙ ap (λ (gs : List Gate). gates ++ finished polarity gs s) (drop-append_seam gates k.made)
    ∙ ap (λ (gs : List Gate). gates ++ gs) (sym k.all_is)
