use Rattle.std.proofs.Common.{rules, ◌≡◌, ◌∙◌, sym, slice_get}
use Rattle.surf_flatten.proofs.Finding.{found_at, found_none}
use Rattle.surf_flatten.proofs.places.Places.place.Goals as goal

pub returns-in-Some : goal.returns-in-Some
returns-in-Some c =
    let s = c.args.self.now in
    let read : c.place_at.result ≡ slice_get s.places.items c.in-Some.number = search rules in
    read ∙ sym (found_at s.names s.places.items c.in-Some.number c.args.text.now c.len-count.ensures.distinct c.in-Some.ensures.found)

pub returns-in-None : goal.returns-in-None
returns-in-None c = sym (found_none c.args.self.now.names c.args.self.now.places.items c.args.text.now c.in-None.ensures.none)
