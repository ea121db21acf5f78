-- The rules as docs/MODEL.md lists them: the name of the first site, which it keeps, and the name
-- of the second site before and after.
use Rattle.std.specs.Prelude.{◌≡◌, ℕ, List, [], ◌∷◌, map, codes}
use Rattle.surf_tiles.specs.declared.reaction.Reaction.{Reaction}
use Rattle.surf_tiles.specs.Reactions.{giver, reader, outcome, reactions}
use Rattle.surf_tiles.specs.States.{spell}

abbrev pub names_of : Reaction → List (List ℕ)
names_of r = spell (giver r) ∷ spell (reader r) ∷ spell (outcome r) ∷ []

unfoldable pub listed : List (List (List ℕ))
listed =
    (codes "0" ∷ codes "w" ∷ codes "0" ∷ []) ∷
    (codes "1" ∷ codes "w" ∷ codes "1" ∷ []) ∷
    (codes "0" ∷ codes "a" ∷ codes "a0" ∷ []) ∷
    (codes "1" ∷ codes "a" ∷ codes "a1" ∷ []) ∷
    (codes "0" ∷ codes "b" ∷ codes "b0" ∷ []) ∷
    (codes "1" ∷ codes "b" ∷ codes "b1" ∷ []) ∷
    (codes "0" ∷ codes "h" ∷ codes "h0" ∷ []) ∷
    (codes "1" ∷ codes "h" ∷ codes "h1" ∷ []) ∷
    (codes "0" ∷ codes "v" ∷ codes "v0" ∷ []) ∷
    (codes "1" ∷ codes "v" ∷ codes "v1" ∷ []) ∷
    (codes "0" ∷ codes "n00" ∷ codes "0" ∷ []) ∷
    (codes "1" ∷ codes "n00" ∷ codes "0" ∷ []) ∷
    (codes "0" ∷ codes "n01" ∷ codes "0" ∷ []) ∷
    (codes "1" ∷ codes "n01" ∷ codes "1" ∷ []) ∷
    (codes "0" ∷ codes "n10" ∷ codes "1" ∷ []) ∷
    (codes "1" ∷ codes "n10" ∷ codes "0" ∷ []) ∷
    (codes "0" ∷ codes "n11" ∷ codes "1" ∷ []) ∷
    (codes "1" ∷ codes "n11" ∷ codes "1" ∷ []) ∷
    (codes "h0" ∷ codes "c--" ∷ codes "c0-" ∷ []) ∷
    (codes "h1" ∷ codes "c--" ∷ codes "c1-" ∷ []) ∷
    (codes "h0" ∷ codes "c-0" ∷ codes "c00" ∷ []) ∷
    (codes "h1" ∷ codes "c-0" ∷ codes "c10" ∷ []) ∷
    (codes "h0" ∷ codes "c-1" ∷ codes "c01" ∷ []) ∷
    (codes "h1" ∷ codes "c-1" ∷ codes "c11" ∷ []) ∷
    (codes "v0" ∷ codes "c--" ∷ codes "c-0" ∷ []) ∷
    (codes "v1" ∷ codes "c--" ∷ codes "c-1" ∷ []) ∷
    (codes "v0" ∷ codes "c0-" ∷ codes "c00" ∷ []) ∷
    (codes "v1" ∷ codes "c0-" ∷ codes "c01" ∷ []) ∷
    (codes "v0" ∷ codes "c1-" ∷ codes "c10" ∷ []) ∷
    (codes "v1" ∷ codes "c1-" ∷ codes "c11" ∷ []) ∷
    (codes "c0-" ∷ codes "p" ∷ codes "0" ∷ []) ∷
    (codes "c1-" ∷ codes "p" ∷ codes "1" ∷ []) ∷
    (codes "c00" ∷ codes "p" ∷ codes "0" ∷ []) ∷
    (codes "c10" ∷ codes "p" ∷ codes "1" ∷ []) ∷
    (codes "c01" ∷ codes "p" ∷ codes "0" ∷ []) ∷
    (codes "c11" ∷ codes "p" ∷ codes "1" ∷ []) ∷
    (codes "c-0" ∷ codes "q" ∷ codes "0" ∷ []) ∷
    (codes "c-1" ∷ codes "q" ∷ codes "1" ∷ []) ∷
    (codes "c00" ∷ codes "q" ∷ codes "0" ∷ []) ∷
    (codes "c01" ∷ codes "q" ∷ codes "1" ∷ []) ∷
    (codes "c10" ∷ codes "q" ∷ codes "0" ∷ []) ∷
    (codes "c11" ∷ codes "q" ∷ codes "1" ∷ []) ∷
    (codes "a0" ∷ codes "g0000" ∷ codes "tb00" ∷ []) ∷
    (codes "a1" ∷ codes "g0000" ∷ codes "tb00" ∷ []) ∷
    (codes "b0" ∷ codes "g0000" ∷ codes "ta00" ∷ []) ∷
    (codes "b1" ∷ codes "g0000" ∷ codes "ta00" ∷ []) ∷
    (codes "a0" ∷ codes "g0001" ∷ codes "tb00" ∷ []) ∷
    (codes "a1" ∷ codes "g0001" ∷ codes "tb01" ∷ []) ∷
    (codes "b0" ∷ codes "g0001" ∷ codes "ta00" ∷ []) ∷
    (codes "b1" ∷ codes "g0001" ∷ codes "ta01" ∷ []) ∷
    (codes "a0" ∷ codes "g0010" ∷ codes "tb00" ∷ []) ∷
    (codes "a1" ∷ codes "g0010" ∷ codes "tb10" ∷ []) ∷
    (codes "b0" ∷ codes "g0010" ∷ codes "ta01" ∷ []) ∷
    (codes "b1" ∷ codes "g0010" ∷ codes "ta00" ∷ []) ∷
    (codes "a0" ∷ codes "g0011" ∷ codes "tb00" ∷ []) ∷
    (codes "a1" ∷ codes "g0011" ∷ codes "tb11" ∷ []) ∷
    (codes "b0" ∷ codes "g0011" ∷ codes "ta01" ∷ []) ∷
    (codes "b1" ∷ codes "g0011" ∷ codes "ta01" ∷ []) ∷
    (codes "a0" ∷ codes "g0100" ∷ codes "tb01" ∷ []) ∷
    (codes "a1" ∷ codes "g0100" ∷ codes "tb00" ∷ []) ∷
    (codes "b0" ∷ codes "g0100" ∷ codes "ta00" ∷ []) ∷
    (codes "b1" ∷ codes "g0100" ∷ codes "ta10" ∷ []) ∷
    (codes "a0" ∷ codes "g0101" ∷ codes "tb01" ∷ []) ∷
    (codes "a1" ∷ codes "g0101" ∷ codes "tb01" ∷ []) ∷
    (codes "b0" ∷ codes "g0101" ∷ codes "ta00" ∷ []) ∷
    (codes "b1" ∷ codes "g0101" ∷ codes "ta11" ∷ []) ∷
    (codes "a0" ∷ codes "g0110" ∷ codes "tb01" ∷ []) ∷
    (codes "a1" ∷ codes "g0110" ∷ codes "tb10" ∷ []) ∷
    (codes "b0" ∷ codes "g0110" ∷ codes "ta01" ∷ []) ∷
    (codes "b1" ∷ codes "g0110" ∷ codes "ta10" ∷ []) ∷
    (codes "a0" ∷ codes "g0111" ∷ codes "tb01" ∷ []) ∷
    (codes "a1" ∷ codes "g0111" ∷ codes "tb11" ∷ []) ∷
    (codes "b0" ∷ codes "g0111" ∷ codes "ta01" ∷ []) ∷
    (codes "b1" ∷ codes "g0111" ∷ codes "ta11" ∷ []) ∷
    (codes "a0" ∷ codes "g1000" ∷ codes "tb10" ∷ []) ∷
    (codes "a1" ∷ codes "g1000" ∷ codes "tb00" ∷ []) ∷
    (codes "b0" ∷ codes "g1000" ∷ codes "ta10" ∷ []) ∷
    (codes "b1" ∷ codes "g1000" ∷ codes "ta00" ∷ []) ∷
    (codes "a0" ∷ codes "g1001" ∷ codes "tb10" ∷ []) ∷
    (codes "a1" ∷ codes "g1001" ∷ codes "tb01" ∷ []) ∷
    (codes "b0" ∷ codes "g1001" ∷ codes "ta10" ∷ []) ∷
    (codes "b1" ∷ codes "g1001" ∷ codes "ta01" ∷ []) ∷
    (codes "a0" ∷ codes "g1010" ∷ codes "tb10" ∷ []) ∷
    (codes "a1" ∷ codes "g1010" ∷ codes "tb10" ∷ []) ∷
    (codes "b0" ∷ codes "g1010" ∷ codes "ta11" ∷ []) ∷
    (codes "b1" ∷ codes "g1010" ∷ codes "ta00" ∷ []) ∷
    (codes "a0" ∷ codes "g1011" ∷ codes "tb10" ∷ []) ∷
    (codes "a1" ∷ codes "g1011" ∷ codes "tb11" ∷ []) ∷
    (codes "b0" ∷ codes "g1011" ∷ codes "ta11" ∷ []) ∷
    (codes "b1" ∷ codes "g1011" ∷ codes "ta01" ∷ []) ∷
    (codes "a0" ∷ codes "g1100" ∷ codes "tb11" ∷ []) ∷
    (codes "a1" ∷ codes "g1100" ∷ codes "tb00" ∷ []) ∷
    (codes "b0" ∷ codes "g1100" ∷ codes "ta10" ∷ []) ∷
    (codes "b1" ∷ codes "g1100" ∷ codes "ta10" ∷ []) ∷
    (codes "a0" ∷ codes "g1101" ∷ codes "tb11" ∷ []) ∷
    (codes "a1" ∷ codes "g1101" ∷ codes "tb01" ∷ []) ∷
    (codes "b0" ∷ codes "g1101" ∷ codes "ta10" ∷ []) ∷
    (codes "b1" ∷ codes "g1101" ∷ codes "ta11" ∷ []) ∷
    (codes "a0" ∷ codes "g1110" ∷ codes "tb11" ∷ []) ∷
    (codes "a1" ∷ codes "g1110" ∷ codes "tb10" ∷ []) ∷
    (codes "b0" ∷ codes "g1110" ∷ codes "ta11" ∷ []) ∷
    (codes "b1" ∷ codes "g1110" ∷ codes "ta10" ∷ []) ∷
    (codes "a0" ∷ codes "g1111" ∷ codes "tb11" ∷ []) ∷
    (codes "a1" ∷ codes "g1111" ∷ codes "tb11" ∷ []) ∷
    (codes "b0" ∷ codes "g1111" ∷ codes "ta11" ∷ []) ∷
    (codes "b1" ∷ codes "g1111" ∷ codes "ta11" ∷ []) ∷
    (codes "a0" ∷ codes "ta00" ∷ codes "0" ∷ []) ∷
    (codes "a1" ∷ codes "ta00" ∷ codes "0" ∷ []) ∷
    (codes "a0" ∷ codes "ta01" ∷ codes "0" ∷ []) ∷
    (codes "a1" ∷ codes "ta01" ∷ codes "1" ∷ []) ∷
    (codes "a0" ∷ codes "ta10" ∷ codes "1" ∷ []) ∷
    (codes "a1" ∷ codes "ta10" ∷ codes "0" ∷ []) ∷
    (codes "a0" ∷ codes "ta11" ∷ codes "1" ∷ []) ∷
    (codes "a1" ∷ codes "ta11" ∷ codes "1" ∷ []) ∷
    (codes "b0" ∷ codes "tb00" ∷ codes "0" ∷ []) ∷
    (codes "b1" ∷ codes "tb00" ∷ codes "0" ∷ []) ∷
    (codes "b0" ∷ codes "tb01" ∷ codes "0" ∷ []) ∷
    (codes "b1" ∷ codes "tb01" ∷ codes "1" ∷ []) ∷
    (codes "b0" ∷ codes "tb10" ∷ codes "1" ∷ []) ∷
    (codes "b1" ∷ codes "tb10" ∷ codes "0" ∷ []) ∷
    (codes "b0" ∷ codes "tb11" ∷ codes "1" ∷ []) ∷
    (codes "b1" ∷ codes "tb11" ∷ codes "1" ∷ []) ∷
    []

-- the reactions are the listed rules, in their order
abbrev pub AreListed : Type 0
AreListed = map names_of reactions ≡ listed
