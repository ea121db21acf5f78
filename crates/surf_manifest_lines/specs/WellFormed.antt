-- What the grammar gives of a line: texts as it writes them.
use Rattle.std.specs.Prelude.{ℕ, Bool, true, false, not, ◌&&◌, ◌||◌, ◌==◌, nat_le, List, [], ◌∷◌, codes, Option, Some, None}
use Rattle.std.specs.Str.{bytes_eq}
use Rattle.surf_world.specs.Systems as systems
use Rattle.surf_manifest_lines.specs.declared.options.OptionLine.{OptionLine}
use Rattle.surf_text.specs.Bytes.{without_front, without_end, is_blank, is_word, lacks}
use Rattle.surf_manifest_lines.specs.Line.{is_comment_sign}
use Rattle.surf_manifest_lines.specs.Item.{is_name}

-- a text as a line has it: with no blank at its ends and no line feed
abbrev pub is_text : List ℕ → Bool
is_text t =
    bytes_eq (without_front is_blank t) t && (bytes_eq (without_end is_blank t) t && lacks 10 t)

-- a text that begins neither as a comment nor as a mark
abbrev pub begins_content : List ℕ → Bool
begins_content [] = false
begins_content (b ∷ bs) = not (is_comment_sign b || (b == 33))

-- a key and a value that the grammar keeps of a line
abbrev pub is_option : OptionLine → Bool
is_option o =
    (is_word o.key && (begins_content o.key && lacks 61 o.key))
    && (not (bytes_eq o.key (codes "geometry")) && (not (bytes_eq o.key (codes "wrap"))
    && is_text o.value))

abbrev pub is_colour : List ℕ → Bool
is_colour t = begins_content t && is_text t

-- two second names, or none
abbrev pub are_seconds : Option (List ℕ) → Option (List ℕ) → Bool
are_seconds None None = true
are_seconds (Some b) (Some d) = is_name b && is_name d
are_seconds None (Some d) = false
are_seconds (Some b) None = false

abbrev pub is_rule : systems.Rule (List ℕ) → Bool
is_rule r =
    nat_le r.rate 1000000000000
    && (is_name r.left && (is_name r.left_after && are_seconds r.right r.right_after))
