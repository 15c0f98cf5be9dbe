-- The lines of a text, and which of them hold commands.
use Rattle.std.specs.Prelude.{ℕ, Bool, not, codes, nat_eq, ◌||◌, ◌==◌, List, [], ◌∷◌, length, filter, if◌then◌else◌}
use Rattle.std.specs.List.{list_all, starts_with}
use Rattle.std.specs.Str.Lines.{strip_carriage_return}
use Rattle.taxi_text.specs.declared.line.LineSlices.{LineSlices}
use Rattle.taxi_text.specs.Parts.{parts_of, parts_left}

-- the lines among the parts between line feeds: the last part is one only if it has a byte
abbrev pub lines_of_parts : List (List ℕ) → List (List ℕ)
lines_of_parts [] = []
lines_of_parts (last ∷ []) = if length last == 0 then [] else strip_carriage_return last ∷ []
lines_of_parts (part ∷ next ∷ parts) = strip_carriage_return part ∷ lines_of_parts (next ∷ parts)

-- the lines, each without its line feed and without one carriage return at its end
abbrev pub lines_of : List ℕ → List (List ℕ)
lines_of bytes = lines_of_parts (parts_of 10 bytes)

-- a blank or a tab
abbrev pub is_blank_byte : ℕ → Bool
is_blank_byte b = b == 32 || b == 9

-- whether a line holds no command: it begins with #, or has blanks and tabs alone
abbrev pub is_skipped : List ℕ → Bool
is_skipped line = starts_with nat_eq line (codes "#") || list_all is_blank_byte line

-- the lines that hold commands
abbrev pub commands_of : List ℕ → List (List ℕ)
commands_of bytes = filter (λ line. not (is_skipped line)) (lines_of bytes)

-- the lines that are still to come
abbrev pub lines_left : LineSlices → List (List ℕ)
lines_left slices = lines_of_parts (parts_left 10 slices.rest)
