-- Lines of text, each of words or fields between one byte.
use Rattle.std.specs.Prelude.{ℕ, List, ◌++◌, map}
use Rattle.std.specs.List.{join_with_byte}
use Rattle.airport_file.specs.Plain.{text_of_lines}

-- lines, each of pieces with the separator between two, and each ended by a line feed
abbrev pub text_of : ℕ → List (List (List ℕ)) → List ℕ
text_of separator lines = text_of_lines (map (join_with_byte separator) lines)

-- a text with these lines after it
unfoldable pub and_lines : ℕ → List ℕ → List (List (List ℕ)) → List ℕ
and_lines separator text lines = text ++ text_of separator lines
