-- The words of a line.
use Rattle.std.specs.Prelude.{ℕ, List}
use Rattle.taxi_text.specs.declared.word.WordSlices.{WordSlices}
use Rattle.taxi_text.specs.Parts.{parts_of, parts_left}

-- the pieces of a line between its blanks, some of them empty
abbrev pub words_of : List ℕ → List (List ℕ)
words_of line = parts_of 32 line

-- the pieces that are still to come
abbrev pub words_left : WordSlices → List (List ℕ)
words_left slices = parts_left 32 slices.rest
