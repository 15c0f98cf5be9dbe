-- What is written last of a schedule that is refused: the record that is another than it must be, and the rule?
use Rattle.std.specs.Prelude.{ℕ, List, [], ◌∷◌, ◌++◌, codes}

abbrev pub first_row_line : List ℕ
first_row_line = codes "schedule refused at record 1: first-row" ++ 10 ∷ []

abbrev pub bad_start_line : List ℕ
bad_start_line = codes "schedule refused at record 2: bad-start" ++ 10 ∷ []
