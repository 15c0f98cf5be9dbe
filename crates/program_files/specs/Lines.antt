-- What is written last where a file can't be read whole, or the airport file is refused?
use Rattle.std.specs.Prelude.{ℕ, List, [], ◌∷◌, ◌++◌, codes, decimal}
use Rattle.airport_rules.specs.Faults.{fault_word}
use Rattle.airport_file.specs.Reading.{RecordFault}

abbrev pub read_fault_line : List ℕ
read_fault_line = codes "read fault" ++ 10 ∷ []

abbrev pub too_large_line : List ℕ
too_large_line = codes "too large" ++ 10 ∷ []

-- the first record of the airport file that breaks a rule, counted from 1, and the rule
unfoldable pub refusal_line : RecordFault → List ℕ
refusal_line fault = codes "airport refused at record " ++ decimal fault.at ++ codes ": " ++ fault_word fault.why ++ 10 ∷ []
