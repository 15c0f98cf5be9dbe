-- What is written where a file isn't read to its end?
use Rattle.std.specs.Prelude.{◌≡◌, ◌<◌, ◌⊎◌, ℕ, List, ◌++◌, length, Option}
use Rattle.taxi_io.specs.Files.{Files, IsFile, IsLonger}
use Rattle.program_files.specs.Lines.{read_fault_line, too_large_line}
use Rattle.program_files.specs.Inputs.{airport_limit, commands_limit}
use Rattle.tool_words.specs.Verb.{Verb, Json}
use Rattle.taxi_tools.specs.Objects.{AreFirstObjects}
use Rattle.taxi_tools.specs.Reads.{IsTooLarge}

-- the whole text where a read fails: with `json`, in the command file, the commands have objects whose lines had ended
abbrev pub IsFaultText : Option Files → Verb → List ℕ → Type 0
IsFaultText told (Json names) text =
    (text ≡ read_fault_line)
    ⊎ ((taken : List ℕ) × (more : List ℕ) × IsFile told names.commands (taken ++ more) × AreFirstObjects told names taken read_fault_line text)
IsFaultText told asked text = text ≡ read_fault_line

-- the whole text where a file is too large: with `json`, where the command file is, the commands have objects whose lines ended within
-- the limit
abbrev pub IsLargeText : Option Files → Verb → List ℕ → Type 0
IsLargeText told (Json names) text =
    (IsLonger told names.airport airport_limit × (text ≡ too_large_line))
    ⊎ ((file : List ℕ) × IsFile told names.commands file × (commands_limit < length file) × AreFirstObjects told names file too_large_line text)
IsLargeText told asked text = IsTooLarge told asked × (text ≡ too_large_line)
