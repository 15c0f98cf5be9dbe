-- What stops a verb before anything is written?
use Rattle.std.specs.Prelude.{ℕ, List, Option, Err}
use Rattle.taxi_io.specs.Files.{Files, IsLonger}
use Rattle.airport_file.specs.Reading.{RecordFault}
use Rattle.program_files.specs.Inputs.{airport_limit, IsJudged, IsRunTooLarge}
use Rattle.tool_words.specs.Verb.{Verb, OfAirport, OfRun, Explain, Json}

-- the name of the airport file
abbrev pub airport_file : Verb → List ℕ
airport_file (OfAirport airport tool) = airport
airport_file (OfRun names tool) = names.airport
airport_file (Explain names number) = names.airport
airport_file (Json names) = names.airport

-- a record of the airport file breaks a rule
abbrev pub IsRefused : Option Files → Verb → RecordFault → Type 0
IsRefused told asked fault = IsJudged told (airport_file asked) (Err fault)

-- a file is longer than its limit
abbrev pub IsTooLarge : Option Files → Verb → Type 0
IsTooLarge told (OfAirport airport tool) = IsLonger told airport airport_limit
IsTooLarge told (OfRun names tool) = IsRunTooLarge told names
IsTooLarge told (Explain names number) = IsRunTooLarge told names
IsTooLarge told (Json names) = IsRunTooLarge told names
