-- Which files were begun, by the names that were tried before and after?
use Rattle.std.specs.Prelude.{ℕ, List, [], ◌∷◌, Option, Some, None}
use Rattle.taxi_io.specs.Files.{Files, BeganMore}
use Rattle.program_files.specs.Inputs.{IsRunInOrder}
use Rattle.tool_words.specs.Verb.{Verb, OfAirport, OfRun, Explain, Json}

-- None for words of no form, and else those that the words name, in their order. A command file is begun only once the airport is
-- accepted.
abbrev pub IsInOrder : Option Files → Option Verb → List (List ℕ) → List (List ℕ) → Type 0
IsInOrder told None before after = BeganMore before after []
IsInOrder told (Some (OfAirport airport tool)) before after = BeganMore before after (airport ∷ [])
IsInOrder told (Some (OfRun names tool)) before after = IsRunInOrder told names before after
IsInOrder told (Some (Explain names number)) before after = IsRunInOrder told names before after
IsInOrder told (Some (Json names)) before after = IsRunInOrder told names before after
